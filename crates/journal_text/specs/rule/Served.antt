-- The limits of replies: numbers in range, and spans that aren't empty.
use Rattle.std.specs.Prelude.{⊤}
use Rattle.model.specs.declared.reply.Reply.{Reply}
use Rattle.model.specs.declared.reply.Reply.TheVariants.{Fd, Again, Blocked}
use Rattle.lockscript.specs.rule.Served.{IsDescriptor}
use Rattle.message_text.specs.rule.Texts.{IsServedLock}

abbrev pub IsServedReply : Reply → Type 0
IsServedReply (Fd fd) = IsDescriptor fd
IsServedReply (Again lock) = IsServedLock lock
IsServedReply (Blocked lock) = IsServedLock lock
IsServedReply _ = ⊤
