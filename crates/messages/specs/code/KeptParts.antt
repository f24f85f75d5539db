-- What an entry keeps of an outcome: its reply and its messages.
use Rattle.std.specs.Prelude.{List, [], ◌∷◌, Option, Some, None}
use Rattle.model.specs.declared.call.CallId.{CallId}
use Rattle.model.specs.declared.reply.Reply.{Reply}
use Rattle.model.specs.declared.reply.Reply.TheVariants.{Done}
use Rattle.messages.specs.declared.message.Message.{Message}
use Rattle.messages.specs.declared.kept_reply.CompactReply.{CompactReply}
use Rattle.messages.specs.declared.kept_reply.CompactReply.TheVariants as reply
use Rattle.messages.specs.declared.sends.CompactSends.{CompactSends}
use Rattle.messages.specs.declared.sends.CompactSends.TheVariants as sends

-- the call that is answered and its reply, if any, as they are stored
abbrev pub reply_of : CompactReply → Option (CallId × Reply)
reply_of reply.Nothing = None
reply_of (reply.Done call) = Some (call, Done)
reply_of (reply.Other answer) = Some answer.value

-- the messages in their order, as they are stored
abbrev pub messages_of : CompactSends → List Message
messages_of sends.Nothing = []
messages_of (sends.One message) = message ∷ []
messages_of (sends.Many items) = items.value
