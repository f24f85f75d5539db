-- Replies that the one table never gives.
use Rattle.std.specs.Prelude.{◌≢◌}
use Rattle.model.specs.declared.lock_info.LockInfo.{LockInfo}
use Rattle.model.specs.declared.process.Process.{Process}
use Rattle.model.specs.declared.op.Op.{Op}
use Rattle.model.specs.declared.reply.Reply.{Reply}
use Rattle.model.specs.declared.reply.Reply.TheVariants.{Again, Blocked}
use Rattle.model.specs.rule.Table.{Table}
use Rattle.model.specs.rule.Step.{Step}

-- the call of the process never gets this reply from the table, whatever table it would leave
abbrev pub NeverAnswers : Table → Process → Op → Reply → Type 0
NeverAnswers old p op reply = (new : Table) → Step old p op reply new → ⊥

-- the reply names no lock in the way
abbrev pub NamesNoLock : Reply → Type 0
NamesNoLock reply = (lock : LockInfo) → (Again lock ≢ reply) × (Blocked lock ≢ reply)
