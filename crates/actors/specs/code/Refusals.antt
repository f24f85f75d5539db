-- The refusals that a failure and a start, of a node or a token server, may meet, whatever other threads do.
use Rattle.std.specs.Prelude.{Bool, true, false}
use Rattle.messages.specs.declared.refusal.Refused.{Refused}
use Rattle.messages.specs.declared.refusal.Refused.TheVariants.{NoMemory, Stranger, JournalFull, NotAlive, NotDead, TooManyRestarts}

-- the refusals of a declaration: want of memory, an actor that there isn't, a full journal, an actor that was declared before
abbrev pub may_refuse_failure : Refused → Bool
may_refuse_failure NoMemory = true
may_refuse_failure Stranger = true
may_refuse_failure JournalFull = true
may_refuse_failure NotAlive = true
may_refuse_failure _ = false

-- the refusals of a start: want of memory, an actor that there isn't, a full journal, an actor that works, no incarnation or epoch left
abbrev pub may_refuse_start : Refused → Bool
may_refuse_start NoMemory = true
may_refuse_start Stranger = true
may_refuse_start JournalFull = true
may_refuse_start NotDead = true
may_refuse_start TooManyRestarts = true
may_refuse_start _ = false
