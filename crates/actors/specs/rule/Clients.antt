-- The clients of processes, the refusals of their calls, and the weather that a seed gives.
use Rattle.std.specs.Prelude.{ℕ, ◌≡◌, ◌+◌, ◌%◌, ◌==◌, nat_lt, if◌then◌else◌}
use Rattle.messages.specs.declared.refusal.StepError.{StepError}
use Rattle.messages.specs.declared.refusal.StepError.TheVariants as step
use Rattle.book.specs.declared.commit_error.CommitError.{CommitError}
use Rattle.book.specs.declared.commit_error.CommitError.TheVariants as commit
use Rattle.actors.specs.declared.call_error.CallError.{CallError}
use Rattle.actors.specs.declared.call_error.CallError.TheVariants.{NoMemory, Busy, Stranger, Fenced, JournalFull, Killed, Closed, Unanswered, Spent, Stale}
use Rattle.model.specs.rule.Limits.{ProcessFields}
use Rattle.model.specs.declared.op.Op.{Op}
use Rattle.book.specs.rule.States.{ReceiptFields}
use Rattle.rand_core.specs.Pcg32Seed.{pcg32_seed}
use Rattle.rand_pcg.specs.Lcg.{Lcg}
use Rattle.rand_pcg.specs.Pcg.{pcg32_of_seed}
use Rattle.actors.specs.declared.weather.Fate.{Fate}
use Rattle.actors.specs.declared.weather.Fate.TheVariants.{Pass, Drop, Twice, Hold}

-- the number that listings show for the refusal
abbrev pub number_of : CallError → ℕ
number_of NoMemory = 3
number_of Busy = 13
number_of Stranger = 14
number_of Fenced = 15
number_of JournalFull = 16
number_of (Killed at) = 17
number_of Closed = 18
number_of (Unanswered at) = 18
number_of Spent = 19
number_of Stale = 20

-- a refusal of the node's step, as a refusal of the call
abbrev pub rejected_by : StepError → CallError
rejected_by step.NoMemory = NoMemory
rejected_by step.Busy = Busy
rejected_by step.Stranger = Stranger
rejected_by step.Spent = Spent

-- a refusal of the commit of the node's step, as a refusal of the call
abbrev pub refused_by : CommitError → CallError
refused_by commit.NoMemory = NoMemory
refused_by commit.Stranger = Stranger
refused_by commit.Fenced = Fenced
refused_by commit.JournalFull = JournalFull
refused_by commit.Stale = Stale

-- a client: its process, and the position of the last reply that it has got or was told of, 0 for none
pub record ClientFields : Type 0 where
  pub process : ProcessFields
  pub last : ℕ

-- the receipt is of a call of this client with that operation, made with all that it had seen
pub record IsMadeBy (client : ClientFields) (op : Op) (r : ReceiptFields) : Type 0 where
  pub node : r.call.node ≡ client.process.node
  pub incarnation : r.call.incarnation ≡ client.process.incarnation
  pub process : r.pid ≡ client.process.pid
  pub operation : r.op ≡ op
  pub seen : r.seen ≡ client.last

-- the generator of a number, with its 16 bytes of seed
abbrev pub generator : ℕ → Lcg
generator n = pcg32_of_seed (pcg32_seed 16 n)

-- the weather of an actor, by its index from 1, nodes first
abbrev pub weather_of : ℕ → ℕ → Lcg
weather_of seed actor = generator (seed + actor)

-- the fate that a word of the generator gives a message: of sixteen words one loses it, one sends it twice, two hold it back for four ticks
abbrev pub fate_of : ℕ → Fate
fate_of word = let k = word % 16 in if k == 0 then Drop else (if k == 1 then Twice else (if nat_lt k 4 then Hold 4 else Pass))
