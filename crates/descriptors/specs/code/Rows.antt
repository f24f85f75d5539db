-- The rows of processes, calls that begin a process, and how many descriptors a description has.
use Rattle.std.specs.Prelude.{◌≡◌, ℕ, Bool, true, false, not, if◌then◌else◌, List, Option, Some, None, Result, Ok, Err, IsOk, zero, suc, ◌+◌, ◌*◌, ◌<◌, ◌≤◌, length, slice_index_or}
use Rattle.model.specs.declared.opened.Opened.{Opened}
use Rattle.model.specs.declared.reply.Reply.{Reply}
use Rattle.model.specs.declared.reply.Reply.TheVariants as reply
use Rattle.model.specs.rule.Limits.{IsNumber, most_processes, most_descriptions, most_descriptors}
use Rattle.model.specs.rule.Descriptors.{Processes, is_open, with_descriptor, is_of}
use Rattle.descriptors.specs.declared.process_entry.ProcessEntry.{ProcessEntry}
use Rattle.descriptors.specs.declared.error.ProcessError.{ProcessError}
use Rattle.descriptors.specs.declared.error.ProcessError.TheVariants as error
use Rattle.descriptors.specs.declared.error.FdError.{FdError}
use Rattle.descriptors.specs.declared.error.FdError.TheVariants.{NoProcess, BadFd}
use Rattle.descriptors.specs.rule.Rows.{slot, idle, row, processes}
use Rattle.model.specs.declared.op.ProcessCall.{ProcessCall}
use Rattle.model.specs.declared.op.ProcessCall.TheVariants.{Spawn, Fork}

-- both processes run, or neither does, and they have the same descriptors
pub record IsSameRow (a b : ProcessEntry) : Type 0 where
  pub runs : a.runs ≡ b.runs
  pub opened : slot a.opened ≡ slot b.opened

-- each descriptor refers to a description with a number in range
abbrev pub AreNumbered : List (Option Opened) → Type 0
AreNumbered fds = (fd : ℕ) (o : Opened) → slot fds fd ≡ Some o → IsNumber most_descriptions o.description

-- the row of process pid is sound: if the process runs its number is in range, and if it doesn't run it has no descriptors
pub record IsRow (pid : ℕ) (r : ProcessEntry) : Type 0 where
  pub numbered : AreNumbered r.opened
  pub number_in : r.runs ≡ true → IsNumber most_processes pid
  pub idle : r.runs ≡ false → (fd : ℕ) → slot r.opened fd ≡ None

-- each row is sound for the process with its number
abbrev pub AreRows : List ProcessEntry → Type 0
AreRows rows = (pid : ℕ) → IsRow pid (row rows pid)

abbrev pub opened_or : Option Opened → Result Opened FdError
opened_or None = Err BadFd
opened_or (Some o) = Ok o

-- what the descriptor refers to, or the first test that fails: the process, the descriptor
abbrev pub resolved : Processes → ℕ → ℕ → Result Opened FdError
resolved ps pid fd = if ps.runs pid then opened_or (ps.opened pid fd) else Err NoProcess

-- the descriptor, which was open, is closed; `went` says whether no descriptor refers to its description any more
pub record IsClosed (old : Processes) (pid fd : ℕ) (new : Processes) (went : Bool) : Type 0 where
  pub opened : Opened
  pub was : resolved old pid fd ≡ Ok opened
  pub closed : new ≡ with_descriptor old pid fd None
  pub gone : went ≡ not (is_open new opened.description)

-- the error is the rule's refusal; NoMemory comes only where the rule refuses nothing
abbrev pub Refuses : ProcessError → Result (Processes × Reply) Reply → Type 0
Refuses error.NoMemory answer = IsOk answer
Refuses error.NoProcess answer = answer ≡ Err reply.NoProcess
Refuses error.Exists answer = answer ≡ Err reply.Exists
Refuses error.BadFd answer = answer ≡ Err reply.BadFd
Refuses error.TooManyFiles answer = answer ≡ Err reply.TooManyFiles

-- the reply for a descriptor that refers to nothing
abbrev pub fd_reply : FdError → Reply
fd_reply NoProcess = reply.NoProcess
fd_reply BadFd = reply.BadFd

-- the refusal of a call whose descriptor refers to nothing
abbrev pub process_error : FdError → ProcessError
process_error NoProcess = error.NoProcess
process_error BadFd = error.BadFd

-- the process that the call begins, if it begins one, has a number in range
abbrev pub CanBegin : ℕ → ProcessCall → Type 0
CanBegin pid Spawn = IsNumber most_processes pid
CanBegin pid (Fork child) = IsNumber most_processes child
CanBegin pid _ = Unit {0}

-- whether the call begins a process
abbrev pub begins : ProcessCall → Bool
begins Spawn = true
begins (Fork child) = true
begins _ = false

-- the sum of f at the n numbers from lo; never unfolded, since n may be the number of all processes
unfoldable pub total : (ℕ → ℕ) → ℕ → ℕ → ℕ
total f lo zero = 0
total f lo (suc n) = total f lo n + f (lo + n)

-- 1 if a descriptor with this content refers to description d, else 0
abbrev pub one_of : ℕ → Option Opened → ℕ
one_of d o = if is_of d o then 1 else 0

-- the number of a process's first n descriptors that refer to description d
abbrev pub references_below : (ℕ → Option Opened) → ℕ → ℕ → ℕ
references_below fds d n = total (λ fd. one_of d (fds fd)) 0 n

-- the number of the node's descriptors that refer to description d
abbrev pub references : Processes → ℕ → ℕ
references ps d = total (λ pid. references_below (ps.opened pid) d most_descriptors) 1 most_processes

-- the stored count of description d, 0 where it has no place
abbrev pub count_of : List ℕ → ℕ → ℕ
count_of counts d = slice_index_or counts d 0

-- the stored counts are the numbers of descriptors
abbrev pub AreCounts : Processes → List ℕ → Type 0
AreCounts ps counts = (d : ℕ) → count_of counts d ≡ references ps d

-- each description from 1 to below `lowest` has a count above 0
abbrev pub AreUsed : List ℕ → ℕ → Type 0
AreUsed counts lowest = (d : ℕ) → 1 ≤ d → d < lowest → 0 < count_of counts d

-- the number of places for counts: one for each descriptor of the rows, for the descriptions from 0 on
abbrev pub places : List ProcessEntry → ℕ
places rows = 64 * length rows
