-- What the files that a line of `merge` names are, and what is made of them.
use Rattle.std.specs.Prelude.{◌≡◌, ◌≢◌, ◌≤◌, ◌↔◌, if◌then◌else◌, true, codes, ℕ, List, [], ◌∷◌, All, flat_map, map, option_map, Option, Some, None}
use denote.Ref.{Bor}
use Rattle.std.specs.Io.KnownBytes.{Appends}
use Rattle.std.specs.List.{Contains}
use Rattle.messages.specs.declared.entry.Entry.{Entry}
use Rattle.messages.specs.rule.Shapes.{ShapeFields}
use Rattle.merges.specs.declared.logged.LoggedChange.{LoggedChange}
use Rattle.merges.specs.rule.Merges.{LogFields, log_of, AreMerged, NoneMerges}
use Rattle.journal_text.specs.rule.Journals.{journal_text}
use Rattle.seat_text.specs.declared.read.ReadLog.{ReadLog}
use Rattle.seat_text.specs.rule.Logs.{IsList, IsLog}
use Rattle.replay.specs.rule.Stores.{Files, HasText}
use Rattle.seat_commands.specs.declared.faults.MergeFault.{MergeFault}
use Rattle.seat_commands.specs.declared.faults.MergeFault.TheVariants.{NoLog, NoOrder}
use Rattle.seat_commands.specs.declared.lines.MergeLine.{MergeLine}

-- the file of the path has this log
abbrev pub HasLog : Files → List ℕ → ReadLog → Type 0
HasLog old path log = HasText (old path) (λ text. IsLog text log.head log.logs.items log.changes.items)

-- the files of the paths have these logs
abbrev pub HaveLogs : Files → List (List ℕ) → List ReadLog → Type 0
HaveLogs old [] [] = Unit
HaveLogs old (path ∷ paths) (log ∷ logs) = HasLog old path log × HaveLogs old paths logs
HaveLogs old paths logs = ⊥

-- the logs are of a cluster of this shape
abbrev pub AreOf : ShapeFields → List ReadLog → Type 0
AreOf shape logs = All (λ (log : ReadLog). log.head.shape ≡ shape) logs

-- what the actors made, each in each of its incarnations
abbrev pub all_logs : List ReadLog → List LogFields
all_logs logs = flat_map (λ (log : ReadLog). log.logs.items) logs

-- the same declarations and starts, of which it isn't known when each of them began
abbrev pub told_earlier : List LoggedChange → List LoggedChange
told_earlier cs = map (λ (c : LoggedChange). record { event = c.event; interval = record { began = 0; ended = c.interval.ended } }) cs

-- the declarations and starts of the list of that file; without one, those that a log was told of
abbrev pub AreDeclared : Files → Option (List ℕ) → ShapeFields → List ReadLog → List LoggedChange → Type 0
AreDeclared old (Some path) shape logs declared = HasText (old path) (λ text. IsList text shape.nodes shape.files declared)
AreDeclared old None shape logs declared = (log : ReadLog) × Contains logs log × (declared ≡ told_earlier log.changes.items)

-- the path that an option holds
abbrev pub path_of : Option (Bor (List ℕ)) → Option (List ℕ)
path_of path = option_map (λ (p : Bor (List ℕ)). p.now) path

-- the path of the journal, where one is to be written
abbrev pub target_of : MergeLine → Option (List ℕ)
target_of line = if line.check then None else path_of line.journal

-- the logs, and the declarations and starts, that the line names
pub record AreNamed (old : Files) (line : MergeLine) (shape : ShapeFields) (logs : List LogFields) (declared : List LoggedChange) : Type 0 where
  pub read : List ReadLog
  pub files : HaveLogs old (map (λ path. path.now) line.logs.items) read
  pub one_shape : AreOf shape read
  pub all : logs ≡ all_logs read
  pub list : AreDeclared old (path_of line.members) shape read declared

-- the entries are a merge of what the line names
pub record IsMerged (old : Files) (line : MergeLine) (shape : ShapeFields) (entries : List Entry) : Type 0 where
  pub logs : List LogFields
  pub declared : List LoggedChange
  pub named : AreNamed old line shape logs declared
  pub merged : AreMerged shape line.skew (log_of logs) declared entries

-- what the line names has no merge
pub record HasNone (old : Files) (line : MergeLine) : Type 0 where
  pub shape : ShapeFields
  pub logs : List LogFields
  pub declared : List LoggedChange
  pub named : AreNamed old line shape logs declared
  pub none : NoneMerges shape line.skew (log_of logs) declared

-- there is a merge, and its journal is in the file where one is to be written
pub record Writes (old : Files) (line : MergeLine) (new : Files) : Type 0 where
  pub shape : ShapeFields
  pub entries : List Entry
  pub is_merged : IsMerged old line shape entries
  pub written : (path : List ℕ) → target_of line ≡ Some path → new path (Some (journal_text shape entries))

-- the file of each path is as it was, but for that of the journal
abbrev pub ChangesTarget : Files → MergeLine → Files → Type 0
ChangesTarget old line new = (path : List ℕ) (file : Option (List ℕ)) → target_of line ≢ Some path → new path file ↔ old path file

-- the fault is one of files, of memory or of a journal
abbrev pub IsOfFiles : MergeFault → Type 0
IsOfFiles fault = (fault ≢ NoLog) × (fault ≢ NoOrder)

-- 0: there is a merge, and its journal is in its file; 1: there is none; 2: no log is named; 3 and 4: a file, the output, memory or a journal does not do
pub record MergesSo (old : Files) (line : MergeLine) (new : Files) (out_before out : Option (List ℕ)) (status : ℕ) : Type 0 where
  pub done : status ≡ 0 → Writes old line new
  pub none : status ≡ 1 → HasNone old line
  pub no_log : (status ≡ 2) ↔ (line.logs.items ≡ [])
  pub within : status ≤ 4
  pub yes : status ≡ 0 → line.check ≡ true → Appends out_before out (codes "merge yes\n")
  pub no : status ≡ 1 → line.check ≡ true → Appends out_before out (codes "merge no\n")
  pub files : ChangesTarget old line new
