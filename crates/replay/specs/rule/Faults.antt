-- What a fault of a part is to the command, and what it says of a file.
use Rattle.std.specs.Prelude.{◌≡◌, ℕ, ◌<◌, ◌⊎◌, List, ◌++◌, codes, decimal, length, string_bytes, Option, Some, None, ⊤}
use Rattle.cluster_core.specs.rule.Journals.{JournalFields}
use Rattle.cluster_core.specs.rule.World.{journal_limit}
use Rattle.journal_text.specs.rule.Readings as readings
use Rattle.lockscript.specs.declared.error.ParseError.{ParseError}
use Rattle.lockscript.specs.declared.error.ParseError.TheVariants as parse
use Rattle.lockscript.specs.rule.Scripts as scripts
use Rattle.lockscript.specs.rule.ShapedScripts.{IsBadForShape}
use Rattle.lockscript.specs.rule.ThreadLines.{IsBadOnThreads}
use Rattle.messages.specs.declared.version.Version.TheVariants.{Second}
use Rattle.lockscript.specs.declared.play_error.PlayError.{PlayError}
use Rattle.lockscript.specs.declared.play_error.PlayError.TheVariants as play
use Rattle.replay.specs.declared.fault.Fault.{Fault}
use Rattle.replay.specs.declared.fault.Fault.TheVariants.{BadLine, CannotRead, CannotWrite, CannotWriteOutput, NoMemory, JournalFull, OldJournal, Faulty}
use Rattle.replay.specs.rule.Audits.{HasEntries, HasJournal, HasNewJournal, WritesFew}
use Rattle.player.specs.rule.Progress.{FillsBehind, FillsJournal}
use Rattle.replay.specs.rule.Scripts.{HasScript, HasScriptFor, FillsOnThreads, IsTaken}
use Rattle.replay.specs.rule.Stores.{Files, HasNoText, HasText, SameFiles, SameOthers}

abbrev pub fault_of_parse : ParseError → Fault
fault_of_parse parse.NoMemory = NoMemory
fault_of_parse (parse.BadLine line) = BadLine line

abbrev pub fault_of_play : PlayError → Fault
fault_of_play play.NoMemory = NoMemory
fault_of_play play.JournalFull = JournalFull

-- why the text of the file of this path is not there: it has none, or memory is short
abbrev pub IsTextless : (Option (List ℕ) → Type 0) → Type 0 → List ℕ → Fault → Type 0
IsTextless Holds RanShort path (CannotRead named reason) = (named.now ≡ path) × HasNoText Holds
IsTextless Holds RanShort path NoMemory = RanShort
IsTextless Holds RanShort path fault = ⊥

-- a fault at a file of this path: it has no text, memory is short where `RanShort` says it, or `Told` allows the fault, which may be short memory too
abbrev pub IsFileFault : (Option (List ℕ) → Type 0) → Type 0 → List ℕ → (Fault → Type 0) → Fault → Type 0
IsFileFault Holds RanShort path Told (CannotRead named reason) = (named.now ≡ path) × HasNoText Holds
IsFileFault Holds RanShort path Told NoMemory = RanShort ⊎ Told NoMemory
IsFileFault Holds RanShort path Told fault = Told fault

-- why the file of this path was not made beside something else: it can't be written, or memory is short, and then no file changed
abbrev pub IsUnwritten : Files → (List ℕ → Type 0) → List ℕ → Files → Fault → Type 0
IsUnwritten old Refuses path new (CannotWrite named reason) = (named.now ≡ path) × Refuses path × SameOthers old new path
IsUnwritten old Refuses path new NoMemory = SameFiles old new
IsUnwritten old Refuses path new fault = ⊥

-- why a journal is not in the file of this path, if there is one, beside what is shown; with no path memory alone can be short
abbrev pub IsUnkept : Files → (List ℕ → Type 0) → Option (List ℕ) → Files → Fault → Type 0
IsUnkept old Refuses None new fault = (fault ≡ NoMemory) × SameFiles old new
IsUnkept old Refuses (Some path) new fault = IsUnwritten old Refuses path new fault

-- why the script of the file is not run to its end: a bad line, a full journal, or short memory for the run of a script
abbrev pub ScriptFault : (Option (List ℕ) → Type 0) → Fault → Type 0
ScriptFault Holds (BadLine line) = HasText Holds (λ text. scripts.IsFirstBad text line)
ScriptFault Holds NoMemory = (script : scripts.ScriptFields) × HasScript Holds script
ScriptFault Holds JournalFull = (script : scripts.ScriptFields) × HasScript Holds script × FillsJournal script.shape script.lines
ScriptFault Holds fault = ⊥

-- that, or the file has no text, or memory is short where `RanShort` says it
abbrev pub IsScriptFault : (Option (List ℕ) → Type 0) → Type 0 → List ℕ → Fault → Type 0
IsScriptFault Holds RanShort path = IsFileFault Holds RanShort path (ScriptFault Holds)

-- why the script of the file is not run to its end on threads: a bad line, a full journal, or short memory for the run of a script that threads take
abbrev pub ThreadsFault : (Option (List ℕ) → Type 0) → Fault → Type 0
ThreadsFault Holds (BadLine line) = HasText Holds (λ text. IsBadOnThreads text line)
ThreadsFault Holds NoMemory = IsTaken Holds
ThreadsFault Holds JournalFull = FillsOnThreads Holds
ThreadsFault Holds fault = ⊥

-- that, or the file has no text, or memory is short where `RanShort` says it
abbrev pub IsThreadsFault : (Option (List ℕ) → Type 0) → Type 0 → List ℕ → Fault → Type 0
IsThreadsFault Holds RanShort path = IsFileFault Holds RanShort path (ThreadsFault Holds)

-- why the journal that the text writes is not audited: a bad line, or too many entries; memory is short for the audit of one that has not too many
abbrev pub IsTextFault : List ℕ → Fault → Type 0
IsTextFault text (BadLine line) = readings.IsFirstBad text line
IsTextFault text NoMemory = (j : JournalFields) × WritesFew text j
IsTextFault text JournalFull = (j : JournalFields) × readings.WritesJournal text j.shape j.entries × (journal_limit < length j.entries)
IsTextFault text fault = ⊥

-- why the journal of the file is not audited: a bad line, too many entries, or short memory for the audit of a journal that has not too many
abbrev pub JournalFault : (Option (List ℕ) → Type 0) → Fault → Type 0
JournalFault Holds (BadLine line) = HasText Holds (λ text. readings.IsFirstBad text line)
JournalFault Holds NoMemory = (j : JournalFields) × HasJournal Holds j
JournalFault Holds JournalFull = (j : JournalFields) × HasEntries Holds j × (journal_limit < length j.entries)
JournalFault Holds fault = ⊥

-- that, or the file has no text, or memory is short where `RanShort` says it
abbrev pub IsJournalFault : (Option (List ℕ) → Type 0) → Type 0 → List ℕ → Fault → Type 0
IsJournalFault Holds RanShort path = IsFileFault Holds RanShort path (JournalFault Holds)

-- why the journal of the file is none behind which a run goes on: version 1, a bad line, too many entries, or short memory for the audit of a journal that has not too many
abbrev pub OldFault : (Option (List ℕ) → Type 0) → Fault → Type 0
OldFault Holds OldJournal = HasText Holds readings.IsOld
OldFault Holds (BadLine line) = HasText Holds (λ text. readings.IsFirstBad text line × ¬ (readings.IsOld text))
OldFault Holds NoMemory = (j : JournalFields) × HasNewJournal Holds j
OldFault Holds JournalFull = (j : JournalFields) × HasEntries Holds j × (j.shape.version ≡ Second) × (journal_limit < length j.entries)
OldFault Holds fault = ⊥

-- that, or the file has no text, or memory is short where `RanShort` says it
abbrev pub IsOldFault : (Option (List ℕ) → Type 0) → Type 0 → List ℕ → Fault → Type 0
IsOldFault Holds RanShort path = IsFileFault Holds RanShort path (OldFault Holds)

-- why the script of the file is not run to its end behind the run of a journal: another cluster or a bad line, a full journal, or short memory for the run of a script
abbrev pub BehindFault : JournalFields → (Option (List ℕ) → Type 0) → Fault → Type 0
BehindFault j Holds (BadLine line) = HasText Holds (λ text. IsBadForShape j.shape text line)
BehindFault j Holds NoMemory = (script : scripts.ScriptFields) × HasScriptFor Holds j.shape script
BehindFault j Holds JournalFull = (script : scripts.ScriptFields) × HasScriptFor Holds j.shape script × FillsBehind j script.lines
BehindFault j Holds fault = ⊥

-- that, or the file has no text, or memory is short where `RanShort` says it
abbrev pub IsBehindFault : JournalFields → (Option (List ℕ) → Type 0) → Type 0 → List ℕ → Fault → Type 0
IsBehindFault j Holds RanShort path = IsFileFault Holds RanShort path (BehindFault j Holds)

-- its number or its path, as the user gave it
abbrev pub fault_line : Fault → List ℕ
fault_line (BadLine line) = codes "bad line " ++ decimal line ++ codes "\n"
fault_line (CannotRead path reason) = codes "cannot read " ++ path.now ++ codes "\n"
fault_line (CannotWrite path reason) = codes "cannot write " ++ path.now ++ codes "\n"
fault_line CannotWriteOutput = codes "cannot write standard output\n"
fault_line NoMemory = codes "no memory\n"
fault_line JournalFull = codes "journal full\n"
fault_line OldJournal = codes "old journal\n"
fault_line (Faulty report) = string_bytes report

-- something is reported, or memory is short
abbrev pub IsReportOf : Fault → Type 0
IsReportOf (Faulty report) = ⊤
IsReportOf NoMemory = ⊤
IsReportOf fault = ⊥

-- why a tool that reads the files of some paths shows nothing: one of them has no text, or such a report
abbrev pub IsToolFault : Files → (List ℕ → Type 0) → Fault → Type 0
IsToolFault old Reads (CannotRead named reason) = Reads named.now × HasNoText (old named.now)
IsToolFault old Reads fault = IsReportOf fault
