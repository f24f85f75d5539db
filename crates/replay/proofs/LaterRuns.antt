-- Lemmas on scripts that go on behind a journal.
use Rattle.std.proofs.Common.{◌≡◌, ℕ, true, false, List, Option, Some, inl, inr, refl, subst}
use Rattle.std.specs.Prelude.{◌≢◌, Bool, IsUtf8}
use Rattle.command_line.specs.rule.Tasks.{run}
use Rattle.cluster_core.specs.rule.Journals.{JournalFields}
use Rattle.messages.specs.declared.version.Version.{Version}
use Rattle.messages.specs.declared.version.Version.TheVariants.{First, Second}
use Rattle.journal_text.specs.rule.Readings.{IsOld, WritesJournal}
use Rattle.journal_text.proofs.FirstLines.{old_text}
use Rattle.lockscript.specs.rule.ShapedScripts.{IsForShape}
use Rattle.lockscript.specs.declared.error.ParseError.TheVariants as parse
use Rattle.lockscript.specs.declared.play_error.PlayError.TheVariants as play
use Rattle.replay.specs.declared.fault.Fault.{Fault}
use Rattle.replay.specs.declared.fault.Fault.TheVariants.{BadLine, CannotRead, CannotWrite, CannotWriteOutput, NoMemory, JournalFull, OldJournal, Faulty}
use Rattle.cluster_core.specs.rule.Runs.{IsRun}
use Rattle.replay.specs.rule.Audits.{HasNewJournal}
use Rattle.replay.specs.declared.shown.Shown.{Shown}
use Rattle.replay.specs.declared.shown.Shown.TheVariants.{Text, Wanting, Partial, Undecided, CutShort, Yes, No}
use Rattle.replay.specs.rule.Commands.{GoesOn, IsFault, WentOn}
use Rattle.replay.specs.rule.Faults.{IsBehindFault, IsOldFault, IsTextFault}
use Rattle.player.specs.rule.Progress.{PlayedState}
use Rattle.replay.specs.rule.Scripts.{HasComparedRun, HasComparedRunBehind, HasRun, HasRunBehind}
use Rattle.replay.specs.rule.Stores.{Files, SameFiles}
use Rattle.replay.proofs.Audits.{has-journal}
use Rattle.replay.proofs.Stores.{had-no_text, had-text, same-after}
use Rattle.replay.proofs.Tools.{input-fault}

-- a text that writes a journal of version 1 begins as one
old-journal : (text : List ℕ) (j : JournalFields) → WritesJournal text j.shape j.entries → j.shape.version ≡ First → IsOld text
old-journal text j writes is = old_text text j.shape j.entries writes is

-- a journal whose first line is not of version 1 is of version 2
new-version : (version : Version) → (version ≡ First → ⊥) → version ≡ Second
new-version First not_old = absurd (not_old refl)
new-version Second not_old = refl

pub is_new : (text : List ℕ) (j : JournalFields) → (IsOld text → ⊥) → WritesJournal text j.shape j.entries → j.shape.version ≡ Second
is_new text j not_old writes = new-version j.shape.version (λ is. not_old (old-journal text j writes is))

-- a fault of a text that is not old is one of the file, behind whose journal a run goes on
pub old-fault : (Holds : Option (List ℕ) → Type 0) (RanShort : Type 0) (path bytes : List ℕ) (fault : Fault) → Holds (Some bytes) → IsUtf8 bytes → (IsOld bytes → ⊥) → IsTextFault bytes fault → IsOldFault Holds RanShort path fault
old-fault Holds RanShort path bytes (BadLine line) holds text not_old is = (bytes, holds, text, (is, not_old))
old-fault Holds RanShort path bytes (CannotRead named reason) holds text not_old is = absurd is
old-fault Holds RanShort path bytes (CannotWrite named reason) holds text not_old is = absurd is
old-fault Holds RanShort path bytes CannotWriteOutput holds text not_old is = absurd is
old-fault Holds RanShort path bytes NoMemory holds text not_old is = inr (is.0, (has-journal Holds bytes is.0 holds text is.1, is_new bytes is.0 not_old is.1.0))
old-fault Holds RanShort path bytes JournalFull holds text not_old is = (is.0, (bytes, holds, text, is.1), is_new bytes is.0 not_old is.1, is.2)
old-fault Holds RanShort path bytes OldJournal holds text not_old is = absurd is
old-fault Holds RanShort path bytes (Faulty report) holds text not_old is = absurd is

-- a run that is compared is a run, and so is what it was before rounds made it calm
pub uncompared : (Holds : Option (List ℕ) → Type 0) (compares calm telling : Bool) (played : PlayedState) → HasComparedRun Holds compares calm played telling → (came : PlayedState) × HasRun Holds came
uncompared Holds compares false telling played has = (played, (has.0, (has.2.0, has.2.1, has.2.2, has.2.3.0), has.3.0))
uncompared Holds compares true telling played has = (has.3.0, (has.0, (has.2.0, has.2.1, has.2.2, has.2.3.0), has.3.2))

pub uncompared-behind : (Holds : Option (List ℕ) → Type 0) (j : JournalFields) (compares calm telling : Bool) (played : PlayedState) → HasComparedRunBehind Holds j compares calm played telling → (came : PlayedState) × HasRunBehind Holds j came
uncompared-behind Holds j compares false telling played has = (played, (has.0, (has.2.0, has.2.1, has.2.2, has.2.3.0), has.3.0))
uncompared-behind Holds j compares true telling played has = (has.3.0, (has.0, (has.2.0, has.2.1, has.2.2, has.2.3.0), has.3.2))

pub had-fault : (old new : Files) (RanShort : Type 0) (path : List ℕ) (j : JournalFields) (fault : Fault) → SameFiles old new → IsBehindFault j (new path) RanShort path fault → IsBehindFault j (old path) RanShort path fault
had-fault old new RanShort path j (BadLine line) same is = had-text old new path _ same is
had-fault old new RanShort path j (CannotRead named reason) same is = (is.0, had-no_text old new path same is.1)
had-fault old new RanShort path j (CannotWrite named reason) same is = absurd is
had-fault old new RanShort path j CannotWriteOutput same is = absurd is
had-fault old new RanShort path j NoMemory same (inl short) = inl short
had-fault old new RanShort path j NoMemory same (inr is) = inr (is.0, had-text old new path (λ text. IsForShape j.shape text is.0) same is.1)
had-fault old new RanShort path j JournalFull same is = (is.0, had-text old new path (λ text. IsForShape j.shape text is.0) same is.1, is.2)
had-fault old new RanShort path j OldJournal same is = absurd is
had-fault old new RanShort path j (Faulty report) same is = absurd is

-- a script of a file that did not change came to this behind the run of a journal, by another name
pub had-compared : (old new : Files) (script : List ℕ) (journal j : JournalFields) (compares calm telling : Bool) (played : PlayedState) → journal ≡ j → SameFiles old new → HasComparedRunBehind (new script) journal compares calm played telling → HasComparedRunBehind (old script) j compares calm played telling
had-compared old new script journal j compares calm telling played same files has =
    let is = subst (λ (k : JournalFields). HasComparedRunBehind (new script) k compares calm played telling) same has in
    (is.0, is.1, had-text old new script _ files is.2, is.3)

-- why a script does not go on behind the run of a journal is a fault of the whole
pub going-fault : (old begun new : Files) (RanShort : Type 0) (Refuses : List ℕ → Type 0) (script after : List ℕ) (to : Option (List ℕ)) (compares quiet calm : Bool) (journal j : JournalFields) (fault : Fault) → HasNewJournal (old after) j → journal ≡ j → IsRun j.shape j.entries → SameFiles old begun → SameFiles begun new
    → IsBehindFault journal (begun script) RanShort script fault → (fault ≢ CannotWriteOutput) × IsFault old RanShort Refuses (run script (Some after) to compares quiet calm) new fault
going-fault old begun new RanShort Refuses script after to compares quiet calm journal j fault has same ran before behind is =
    input-fault old new RanShort Refuses (run script (Some after) to compares quiet calm) (IsBehindFault j (old script) RanShort script) fault (same-after old begun new before behind) (λ named reason never. never) (λ never. never) (λ is. inr (j, has, ran, is))
    (had-fault old begun RanShort script j fault before (subst (λ (k : JournalFields). IsBehindFault k (begun script) RanShort script fault) same is))

-- what is shown of the whole run
pub goes-on : (old new : Files) (script : List ℕ) (j : JournalFields) (to : Option (List ℕ)) (compares quiet calm : Bool) (shown : Shown) → IsRun j.shape j.entries → WentOn old script j to compares quiet calm new shown → GoesOn old script j to compares quiet calm new shown
goes-on old new script j to compares quiet calm (Text text) ran went = (ran, went)
goes-on old new script j to compares quiet calm (Partial text told) ran went = (ran, went)
goes-on old new script j to compares quiet calm (Wanting text) ran went = absurd went.3
goes-on old new script j to compares quiet calm (Undecided text) ran went = absurd went.3
goes-on old new script j to compares quiet calm (CutShort text) ran went = absurd went.3
goes-on old new script j to compares quiet calm Yes ran went = absurd went.3
goes-on old new script j to compares quiet calm (No position) ran went = absurd went.3
