-- Lemmas on faults of what tools and commands read.
use Rattle.std.proofs.Common.{◌≢◌, ℕ, Bor, List, Result, sym, subst}
use Rattle.std.specs.Prelude.{IfErr}
use Rattle.std.proofs.lemmas.Result.{IfErr-weaker}
use Rattle.command_line.specs.rule.Tasks.{Task}
use Rattle.replay.specs.declared.store.FileReason.{FileReason}
use Rattle.replay.specs.declared.fault.Fault.{Fault}
use Rattle.replay.specs.declared.fault.Fault.TheVariants.{BadLine, CannotRead, CannotWrite, CannotWriteOutput, NoMemory, JournalFull, OldJournal, Faulty}
use Rattle.replay.specs.rule.Commands.{IsFault, IsInputFault}
use Rattle.replay.specs.rule.Faults.{IsTextless, IsToolFault}
use Rattle.replay.specs.rule.Stores.{Files, HasNoText, SameFiles}
use Rattle.replay.proofs.Stores.{had-no_text}

-- a file that the tool reads has no text
pub textless : (old : Files) (RanShort : Type 0) (path : List ℕ) (Reads : List ℕ → Type 0) (fault : Fault) → Reads path → IsTextless (old path) RanShort path fault → IsToolFault old Reads fault
textless old RanShort path Reads (BadLine line) reads is = absurd is
textless old RanShort path Reads (CannotRead named reason) reads is = (subst Reads (sym is.0) reads, subst (λ (p : List ℕ). HasNoText (old p)) (sym is.0) is.1)
textless old RanShort path Reads (CannotWrite named reason) reads is = absurd is
textless old RanShort path Reads CannotWriteOutput reads is = absurd is
textless old RanShort path Reads NoMemory reads is = tt
textless old RanShort path Reads JournalFull reads is = absurd is
textless old RanShort path Reads OldJournal reads is = absurd is
textless old RanShort path Reads (Faulty report) reads is = absurd is

-- a fault of some of the files that a tool reads is one of all, if no file changed before
pub tool-weaker : (old mid : Files) (R S : List ℕ → Type 0) (fault : Fault) → SameFiles old mid → ((path : List ℕ) → R path → S path) → IsToolFault mid R fault → IsToolFault old S fault
tool-weaker old mid R S (BadLine line) same reads is = absurd is
tool-weaker old mid R S (CannotRead named reason) same reads is = (reads named.now is.0, had-no_text old mid named.now same is.1)
tool-weaker old mid R S (CannotWrite named reason) same reads is = absurd is
tool-weaker old mid R S CannotWriteOutput same reads is = absurd is
tool-weaker old mid R S NoMemory same reads is = tt
tool-weaker old mid R S JournalFull same reads is = absurd is
tool-weaker old mid R S OldJournal same reads is = absurd is
tool-weaker old mid R S (Faulty report) same reads is = tt

-- a fault of what the task reads is one of the command
pub input-fault : (old new : Files) (RanShort : Type 0) (Refuses : List ℕ → Type 0) (task : Task) (Is : Fault → Type 0) (fault : Fault) → SameFiles old new → ((named : Bor (List ℕ)) (reason : FileReason) → Is (CannotWrite named reason) → ⊥) → (Is CannotWriteOutput → ⊥)
    → (Is fault → IsInputFault old RanShort task fault) → Is fault → (fault ≢ CannotWriteOutput) × IsFault old RanShort Refuses task new fault
input-fault old new RanShort Refuses task Is (BadLine line) same no_file no_output input is = (λ e. absurd (cc), (input is, same))
input-fault old new RanShort Refuses task Is (CannotRead named reason) same no_file no_output input is = (λ e. absurd (cc), (input is, same))
input-fault old new RanShort Refuses task Is (CannotWrite named reason) same no_file no_output input is = absurd (no_file named reason is)
input-fault old new RanShort Refuses task Is CannotWriteOutput same no_file no_output input is = absurd (no_output is)
input-fault old new RanShort Refuses task Is NoMemory same no_file no_output input is = (λ e. absurd (cc), (input is, same))
input-fault old new RanShort Refuses task Is JournalFull same no_file no_output input is = (λ e. absurd (cc), (input is, same))
input-fault old new RanShort Refuses task Is OldJournal same no_file no_output input is = (λ e. absurd (cc), (input is, same))
input-fault old new RanShort Refuses task Is (Faulty report) same no_file no_output input is = (λ e. absurd (cc), (input is, same))

pub tool-result : {A : Type 0} (old new : Files) (RanShort : Type 0) (Refuses : List ℕ → Type 0) (task : Task) (Reads : List ℕ → Type 0) (result : Result A Fault) → SameFiles old new
    → ((fault : Fault) → IsToolFault old Reads fault → IsInputFault old RanShort task fault) → IfErr result (IsToolFault old Reads) → IfErr result (λ fault. (fault ≢ CannotWriteOutput) × IsFault old RanShort Refuses task new fault)
tool-result old new RanShort Refuses task Reads result same input told = IfErr-weaker result _ _ (λ fault is. input-fault old new RanShort Refuses task (IsToolFault old Reads) fault same (λ named reason never. never) (λ never. never) (input fault) is) told
