-- What a status tells of refused words.
use Rattle.std.specs.Prelude.{◌≡◌, ◌⊎◌, ℕ, List, Option}
use Rattle.std.proofs.Common.{inl, inr, sym, ◌∙◌}
use Rattle.command_line.specs.rule.Words.{AsksForHelp, IsRefusal}
use Rattle.command_line.specs.declared.refusal.Refusal.{Refusal}
use Rattle.command_line.specs.declared.refusal.Refusal.TheVariants.{Help, Wrong, NotText, NoMemory}
use Rattle.replay.specs.declared.fault.Fault.{Fault}
use Rattle.replay.specs.declared.fault.Fault.TheVariants.{BadLine, CannotRead, CannotWrite, CannotWriteOutput, JournalFull, OldJournal, Faulty}
use Rattle.replay.specs.declared.fault.Fault.TheVariants as fault
use Rattle.replay.specs.declared.shown.Shown.{Shown}
use Rattle.replay.specs.rule.Commands.{Leaves, IsHelp, refusal_status, refusal_text, status_of}

-- refused words end with 3 only where help could not be shown
pub refused-unshown : (words : List (List ℕ)) (r : Refusal) (status : ℕ) (A F E B Failed Told C D : Type 0) → IsRefusal words r → (IsHelp r → ((status ≡ 0) × A × F × E) ⊎ ((status ≡ 3) × B × Failed × Told)) → (¬ (IsHelp r) → (status ≡ refusal_status r) × C × D) → status ≡ 3 → AsksForHelp words × Failed × Told
refused-unshown words (Help text) status A F E B Failed Told C D is help refused three = elim (help tt) [
  | inl shown ↦ absurd (let zero : 0 ≡ 3 = sym shown.0 ∙ three in cc (zero))
  | inr failed ↦ (is, failed.2, failed.3)
]
refused-unshown words (Wrong text) status A F E B Failed Told C D is help refused three = absurd (let two : 2 ≡ 3 = sym (refused (λ h. h)).0 ∙ three in cc (two))
refused-unshown words NotText status A F E B Failed Told C D is help refused three = absurd is
refused-unshown words NoMemory status A F E B Failed Told C D is help refused three = absurd (let four : 4 ≡ 3 = sym (refused (λ h. h)).0 ∙ three in cc (four))

-- refused words end with 4 only where memory was short for them
pub refused-short : (words : List (List ℕ)) (r : Refusal) (status : ℕ) (A F E B Failed Told Same : Type 0) (T : List ℕ → Type 0) → IsRefusal words r → (IsHelp r → ((status ≡ 0) × A × F × E) ⊎ ((status ≡ 3) × B × Failed × Told)) → (¬ (IsHelp r) → (status ≡ refusal_status r) × Same × T (refusal_text r)) → status ≡ 4 → Same × T (refusal_text NoMemory)
refused-short words (Help text) status A F E B Failed Told Same T is help refused four = elim (help tt) [
  | inl shown ↦ absurd (let zero : 0 ≡ 4 = sym shown.0 ∙ four in cc (zero))
  | inr failed ↦ absurd (let three : 3 ≡ 4 = sym failed.0 ∙ four in cc (three))
]
refused-short words (Wrong text) status A F E B Failed Told Same T is help refused four = absurd (let two : 2 ≡ 4 = sym (refused (λ h. h)).0 ∙ four in cc (two))
refused-short words NotText status A F E B Failed Told Same T is help refused four = absurd is
refused-short words NoMemory status A F E B Failed Told Same T is help refused four = let told = refused (λ h. h) in (told.1, told.2)

-- a fault with status 4 leaves nothing on the writer
pub short-leaves : {O : Type 0} (IsDone : Shown → Type 0) (taken : O → Option (List ℕ)) (has_failed : O → Type 0) (old new : O) (f : Fault) → status_of f ≡ 4 → Leaves IsDone taken has_failed old new f → new ≡ old
short-leaves IsDone taken has_failed old new (BadLine line) four leaves = leaves
short-leaves IsDone taken has_failed old new (CannotRead path reason) four leaves = leaves
short-leaves IsDone taken has_failed old new (CannotWrite path reason) four leaves = leaves
short-leaves IsDone taken has_failed old new CannotWriteOutput four leaves = absurd (let three : 3 ≡ 4 = four in cc (three))
short-leaves IsDone taken has_failed old new fault.NoMemory four leaves = leaves
short-leaves IsDone taken has_failed old new JournalFull four leaves = leaves
short-leaves IsDone taken has_failed old new OldJournal four leaves = absurd (let three : 3 ≡ 4 = four in cc (three))
short-leaves IsDone taken has_failed old new (Faulty report) four leaves = absurd (let three : 3 ≡ 4 = four in cc (three))
