-- Lemmas on what stores hold.
use Rattle.std.proofs.Common.{◌≡◌, ◌≢◌, ℕ, List, Option, Some, None, String, sym, subst, ap, inl, inr}
use Rattle.std.specs.Prelude.{◌↔◌, IsUtf8, string_bytes}
use Rattle.std.specs.Global.{Global}
use Rattle.std.proofs.lemmas.Str.{IsUtf8-string_bytes}
use Rattle.replay.specs.rule.Commands.{SameBut}
use Rattle.replay.specs.rule.Stores.{Files, HasNoText, HasText, SameFiles, SameOthers}

pub same : (files : Files) → SameFiles files files
same files = λ path file. (λ holds. holds, λ holds. holds)

-- first no file changes, and then one
pub others-after : (old mid new : Files) (path : List ℕ) → SameFiles old mid → SameOthers mid new path → SameOthers old new path
others-after old mid new path first second = λ other file differs.
    let here = first other file in
    let there = second other file differs in
    (λ holds. here.0 (there.0 holds), λ holds. there.1 (here.1 holds))

-- no file changes, and then again none
pub same-after : (old mid new : Files) → SameFiles old mid → SameFiles mid new → SameFiles old new
same-after old mid new first second = λ path file.
    let here = first path file in
    let there = second path file in
    (λ holds. here.0 (there.0 holds), λ holds. there.1 (here.1 holds))

-- a file has the text that it had
pub had-text : (old new : Files) (path : List ℕ) (Is : List ℕ → Type 0) → SameFiles old new → HasText (new path) Is → HasText (old path) Is
had-text old new path Is same has = (has.0, (same path (Some has.0)).0 has.1, has.2, has.3)

-- or none, as it had
pub had-no_text : (old new : Files) (path : List ℕ) → SameFiles old new → HasNoText (new path) → HasNoText (old path)
had-no_text old new path same (inl none) = inl ((same path None).0 none)
had-no_text old new path same (inr no_text) = inr (no_text.0, (same path (Some no_text.0)).0 no_text.1, no_text.2)

-- a file that is not that of the journal is as it was
pub same-unless : (old new : Files) (to : Option (List ℕ)) (path : List ℕ) (file : Option (List ℕ)) → SameBut to old new → to ≢ Some path → new path file ↔ old path file
same-unless old new None path file kept other = kept path file
same-unless old new (Some named) path file kept other = kept path file (λ is. other (ap (λ (p : List ℕ). Some p) (sym is)))

-- the text that was read of a file is its text
pub text-held : (Holds : Option (List ℕ) → Type 0) (text : String Global) (bytes : List ℕ) → bytes ≡ string_bytes text → Holds (Some (string_bytes text)) → Holds (Some bytes) × IsUtf8 bytes
text-held Holds text bytes is holds = (subst (λ (b : List ℕ). Holds (Some b)) (sym is) holds, subst IsUtf8 (sym is) (IsUtf8-string_bytes text))
