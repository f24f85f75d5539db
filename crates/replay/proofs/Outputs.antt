-- Lemmas on what writers took.
use Rattle.std.proofs.Common.{ℕ, List, [], ◌++◌, Option, None, Some, Result, Ok, Err, sym, ap, ◌∙◌, append_assoc, append-nil}
use Rattle.std.specs.Prelude.{⊤}
use Rattle.std.proofs.KnownBytes.{Appends-trans}
use Rattle.std.specs.Io.KnownBytes.{Appends, Keeps}
use Rattle.replay.specs.rule.Stores.{AppendsPart, Writes}

-- a beginning of the first bytes is one of the whole
pub part-before : (old new : Option (List ℕ)) (xs ys : List ℕ) → AppendsPart old new xs → AppendsPart old new (xs ++ ys)
part-before old new xs ys p = (p.0, p.1 ++ ys, ap (λ (t : List ℕ). t ++ ys) p.2 ∙ append_assoc p.0 p.1 ys, p.3)

-- bytes, and then a beginning of more
pub part-after : (old mid new : Option (List ℕ)) (xs ys : List ℕ) → Appends old mid xs → AppendsPart mid new ys → AppendsPart old new (xs ++ ys)
part-after old mid new xs ys first p = (xs ++ p.0, p.1, ap (λ (t : List ℕ). xs ++ t) p.2 ∙ sym (append_assoc xs p.0 p.1), Appends-trans old mid new xs p.0 first p.3)

-- bytes, and then more
pub writes-after : {E : Type 0} (old mid new : Option (List ℕ)) (Failed : Type 0) (xs ys : List ℕ) (r : Result ⊤ E) → Appends old mid xs → Writes mid new Failed ys r → Writes old new Failed (xs ++ ys) r
writes-after old mid new Failed xs ys (Ok done) first second = Appends-trans old mid new xs ys first second
writes-after old mid new Failed xs ys (Err error) first second = (part-after old mid new xs ys first second.0, second.1)

-- what stays takes nothing
pub kept_none : (old new : Option (List ℕ)) → Keeps old new → Appends old new []
kept_none None new kept = tt
kept_none (Some x) None kept = absurd kept
kept_none (Some x) (Some y) kept = kept ∙ sym (append-nil x)

-- what takes nothing stays
pub none_kept : (old new : Option (List ℕ)) → Appends old new [] → Keeps old new
none_kept None new none = tt
none_kept (Some x) None none = absurd none
none_kept (Some x) (Some y) none = none ∙ append-nil x
