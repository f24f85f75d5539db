-- What `first_answer` gives.
use Rattle.std.specs.Prelude.{◌≡◌, ℕ, ◌+◌, ◌<◌, ◌≤◌, true, false, if◌then◌else◌, Option, Some, None, is_some, MatchOption, refl}
use Rattle.std.proofs.Common.{arith}
use Rattle.std.proofs.lemmas.Bool.{ltb-true, ltb-false}
use Rattle.intervals.specs.rule.Search.{first, some_passes, first_answer, IsFirst}
use Rattle.intervals.proofs.SearchLaws.{first_is_first}

-- f has answer x at number k, and no answer at the numbers from lo that come before k
pub record IsFirstAnswer {A : Type 0} (f : ℕ → Option A) (lo n : ℕ) (x : A) (k : ℕ) : Type 0 where
  pub least : lo ≤ k
  pub below : k < lo + n
  pub here : f k ≡ Some x
  pub none_before : (j : ℕ) → lo ≤ j → j < k → f j ≡ None

-- f has no answer at the n numbers from lo, or r is its first answer there
abbrev pub Answers : {A : Type 0} → (ℕ → Option A) → ℕ → ℕ → Option A → Type 0
Answers f lo n r = MatchOption r ((k : ℕ) → lo ≤ k → k < lo + n → f k ≡ None) (λ x. (k : ℕ) × IsFirstAnswer f lo n x k)

no_answer : {A : Type 0} (o : Option A) → is_some o ≡ false → o ≡ None
no_answer None h = refl
no_answer (Some x) h = absurd (cc)

module _ {A : Type 0} (f : ℕ → Option A) (lo n k : ℕ) (is : IsFirst (λ k. is_some (f k)) lo n k) where
  answered_at : (o : Option A) → f k ≡ o → k < lo + n → Answers f lo n o
  answered_at None e h = absurd (let some = is.here h in cc)
  answered_at (Some x) e h = (
    k,
    record {
      least = is.least;
      below = h;
      here = e;
      none_before = λ j above under. no_answer (f j) (is.none_before j above under);
    },
  )

  unanswered : lo + n ≤ k → (j : ℕ) → lo ≤ j → j < lo + n → f j ≡ None
  unanswered h j above under = no_answer (f j) (is.none_before j above (omega arith))

pub first_answer_is : {A : Type 0} (f : ℕ → Option A) (lo n : ℕ) → Answers f lo n (first_answer f lo n)
first_answer_is {A} f lo n =
    let passes = λ (k : ℕ). is_some (f k) in
    let k = first passes lo n in
    let is = first_is_first passes lo n in
    elim (some_passes passes lo n) as (λ b. some_passes passes lo n ≡ b → Answers f lo n (if b then f k else None)) [
      | true ↦ λ h. answered_at f lo n k is (f k) refl (ltb-true _ _ h)
      | false ↦ λ h. unanswered f lo n k is (ltb-false _ _ h)
    ] refl
