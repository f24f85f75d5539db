-- Beginnings of lists.
use Rattle.std.proofs.Common.{◌≡◌, ◌<◌, ◌≤◌, ℕ, zero, suc, List, [], ◌∷◌, ap, arith, get_or, length, refl, take}
use Rattle.messages.specs.declared.entry.Entry.{Entry}

-- as many of a list as there are in a beginning are that beginning
pub same-take : {A : Type 0} (count i : ℕ) (xs : List A) → i ≤ count → length (take count xs) ≤ i → take i xs ≡ take count xs
same-take zero zero xs within past = refl
same-take zero (suc i) xs within past = absurd (omega (arith, within))
same-take (suc count) zero [] within past = refl
same-take (suc count) zero (x ∷ xs) within past = absurd (omega (arith, past))
same-take (suc count) (suc i) [] within past = refl
same-take {A} (suc count) (suc i) (x ∷ xs) within past = ap (λ (ys : List A). x ∷ ys) (same-take count i xs (omega (arith, within)) (omega (arith, past)))

-- an element of a beginning is that of the list
pub read-take : (to i : ℕ) (es : List Entry) (e : Entry) → i < length (take to es) → e ≡ get_or (take to es) i e → (i < to) × ((i < length es) × (e ≡ get_or es i e))
read-take zero i es e lt is = absurd (omega (arith, lt))
read-take (suc to) i [] e lt is = absurd (omega (arith, lt))
read-take (suc to) zero (d ∷ es) e lt is = (omega arith, (omega arith, is))
read-take (suc to) (suc i) (d ∷ es) e lt is =
    let rest = read-take to i es e (omega (arith, lt)) is in
    (omega (arith, rest.0), (omega (arith, rest.1.0), rest.1.1))
