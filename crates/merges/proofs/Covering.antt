-- Moments before which nothing that is left of logs had ended.
use Rattle.std.proofs.Common.{◌≡◌, ℕ, zero, suc, ◌-◌, ◌<◌, ◌≤◌, ◌⊎◌, inl, inr, refl, sym, subst, ◌∙◌, ap, arith, List, ◌∷◌, length, All}
use Rattle.std.proofs.lemmas.List.{get_or_default}
use Rattle.std.proofs.lemmas.List.Elements.{All-weaker, All-contains}
use Rattle.std.proofs.lemmas.List.Sorted.{Contains-permutation}
use Rattle.std.specs.Prelude.{slice_index_or}
use Rattle.std.specs.List.{Contains}
use Rattle.std.specs.List.Sorted.{IsPermutation}
use Rattle.merges.specs.declared.logged.LoggedEntry.{LoggedEntry}
use Rattle.merges.specs.rule.Merges.{LogFields}
use Rattle.merges.specs.code.Merging.{MergerFields, PutsOn, Covers, EndsFrom, last_moment}

contains_cases : (x z : ℕ × ℕ) (xs : List (ℕ × ℕ)) → Contains (x ∷ xs) z → (x ≡ z) ⊎ Contains xs z
contains_cases x z xs (zero, within, is) = inl is
contains_cases x z xs (suc k, within, is) = inr (k, omega arith, is)

pub contains_behind : (y z : ℕ × ℕ) (xs : List (ℕ × ℕ)) → Contains xs z → Contains (y ∷ xs) z
contains_behind y z xs it = let within = it.1 in (suc it.0, omega arith, it.2)

pub contains_first : (y : ℕ × ℕ) (xs : List (ℕ × ℕ)) → Contains (y ∷ xs) y
contains_first y xs = (zero, omega arith, refl)

-- all that is left of a log ended no earlier
pub of_log : (logs : List LogFields) (index least end : ℕ) (log : LogFields) → log ≡ slice_index_or logs index log → end ≡ least → All (λ (y : LoggedEntry). least ≤ y.interval.ended) log.entries
    → index < length logs → (d : LogFields) → All (λ (y : LoggedEntry). end ≤ y.interval.ended) (slice_index_or logs index d).entries
of_log logs index least end log is same all within d =
    subst (λ (l : LogFields). All (λ (y : LoggedEntry). end ≤ y.interval.ended) l.entries) (is ∙ get_or_default logs index log d within)
    (subst (λ (m : ℕ). All (λ (y : LoggedEntry). m ≤ y.interval.ended) log.entries) (sym same) all)

-- the moment of one log is another one
pub renewed : (old mid new : List (ℕ × ℕ)) (logs : List LogFields) (rank index end : ℕ) → IsPermutation old ((rank, index) ∷ mid) → IsPermutation ((last_moment - end, index) ∷ mid) new
    → (index < length logs → (d : LogFields) → All (λ (y : LoggedEntry). end ≤ y.interval.ended) (slice_index_or logs index d).entries) → Covers old logs → Covers new logs
renewed old mid new logs rank index end taken given ends covers k d within =
    let it = covers k d within in
    elim (contains_cases (rank, index) (it.0, k) mid (Contains-permutation old ((rank, index) ∷ mid) (it.0, k) taken it.1)) [
      | inl same ↦
          let here : index ≡ k = ap (λ (p : ℕ × ℕ). p.1) same in
          let inside : index < length logs = subst (λ (j : ℕ). j < length logs) (sym here) within in (
            last_moment - end,
            subst (λ (j : ℕ). Contains new (last_moment - end, j)) here (Contains-permutation ((last_moment - end, index) ∷ mid) new (last_moment - end, index) given (contains_first (last_moment - end, index) mid)),
            subst (λ (j : ℕ). All (λ (y : LoggedEntry). last_moment - (last_moment - end) ≤ y.interval.ended) (slice_index_or logs j d).entries) here
                (All-weaker (λ (y : LoggedEntry). end ≤ y.interval.ended) (λ (y : LoggedEntry). last_moment - (last_moment - end) ≤ y.interval.ended) (λ y h. omega (arith, h)) (slice_index_or logs index d).entries (ends inside d)),
          )
      | inr rest ↦ (it.0, Contains-permutation ((last_moment - end, index) ∷ mid) new (it.0, k) given (contains_behind (last_moment - end, index) (it.0, k) mid rest), it.2)
    ]

-- the greatest of the numbers tells the earliest of the moments
pub lowest : (ends : List (ℕ × ℕ)) (logs : List LogFields) (rank : ℕ) → All (λ (p : ℕ × ℕ). p.0 ≤ rank) ends → Covers ends logs → EndsFrom (last_moment - rank) (length logs) logs
lowest ends logs rank greatest covers k d within =
    let it = covers k d within in
    let less : it.0 ≤ rank = All-contains (λ (p : ℕ × ℕ). p.0 ≤ rank) ends (it.0, k) greatest it.1 in
    All-weaker (λ (y : LoggedEntry). last_moment - it.0 ≤ y.interval.ended) (λ (y : LoggedEntry). last_moment - rank ≤ y.interval.ended) (λ y h. omega (arith, h, less)) (slice_index_or logs k d).entries it.2

-- what was put leaves moments of which the same holds
pub covers_later : (m n : MergerFields) (ends : List (ℕ × ℕ)) → PutsOn m n → Covers ends m.logs → Covers ends n.logs
covers_later m n ends p covers k d within =
    let it = covers k d (subst (λ (count : ℕ). k < count) p.count within) in
    (it.0, it.1, p.later k d (last_moment - it.0) it.2)
