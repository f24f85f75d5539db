-- The pigeonhole principle: n numbers with n places of their own leave no place free.
use Rattle.std.specs.Prelude.{◌≡◌, ◌≢◌, ℕ, zero, suc, ◌<◌, ◌==◌, if◌then◌else◌, refl}
use Rattle.std.proofs.Common.{arith, sym, ◌∙◌, inl, inr}
use Rattle.std.proofs.lemmas.Bool.{cases_Bool, cases_eq, eq-eqb, eqb-true}

-- each number below n has a place below n of its own, and none is at the hole
pub record Placed (n : ℕ) (place : ℕ → ℕ) (hole : ℕ) : Type 0 where
  pub within : (k : ℕ) → k < n → place k < n
  pub own : (j k : ℕ) → j < n → k < n → place j ≡ place k → j ≡ k
  pub hole_in : hole < n
  pub empty : (k : ℕ) → k < n → place k ≢ hole

-- the number at place n moves to the hole
moved : ℕ → ℕ → ℕ → ℕ
moved n hole p = if p == n then hole else p

moved-last : (n hole p : ℕ) → p ≡ n → moved n hole p ≡ hole
unfolding moved
moved-last n hole p h = rw (eq-eqb p n h) refl

moved-other : (n hole p : ℕ) → p ≢ n → moved n hole p ≡ p
unfolding moved
moved-other n hole p h = elim (cases_Bool (p == n)) [ inl is ↦ absurd (h (eqb-true _ _ is)) | inr not_it ↦ rw not_it refl ]

moved-below : (n hole p : ℕ) → hole < suc n → p < suc n → p ≢ hole → moved n hole p < n
moved-below n hole p h q apart = elim (cases_eq p n) [
  | inl is ↦ rw (moved-last n hole p is) (below hole h (λ e. apart (is ∙ sym e)))
  | inr other ↦ rw (moved-other n hole p other) (below p q other)
]
  where
    below : (k : ℕ) → k < suc n → k ≢ n → k < n
    below k lt ne = omega arith

moved-own : (n hole p q : ℕ) → p ≢ hole → q ≢ hole → moved n hole p ≡ moved n hole q → p ≡ q
moved-own n hole p q not_p not_q e = elim (cases_eq p n) [
  | inl p_is ↦ elim (cases_eq q n) [
    | inl q_is ↦ p_is ∙ sym q_is
    | inr q_not ↦ absurd (not_q (sym (sym (moved-last n hole p p_is) ∙ e ∙ moved-other n hole q q_not)))
  ]
  | inr p_not ↦ elim (cases_eq q n) [
    | inl q_is ↦ absurd (not_p (sym (moved-other n hole p p_not) ∙ e ∙ moved-last n hole q q_is))
    | inr q_not ↦ sym (moved-other n hole p p_not) ∙ e ∙ moved-other n hole q q_not
  ]
]

-- without its last number and its last place a placement is one of fewer numbers
fewer : (n : ℕ) (place : ℕ → ℕ) (hole : ℕ) → Placed (suc n) place hole → Placed n (λ k. moved n hole (place k)) (moved n hole (place n))
fewer n place hole p = record {
  within = λ k h. moved-below n hole (place k) p.hole_in (p.within k (one_more k h)) (p.empty k (one_more k h));
  own = λ j k hj hk e. p.own j k (one_more j hj) (one_more k hk) (moved-own n hole (place j) (place k) (p.empty j (one_more j hj)) (p.empty k (one_more k hk)) e);
  hole_in = moved-below n hole (place n) p.hole_in (p.within n last) (p.empty n last);
  empty = λ k h e. not_last k h (p.own k n (one_more k h) last (moved-own n hole (place k) (place n) (p.empty k (one_more k h)) (p.empty n last) e));
}
  where
    one_more : (k : ℕ) → k < n → k < suc n
    one_more k h = omega arith

    last : n < suc n
    last = omega arith

    not_last : (k : ℕ) → k < n → k ≡ n → ⊥
    not_last k h e = omega arith

pub no_hole : (n : ℕ) (place : ℕ → ℕ) (hole : ℕ) → Placed n place hole → ⊥
no_hole zero place hole p = let h = p.hole_in in omega arith
no_hole (suc n) place hole p = no_hole n (λ k. moved n hole (place k)) (moved n hole (place n)) (fewer n place hole p)
