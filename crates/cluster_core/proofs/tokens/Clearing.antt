-- The bytes that a node gives up have no lock of it that excludes the mode, whatever bytes a revoke names.
use Rattle.std.specs.Prelude.{not, MatchOption}
use Rattle.std.proofs.Common.{◌≡◌, ℕ, pred, ◌+◌, ◌-◌, ◌<◌, ◌≤◌, Bool, true, false, inl, inr, refl, sym, ◌∙◌, ap, subst, arith, Option, Some, None}
use Rattle.std.proofs.lemmas.Bool.{both_ways, cases_Bool, cases_lt, not-true}
use Rattle.std.proofs.lemmas.Option.{none-some}
use Rattle.intervals.specs.rule.Search.{first, first_answer, all_pass}
use Rattle.intervals.specs.rule.Bytes.{Range, greatest, NoneIn, largest_around}
use Rattle.intervals.proofs.SearchLaws.{first_is_first}
use Rattle.model.specs.declared.mode.Mode.{Mode}
use Rattle.model.specs.declared.lock_info.LockInfo.{LockInfo}
use Rattle.model.specs.declared.owner.Owner.{Owner}
use Rattle.model.specs.rule.Owners.{owner_at, most_owners}
use Rattle.model.specs.rule.Locks.{FileLocks, bars, region_at, IsRegion, IsOfNode, IsClear, IsLowestInWay, lowest_in_way}
use Rattle.model.proofs.AnswerLaws.{Answers, first_answer_is}
use Rattle.model.proofs.WayLaws.{lowest_in_way_is_lowest}
use Rattle.token_set.specs.rule.Tokens.{is_in_way, given_up_span, answer_of, gave_up}
use Rattle.token_set.specs.declared.gave_up.GaveUp.TheVariants.{Released}
use Rattle.token_set.proofs.TokenLaws.{some_passes-first, some_passes-from, all_pass-each}

-- no byte of the largest span is barred, if none of the required ones is
pub around_free : (barred : ℕ → Bool) (required within : Range) → NoneIn (λ b. barred b ≡ true) required → NoneIn (λ b. barred b ≡ true) (largest_around barred required within)
around_free barred required within none b above below here = elim (cases_lt b required.lo) [
  | inl under ↦
      let test : ℕ → Bool = λ l. all_pass (λ b. not (barred b)) l (required.lo - l) in
      let f = first_is_first test within.lo (required.lo - within.lo) in
      let least = f.least in
      let all = f.here (omega arith) in
      let free : not (barred b) ≡ true = all_pass-each (λ c. not (barred c)) (first test within.lo (required.lo - within.lo)) (required.lo - first test within.lo (required.lo - within.lo)) b all above (omega arith) in
      both_ways (barred b) (not-true (barred b) free) here
  | inr from ↦ elim (cases_lt required.hi b) [
    | inl over ↦
        let f = first_is_first barred (required.hi + 1) (within.hi - required.hi) in
        both_ways (barred b) (f.none_before b (omega arith) (pred_below b (first barred (required.hi + 1) (within.hi - required.hi)) below (omega arith))) here
    | inr upto ↦ none b from upto here
  ]
]
  where
    pred_below : (c k : ℕ) → c ≤ pred k → 1 ≤ c → c < k
    pred_below c k h least = omega arith

-- where f has no answer at n numbers, it has none at fewer
fewer_answers : {A : Type 0} (f : ℕ → Option A) (m n : ℕ) → m ≤ n → first_answer f 0 n ≡ None → first_answer f 0 m ≡ None
fewer_answers {A} f m n fewer none =
    let all : Answers f 0 n None = subst (Answers f 0 n) none (first_answer_is f 0 n) in
    elim (first_answer f 0 m) as (λ o. Answers f 0 m o → o ≡ None) [
      | None ↦ λ a. refl
      | Some x ↦ λ a. let below = a.1.below in absurd (none-some x (sym (all a.0 a.1.least (omega arith)) ∙ a.1.here))
    ] (first_answer_is f 0 m)

module _ (h : FileLocks) (node incarnation : ℕ) (own : IsOfNode h node incarnation) (mode : Mode) where
  -- no region blocks the beginning of a span, if none blocks the span
  none_shorter : (s : Range) (hi : ℕ) → hi ≤ s.hi → lowest_in_way h node incarnation s mode ≡ None → lowest_in_way h node incarnation (record { lo = s.lo; hi = hi }) mode ≡ None
  unfolding lowest_in_way
  none_shorter s hi shorter none =
      fewer_answers (λ lo. first_answer (λ k. region_at h s mode (owner_at node incarnation k) lo (h (owner_at node incarnation k) lo)) 0 most_owners) (hi + 1) (s.hi + 1) (omega arith) none

  required_clear : (s : Range) → lowest_in_way h node incarnation s mode ≡ None → IsClear h s mode
  required_clear s none o b above below = elim (h o b) as (λ x. h o b ≡ x → bars mode x ≡ false) [
    | None ↦ λ is. refl
    | Some held ↦ λ is.
        let within : b ≤ greatest = elim (cases_lt greatest b) [ inl past ↦ absurd (none-some held (sym (own.ends o b past) ∙ is)) | inr le ↦ le ] in
        let r : Range = record { lo = s.lo; hi = b } in
        let P : Option LockInfo → Type 0 = λ x. MatchOption x (IsClear h r mode) (IsLowestInWay (IsRegion h) r mode) in
        let clear : IsClear h r mode = subst P (none_shorter s b below none) (lowest_in_way_is_lowest h node incarnation r mode own above within) in
        ap (bars mode) (sym is) ∙ clear o b above (omega arith)
  ] refl

  -- a byte of a lock that excludes the mode blocks
  bars_way : (o : Owner) (b : ℕ) → bars mode (h o b) ≡ true → is_in_way h node incarnation mode b ≡ true
  bars_way o b bar = elim (h o b) as (λ x. h o b ≡ x → bars mode x ≡ true → is_in_way h node incarnation mode b ≡ true) [
    | None ↦ λ is none. absurd (cc)
    | Some held ↦ λ is barred.
        let place = own.is_own o b held is in
        some_passes-from (λ k. bars mode (h (owner_at node incarnation k) b)) 0 most_owners place.0 (omega arith) (more place.0 place.1) (ap (λ (x : Owner). bars mode (h x b)) (sym place.2) ∙ bar)
  ] refl bar
    where
      more : (k : ℕ) → k < 16640 → k < 0 + 16640
      more k lt = omega arith

  around_clear : (required desired : Range) → IsClear h required mode → IsClear h (given_up_span h node incarnation mode required desired) mode
  around_clear required desired clear o b above below = elim (cases_Bool (bars mode (h o b))) [
    | inl bar ↦ absurd (around_free (is_in_way h node incarnation mode) required desired none b above below (bars_way o b bar))
    | inr free ↦ free
  ]
    where
      none : NoneIn (λ b. is_in_way h node incarnation mode b ≡ true) required
      none c from upto way =
          let passes : ℕ → Bool = λ k. bars mode (h (owner_at node incarnation k) c) in
          both_ways (bars mode (h (owner_at node incarnation (first passes 0 most_owners)) c)) (clear (owner_at node incarnation (first passes 0 most_owners)) c from upto) (some_passes-first passes 0 most_owners way).here

  -- on the span that is released no lock of the node excludes the mode
  pub released_clear : (required desired s : Range) → gave_up h node incarnation mode required desired ≡ Released s → IsClear h s mode
  released_clear required desired s e =
      let span = given_up_span h node incarnation mode required desired in
      elim (lowest_in_way h node incarnation required mode) as (λ o. lowest_in_way h node incarnation required mode ≡ o → answer_of o span ≡ Released s → IsClear h s mode) [
        | None ↦ λ none is.
            let same : span ≡ s = cc in
            subst (λ (x : Range). IsClear h x mode) same (around_clear required desired (required_clear required none))
        | Some lock ↦ λ found is. absurd (cc)
      ] refl e
