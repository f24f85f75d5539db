-- The moments of calls, call by call.
use Rattle.std.proofs.Common.{◌≡◌, ◌≢◌, ℕ, ◌+◌, ◌<◌, ◌≤◌, eqb, false, ⊎_elim, List, [], ◌∷◌, ◌++◌, length, map, get_or, slice_get, option_map, Some, All, Contains, sym, ap, subst, ◌∙◌, arith}
use Rattle.std.specs.Cmp.{nat_eq_equiv}
use Rattle.std.specs.List.{IsDistinct}
use Rattle.std.specs.List.Sorted.{IsNonDecreasingBy, IsPermutation}
use Rattle.std.proofs.lemmas.Bool.{cases_order, eqb-false, ne_eqb}
use Rattle.std.proofs.lemmas.List.{map-append}
use Rattle.std.proofs.lemmas.List.Elements.{All-nil, All-push, All-map, All-weaker, All-get_or, at_from_Contains, Contains-push, Contains-append_left}
use Rattle.std.proofs.lemmas.List.Folds.{list_any_none}
use Rattle.std.proofs.lemmas.List.Sorted.{All-permutation, Contains-permutation, IsPermutation-map}
use Rattle.std.proofs.lemmas.Map.Keys.{IsDistinct-from_apart, IsDistinct-push, IsDistinct-IsPermutation, apart_from_distinct}
use Rattle.std.proofs.lemmas.Option.{slice_get-get_or, slice_get-map, get_or_from_slice_get, slice_get_within}
use Rattle.client_history.specs.declared.client_call.ClientCall.{ClientCall}
use Rattle.client_history.specs.declared.moment.Moment.{Moment}
use Rattle.client_history.specs.code.Moves.{AreByTime}
use Rattle.client_history.proofs.Orders.{get_one, last_place}

abbrev calls_of : List Moment → List ℕ
calls_of moments = map (λ m. m.call) moments

-- the moments are of the first i calls, no two of one call
pub record AreApart (i : ℕ) (moments : List Moment) : Type 0 where
  pub below : All (λ (m : Moment). m.call < i) moments
  pub distinct : IsDistinct eqb (calls_of moments)

apart_none : AreApart 0 []
apart_none = record { below = All-nil (λ (m : Moment). m.call < 0); distinct = IsDistinct-from_apart eqb [] (λ j k d lt within. absurd (omega arith)) }

apart_later : (i : ℕ) (moments : List Moment) → AreApart i moments → AreApart (i + 1) moments
apart_later i moments before = record {
  below = All-weaker (λ (m : Moment). m.call < i) (λ (m : Moment). m.call < i + 1) (λ m lt. omega arith) moments before.below;
  distinct = before.distinct;
}

apart_more : (i time : ℕ) (moments : List Moment) → AreApart i moments → AreApart (i + 1) (moments ++ record { time = time; call = i } ∷ [])
apart_more i time moments before =
    let next : Moment = record { time = time; call = i } in
    let others : All (λ (call : ℕ). eqb i call ≡ false) (calls_of moments) =
    All-map (λ (call : ℕ). eqb i call ≡ false) (λ (m : Moment). m.call) moments (All-weaker (λ (m : Moment). m.call < i) (λ (m : Moment). eqb i m.call ≡ false) (λ m lt. ne_eqb i m.call (λ e. omega arith)) moments before.below)
    in
    record {
      below = All-push (λ (m : Moment). m.call < i + 1) moments next (apart_later i moments before).below (omega arith);
      distinct = subst (IsDistinct eqb) (sym (map-append (λ (m : Moment). m.call) moments (next ∷ []))) (IsDistinct-push nat_eq_equiv (calls_of moments) i before.distinct (list_any_none (eqb i) (calls_of moments) others));
    }

apart_sorted : (i : ℕ) (xs ys : List Moment) → IsPermutation xs ys → AreApart i xs → AreApart i ys
apart_sorted i xs ys same before = record {
  below = All-permutation (λ (m : Moment). m.call < i) xs ys same before.below;
  distinct = IsDistinct-IsPermutation eqb nat_eq_equiv.symm (calls_of xs) (calls_of ys) (IsPermutation-map (λ (m : Moment). m.call) xs ys same) before.distinct;
}

module _ (i : ℕ) (moments : List Moment) (apart : AreApart i moments) where
  call_at : (k : ℕ) (moment : Moment) → slice_get moments k ≡ Some moment → slice_get (calls_of moments) k ≡ Some moment.call
  call_at k moment at = slice_get-map (λ (m : Moment). m.call) moments k ∙ ap (option_map (λ (m : Moment). m.call)) at

  calls_differ : (j k : ℕ) (a b : Moment) → slice_get moments j ≡ Some a → slice_get moments k ≡ Some b → j < k → a.call ≢ b.call
  calls_differ j k a b p q lt = λ e.
      let first = get_or_from_slice_get (calls_of moments) j a.call 0 (call_at j a p) in
      let second = get_or_from_slice_get (calls_of moments) k b.call 0 (call_at k b q) in
      eqb-false _ _ (apart_from_distinct eqb (calls_of moments) j k 0 apart.distinct lt (slice_get_within (calls_of moments) k b.call (call_at k b q))) (first ∙ e ∙ sym second)

  -- two moments of one call stand at one place
  place_of_call : (j k : ℕ) (a b : Moment) → slice_get moments j ≡ Some a → slice_get moments k ≡ Some b → a.call ≡ b.call → j ≡ k
  place_of_call j k a b p q e = ⊎_elim
      (λ same. same)
      (⊎_elim (λ lt. absurd (calls_differ j k a b p q lt e)) (λ lt. absurd (calls_differ k j b a q p lt (sym e))))
      (cases_order j k)

module _ (calls : List ClientCall) (Is : ClientCall → ℕ → Type 0) where
  -- the moment is one of its call
  abbrev pub IsMoment : Moment → Type 0
  IsMoment moment = (call : ClientCall) × (slice_get calls moment.call ≡ Some call) × Is call moment.time

  -- the list has the moments of the first i calls, for each that has one
  pub record MomentsTo (i : ℕ) (moments : List Moment) : Type 0 where
    pub each : All IsMoment moments
    pub all : (j time : ℕ) (call : ClientCall) → j < i → slice_get calls j ≡ Some call → Is call time → (moment : Moment) × Contains moments moment × (moment.call ≡ j)
    pub apart : AreApart i moments

  pub moments_none : MomentsTo 0 []
  moments_none = record { each = All-nil IsMoment; all = λ j time call lt. absurd (omega arith); apart = apart_none }

  module _ (i : ℕ) (moments : List Moment) (before : MomentsTo i moments) (call : ClientCall) (there : slice_get calls i ≡ Some call) where
    -- one more call with a moment
    pub moments_more : (time : ℕ) → Is call time → MomentsTo (i + 1) (moments ++ record { time = time; call = i } ∷ [])
    moments_more time is = record {
      each = All-push IsMoment moments (record { time = time; call = i }) before.each (call, there, is);
      all = λ j t other lt at its. ⊎_elim
          (λ low. let old = before.all j t other low at its in (old.0, Contains-append_left moments _ old.0 old.1, old.2))
          (λ e. (record { time = time; call = i }, Contains-push moments _, sym e))
          (last_place j i lt);
      apart = apart_more i time moments before.apart;
    }

    -- one more call without a moment
    pub moments_same : ((time : ℕ) → Is call time → ⊥) → MomentsTo (i + 1) moments
    moments_same none = record {
      each = before.each;
      all = λ j t other lt at its. ⊎_elim
          (λ low. before.all j t other low at its)
          (λ e. absurd (none t (subst (λ (c : ClientCall). Is c t) (get_one calls j i other call e at there) its)))
          (last_place j i lt);
      apart = apart_later i moments before.apart;
    }

  -- the moments in another order are the same
  pub moments_sorted : (i : ℕ) (xs ys : List Moment) → IsPermutation xs ys → MomentsTo i xs → MomentsTo i ys
  moments_sorted i xs ys same before = record {
    each = All-permutation IsMoment xs ys same before.each;
    all = λ j t call lt at its. let old = before.all j t call lt at its in (old.0, Contains-permutation xs ys old.0 same old.1, old.2);
    apart = apart_sorted i xs ys same before.apart;
  }

  module _ (i : ℕ) (moments : List Moment) (done : MomentsTo i moments) where
    pub each_moment : (k : ℕ) (moment : Moment) → slice_get moments k ≡ Some moment → IsMoment moment
    each_moment k moment at = subst IsMoment (get_or_from_slice_get moments k moment moment at) (All-get_or IsMoment moments k moment (slice_get_within moments k moment at) done.each)

    pub once_moment : (j k : ℕ) (a b : Moment) → slice_get moments j ≡ Some a → slice_get moments k ≡ Some b → a.call ≡ b.call → j ≡ k
    once_moment = place_of_call i moments done.apart

    pub all_moments : length calls ≤ i → (j time : ℕ) (call : ClientCall) → slice_get calls j ≡ Some call → Is call time → (k : ℕ) × (moment : Moment) × (slice_get moments k ≡ Some moment) × (moment.call ≡ j)
    all_moments past j time call at is =
        let low = slice_get_within calls j call at in
        let found = done.all j time call (omega arith) at is in
        let place = at_from_Contains moments found.0 found.1 in
        (place.0, found.0, slice_get-get_or moments place.0 found.0 place.1 ∙ ap Some (place.2 found.0), found.2)

-- moments that rise stand by time
pub by_time : (moments : List Moment) → IsNonDecreasingBy (λ m. m.time) moments → AreByTime moments
by_time moments rise j k a b le p q =
    let low = rise j k a le (slice_get_within moments k b q) in
    let first : (get_or moments j a).time ≡ a.time = ap (λ (m : Moment). m.time) (get_or_from_slice_get moments j a a p) in
    let second : (get_or moments k a).time ≡ b.time = ap (λ (m : Moment). m.time) (get_or_from_slice_get moments k b a q) in
    omega arith
