-- The calls that are over when a call ends, place by place.
use Rattle.std.proofs.Common.{◌≡◌, ℕ, ◌+◌, ◌<◌, ◌≤◌, ⊎_elim, List, [], ◌∷◌, ◌++◌, length, slice_get, Some, sym, subst, arith}
use Rattle.std.proofs.lemmas.Option.{none-some, slice_get_within}
use Rattle.client_history.specs.declared.open_client_call.OpenClientCall.{OpenClientCall}
use Rattle.client_history.specs.rule.Explained.{Stands}
use Rattle.client_history.specs.code.Search.{IsOverWith, AreOver, AreWithout}
use Rattle.client_history.proofs.Orders.{last_place, get_one}
use Rattle.client_history.proofs.Standing.{has_left, has_last, has_push}

module _ (running : List OpenClientCall) (x : ℕ) where
  -- the list has those of the first n open calls that are over
  pub record OverTo (n : ℕ) (over : List ℕ) : Type 0 where
    pub each : (i : ℕ) → Stands over i → (k : ℕ) × (one : OpenClientCall) × (slice_get running k ≡ Some one) × (one.index ≡ i) × IsOverWith x one
    pub all : (k : ℕ) (one : OpenClientCall) → k < n → slice_get running k ≡ Some one → IsOverWith x one → Stands over one.index

  pub over_none : OverTo 0 []
  over_none = record { each = λ i stands. absurd (none-some i stands.1); all = λ k one lt. absurd (omega arith) }

  module _ (n : ℕ) (over : List ℕ) (before : OverTo n over) (one : OpenClientCall) (at : slice_get running n ≡ Some one) where
    -- one more open call that is over
    pub over_more : IsOverWith x one → OverTo (n + 1) (over ++ one.index ∷ [])
    over_more is = record {
      each = λ i stands. ⊎_elim (λ old. before.each i old) (λ e. (n, one, at, sym e, is)) (has_push over one.index i stands);
      all = λ k other lt there over_with. ⊎_elim
          (λ below. has_left over (one.index ∷ []) other.index (before.all k other below there over_with))
          (λ e. subst (λ (o : OpenClientCall). Stands (over ++ one.index ∷ []) o.index) (sym (get_one running k n other one e there at)) (has_last over one.index))
          (last_place k n lt);
    }

    -- one more open call that is not over
    pub over_same : (IsOverWith x one → ⊥) → OverTo (n + 1) over
    over_same not = record {
      each = before.each;
      all = λ k other lt there over_with. ⊎_elim
          (λ below. before.all k other below there over_with)
          (λ e. absurd (not (subst (IsOverWith x) (get_one running k n other one e there at) over_with)))
          (last_place k n lt);
    }

  pub over_all : (n : ℕ) (over : List ℕ) → OverTo n over → length running ≤ n → AreOver running x over
  over_all n over to past = record {
    each = to.each;
    all = λ k one there is. let within = slice_get_within running k one there in to.all k one (omega arith) there is;
  }

module _ (running : List OpenClientCall) (over : List ℕ) where
  -- the list has the first n open calls without those that are over
  pub record WithoutTo (n : ℕ) (left : List OpenClientCall) : Type 0 where
    pub each : (k : ℕ) (one : OpenClientCall) → slice_get left k ≡ Some one → ((m : ℕ) × (slice_get running m ≡ Some one)) × (Stands over one.index → ⊥)
    pub all : (k : ℕ) (one : OpenClientCall) → k < n → slice_get running k ≡ Some one → (Stands over one.index → ⊥) → (m : ℕ) × (slice_get left m ≡ Some one)

  pub without_none : WithoutTo 0 []
  without_none = record { each = λ k one there. absurd (none-some one there); all = λ k one lt. absurd (omega arith) }

  module _ (n : ℕ) (left : List OpenClientCall) (before : WithoutTo n left) (one : OpenClientCall) (at : slice_get running n ≡ Some one) where
    -- one more open call that is left
    pub without_more : (Stands over one.index → ⊥) → WithoutTo (n + 1) (left ++ one ∷ [])
    without_more stays = record {
      each = λ k other there. ⊎_elim (λ old. before.each old.0 other old.1) (λ e. subst (λ (o : OpenClientCall). ((m : ℕ) × (slice_get running m ≡ Some o)) × (Stands over o.index → ⊥)) (sym e) ((n, at), stays)) (has_push left one other (k, there));
      all = λ k other lt there not. ⊎_elim
          (λ below. has_left left (one ∷ []) other (before.all k other below there not))
          (λ e. subst (λ (o : OpenClientCall). (m : ℕ) × (slice_get (left ++ one ∷ []) m ≡ Some o)) (sym (get_one running k n other one e there at)) (has_last left one))
          (last_place k n lt);
    }

    -- one more open call that is over
    pub without_same : Stands over one.index → WithoutTo (n + 1) left
    without_same is = record {
      each = before.each;
      all = λ k other lt there not. ⊎_elim
          (λ below. before.all k other below there not)
          (λ e. absurd (not (subst (λ (o : OpenClientCall). Stands over o.index) (sym (get_one running k n other one e there at)) is)))
          (last_place k n lt);
    }

  pub without_all : (n : ℕ) (left : List OpenClientCall) → WithoutTo n left → length running ≤ n → AreWithout running over left
  without_all n left to past = record {
    each = to.each;
    all = λ k one there not. let within = slice_get_within running k one there in to.all k one (omega arith) there not;
  }
