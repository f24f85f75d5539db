-- What a front knows after it asked some calls.
use Rattle.std.specs.Prelude.{IfSome}
use Rattle.std.proofs.Common.{◌≡◌, ℕ, ◌+◌, ◌<◌, ◌≤◌, ◌⊎◌, inl, inr, ⊎_elim, Bool, true, false, List, length, slice_get, Option, None, Some, refl, sym, ap, subst, ◌∙◌, arith}
use Rattle.std.proofs.lemmas.Option.{same_Some, slice_get_within}
use Rattle.model.specs.rule.Locks.{Locks}
use Rattle.lock_table.specs.rule.Tables.{held}
use Rattle.client_history.specs.declared.open_client_call.OpenClientCall.{OpenClientCall}
use Rattle.client_history.specs.declared.search_front.SearchFront.{SearchFront}
use Rattle.client_history.specs.rule.Explained.{ActStep, the_file, Stands}
use Rattle.client_history.specs.code.Moves.{AsksOnly}
use Rattle.client_history.specs.code.OpenCalls.{IsLeft}
use Rattle.client_history.specs.code.Search.{IsAskedOf, IsAsked}
use Rattle.client_history.specs.code.Taken.{IsAlsoTaken}
use Rattle.client_history.proofs.Orders.{last_place}
use Rattle.client_history.proofs.OwnQuestions.{asks_same}

module _ (one : OpenClientCall) (old new : SearchFront) (asks : AsksOnly one.call.act) where
  -- after a front took a call that only asks, it asked the call
  pub taken_asked : ActStep the_file (held old.table) one.call.owner one.call.act (held new.table) → IsAlsoTaken one.index old.taken.items new.taken.items → IsAsked one old new
  taken_asked step also =
      let same : held new.table ≡ held old.table = asks_same (held old.table) (held new.table) one.call.owner one.call.act asks step in
      record {
        locks = same;
        kept = also.kept;
        added = λ i s. ⊎_elim (λ e. inr (sym e, asks, subst (λ (h : Locks). ActStep the_file (held old.table) one.call.owner one.call.act h) same step)) (λ was. inl was) (also.added i s);
        asked = λ left asked next stepped. absurd (left.stays also.there);
      }

  -- after the table did not allow a call, the front asked the call
  pub refused_asked : ((next : Locks) → ActStep the_file (held old.table) one.call.owner one.call.act next → ⊥) → held new.table ≡ held old.table → new.taken.items ≡ old.taken.items → IsAsked one old new
  refused_asked never locks taken = record {
    locks = locks;
    kept = λ i s. subst (λ (xs : List ℕ). Stands xs i) (sym taken) s;
    added = λ i s. inl (subst (λ (xs : List ℕ). Stands xs i) taken s);
    asked = λ left asked next step. never next step;
  }

  pub asked_by : (did : Bool)
      → (did ≡ true → ActStep the_file (held old.table) one.call.owner one.call.act (held new.table))
      → (did ≡ true → IsAlsoTaken one.index old.taken.items new.taken.items)
      → (did ≡ false → (next : Locks) → ActStep the_file (held old.table) one.call.owner one.call.act next → ⊥)
      → (did ≡ false → (held new.table ≡ held old.table) × (new.taken.items ≡ old.taken.items))
      → IsAsked one old new
  asked_by true step also never stays = taken_asked (step refl) (also refl)
  asked_by false step also never stays = refused_asked (never refl) (stays refl).0 (stays refl).1

-- a call that is left where more were taken is left where fewer were
pub left_before : (one : OpenClientCall) (taken more : List ℕ) → ((i : ℕ) → Stands taken i → Stands more i) → IsLeft one more → IsLeft one taken
left_before one taken more kept left = record {
  stays = λ s. left.stays (kept one.index s);
  lives = by one.exit left.lives;
}
  where
    by : (exit : Option ℕ) → IfSome exit (λ e. Stands more e → ⊥) → IfSome exit (λ e. Stands taken e → ⊥)
    by None lives = tt
    by (Some e) lives = λ s. lives (kept e s)

-- the front asked the calls before the n-th
pub record IsAskedTo (running : List OpenClientCall) (n : ℕ) (old new : SearchFront) : Type 0 where
  pub locks : held new.table ≡ held old.table
  pub kept : (i : ℕ) → Stands old.taken.items i → Stands new.taken.items i
  pub added : (i : ℕ) → Stands new.taken.items i → Stands old.taken.items i ⊎ ((k : ℕ) × (one : OpenClientCall) × (slice_get running k ≡ Some one) × (one.index ≡ i) × AsksOnly one.call.act × ActStep the_file (held old.table) one.call.owner one.call.act (held old.table))
  pub asked : (k : ℕ) (one : OpenClientCall) → k < n → slice_get running k ≡ Some one → IsLeft one new.taken.items → AsksOnly one.call.act → (next : Locks) → ActStep the_file (held old.table) one.call.owner one.call.act next → ⊥

module _ (running : List OpenClientCall) (old new : SearchFront) where
  -- after the front asked all places, it asked the calls
  pub asked_all : (n : ℕ) → length running ≤ n → IsAskedTo running n old new → IsAskedOf running old new
  asked_all n all to = record {
    locks = to.locks;
    kept = to.kept;
    added = to.added;
    asked = λ k one at. let within = slice_get_within running k one at in to.asked k one (omega arith) at;
  }

  -- the front asks one call more
  pub asked_more : (mid : SearchFront) (k : ℕ) (call : OpenClientCall) → slice_get running k ≡ Some call → IsAskedTo running k old mid → IsAsked call mid new → IsAskedTo running (k + 1) old new
  asked_more mid k call there to asks = record {
    locks = asks.locks ∙ to.locks;
    kept = λ i s. asks.kept i (to.kept i s);
    added = λ i s. ⊎_elim (λ was. to.added i was) (λ is. inr (k, call, there, is.0, is.1, subst (λ (h : Locks). ActStep the_file h call.call.owner call.call.act h) to.locks is.2)) (asks.added i s);
    asked = λ j one lt at left only next step. ⊎_elim
        (λ before. to.asked j one before at (left_before one mid.taken.items new.taken.items asks.kept left) only next step)
        (λ e. let same : call ≡ one = same_Some call one (sym there ∙ ap (slice_get running) (sym e) ∙ at) in
        subst (λ (o : OpenClientCall). IsLeft o new.taken.items → AsksOnly o.call.act → (to_locks : Locks) → ActStep the_file (held old.table) o.call.owner o.call.act to_locks → ⊥) same
        (subst (λ (h : Locks). IsLeft call new.taken.items → AsksOnly call.call.act → (to_locks : Locks) → ActStep the_file h call.call.owner call.call.act to_locks → ⊥) to.locks asks.asked) left only next step)
        (last_place j k lt);
  }
