-- The look-up of a run's calls by their names.
use Rattle.std.proofs.Common.{◌≡◌, ℕ, zero, suc, ◌+◌, Bool, true, false, cond, refl, sym, ◌∙◌, ap, List, [], ◌∷◌, ◌++◌, length, Option, Some, None}
use Rattle.std.proofs.lemmas.Bool.{false≢true}
use Rattle.model.specs.declared.call.CallId.{CallId}
use Rattle.model.specs.declared.op.Op.{Op}
use Rattle.messages.specs.declared.event.Event.{Event}
use Rattle.messages.specs.declared.event.Event.TheVariants.{AtNode, AtServer, Deliver, Member}
use Rattle.messages.specs.declared.event.NodeInput.TheVariants.{Call, Interrupt, Retry}
use Rattle.messages.specs.declared.entry.Entry.{Entry}
use Rattle.messages.proofs.SameMessages.{call_exact, call_refl}
use Rattle.cluster_core.specs.rule.Histories.{IsCalledAt}
use Rattle.cluster_core.specs.code.Calls.{is_named, called_by, find_call}
use Rattle.cluster_core.proofs.history.Entries.{IsNamed, called_at-keeps, called_at-last}

named_is : (id : CallId) (o : Option CallId) → is_named id o ≡ true → o ≡ Some id
named_is id None h = absurd (false≢true h)
named_is id (Some other) h = ap Some (sym (call_exact id other h))

is_named-itself : (id : CallId) (o : Option CallId) → o ≡ Some id → is_named id o ≡ true
is_named-itself id o h = rw h (call_refl id)

-- a call that is found is found in each longer run
go_on : (b : Bool) (event : Event) (x y : Option (ℕ × Op)) (c : ℕ × Op) → (x ≡ Some c → y ≡ Some c) → cond b (called_by event x) x ≡ Some c → cond b (called_by event y) y ≡ Some c
go_on true (AtNode node (Call pid op)) x y c h e = e
go_on true (AtNode node (Interrupt pid)) x y c h e = h e
go_on true (AtNode node (Retry pid)) x y c h e = h e
go_on true (AtServer file input) x y c h e = h e
go_on true (Deliver m) x y c h e = h e
go_on true (Member event) x y c h e = h e
go_on false event x y c h e = h e

pub find_call-keeps : (es fs : List Entry) (id : CallId) (c : ℕ × Op) → find_call es id ≡ Some c → find_call (es ++ fs) id ≡ Some c
find_call-keeps [] fs id c e = cc
find_call-keeps (d ∷ ds) fs id c e = go_on (is_named id d.call) d.event (find_call ds id) (find_call (ds ++ fs) id) c (find_call-keeps ds fs id c) e

-- a call that no entry names is looked up in the entries behind them
pub find_call-after : (es fs : List Entry) (id : CallId) → (IsNamed es id → ⊥) → find_call (es ++ fs) id ≡ find_call fs id
find_call-after [] fs id none = refl
find_call-after (d ∷ ds) fs id none =
    let later = find_call-after ds fs id (λ n. none (record { place = suc n.place; naming = n.naming; there = n.there; named = n.named })) in
    elim (is_named id d.call) as (λ b. is_named id d.call ≡ b → cond b (called_by d.event (find_call (ds ++ fs) id)) (find_call (ds ++ fs) id) ≡ find_call fs id) [
      | true ↦ λ h. absurd (none (record { place = zero; naming = d; there = refl; named = named_is id d.call h }))
      | false ↦ λ h. later
    ] refl

-- a call that stands in the run, and is found there
pub record Called (es : List Entry) (id : CallId) (pid : ℕ) (op : Op) : Type 0 where
  pub at : ℕ
  pub there : IsCalledAt es id pid op at
  pub found : find_call es id ≡ Some (pid, op)

pub called-keeps : (es fs : List Entry) (id : CallId) (pid : ℕ) (op : Op) → Called es id pid op → Called (es ++ fs) id pid op
called-keeps es fs id pid op c = record { at = c.at; there = called_at-keeps es fs id pid op c.at c.there; found = find_call-keeps es fs id (pid, op) c.found }

pub called-last : (es : List Entry) (e : Entry) (id : CallId) (pid : ℕ) (op : Op) → e.event ≡ AtNode id.node (Call pid op) → e.call ≡ Some id → (IsNamed es id → ⊥) → Called (es ++ e ∷ []) id pid op
called-last es e id pid op event named fresh = record {
  at = length es + 1;
  there = called_at-last es e id pid op event named;
  found =
      find_call-after es (e ∷ []) id fresh
      ∙ ap (λ b. cond b (called_by e.event None) None) (is_named-itself id e.call named)
      ∙ ap (λ (x : Event). called_by x None) event;
}
