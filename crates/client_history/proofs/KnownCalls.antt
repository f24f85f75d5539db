-- The facts of owners that their calls give.
use Rattle.std.proofs.Common.{◌≡◌, ℕ, ◌≤◌, max, ◌⊎◌, inl, inr, ⊎_elim, Bool, true, false, cond, List, Option, Some, None, IfSome, refl, sym, ap, subst, ◌∙◌, arith}
use Rattle.std.proofs.lemmas.Bool.{cases_order}
use Rattle.std.proofs.lemmas.Option.{none-some, same_Some}
use Rattle.model.specs.declared.owner.Owner.{Owner}
use Rattle.model.specs.contracts.owner.OwnerPartialEq.TheImpl as derived
use Rattle.client_history.specs.declared.client_call.ClientCall.{ClientCall}
use Rattle.client_history.specs.declared.owner_calls.OwnerFacts.{OwnerFacts}
use Rattle.client_history.specs.code.Moves.{IsBeginOf}
use Rattle.client_history.specs.code.OpenCalls.{IsExitOfOwner, HasAnswerFrom, IsKnownOf}
use Rattle.client_history.proofs.Owners.{eq_exact}

-- before any call nothing is known, which is true
pub nothing_known : (calls : List ClientCall) (owner : Owner) → IsKnownOf calls owner (record { exit = None; latest = 0 })
nothing_known calls owner = record { exit = λ exit e. absurd (none-some exit e); latest = inl refl }

-- the exit that is known is one of the owner
pub exit_known : (calls : List ClientCall) (owner : Owner) (exit : Option ℕ) → ((it : ℕ) → exit ≡ Some it → IsExitOfOwner calls it owner) → IfSome exit (λ it. IsExitOfOwner calls it owner)
exit_known calls owner None h = tt
exit_known calls owner (Some it) h = h it refl

-- a number no greater than the greater of two is no greater than one of them
pub low_or_high : (a b c : ℕ) → c ≤ max a b → c ≤ a ⊎ c ≤ b
low_or_high a b c low = ⊎_elim (λ e. inl (omega arith)) (⊎_elim (λ less. inr (omega arith)) (λ more. inl (omega arith))) (cases_order a b)

-- the greater of two is one of them
pub one_of : (a b : ℕ) → (max a b ≡ a) ⊎ (max a b ≡ b)
one_of a b = ⊎_elim (λ e. inl (omega arith)) (⊎_elim (λ less. inr (omega arith)) (λ more. inl (omega arith))) (cases_order a b)

-- the later of a known begin and that of a call with a reply is a known begin
pub latest_known : (calls : List ClientCall) (owner : Owner) (latest begin : ℕ)
    → (latest ≡ 0) ⊎ HasAnswerFrom calls owner latest → HasAnswerFrom calls owner begin → (max latest begin ≡ 0) ⊎ HasAnswerFrom calls owner (max latest begin)
latest_known calls owner latest begin before new = ⊎_elim
    (λ e. subst (λ (t : ℕ). (t ≡ 0) ⊎ HasAnswerFrom calls owner t) (sym e) before)
    (λ e. inr (subst (HasAnswerFrom calls owner) (sym e) new))
    (one_of latest begin)

-- the facts stay true where one owner has new ones
module _ (calls : List ClientCall) (key : Owner) (new : OwnerFacts) (old now : Owner → Option OwnerFacts) where
  pub one_more_known : ((owner : Owner) → now owner ≡ cond (derived.ghosts.eq key owner) (Some new) (old owner))
      → IsKnownOf calls key new
      → ((owner : Owner) (known : OwnerFacts) → old owner ≡ Some known → IsKnownOf calls owner known)
      → (owner : Owner) (known : OwnerFacts) → now owner ≡ Some known → IsKnownOf calls owner known
  one_more_known updates is before owner known e = by (derived.ghosts.eq key owner) refl
    where
      by : (b : Bool) → derived.ghosts.eq key owner ≡ b → IsKnownOf calls owner known
      by true same =
          let one : new ≡ known = same_Some new known (sym (updates owner ∙ ap (λ (b : Bool). cond b (Some new) (old owner)) same) ∙ e) in
          subst (λ (k : OwnerFacts). IsKnownOf calls owner k) one (subst (λ (o : Owner). IsKnownOf calls o new) (eq_exact key owner same) is)
      by false other = before owner known (sym (updates owner ∙ ap (λ (b : Bool). cond b (Some new) (old owner)) other) ∙ e)

-- the begin of a call is one from which it may be looked at
pub begins_itself : (calls : List ClientCall) (call : ClientCall) → ((end : ℕ) → call.end ≡ Some end → call.begin ≤ end) → IsBeginOf calls call call.begin
begins_itself calls call ordered = record { begun = omega arith; before_end = ordered; latest = inl refl }

-- an exit may be looked at from a time between its begin and its end, no later than the later of its begin and a known begin
pub exit_begins : (calls : List ClientCall) (call : ClientCall) (latest time : ℕ)
    → call.is_last ≡ true
    → (latest ≡ 0) ⊎ HasAnswerFrom calls call.owner latest
    → call.begin ≤ time
    → time ≤ call.begin ⊎ time ≤ latest
    → ((end : ℕ) → call.end ≡ Some end → time ≤ end)
    → IsBeginOf calls call time
exit_begins calls call latest time last known begun bound before_end = record {
  begun = begun;
  before_end = before_end;
  latest = ⊎_elim
      (λ low. inl (omega arith))
      (λ low. ⊎_elim
      (λ zero. inl (omega arith))
      (λ h. let late : time ≤ h.call.begin = omega (arith, h.begun) in inr (last, record { index = h.index; other = h.call; there = h.there; own = h.own; answered = h.answered; late = late }))
      known)
      bound;
}
