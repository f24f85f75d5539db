-- An order explains a history exactly if each test passes.
use Rattle.std.proofs.Common.{◌≡◌, ℕ, zero, suc, Bool, List, [], ◌∷◌, length, slice_get, Some, subst}
use Rattle.std.proofs.lemmas.Option.{none-some, same_Some, slice_get_within}
use Rattle.model.specs.rule.Locks.{Locks, no_locks}
use Rattle.client_history.specs.declared.client_call.ClientCall.{ClientCall}
use Rattle.client_history.specs.rule.Explained.{AreWithin, Leads, AreAnswered, IsExplainedBy}
use Rattle.client_history.specs.code.Moves.{AreMarks, AreMarked}

-- each index of an order that leads somewhere is that of a call
within_legal : (calls : List ClientCall) (h m : Locks) (order : List ℕ) → Leads calls h order m → AreWithin (length calls) order
within_legal calls h m [] leads k i at = absurd (none-some i at)
within_legal calls h m (first ∷ rest) leads zero i at = slice_get_within calls i leads.0 (subst (λ (n : ℕ). slice_get calls n ≡ Some leads.0) (same_Some first i at) leads.2)
within_legal calls h m (first ∷ rest) leads (suc k) i at = within_legal calls leads.1 m rest leads.4 k i at

pub within_explained : (time : ℕ) (calls : List ClientCall) (order : List ℕ) → IsExplainedBy time calls order → AreWithin (length calls) order
within_explained time calls order all = within_legal calls no_locks all.legal.0 order all.legal.1

module _ (calls : List ClientCall) (order : List ℕ) (marks : List Bool) (are : AreMarks order (length calls) marks) (time : ℕ) where
  -- if each call with a reply is marked, it stands
  pub answered : AreMarked time calls marks → AreAnswered time calls order
  answered marked i call there ended = are.marked i (marked i call there ended)

  -- if each call with a reply stands, it is marked
  pub are_marked : AreAnswered time calls order → AreMarked time calls marks
  are_marked all i call there ended = are.noted i (all i call there ended)
