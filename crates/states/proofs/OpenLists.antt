-- The open calls, node by node.
use Rattle.std.specs.Prelude.{◌≡◌, ℕ, Bool, true, false, if◌then◌else◌, List, [], ◌++◌}
use Rattle.std.proofs.Common.{ap, ◌∙◌, sym}
use Rattle.std.proofs.lemmas.Bool.{and_from}
use Rattle.std.proofs.lemmas.List.{append-nil}
use Rattle.node_core.specs.declared.open_call.OpenCall.{OpenCall}
use Rattle.node_core.specs.rule.State.{NodeState}
use Rattle.cluster_core.specs.rule.World.{WorldState, has_node, is_alive}
use Rattle.cluster_core.specs.rule.Actors.{HasNode}
use Rattle.states.specs.rule.States.{open_on}

-- a node that is not alive adds none
pub open_dead : (w : WorldState) (n : ℕ) (old : List OpenCall) → is_alive w n ≡ false → old ≡ old ++ open_on w n
open_dead w n old dead = sym (ap (λ (b : Bool). old ++ (if b then (w.nodes n).pending else [])) dead ∙ append-nil old)

-- a live node adds its own
pub open_live : (w : WorldState) (n : ℕ) (s : NodeState) → HasNode w n s → s.pending ≡ open_on w n
open_live w n s has =
    let alive : is_alive w n ≡ true = and_from (has_node w n) (w.alive n) has.number has.alive in
    ap (λ (q : NodeState). q.pending) (sym has.state) ∙ sym (ap (λ (b : Bool). if b then (w.nodes n).pending else []) alive)
