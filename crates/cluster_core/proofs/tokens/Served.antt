-- Each step of the cluster keeps the locks of its nodes covered.
use Rattle.std.proofs.Common.{◌≡◌, ℕ, ◌+◌, Ok, if◌then◌else◌}
use Rattle.messages.specs.declared.event.Event.{Event}
use Rattle.messages.specs.declared.entry.Entry.{Entry}
use Rattle.node_core.specs.rule.State.{first_node}
use Rattle.cluster_core.specs.rule.World.{WorldState}
use Rattle.cluster_core.specs.rule.Next.{next}
use Rattle.cluster_core.specs.rule.Safe.{AreCovered}
use Rattle.cluster_core.proofs.common.Choices.{at_number}
use Rattle.cluster_core.proofs.steps.Steps.{next_step}
use Rattle.cluster_core.proofs.tokens.Covering.{Covered, OwnLocks, first_covered, node_rule_covered}

pub next_covered : (w : WorldState) (event : Event) (q : WorldState × Entry) → ((n : ℕ) → OwnLocks (w.nodes n)) → ((n : ℕ) → Covered (w.nodes n)) → next w event ≡ Ok q → (n : ℕ) → Covered (q.0.nodes n)
next_covered w event q own covered h =
    next_step w (λ p. (n : ℕ) → Covered (p.0.nodes n)) event q
    (λ n step done is m. at_number m n (λ b. Covered (if b then done.0 else w.nodes m)) (λ same. node_rule_covered (w.nodes n) done.0 step done.1 is (own n) (covered n)) (λ other. covered m))
    (λ file step done is. covered)
    (λ k is alive m. at_number m k (λ b. Covered (if b then first_node w.shape k ((w.nodes k).incarnation + 1) else w.nodes m)) (λ same. first_covered w.shape k ((w.nodes k).incarnation + 1)) (λ other. covered m))
    (λ k is dead few. covered)
    (λ f is works. covered)
    (λ f is stopped few. covered) h

-- where the locks of each node are covered, those of the world are
pub all_covered : (w : WorldState) → ((n : ℕ) → Covered (w.nodes n)) → AreCovered w
all_covered w covered n file o b mode there held = covered n file o b mode held
