use Rattle.std.proofs.Common.{◌≡◌, ◌≤◌, ℕ, true, []}
use Rattle.cluster_core.specs.rule.Parts.{world_state}
use Rattle.cluster_core.specs.rule.World.{is_alive}
use Rattle.player.proofs.rounds.has_open.Given as goal

abbrev pub invariant-loop-index : goal.invariant-loop-index
invariant-loop-index l = (n : ℕ) → n ≤ l.index → is_alive (world_state l.world) n ≡ true → ((world_state l.world).nodes n).pending ≡ []
