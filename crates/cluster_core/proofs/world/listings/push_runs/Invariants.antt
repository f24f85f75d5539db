use Rattle.std.proofs.Common.{◌≡◌, ◌++◌, map, take}
use Rattle.cluster_core.specs.rule.Listings.{token_run}
use Rattle.cluster_core.proofs.world.listings.push_runs.Given as goal

abbrev pub invariant-loop-run : goal.invariant-loop-run
invariant-loop-run l = l.tokens.items ≡ l.initial.tokens.items ++ map (token_run l.node l.incarnation l.file) (take l.run-index l.runs)
