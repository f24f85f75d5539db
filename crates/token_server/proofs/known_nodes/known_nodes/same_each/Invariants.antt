use Rattle.std.specs.Prelude.{ℕ, ◌<◌, slice_get}
use Rattle.token_server.specs.rule.RowParts.{SameKnown}
use Rattle.token_server.proofs.known_nodes.known_nodes.same_each.Given as goal

abbrev pub invariant-loop-i : goal.invariant-loop-i
invariant-loop-i l = (k : ℕ) → k < l.i → SameKnown (slice_get l.one k) (slice_get l.other k)
