use Rattle.std.specs.Prelude.{◌≡◌, ℕ, ◌≤◌, false}
use Rattle.token_server.specs.code.Edits.{reached}
use Rattle.token_server.proofs.GrantLaws.{conflicts_at}
use Rattle.token_server.proofs.server.Server.conflicting_node.Given as goal

abbrev pub invariant-loop-place : goal.invariant-loop-place
invariant-loop-place l = (n : ℕ) → 1 ≤ n → n ≤ l.place → conflicts_at (reached l.self l.rows) l.request n ≡ false
