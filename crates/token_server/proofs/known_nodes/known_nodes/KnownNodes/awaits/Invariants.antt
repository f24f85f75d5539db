use Rattle.std.specs.Prelude.{◌≡◌, ℕ, ◌≤◌, false}
use Rattle.token_server.specs.rule.Rows.{is_awaited}
use Rattle.token_server.specs.code.Rows.{rows_overlaid}
use Rattle.token_server.proofs.known_nodes.known_nodes.KnownNodes.awaits.Given as goal

abbrev pub invariant-loop-place : goal.invariant-loop-place
invariant-loop-place l = (n : ℕ) → 1 ≤ n → n ≤ l.place → is_awaited (rows_overlaid l.self l.edit n) ≡ false
