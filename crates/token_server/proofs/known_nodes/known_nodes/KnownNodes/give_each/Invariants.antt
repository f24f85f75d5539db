use Rattle.std.specs.Prelude.{◌≡◌, ℕ, length}
use Rattle.token_server.specs.rule.RowParts.{deaths_of}
use Rattle.token_server.specs.code.Rows.{given_rows}
use Rattle.token_server.proofs.known_nodes.known_nodes.KnownNodes.give_each.Given as goal

-- making the new rows that are left leads to what making all leads to
abbrev pub invariant-loop-last : goal.invariant-loop-last
invariant-loop-last l =
    ((n : ℕ) → given_rows l.given.items l.self n ≡ given_rows l.fn.given.items l.fn.self n)
    × (deaths_of l.self ≡ deaths_of l.fn.self)
    × (length l.self ≡ length l.fn.self)

abbrev pub decreases-loop-last : goal.decreases-loop-last
decreases-loop-last l = length l.given.items
