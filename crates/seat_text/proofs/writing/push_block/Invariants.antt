use Rattle.std.proofs.Common.{◌≡◌, ◌++◌, ℕ, List, [], string_bytes, take}
use Rattle.std.specs.List.{fold}
use Rattle.seat_text.specs.rule.Blocks.{written}
use Rattle.seat_text.proofs.writing.push_block.Given as goal

abbrev pub invariant-loop-step : goal.invariant-loop-step
invariant-loop-step l =
    (text : List ℕ) × (fold (written l.tag) (l.fn.ledger, []) (take l.step-index l.steps) ≡ (l.ledger, text)) × (string_bytes l.out ≡ string_bytes l.fn.out ++ text)
