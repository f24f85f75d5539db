use Rattle.std.proofs.Common.{◌≡◌, ◌++◌, flat_map, string_bytes, take}
use Rattle.states.specs.rule.Texts.{row_token_line}
use Rattle.states.proofs.state_text.push_row_token.Given as goal

abbrev pub invariant-loop-run : goal.invariant-loop-run
invariant-loop-run l = string_bytes l.out ≡ string_bytes l.fn.out ++ flat_map (row_token_line l.file l.row) (take l.run-index l.runs)
