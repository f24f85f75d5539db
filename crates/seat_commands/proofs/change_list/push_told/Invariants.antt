use Rattle.std.proofs.Common.{◌≡◌, ◌++◌, string_bytes, take}
use Rattle.seat_commands.specs.rule.Changes.{told_lines}
use Rattle.seat_commands.proofs.change_list.push_told.Given as goal

abbrev pub invariant-loop-change : goal.invariant-loop-change
invariant-loop-change l = string_bytes l.out ≡ string_bytes l.fn.out ++ told_lines (take l.change-index l.changes)
