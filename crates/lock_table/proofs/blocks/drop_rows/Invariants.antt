use Rattle.std.proofs.Common.{◌≡◌, ◌++◌, map, take, drop}
use Rattle.std.specs.List.{filter}
use Rattle.lock_table.proofs.RowLemmas.{is_of_other}
use Rattle.lock_table.proofs.blocks.drop_rows.Given as goal

abbrev pub invariant-loop-at : goal.invariant-loop-at
invariant-loop-at l = l.blocks.items ≡ map (filter (is_of_other l.owner)) (take l.at l.initial.blocks.items) ++ drop l.at l.initial.blocks.items
