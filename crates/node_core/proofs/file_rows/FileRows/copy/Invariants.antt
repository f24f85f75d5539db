use Rattle.std.proofs.Common.{◌≡◌, ◌≤◌, take}
use Rattle.std.specs.Vec.{vec_capacity}
use Rattle.node_core.proofs.file_rows.FileRows.copy.Given as goal

abbrev pub invariant-loop-row : goal.invariant-loop-row
invariant-loop-row l = record { items : l.rows.items ≡ take l.row-index l.row-items; places : l.self-inside.count ≤ vec_capacity l.rows }
