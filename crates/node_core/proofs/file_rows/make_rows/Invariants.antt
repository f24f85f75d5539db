use Rattle.std.proofs.Common.{◌≡◌, ℕ, ◌-◌, ◌≤◌, length}
use Rattle.std.specs.Vec.{vec_capacity}
use Rattle.node_core.specs.code.Plans.{rows_of}
use Rattle.node_core.proofs.file_rows.make_rows.Given as goal

abbrev pub invariant-loop-alloc : goal.invariant-loop-alloc
invariant-loop-alloc l = record {
  same : (n : ℕ) → rows_of n l.rows.items ≡ rows_of n l.fn.rows.items;
  capacity : vec_capacity l.fn.rows ≤ vec_capacity l.rows;
}

abbrev pub decreases-loop-alloc : goal.decreases-loop-alloc
decreases-loop-alloc l = l.file - length l.rows.items
