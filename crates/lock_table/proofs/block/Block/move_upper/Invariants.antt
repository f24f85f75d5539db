use Rattle.std.proofs.Common.{◌≡◌, ◌≤◌, ◌+◌, take, drop, reverse, length}
use Rattle.std.specs.Vec.{vec_len, vec_capacity}
use Rattle.lock_table.proofs.block.Block.move_upper.Given as goal

abbrev pub invariant-loop-self : goal.invariant-loop-self
invariant-loop-self l = record {
  kept : l.kept ≤ vec_len l.self-inside.rows;
  few : vec_len l.self-inside.rows ≤ length l.initial.self-inside.rows.items;
  lower : l.self-inside.rows.items ≡ take (vec_len l.self-inside.rows) l.initial.self-inside.rows.items;
  upper : l.upper-inside.rows.items ≡ reverse (drop (vec_len l.self-inside.rows) l.initial.self-inside.rows.items);
  capacity : 64 ≤ vec_capacity l.self-inside.rows;
  room : 64 ≤ vec_capacity l.upper-inside.rows;
}

abbrev pub decreases-loop-self : goal.decreases-loop-self
decreases-loop-self l = vec_len l.self-inside.rows
