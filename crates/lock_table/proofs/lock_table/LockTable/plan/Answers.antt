use Rattle.lock_table.proofs.BlockRows.{placed_row}
use Rattle.lock_table.proofs.RowLemmas.{blocks_are}
use Rattle.lock_table.proofs.lock_table.LockTable.plan.Goals as goal

pub spans_at-own-requires : goal.spans_at-own-requires
spans_at-own-requires c = rw (← (blocks_are c.self.inside.blocks.items c.self.inside.limit c.args.self.now c.self.view_is), ← c.deref.ensures.value) (placed_row c.deref.result.now c.position-place.result c.args.file c.args.owner c.position-place.ensures)
