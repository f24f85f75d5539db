use Rattle.std.proofs.Common.{List}
use Rattle.std.specs.List.{remove}
use Rattle.lock_table.specs.declared.owner_locks.OwnerLocks.{OwnerLocks}
use Rattle.lock_table.specs.code.Rows.{IsRowAt, IsGap, rows_before, IsRowIn, IsGapIn}
use Rattle.lock_table.specs.rule.Tables.{all_rows, rows_held}
use Rattle.lock_table.proofs.RowLemmas.{held-remove, held-same, rows-remove, place_below, blocks_are}
use Rattle.lock_table.proofs.BlockRows.{row_whole}
use Rattle.lock_table.proofs.PageLemmas.{covers-without}
use Rattle.lock_table.proofs.lock_table.LockTable.drop_owner.Goals as goal

pub remove_row-requires-clause-within : goal.remove_row-requires-clause-within
remove_row-requires-clause-within c =
    let blocks = c.self.inside.blocks.items in
    let at : IsRowIn blocks c.in-Ok.place c.args.file c.args.owner = rw (← c.deref.ensures.value) c.in-Ok.ensures in
    place_below _ _ _ _ at

pub invariant_of-self : goal.invariant_of-self
invariant_of-self c =
    let blocks = c.self.inside.blocks.items in
    let rows = all_rows blocks in
    let i = rows_before blocks c.in-Ok.place in
    let at : IsRowIn blocks c.in-Ok.place c.args.file c.args.owner = rw (← c.deref.ensures.value) c.in-Ok.ensures in
    let row : IsRowAt rows i c.args.file c.args.owner = row_whole blocks c.in-Ok.place c.args.file c.args.owner c.self.invariant.0 at in
    rw c.remove_row.ensures.rows (rows-remove rows i c.self.invariant.0, c.remove_row.ensures.some, covers-without c.self.inside.index (rows_held rows) (rows_held (remove rows i)) c.args.file c.args.owner (held-remove rows i c.args.file c.args.owner c.self.invariant.0 row) c.self.invariant.2)

pub returns-in-Ok-clause-locks : goal.returns-in-Ok-clause-locks
returns-in-Ok-clause-locks c =
    let blocks = c.self.inside.blocks.items in
    let at : IsRowIn blocks c.in-Ok.place c.args.file c.args.owner = rw (← c.deref.ensures.value) c.in-Ok.ensures in
    let row = row_whole blocks c.in-Ok.place c.args.file c.args.owner c.self.invariant.0 at in
    rw (c.remove_row.ensures.rows, ← (blocks_are c.self.inside.blocks.items c.self.inside.limit c.args.self.now c.self.view_is)) (λ j f o. held-remove _ _ _ _ c.self.invariant.0 row f o j)

pub returns-in_default-clause-locks : goal.returns-in_default-clause-locks
returns-in_default-clause-locks c =
    let gap : IsGapIn c.args.self.now.blocks c.in_default.field-0 c.args.file c.args.owner = rw (← (blocks_are c.self.inside.blocks.items c.self.inside.limit c.args.self.now c.self.view_is), ← c.deref.ensures.value) c.in_default.ensures in
    λ j f o. held-same _ _ _ _ gap.gap f o j
