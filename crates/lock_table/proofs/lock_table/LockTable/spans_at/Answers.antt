use Rattle.std.proofs.Common.{◌≡◌, ◌<◌, [], get_or, length, sym}
use Rattle.lock_table.specs.rule.Tables.{all_rows}
use Rattle.lock_table.specs.code.Rows.{rows_before, IsRowIn, IsGapIn}
use Rattle.lock_table.proofs.RowLemmas.{held-at, held-gap, place_below, blocks_are}
use Rattle.lock_table.proofs.BlockRows.{row_whole, row_read}
use Rattle.lock_table.proofs.lock_table.LockTable.spans_at.Goals as goal

pub returns-in-Ok-clause-held : goal.returns-in-Ok-clause-held
returns-in-Ok-clause-held c = λ file owner placed.
    let blocks = c.self.inside.blocks.items in
    let at : IsRowIn blocks c.in-Ok.place file owner = rw (blocks_are c.self.inside.blocks.items c.self.inside.limit c.args.self.now c.self.view_is) (rw c.in-Ok.is at placed) in
    let read : c.row_at.result.now ≡ get_or (get_or blocks c.in-Ok.place.block []) c.in-Ok.place.row c.row_at.result.now = rw (← c.deref.ensures.value) c.row_at.ensures in
    rw (← (blocks_are c.self.inside.blocks.items c.self.inside.limit c.args.self.now c.self.view_is)) (sym (held-at (all_rows blocks) (rows_before blocks c.in-Ok.place) file owner c.row_at.result.now (row_whole blocks c.in-Ok.place file owner c.self.invariant.0 at) (row_read blocks c.in-Ok.place c.row_at.result.now (place_below _ _ _ _ at) read)))

pub returns-in-Err-clause-held : goal.returns-in-Err-clause-held
returns-in-Err-clause-held c = λ file owner placed.
    let gap : IsGapIn c.args.self.now.blocks c.in-Err.field-0 file owner = rw c.in-Err.is at placed in
    sym (held-gap _ _ _ _ gap.gap)
