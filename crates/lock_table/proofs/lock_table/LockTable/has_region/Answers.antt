use Rattle.std.proofs.Common.{◌≡◌, [], get_or, sym, ap, subst, arith, ℕ, Option}
use Rattle.std.specs.Prelude.{◌↔◌, IsTrue}
use Rattle.std.proofs.lemmas.Bool.{false≢true}
use Rattle.intervals.specs.rule.Bytes.{IsRun}
use Rattle.model.specs.declared.mode.Mode.{Mode}
use Rattle.lock_table.specs.rule.Tables.{all_rows}
use Rattle.lock_table.specs.code.Rows.{rows_before, IsRowIn, IsGapIn}
use Rattle.lock_table.proofs.RowLemmas.{held-gap, held-at, place_below, blocks_are}
use Rattle.lock_table.proofs.BlockRows.{row_whole, row_read}
use Rattle.lock_table.proofs.lock_table.LockTable.has_region.Goals as goal

pub row_at-requires : goal.row_at-requires
row_at-requires c =
    let at : IsRowIn c.self.inside.blocks.items c.in-Ok.place c.args.file c.args.lock.now.owner = rw (← c.deref.ensures.value) c.in-Ok.ensures in
    rw c.deref-in-Ok.ensures.value (place_below _ _ _ _ at)

pub returns-in-Ok : goal.returns-in-Ok
returns-in-Ok c =
    let blocks = c.self.inside.blocks.items in
    let owner = c.args.lock.now.owner in
    let at : IsRowIn blocks c.in-Ok.place c.args.file owner = rw (← c.deref.ensures.value) c.in-Ok.ensures in
    let read : c.row_at.result.now ≡ get_or (get_or blocks c.in-Ok.place.block []) c.in-Ok.place.row c.row_at.result.now = rw (← c.deref-in-Ok.ensures.value) c.row_at.ensures in
    let held_here = held-at (all_rows blocks) (rows_before blocks c.in-Ok.place) c.args.file owner c.row_at.result.now (row_whole blocks c.in-Ok.place c.args.file owner c.self.invariant.0 at) (row_read blocks c.in-Ok.place c.row_at.result.now (place_below _ _ _ _ at) read) in
    let P : (ℕ → Option Mode) → Type 0 = λ f. IsTrue c.has_run.result ↔ IsRun f c.args.lock.now.span c.args.lock.now.mode in
    rw (← (blocks_are c.self.inside.blocks.items c.self.inside.limit c.args.self.now c.self.view_is)) (subst P (sym held_here) c.has_run.ensures)

pub returns-in-Err : goal.returns-in-Err
returns-in-Err c =
    let gap : IsGapIn c.args.self.now.blocks c.in-Err.field-0 c.args.file c.args.lock.now.owner = rw (← (blocks_are c.self.inside.blocks.items c.self.inside.limit c.args.self.now c.self.view_is), ← c.deref.ensures.value) c.in-Err.ensures in
    (λ no. absurd (false≢true no), λ region. absurd (let here = region.all c.args.lock.now.span.lo (omega arith) region.ordered in let none = ap (λ (f : ℕ → Option Mode). f c.args.lock.now.span.lo) (held-gap _ _ _ _ gap.gap) in cc))
