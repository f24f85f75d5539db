use Rattle.std.proofs.Common.{◌≡◌, [], get_or, length, take, List, refl, subst, ◌∙◌, arith}
use Rattle.std.proofs.lemmas.List.{get_or_default, take_all}
use Rattle.model.specs.rule.Locks.{FileLocks, IsRegion, IsClear}
use Rattle.lock_table.specs.declared.owner_locks.OwnerLocks.{OwnerLocks}
use Rattle.lock_table.specs.rule.Tables.{all_rows, rows_held, HasInWay}
use Rattle.intervals.specs.rule.Bytes.{IsLargest}
use Rattle.lock_table.specs.code.Blockers.{AreNear}
use Rattle.lock_table.proofs.BlockRows.{rows_of_block, block_step, among_blocks}
use Rattle.lock_table.proofs.PageLemmas.{near_from}
use Rattle.lock_table.proofs.BlockerLemmas.{around-start, around-join, clear_among}
use Rattle.lock_table.proofs.RowLemmas.{blocks_are}
use Rattle.lock_table.proofs.lock_table.LockTable.free_around.Goals as goal

pub loop-block-init : goal.loop-block-init
unfolding rows_held
loop-block-init c = around-start c.args.mode c.args.required c.args.within c.requires.starts_within c.requires.ends_within

pub free_in-span-requires-clause-rows : goal.free_in-span-requires-clause-rows
free_in-span-requires-clause-rows c =
    let bs = c.blocks_of-block-items.result.now in
    let i = c.loop-block.block-index in
    let lt = c.loop-block-test.true in
    let order = c.blocks_of-block-items.ensures.rows in
    let own : c.rows.result.now ≡ get_or bs i [] = c.rows.ensures ∙ (c.block-item.is ∙ get_or_default bs i c.block-item.result [] lt) in
    rw own (rows_of_block bs i order lt)

pub free_in-span-requires-clause-near : goal.free_in-span-requires-clause-near
free_in-span-requires-clause-near c =
    let bs = c.blocks_of-block-items.result.now in
    let i = c.loop-block.block-index in
    let lt = c.loop-block-test.true in
    let order = c.blocks_of-block-items.ensures.rows in
    let own : c.rows.result.now ≡ get_or bs i [] = c.rows.ensures ∙ (c.block-item.is ∙ get_or_default bs i c.block-item.result [] lt) in
    let all = all_rows c.self.inside.blocks.items in
    let same : rows_held (all_rows bs) c.args.file ≡ rows_held all c.args.file = rw (← c.deref.ensures.value) c.blocks_of-block-items.ensures.held in
    let among = among_blocks bs i c.args.file order lt (get_or bs i []) (rows_held all c.args.file) refl same in
    let nearby : AreNear (rows_held (get_or bs i []) c.args.file) c.near-near.result c.args.within = near_from c.self.inside.index c.near-near.result (rows_held all) (rows_held (get_or bs i []) c.args.file) c.args.file c.args.within c.self.invariant.2 c.near-near.ensures among in
    rw own (λ o b m lo hi at. nearby o b m (omega (arith, lo, c.loop-block.invariant.starts_within)) (omega (arith, hi, c.loop-block.invariant.ends_within)) at)

pub free_in-span-requires-clause-clear : goal.free_in-span-requires-clause-clear
free_in-span-requires-clause-clear c =
    let bs = c.blocks_of-block-items.result.now in
    let i = c.loop-block.block-index in
    let lt = c.loop-block-test.true in
    let order = c.blocks_of-block-items.ensures.rows in
    let own : c.rows.result.now ≡ get_or bs i [] = c.rows.ensures ∙ (c.block-item.is ∙ get_or_default bs i c.block-item.result [] lt) in
    let all = all_rows c.self.inside.blocks.items in
    let same : rows_held (all_rows bs) c.args.file ≡ rows_held all c.args.file = rw (← c.deref.ensures.value) c.blocks_of-block-items.ensures.held in
    let among = among_blocks bs i c.args.file order lt (get_or bs i []) (rows_held all c.args.file) refl same in
    let clear : IsClear (rows_held all c.args.file) c.args.required c.args.mode = rw (blocks_are c.self.inside.blocks.items c.self.inside.limit c.args.self.now c.self.view_is) c.requires.clear in
    rw own (clear_among (rows_held (get_or bs i []) c.args.file) (rows_held all c.args.file) c.args.required c.args.mode among clear)

pub loop-block-preserved : goal.loop-block-preserved
loop-block-preserved c =
    let bs = c.blocks_of-block-items.result.now in
    let i = c.loop-block.block-index in
    let lt = c.loop-block-test.true in
    let order = c.blocks_of-block-items.ensures.rows in
    let own : c.rows.result.now ≡ get_or bs i [] = c.rows.ensures ∙ (c.block-item.is ∙ get_or_default bs i c.block-item.result [] lt) in
    let here : IsLargest (HasInWay (IsRegion (rows_held (get_or bs i []) c.args.file)) c.args.mode) c.args.required c.loop-block.span c.free_in-span.result = rw own at c.free_in-span.ensures in
    around-join _ _ _ (block_step bs i c.args.file order lt) c.args.mode c.args.required c.args.within c.loop-block.span c.free_in-span.result (omega (arith, c.required.invariant)) c.loop-block.invariant here

pub returns : goal.returns
returns c =
    let file = c.args.file in
    let bs = c.blocks_of-block-items.result.now in
    let same : rows_held (all_rows bs) file ≡ rows_held (all_rows c.args.self.now.blocks) file = rw (← (blocks_are c.self.inside.blocks.items c.self.inside.limit c.args.self.now c.self.view_is), ← c.deref.ensures.value) c.blocks_of-block-items.ensures.held in
    let all = rw (take_all _ _ c.loop-block-test.false) at c.loop-block.invariant in
    subst (λ (h : FileLocks). IsLargest (HasInWay (IsRegion h) c.args.mode) c.args.required c.args.within c.loop-block.span) same all
