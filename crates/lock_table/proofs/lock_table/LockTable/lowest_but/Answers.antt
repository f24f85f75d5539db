use Rattle.std.proofs.Common.{◌≡◌, [], get_or, length, take, List, refl, subst, ◌∙◌, arith}
use Rattle.std.proofs.lemmas.List.{get_or_default, take_all}
use Rattle.model.specs.rule.Locks.{FileLocks, IsRegion, IsClear}
use Rattle.lock_table.specs.declared.owner_locks.OwnerLocks.{OwnerLocks}
use Rattle.lock_table.specs.rule.Tables.{all_rows, rows_held}
use Rattle.lock_table.specs.code.Blockers.{AreNear, IsLowestBut}
use Rattle.lock_table.proofs.BlockerLemmas.{lowest_none, lowest_join}
use Rattle.lock_table.proofs.BlockRows.{rows_of_block, block_step, among_blocks}
use Rattle.lock_table.proofs.PageLemmas.{near_from}
use Rattle.lock_table.proofs.RowLemmas.{blocks_are}
use Rattle.lock_table.proofs.lock_table.LockTable.lowest_but.Goals as goal

pub loop-block-init : goal.loop-block-init
unfolding rows_held
loop-block-init c = lowest_none _ _ _

pub lowest_in-found-requires-clause-rows : goal.lowest_in-found-requires-clause-rows
lowest_in-found-requires-clause-rows c =
    let bs = c.blocks_of-block-items.result.now in
    let i = c.loop-block.block-index in
    let lt = c.loop-block-test.true in
    let order = c.blocks_of-block-items.ensures.rows in
    let own : c.rows.result.now ≡ get_or bs i [] = c.rows.ensures ∙ (c.block-item.is ∙ get_or_default bs i c.block-item.result [] lt) in
    rw own (rows_of_block bs i order lt)

pub lowest_in-found-requires-clause-near : goal.lowest_in-found-requires-clause-near
lowest_in-found-requires-clause-near c =
    let bs = c.blocks_of-block-items.result.now in
    let i = c.loop-block.block-index in
    let lt = c.loop-block-test.true in
    let order = c.blocks_of-block-items.ensures.rows in
    let own : c.rows.result.now ≡ get_or bs i [] = c.rows.ensures ∙ (c.block-item.is ∙ get_or_default bs i c.block-item.result [] lt) in
    let all = all_rows c.self.inside.blocks.items in
    let same : rows_held (all_rows bs) c.args.file ≡ rows_held all c.args.file = rw (← c.deref.ensures.value) c.blocks_of-block-items.ensures.held in
    let among = among_blocks bs i c.args.file order lt (get_or bs i []) (rows_held all c.args.file) refl same in
    rw own (near_from c.self.inside.index c.near-near.result (rows_held all) (rows_held (get_or bs i []) c.args.file) c.args.file c.args.span c.self.invariant.2 c.near-near.ensures among)

pub loop-block-preserved : goal.loop-block-preserved
loop-block-preserved c =
    let bs = c.blocks_of-block-items.result.now in
    let i = c.loop-block.block-index in
    let lt = c.loop-block-test.true in
    let order = c.blocks_of-block-items.ensures.rows in
    let own : c.rows.result.now ≡ get_or bs i [] = c.rows.ensures ∙ (c.block-item.is ∙ get_or_default bs i c.block-item.result [] lt) in
    let found = c.keep_lowest.ensures in
    let here : IsLowestBut (rows_held (get_or bs i []) c.args.file) c.args.out.now c.args.span c.args.mode c.lowest_in-found.result = rw own at c.lowest_in-found.ensures in
    lowest_join _ _ _ (block_step bs i c.args.file order lt) c.args.out.now c.args.span c.args.mode _ _ _ c.loop-block.invariant here found.either found.first found.second

pub returns : goal.returns
returns c =
    let file = c.args.file in
    let bs = c.blocks_of-block-items.result.now in
    let same : rows_held (all_rows bs) file ≡ rows_held (all_rows c.args.self.now.blocks) file = rw (← (blocks_are c.self.inside.blocks.items c.self.inside.limit c.args.self.now c.self.view_is), ← c.deref.ensures.value) c.blocks_of-block-items.ensures.held in
    let all = rw (take_all _ _ c.loop-block-test.false) at c.loop-block.invariant in
    subst (λ (h : FileLocks). IsLowestBut h c.args.out.now c.args.span c.args.mode c.loop-block.lowest) same all
