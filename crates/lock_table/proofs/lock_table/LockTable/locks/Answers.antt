use Rattle.std.proofs.Common.{◌≡◌, [], get_or, length, List, ap, ◌∙◌, rules}
use Rattle.std.specs.Ordering.{is_lt}
use Rattle.std.proofs.lemmas.List.{get_or_default, take_all}
use Rattle.std.proofs.lemmas.Fn.{always_returns_same}
use Rattle.model.specs.declared.lock_info.LockInfo.{LockInfo}
use Rattle.lock_table.specs.rule.Tables.{rows_held, ListsRegions}
use Rattle.lock_table.specs.code.Blockers.{lock_cmp}
use Rattle.lock_table.proofs.BlockRows.{rows_of_block, block_step}
use Rattle.lock_table.proofs.ListingLemmas.{lists_none, lists_join, listing_from, locks_weak}
use Rattle.lock_table.proofs.RowLemmas.{blocks_are}
use Rattle.lock_table.proofs.lock_table.LockTable.locks.Goals as goal

pub loop-block-init : goal.loop-block-init
unfolding rows_held
loop-block-init c = rw c.new-locks.ensures.items lists_none

pub push_rows-requires : goal.push_rows-requires
push_rows-requires c =
    let bs = c.blocks_of-block-items.result.now in
    let i = c.loop-block.block-index in
    let lt = c.loop-block-test.true in
    let order = c.blocks_of-block-items.ensures.rows in
    let own : c.rows.result.now ≡ get_or bs i [] = c.rows.ensures ∙ (c.block-item.is ∙ get_or_default bs i c.block-item.result [] lt) in
    rw own (rows_of_block bs i order lt)

pub loop-block-preserved : goal.loop-block-preserved
loop-block-preserved c =
    let bs = c.blocks_of-block-items.result.now in
    let i = c.loop-block.block-index in
    let lt = c.loop-block-test.true in
    let order = c.blocks_of-block-items.ensures.rows in
    let own : c.rows.result.now ≡ get_or bs i [] = c.rows.ensures ∙ (c.block-item.is ∙ get_or_default bs i c.block-item.result [] lt) in
    let pushed = c.in_ok-push_rows.ensures in
    let here : ListsRegions (rows_held (get_or bs i []) c.args.file) pushed.0 = rw own at pushed.2 in
    rw pushed.1 (lists_join _ _ _ _ _ (block_step bs i c.args.file order lt) c.loop-block.invariant here)

pub returns : goal.returns
returns c =
    let sorted = c.sort_unstable_by.ensures.sorted (λ (a b : LockInfo). is_lt (lock_cmp a b)) locks_weak (always_returns_same _ (λ a r. is_lt r ≡ is_lt (lock_cmp a.0.now a.1.0.now)) _ (λ a r f called. let e : r ≡ lock_cmp a.0.now a.1.0.now = search rules in (ap is_lt e, search rules))) in
    let all = rw (take_all _ _ c.loop-block-test.false) at c.loop-block.invariant in
    let blocks = c.blocks_of-block-items.ensures in
    rw (← (blocks_are c.self.inside.blocks.items c.self.inside.limit c.args.self.now c.self.view_is), ← c.deref.ensures.value, ← blocks.held) (listing_from _ _ _ all c.sort_unstable_by.ensures.permutation sorted)
