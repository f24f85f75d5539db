use Rattle.std.proofs.Common.{◌≡◌, ◌<◌, ◌+◌, suc, subst, sym, ◌∙◌, length, get_or, [], List, inl, inr, rules, arith}
use Rattle.std.proofs.lemmas.Fn.{always_returns_same}
use Rattle.std.proofs.lemmas.List.{get_or_default}
use Rattle.lock_table.specs.declared.owner_locks.OwnerLocks.{OwnerLocks}
use Rattle.lock_table.specs.code.Rows.{row_cmp, AreRows, IsRowAt, IsGap}
use Rattle.lock_table.proofs.RowLemmas.{searched, gap_within}
use Rattle.lock_table.proofs.BlockRows.{rows_of_block, gap_whole, gap_none}
use Rattle.lock_table.proofs.place.position.Goals as goal

pub returns-then-block-blocks : goal.returns-then-block-blocks
returns-then-block-blocks c = gap_none _ _ _ _ c.if-block-blocks.true c.block_of-block.ensures.within

pub returns-in-Ok : goal.returns-in-Ok
returns-in-Ok c =
    let blocks = c.args.blocks.now in
    let at = c.block_of-block.result in
    let lt : at < length blocks = omega (arith, c.if-block-blocks.false, c.block_of-block.ensures.bound) in
    let own : c.rows.result.now ≡ get_or blocks at [] = c.rows.ensures ∙ c.index-blocks-block.is ∙ get_or_default blocks at c.index-blocks-block.result [] lt in
    let order : AreRows c.rows.result.now = rw own (rows_of_block blocks at c.requires.rows lt) in
    let found = c.binary_search_by.ensures in
    let by_place = found.position (λ (r : OwnerLocks). row_cmp r c.args.file c.args.owner) (always_returns_same _ (λ a r. r ≡ row_cmp a.0.now c.args.file c.args.owner) _ (λ a r g called. search rules)) in
    let row : IsRowAt c.rows.result.now c.in-Ok.row c.args.file c.args.owner = rw c.in-Ok.is at (searched c.rows.result.now c.args.file c.args.owner _ order found.bound by_place) in
    rw own at row

pub returns-in-Err : goal.returns-in-Err
returns-in-Err c =
    let blocks = c.args.blocks.now in
    let at = c.block_of-block.result in
    let lt : at < length blocks = omega (arith, c.if-block-blocks.false, c.block_of-block.ensures.bound) in
    let own : c.rows.result.now ≡ get_or blocks at [] = c.rows.ensures ∙ c.index-blocks-block.is ∙ get_or_default blocks at c.index-blocks-block.result [] lt in
    let order : AreRows c.rows.result.now = rw own (rows_of_block blocks at c.requires.rows lt) in
    let found = c.binary_search_by.ensures in
    let by_place = found.position (λ (r : OwnerLocks). row_cmp r c.args.file c.args.owner) (always_returns_same _ (λ a r. r ≡ row_cmp a.0.now c.args.file c.args.owner) _ (λ a r g called. search rules)) in
    let gap : IsGap c.rows.result.now c.in-Err.row c.args.file c.args.owner = rw c.in-Err.is at (searched c.rows.result.now c.args.file c.args.owner _ order found.bound by_place) in
    let own_gap : IsGap (get_or blocks at []) c.in-Err.row c.args.file c.args.owner = rw own at gap in
    let next : at + 1 ≡ suc at = omega arith in
    record {
      gap = gap_whole blocks at c.in-Err.row c.args.file c.args.owner lt c.block_of-block.ensures.below own_gap (rw next at c.block_of-block.ensures.above);
      within = gap_within _ _ _ _ own_gap;
      block = inl lt;
    }
