use Rattle.std.proofs.Common.{◌≡◌, ◌+◌, ◌<◌, ◌≤◌, List, length, take, subst, None, arith}
use Rattle.std.proofs.lemmas.List.{take_all}
use Rattle.model.specs.rule.Locks.{FileLocks}
use Rattle.lock_table.specs.declared.owner_locks.OwnerLocks.{OwnerLocks}
use Rattle.lock_table.specs.rule.Tables.{rows_held}
use Rattle.lock_table.specs.code.Blockers.{AreNear, IsLowestBut}
use Rattle.lock_table.proofs.BlockerLemmas.{lowest_none, lowest_join, lowest_past, row_passed, rows_step, lowest_to}
use Rattle.lock_table.proofs.PageLemmas.{none_near}
use Rattle.lock_table.proofs.lock_table.searches.lowest_in.Goals as goal
use Rattle.lock_table.proofs.lock_table.searches.lowest_in.Goals.{then-may_bar, else-may_bar}

pub loop-at-init : goal.loop-at-init
unfolding rows_held
loop-at-init c =
    let rows = c.rows_of-rows.ensures in
    let part = c.rows_of-rows.result.now in
    let nearby : AreNear (rows_held part c.args.file) c.args.near.now c.args.span = rw rows.held c.requires.near in
    let next = c.next_near-at.ensures in
    record {
      within = next.within;
      lowest = lowest_to c.args.near.now part c.args.file c.args.span nearby rows.rows rows.file c.args.out.now c.args.mode None 0 c.next_near-at.result (omega arith) next.within next.passed (lowest_none _ _ _);
    }

pub loop-at-preserved : goal.loop-at-preserved
loop-at-preserved c =
    let rows = c.rows_of-rows.ensures in
    let part = c.rows_of-rows.result.now in
    let file = c.args.file in
    let nearby : AreNear (rows_held part file) c.args.near.now c.args.span = rw rows.held c.requires.near in
    let at = c.loop-at.at in
    let row = c.index-rows-at.result in
    let lt : at < length part = omega arith in
    let is = c.index-rows-at.is in
    let join = rows_step part at row file rows.rows rows.file lt is in
    let lowest : IsLowestBut (rows_held (take (at + 1) part) file) c.args.out.now c.args.span c.args.mode c.if-may_bar.lowest = elim c.if-may_bar.branch [
      | then-may_bar w ↦
          let found = w.keep_lowest.ensures in
          rw w.lowest-is (lowest_join _ _ _ join _ _ _ _ _ _ c.loop-at.invariant.lowest w.lowest_but.ensures found.either found.first found.second)
      | else-may_bar w ↦
          rw w.lowest-is (lowest_past _ _ _ join c.args.out.now c.args.span c.args.mode _ c.loop-at.invariant.lowest (row_passed row c.args.out.now c.args.span c.args.mode (λ b m lo hi at_byte barred.
          none_near c.args.near.now part file at row c.args.span nearby rows.rows rows.file lt is (λ has. c.may_bar.ensures w.if-may_bar.false has b (rw c.bar-bar.ensures barred)) b m lo hi at_byte)))
    ] in
    let next = c.next_near-at-in-loop-at.ensures in
    record {
      within = next.within;
      lowest = lowest_to c.args.near.now part file c.args.span nearby rows.rows rows.file c.args.out.now c.args.mode _ (at + 1) c.next_near-at-in-loop-at.result next.from next.within next.passed lowest;
    }

pub returns : goal.returns
returns c =
    let file = c.args.file in
    let part = c.rows_of-rows.result.now in
    let past : length part ≤ c.loop-at.at = omega arith in
    let all = subst (λ (rows : List OwnerLocks). IsLowestBut (rows_held rows file) c.args.out.now c.args.span c.args.mode c.loop-at.lowest) (take_all _ _ past) c.loop-at.invariant.lowest in
    subst (λ (h : FileLocks). IsLowestBut h c.args.out.now c.args.span c.args.mode c.loop-at.lowest) c.rows_of-rows.ensures.held all
