use Rattle.std.proofs.Common.{◌≡◌, ◌+◌, ◌<◌, ◌≤◌, List, length, take, subst, arith}
use Rattle.std.proofs.lemmas.List.{take_all}
use Rattle.std.proofs.lemmas.Bool.{both_ways}
use Rattle.intervals.specs.rule.Bytes.{IsLargest}
use Rattle.model.specs.rule.Locks.{FileLocks, IsRegion, IsClear}
use Rattle.lock_table.specs.declared.owner_locks.OwnerLocks.{OwnerLocks}
use Rattle.lock_table.specs.rule.Tables.{rows_held, HasInWay}
use Rattle.lock_table.specs.code.Blockers.{AreNear}
use Rattle.lock_table.proofs.BlockerLemmas.{rows_step, around_to, around-start, around-more, around-skip, none_barred}
use Rattle.lock_table.proofs.RowLemmas.{row_holds}
use Rattle.lock_table.proofs.PageLemmas.{none_near}
use Rattle.lock_table.proofs.lock_table.searches.free_in.Goals as goal
use Rattle.lock_table.proofs.lock_table.searches.free_in.Goals.{then-has, else-has}

pub loop-at-init : goal.loop-at-init
unfolding rows_held
loop-at-init c =
    let rows = c.rows_of-rows.ensures in
    let part = c.rows_of-rows.result.now in
    let nearby : AreNear (rows_held part c.args.file) c.args.near.now c.args.within = rw rows.held c.requires.near in
    let next = c.next_near-at.ensures in
    record {
      within = next.within;
      largest = around_to c.args.near.now part c.args.file c.args.within nearby rows.rows rows.file c.args.mode c.args.required c.args.within 0 c.next_near-at.result (omega arith) next.within next.passed (around-start c.args.mode c.args.required c.args.within c.requires.starts_within c.requires.ends_within);
    }

pub largest_around-span-requires-clause-free : goal.largest_around-span-requires-clause-free
largest_around-span-requires-clause-free c =
    let rows = c.rows_of-rows.ensures in
    let part = c.rows_of-rows.result.now in
    let lt : c.loop-at.at < length part = omega arith in
    let clear : IsClear (rows_held part c.args.file) c.args.required c.args.mode = rw rows.held c.requires.clear in
    rw c.bar.ensures (none_barred part c.args.file c.loop-at.at c.index-rows-at.result c.args.required c.args.mode clear rows.rows rows.file lt c.index-rows-at.is)

pub loop-at-preserved : goal.loop-at-preserved
loop-at-preserved c =
    let rows = c.rows_of-rows.ensures in
    let part = c.rows_of-rows.result.now in
    let file = c.args.file in
    let at = c.loop-at.at in
    let row = c.index-rows-at.result in
    let lt : at < length part = omega arith in
    let is = c.index-rows-at.is in
    let nearby : AreNear (rows_held part file) c.args.near.now c.args.within = rw rows.held c.requires.near in
    let join = rows_step part at row file rows.rows rows.file lt is in
    let largest : IsLargest (HasInWay (IsRegion (rows_held (take (at + 1) part) file)) c.args.mode) c.args.required c.args.within c.if-has.span = elim c.if-has.branch [
      | then-has w ↦
          let bounded = (row_holds _ _ row rows.rows lt is).bounded in
          rw w.span-is (around-more _ _ row join c.args.mode c.args.required c.args.within _ c.loop-at.invariant.largest _ (omega (arith, c.required.invariant)) bounded (rw (← w.bar.ensures) w.largest_around-span.ensures))
      | else-has w ↦
          let away = none_near c.args.near.now part file at row c.args.within nearby rows.rows rows.file lt is (λ has. both_ways _ w.if-has.false (c.has.ensures.1 has)) in
          rw w.span-is (around-skip _ _ row join c.args.mode c.args.required c.args.within _ c.loop-at.invariant.largest away)
    ] in
    let next = c.next_near-at-in-loop-at.ensures in
    record {
      within = next.within;
      largest = around_to c.args.near.now part file c.args.within nearby rows.rows rows.file c.args.mode c.args.required _ (at + 1) c.next_near-at-in-loop-at.result next.from next.within next.passed largest;
    }

pub returns : goal.returns
returns c =
    let file = c.args.file in
    let part = c.rows_of-rows.result.now in
    let past : length part ≤ c.loop-at.at = omega arith in
    let all = subst (λ (rows : List OwnerLocks). IsLargest (HasInWay (IsRegion (rows_held rows file)) c.args.mode) c.args.required c.args.within c.loop-at.span) (take_all _ _ past) c.loop-at.invariant.largest in
    subst (λ (h : FileLocks). IsLargest (HasInWay (IsRegion h) c.args.mode) c.args.required c.args.within c.loop-at.span) c.rows_of-rows.ensures.held all
