use Rattle.std.proofs.Common.{◌≡◌, ◌++◌, [], List, sym, ap, ◌∙◌, append_assoc}
use Rattle.std.proofs.lemmas.List.{take_all, append-nil}
use Rattle.model.specs.declared.lock_info.LockInfo.{LockInfo}
use Rattle.lock_table.specs.rule.Tables.{rows_held, ListsRegions}
use Rattle.lock_table.proofs.BlockerLemmas.{rows_step}
use Rattle.lock_table.proofs.RowLemmas.{row_holds}
use Rattle.lock_table.proofs.ListingLemmas.{lists_none, lists_join}
use Rattle.lock_table.proofs.lock_table.searches.push_rows.Goals as goal

pub loop-row-init : goal.loop-row-init
unfolding rows_held
loop-row-init c = ([], sym (append-nil c.args.locks.now.items), lists_none)

pub push_regions-requires : goal.push_regions-requires
push_regions-requires c = (row_holds _ _ c.row-item.result c.rows_of-row-items.ensures.rows c.loop-row-test.true c.row-item.is).bounded

pub loop-row-preserved : goal.loop-row-preserved
loop-row-preserved c =
    let rows = c.rows_of-row-items.ensures in
    let join = rows_step _ _ c.row-item.result _ rows.rows rows.file c.loop-row-test.true c.row-item.is in
    let old = c.loop-row.invariant in
    let pushed = c.in_ok-push_regions.ensures in
    (old.0 ++ pushed.0, pushed.1 ∙ (ap (λ (l : List LockInfo). l ++ pushed.0) old.1 ∙ append_assoc c.args.locks.now.items old.0 pushed.0), lists_join _ _ _ _ _ join old.2 pushed.2)

pub returns : goal.returns
returns c =
    let old = c.loop-row.invariant in
    let all : ListsRegions (rows_held c.rows_of-row-items.result.now c.args.file) old.0 = rw (take_all _ _ c.loop-row-test.false) at old.2 in
    (old.0, old.1, rw (← c.rows_of-row-items.ensures.held) all)
