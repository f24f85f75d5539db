use Rattle.std.proofs.Common.{List, sym, subst}
use Rattle.model.specs.declared.lock_info.LockInfo.{LockInfo}
use Rattle.model.specs.rule.Locks.{IsRegion}
use Rattle.lock_table.specs.rule.Tables.{held, IsListing}
use Rattle.client_history.specs.rule.Explained.{the_file}
use Rattle.client_history.proofs.needs.least_kept.Goals as goal
use Rattle.client_history.proofs.needs.least_kept.Goals.{then-count-least, else-count-least}

pub loop-lock-preserved : goal.loop-lock-preserved
loop-lock-preserved c =
    let all = subst (λ (l : List LockInfo). IsListing (held c.args.table.now the_file) l) (sym c.deref-lock-items.ensures.value) (c.in_ok-locks.ensures {u = tt}) in
    elim c.if-count-least.branch [
      | then-count-least w ↦ rw w.kept-is (record {
        needs = c.loop-lock.invariant.needs;
        ordered = c.loop-lock.invariant.ordered;
        region = subst (λ (l : LockInfo). IsRegion (held c.args.table.now the_file) l) (sym c.lock-item.is) (all.regions c.loop-lock.lock-index c.lock-item.result c.loop-lock-test.true);
        other = (c.is_in_its_way.ensures.0 c.if-not-is_in_its_way.false).0;
        in_way = (c.is_in_its_way.ensures.0 c.if-not-is_in_its_way.false).1;
      })
      | else-count-least w ↦ rw w.kept-is c.loop-lock.invariant
    ]
