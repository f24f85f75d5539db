use Rattle.std.proofs.Common.{◌≡◌, take}
use Rattle.model.specs.rule.Locks.{no_locks}
use Rattle.lock_table.specs.rule.Tables.{held}
use Rattle.client_history.specs.rule.Explained.{Leads}
use Rattle.client_history.proofs.legal.is_legal.Given as goal

abbrev pub invariant-loop-i : goal.invariant-loop-i
invariant-loop-i l = record {
  limit : l.table.limit ≡ 18446744073709551615;
  leads : Leads l.calls no_locks (take l.i-index l.order) (held l.table);
}
