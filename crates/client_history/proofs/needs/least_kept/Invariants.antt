use Rattle.std.proofs.Common.{◌≤◌}
use Rattle.std.specs.Prelude.{◌≢◌}
use Rattle.model.specs.rule.Locks.{IsRegion, IsInWay}
use Rattle.lock_table.specs.rule.Tables.{held}
use Rattle.client_history.specs.rule.Explained.{the_file}
use Rattle.client_history.specs.code.OpenCalls.{NeedsFree}
use Rattle.client_history.proofs.needs.least_kept.Given as goal

abbrev pub invariant-loop-lock : goal.invariant-loop-lock
invariant-loop-lock l = record {
  needs : NeedsFree l.call.call.act l.mode l.span;
  ordered : l.span.lo ≤ l.span.hi;
  region : IsRegion (held l.table the_file) l.kept;
  other : l.kept.owner ≢ l.call.call.owner;
  in_way : IsInWay l.span l.mode l.kept;
}
