use Rattle.std.proofs.Common.{refl}
use Rattle.intervals.specs.rule.Runs.{value_at}
use Rattle.model.proofs.ReplayLaws.{found_where_region}
use Rattle.lock_table.proofs.owner_locks.OwnerLocks.has_run.Goals as goal

pub returns : goal.returns
returns c =
    found_where_region (value_at c.args.self.now.spans) (value_at c.args.self.now.spans) (record { lo = c.span.inside.lo; hi = c.span.inside.hi }) c.args.span c.args.mode c.run_at.result c.is_found.result refl c.span.view_is c.span.invariant.0 c.run_at.ensures c.is_found.ensures
