use Rattle.std.proofs.Common.{◌≤◌}
use Rattle.std.proofs.lemmas.Bool.{false≢true}
use Rattle.lock_table.specs.rule.Tables.{held}
use Rattle.client_history.proofs.Blocked.{blocked_is_not_free}
use Rattle.client_history.proofs.follow.is_free.Goals as goal

-- where the table names a blocker, the span is not free
pub returns-in-Some : goal.returns-in-Some
returns-in-Some c = (
  (λ h. absurd (false≢true h)),
  (λ free. let order : c.args.span.lo ≤ c.args.span.hi = rw (← c.span.view_is) c.span.invariant.0 in absurd (blocked_is_not_free (held c.args.table.now 1) c.args.owner c.args.span c.args.mode c.in-Some.field-0 order c.in-Some.ensures free)),
)
