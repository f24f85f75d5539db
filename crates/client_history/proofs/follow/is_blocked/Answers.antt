use Rattle.std.proofs.Common.{◌≤◌, refl}
use Rattle.std.proofs.lemmas.Bool.{false≢true}
use Rattle.std.proofs.lemmas.Option.{MatchOption-at_none}
use Rattle.model.specs.rule.Locks.{IsFree, IsLowestBlocker}
use Rattle.lock_table.specs.rule.Tables.{held}
use Rattle.client_history.specs.rule.Explained.{the_file}
use Rattle.client_history.proofs.Blocked.{free_not_blocked, lowest_blocks}
use Rattle.client_history.proofs.follow.is_blocked.Goals as goal

pub returns-in_default : goal.returns-in_default
returns-in_default c =
    let h = held c.args.table.now in
    let order : c.args.span.lo ≤ c.args.span.hi = rw (← c.span.view_is) c.span.invariant.0 in
    let free = MatchOption-at_none (IsFree (h the_file) c.args.owner c.args.span c.args.mode) (λ lock. IsLowestBlocker (h the_file) c.args.owner c.args.span c.args.mode lock) c.in_default.is c.blocker.ensures in
    (λ no. absurd (false≢true no), λ b. absurd (free_not_blocked h the_file c.args.owner c.args.span c.args.mode c.args.told.now order free b))

pub returns-then-is_told : goal.returns-then-is_told
returns-then-is_told c =
    (λ yes. lowest_blocks (held c.args.table.now) the_file c.args.owner c.args.span c.args.mode c.args.told.now c.in-Some.lowest c.in-Some.ensures (c.is_told.ensures.0 c.if-is_told.true), λ b. refl)
