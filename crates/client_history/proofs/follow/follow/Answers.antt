use Rattle.std.specs.Prelude.{Err}
use Rattle.std.proofs.Common.{ap, Some, None}
use Rattle.intervals.specs.rule.Bytes.{put}
use Rattle.lock_table.specs.rule.Tables.{held}
use Rattle.client_history.proofs.Regions.{never_many, is_memory}
use Rattle.client_history.proofs.follow.follow.Goals as goal

pub no_memory-requires : goal.no_memory-requires
no_memory-requires c = is_memory c.in-Err.error (λ e. never_many _ (put (held c.args.table.now 1 c.args.owner) c.in-Locks.span (Some c.in-Locks.mode)) c.requires (c.in-Err.ensures.many (ap Err e)))

pub no_memory-requires-in-Err-unlock : goal.no_memory-requires-in-Err-unlock
no_memory-requires-in-Err-unlock c = is_memory c.in-Err-unlock.error (λ e. never_many _ (put (held c.args.table.now 1 c.args.owner) c.in-Frees.span None) c.requires (c.in-Err-unlock.ensures.many (ap Err e)))
