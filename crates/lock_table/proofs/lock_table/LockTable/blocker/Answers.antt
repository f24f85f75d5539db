use Rattle.lock_table.proofs.BlockerLemmas.{blocker_from}
use Rattle.lock_table.proofs.lock_table.LockTable.blocker.Goals as goal

pub returns : goal.returns
returns c = blocker_from _ c.args.owner c.args.span c.args.mode _ c.lowest_but.ensures
