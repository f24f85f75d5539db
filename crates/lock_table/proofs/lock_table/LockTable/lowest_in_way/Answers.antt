use Rattle.lock_table.proofs.BlockerLemmas.{in_way_from}
use Rattle.lock_table.proofs.lock_table.LockTable.lowest_in_way.Goals as goal

pub returns : goal.returns
returns c = in_way_from _ c.args.span c.args.mode _ c.lowest_but.ensures
