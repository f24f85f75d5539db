use Rattle.lock_table.proofs.PageLemmas.{has_all}
use Rattle.lock_table.proofs.flag_set.FlagSet.all.Goals as goal

pub returns : goal.returns
returns c = has_all
