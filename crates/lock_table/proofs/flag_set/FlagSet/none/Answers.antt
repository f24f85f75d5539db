use Rattle.lock_table.proofs.PageLemmas.{has_nothing}
use Rattle.lock_table.proofs.flag_set.FlagSet.none.Goals as goal

pub returns : goal.returns
returns c = has_nothing
