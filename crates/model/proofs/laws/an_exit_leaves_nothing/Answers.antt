use Rattle.model.proofs.DescriptorCalls.{exit_leaves}
use Rattle.model.proofs.laws.an_exit_leaves_nothing.Goals as goal

pub returns : goal.returns
returns c = exit_leaves
