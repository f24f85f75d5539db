use Rattle.model.proofs.DescriptorCalls.{fork_shares}
use Rattle.model.proofs.laws.a_fork_shares_descriptions.Goals as goal

pub returns : goal.returns
returns c = fork_shares
