use Rattle.model.proofs.DescriptorCalls.{calls_keep}
use Rattle.model.proofs.laws.no_lock_outlives_its_descriptors.Goals as goal

pub returns : goal.returns
returns c = calls_keep
