use Rattle.model.proofs.DescriptorCalls.{closed_file}
use Rattle.model.proofs.laws.a_closed_file_has_no_lock.Goals as goal

pub returns : goal.returns
returns c = closed_file
