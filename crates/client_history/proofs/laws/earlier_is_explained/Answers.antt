use Rattle.client_history.proofs.Fronts.{earlier_explained}
use Rattle.client_history.proofs.laws.earlier_is_explained.Goals as goal

pub returns : goal.returns
returns c = earlier_explained
