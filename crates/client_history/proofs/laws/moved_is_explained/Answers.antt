use Rattle.client_history.proofs.Exchange.{moved_explained}
use Rattle.client_history.proofs.laws.moved_is_explained.Goals as goal

pub returns : goal.returns
returns c = moved_explained
