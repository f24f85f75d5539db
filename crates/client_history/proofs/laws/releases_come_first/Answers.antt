use Rattle.client_history.proofs.Releases.{release_first}
use Rattle.client_history.proofs.laws.releases_come_first.Goals as goal

pub returns : goal.returns
returns c = release_first
