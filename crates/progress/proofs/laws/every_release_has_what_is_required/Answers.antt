use Rattle.progress.proofs.Released.{every_release}
use Rattle.progress.proofs.laws.every_release_has_what_is_required.Goals as goal

pub returns : goal.returns
returns c = every_release
