use Rattle.token_server.proofs.WaitLaws.{what_waits-kept}
use Rattle.token_server.proofs.laws.what_waits_is_kept.Goals as goal

pub returns : goal.returns
returns c = what_waits-kept
