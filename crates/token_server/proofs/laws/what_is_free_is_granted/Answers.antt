use Rattle.token_server.proofs.GrantLaws.{what_is_free-granted}
use Rattle.token_server.proofs.laws.what_is_free_is_granted.Goals as goal

pub returns : goal.returns
returns c = what_is_free-granted
