use Rattle.token_server.proofs.AdmissionLaws.{what_meets_none-served}
use Rattle.token_server.proofs.laws.what_meets_none_is_served.Goals as goal

pub returns : goal.returns
returns c = what_meets_none-served
