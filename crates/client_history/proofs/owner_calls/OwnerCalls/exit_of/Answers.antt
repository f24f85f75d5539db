use Rattle.client_history.proofs.KnownCalls.{exit_known}
use Rattle.client_history.proofs.owner_calls.OwnerCalls.exit_of.Goals as goal

pub returns : goal.returns
returns c = λ calls known. exit_known calls c.args.owner c.of.result.exit (c.of.ensures calls known).exit
