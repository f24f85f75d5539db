use Rattle.indexmap.specs.IndexMap.{get}
use Rattle.model.specs.contracts.owner.OwnerPartialEq.TheImpl as derived
use Rattle.client_history.proofs.KnownCalls.{one_more_known}
use Rattle.client_history.proofs.owner_calls.OwnerCalls.add.Goals as goal

pub returns : goal.returns
returns c = λ calls there known. one_more_known calls c.args.call.now.owner c.with_call-known.result (get derived.ghosts.eq c.args.self.now.known) (get derived.ghosts.eq c.insert.new.self) (c.in_ok-insert.ensures {u = tt}).updates.0
    (c.with_call-known.ensures calls there (c.of.ensures calls known)) known
