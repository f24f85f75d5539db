use Rattle.std.proofs.Common.{Some, refl}
use Rattle.cluster_core.proofs.steps.KnownMessages.{stands_there, stands_nowhere, read_there}
use Rattle.cluster_core.proofs.sent_index.stands_at.Goals as goal

pub returns-in-Some : goal.returns-in-Some
returns-in-Some c =
    stands_there c.args.sent.now c.args.message.now c.in-Some.other.now c.args.place (Some c.args.place) c.is_this.result refl (read_there c.args.sent.now c.args.place c.in-Some.other.now c.in-Some.ensures.lookup.3.0 c.in-Some.ensures.lookup.1) c.is_this.ensures

pub returns-in-None : goal.returns-in-None
returns-in-None c =
    stands_nowhere c.args.sent.now c.args.message.now c.args.place (Some c.args.place) refl c.in-None.ensures.lookup.3
