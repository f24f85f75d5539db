use Rattle.cluster_core.proofs.steps.KnownMessages.{told_same}
use Rattle.cluster_core.proofs.sent_index.is_this.Goals as goal

pub returns : goal.returns
returns c = told_same c.args.message.now c.args.other.now c.same.result c.same.ensures
