use Rattle.std.proofs.lemmas.Bool.Decides.{Decides-at}
use Rattle.messages.proofs.SameMessages.{op_eq-Decides}
use Rattle.actors.proofs.client.same_op.Goals as goal

pub returns : goal.returns
returns c = Decides-at _ _ c.eq.ensures (op_eq-Decides _ _)
