use Rattle.std.proofs.Common.{sym, subst, Bool, Decides, ◌≡◌}
use Rattle.messages.proofs.SameMessages.{message_eq-Decides}
use Rattle.messages.proofs.message.Message.same.Goals as goal

pub returns : goal.returns
returns c = subst (λ (r : Bool). Decides r (c.args.self.now ≡ c.args.other.now)) (sym c.eq.ensures) (message_eq-Decides c.args.self.now c.args.other.now)
