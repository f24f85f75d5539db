use Rattle.std.proofs.Common.{refl}
use Rattle.seat_text.proofs.Taking.{makes_more}
use Rattle.seat_text.proofs.parts.Parts.take_steps.Goals as goal

pub loop-step-preserved : goal.loop-step-preserved
loop-step-preserved c =
    let at_loop = c.loop-step.invariant in
    (makes_more c.args.self.now c.loop-step.self _ c.args.interval c.loop-step.yielded c.in-Some.step at_loop.0 at_loop.1 refl c.in_ok-push.ensures.items, at_loop.1)
