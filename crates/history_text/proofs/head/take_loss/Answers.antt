use Rattle.std.proofs.Common.{◌≡◌, true, arith, rules}
use Rattle.history_text.proofs.head.take_loss.Goals as goal

pub returns-clause-losses : goal.returns-clause-losses
returns-clause-losses c = λ old.
    let counts : c.args.allowed.lost_at ≡ true = search rules in
    c.in_ok-push.ensures.losses c.args.allowed c.args.line (record { counts = counts; within = (omega (arith, c.requires.line), omega arith); timed = c.in_ok-end.ensures }) old
