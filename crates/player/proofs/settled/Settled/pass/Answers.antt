use Rattle.std.proofs.Common.{ap, ◌+◌}
use Rattle.player.specs.code.Rounds.{SettledParts}
use Rattle.player.proofs.Marks.{settled-pass}
use Rattle.player.proofs.settled.Settled.pass.Goals as goal

pub returns-clause-value : goal.returns-clause-value
returns-clause-value c =
    settled-pass c.args.self.now _ (ap (λ (s : SettledParts). s.cursor + 1) c.self.view_is) (ap (λ (s : SettledParts). s.marks) c.self.view_is)
