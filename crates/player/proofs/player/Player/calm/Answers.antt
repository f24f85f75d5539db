use Rattle.std.proofs.Common.{rules}
use Rattle.player.proofs.RoundEnds.{ends_refused}
use Rattle.player.proofs.player.Player.calm.Goals as goal

pub returns-in-Err-clause-calm : goal.returns-in-Err-clause-calm
returns-in-Err-clause-calm c =
    ends_refused c.args.self.now.run c.go_round.new.self.run c.in-Err.refusal (search rules) c.in-Err.ensures.stops
