use Rattle.messages.proofs.Rules.{restarts}
use Rattle.messages.proofs.crowd.Crowd.restart.Goals as goal

pub returns-clause-ok : goal.returns-clause-ok
returns-clause-ok c = restarts c.self.inside.nodes.items _ c.args.node _ c.self.view_is c.in_ok-incarnation.ensures.ok
