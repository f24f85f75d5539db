use Rattle.std.proofs.Common.{sym}
use Rattle.token_server.proofs.KnownNodeLaws.{deaths_of-there, deaths_of-none}
use Rattle.token_server.proofs.known_nodes.known_nodes.KnownNodes.dead.Goals as goal

pub returns-in-Some : goal.returns-in-Some
returns-in-Some c = sym (deaths_of-there c.args.self.now c.args.node _ (sym c.in-Some.ensures.value))

pub returns-in-None : goal.returns-in-None
returns-in-None c = sym (deaths_of-none c.args.self.now c.args.node (sym c.in-None.ensures.value))
