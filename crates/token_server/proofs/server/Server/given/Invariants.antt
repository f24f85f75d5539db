use Rattle.std.proofs.Common.{take}
use Rattle.token_server.proofs.ToldLaws.{GiveTold}
use Rattle.token_server.proofs.server.Server.given.Given as goal

abbrev pub invariant-loop-next : goal.invariant-loop-next
invariant-loop-next l = GiveTold l.self.known_nodes l.draft.rows (take l.next-index l.told) l.given.items
