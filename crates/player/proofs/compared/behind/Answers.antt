use Rattle.std.proofs.Common.{sym, ◌∙◌, arith}
use Rattle.player.proofs.Expectations.{behind-none}
use Rattle.player.proofs.compared.behind.Goals as goal

pub returns-in-None : goal.returns-in-None
returns-in-None c = sym c.loop-left.invariant.same ∙ behind-none c.loop-left.left c.loop-left.rest.now (omega (arith, c.loop-left-test.true)) c.in-None.ensures
