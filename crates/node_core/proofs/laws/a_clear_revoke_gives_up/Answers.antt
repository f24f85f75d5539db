use Rattle.node_core.proofs.RuleLaws.{clear_revoke_gives_up}
use Rattle.node_core.proofs.laws.a_clear_revoke_gives_up.Goals as goal

pub returns : goal.returns
returns c = clear_revoke_gives_up
