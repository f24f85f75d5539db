use Rattle.node_core.proofs.RuleLaws.{interrupt_changes_nothing}
use Rattle.node_core.proofs.laws.an_interrupt_changes_nothing.Goals as goal

pub returns : goal.returns
returns c = interrupt_changes_nothing
