use Rattle.std.specs.Prelude.{Option, IfSome}
use Rattle.std.proofs.Common.{sym, subst}
use Rattle.node_core.specs.declared.open_call.OpenCall.{OpenCall}
use Rattle.node_core.specs.rule.Parts.{node_state, IsCallOf}
use Rattle.node_core.proofs.NodeLaws.{find-own}
use Rattle.node_core.proofs.node.Node.open_call_of.Goals as goal

pub returns-clause-own : goal.returns-clause-own
unfolding node_state
returns-clause-own c =
    let P : Option OpenCall → Type 0 = λ o. IfSome o (IsCallOf (node_state c.args.self.now)) in
    subst P (sym c.call_of.ensures) (rw (← c.self.view_is) (find-own _ _ c.self.inside.pending c.self.invariant.calls_in))
