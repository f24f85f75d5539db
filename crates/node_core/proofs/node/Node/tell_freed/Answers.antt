use Rattle.std.proofs.Common.{Bool, ap, sym, ◌∙◌}
use Rattle.node_core.specs.declared.node_edit.NodeEdit.{NodeEdit}
use Rattle.node_core.specs.code.Plans.{drafted}
use Rattle.node_core.proofs.PlanLaws.{told-effect, told-fits, told-nothing, told-rises}
use Rattle.node_core.proofs.node.Node.tell_freed.Goals as goal

pub returns-then-not-owes_freed-clause-value : goal.returns-then-not-owes_freed-clause-value
returns-then-not-owes_freed-clause-value c =
    let owes : NodeEdit → Bool = λ e. ((drafted c.args.self.now e.draft).files c.args.file).owes_freed in
    told-nothing c.args.self.now c.args.effect c.args.file c.requires.rises (ap owes (sym c.deref.ensures) ∙ sym c.owes_freed.ensures ∙ c.if-not-owes_freed.true)

pub returns-clause-value : goal.returns-clause-value
returns-clause-value c =
    let owes : NodeEdit → Bool = λ e. ((drafted c.args.self.now e.draft).files c.args.file).owes_freed in
    let owed = ap owes (sym c.deref.ensures) ∙ sym c.owes_freed.ensures ∙ c.if-not-owes_freed.false in
    told-effect c.args.self.now c.args.effect c.args.file c.with_freed_last.result c.requires.rises owed (rw (← c.freed.ensures) c.with_freed_last.ensures)

pub returns-clause-fits : goal.returns-clause-fits
returns-clause-fits c = told-fits c.args.self.now c.args.effect c.args.file _ c.with_freed_last.result c.requires.fits c.requires.file c.with_freed_last.ensures

pub returns-clause-rises : goal.returns-clause-rises
returns-clause-rises c = told-rises c.args.effect c.args.file _ c.with_freed_last.result c.requires.rises c.with_freed_last.ensures
