use Rattle.std.proofs.Common.{arith, ◌∙◌}
use Rattle.merges.specs.declared.logged.LoggedChange.{LoggedChange}
use Rattle.merges.proofs.Orders.{rises_behind, rest_behind}
use Rattle.merges.proofs.changes.Changes.pass.Goals as goal

pub invariant_of-self : goal.invariant_of-self
invariant_of-self c = rises_behind LoggedChange (λ x. x.interval.ended) c.self.inside.changes.items c.self.inside.put c.self.invariant

pub returns-then-self-len : goal.returns-then-self-len
returns-then-self-len c change rest first = rest_behind LoggedChange c.self.inside.changes.items c.self.inside.put change rest (omega (arith, c.if-self-len.true, c.len.ensures, c.self.inside.changes.ok.0)) (c.self.view_is ∙ first)
