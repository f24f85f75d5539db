use Rattle.std.proofs.Common.{◌≡◌, ◌+◌, arith, ap, ◌∙◌, drop}
use Rattle.merges.specs.rule.Merges.{LogFields}
use Rattle.merges.specs.declared.logged.LoggedEntry.{LoggedEntry}
use Rattle.merges.proofs.Orders.{rises_behind, rest_behind}
use Rattle.merges.proofs.log.Log.pass.Goals as goal

pub invariant_of-self : goal.invariant_of-self
invariant_of-self c = rises_behind LoggedEntry (λ x. x.interval.ended) c.self.inside.entries.items c.self.inside.put c.self.invariant

pub returns-then-self-len : goal.returns-then-self-len
returns-then-self-len c x xs first =
    let left : drop (c.self.inside.put + 1) c.self.inside.entries.items ≡ xs = rest_behind LoggedEntry c.self.inside.entries.items c.self.inside.put x xs (omega (arith, c.if-self-len.true, c.len.ensures, c.self.inside.entries.ok.0)) (ap (λ (l : LogFields). l.entries) c.self.view_is ∙ first) in
    λ i. record { actor = (c.self.view_is i).actor; incarnation = (c.self.view_is i).incarnation; entries = left i }
