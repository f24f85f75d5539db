use Rattle.std.specs.Prelude.{◌-◌}
use Rattle.std.proofs.Common.{◌≡◌, ℕ, true, false, rules, arith, ap, sym, ◌∙◌}
use Rattle.messages.proofs.Rules.{incarnation_is, none_declared}
use Rattle.messages.proofs.crowd.Crowd.dead.Goals as goal

pub returns-then-not-has : goal.returns-then-not-has
returns-then-not-has c =
    let has : c.has.result ≡ false = search rules in
    none_declared c.args.self.now c.args.node (sym c.has.ensures ∙ has)

pub returns-then-member : goal.returns-then-member
returns-then-member c =
    let has : c.has.result ≡ true = search rules in
    sym (ap (λ (k : ℕ). k - 1) (incarnation_is c.self.inside.nodes.items _ c.self.view_is c.args.node (sym c.has.ensures ∙ has) c.member.inside.alive c.member.inside.last _ c.member.view_is c.index-member.ensures true c.if-member.true))

pub returns-else-member : goal.returns-else-member
returns-else-member c =
    let has : c.has.result ≡ true = search rules in
    let next = incarnation_is c.self.inside.nodes.items _ c.self.view_is c.args.node (sym c.has.ensures ∙ has) c.member.inside.alive c.member.inside.last _ c.member.view_is c.index-member.ensures false c.if-member.false in
    omega (arith, next)
