use Rattle.std.proofs.Common.{◌≡◌, ℕ, ◌+◌, Bool, true, false, ◌&&◌, nat_le, nat_lt, rules, arith, ap, sym, ◌∙◌}
use Rattle.std.proofs.lemmas.Bool.Decides.{nat_tests}
use Rattle.messages.proofs.Rules.{declared_is}
use Rattle.messages.proofs.crowd.Crowd.declared.Goals as goal

pub returns-then-incarnation-ge1 : goal.returns-then-incarnation-ge1
returns-then-incarnation-ge1 c =
    let has : c.has.result ≡ true = search rules in
    let ge : nat_le 1 c.args.incarnation ≡ true = search rules in
    sym (declared_is c.self.inside.nodes.items _ c.self.view_is c.args.node (sym c.has.ensures ∙ has) c.member.inside.alive c.member.inside.last _ c.member.view_is c.index-member.ensures true c.if-member.true c.args.incarnation ∙ ap (λ (b : Bool). b && nat_lt c.args.incarnation c.member.inside.last) ge)

pub returns-then-incarnation-ge1-2 : goal.returns-then-incarnation-ge1-2
returns-then-incarnation-ge1-2 c =
    let has : c.has.result ≡ true = search rules in
    let ge : nat_le 1 c.args.incarnation ≡ true = search rules in
    sym (declared_is c.self.inside.nodes.items _ c.self.view_is c.args.node (sym c.has.ensures ∙ has) c.member.inside.alive c.member.inside.last _ c.member.view_is c.index-member.ensures false c.if-member.false c.args.incarnation ∙ (ap (λ (b : Bool). b && nat_lt c.args.incarnation (c.member.inside.last + 1)) ge ∙ below c.args.incarnation c.member.inside.last))
  where
    below : (i last : ℕ) → nat_lt i (last + 1) ≡ nat_le i last
    below i last = grind (arith, nat_tests)
