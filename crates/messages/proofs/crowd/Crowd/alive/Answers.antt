use Rattle.std.proofs.Common.{◌≡◌, true, false, rules, sym, ◌∙◌}
use Rattle.messages.proofs.Rules.{live_is}
use Rattle.messages.proofs.crowd.Crowd.alive.Goals as goal

pub returns-then-member-clause-value : goal.returns-then-member-clause-value
returns-then-member-clause-value c =
    let has : c.has.result ≡ true = search rules in
    sym (live_is c.self.inside.nodes.items _ c.self.view_is c.args.node (sym c.has.ensures ∙ has) c.member.inside.alive c.member.inside.last _ c.member.view_is c.index-member.ensures true c.if-member.true)

pub returns-else-member-clause-value : goal.returns-else-member-clause-value
returns-else-member-clause-value c =
    let has : c.has.result ≡ true = search rules in
    sym (live_is c.self.inside.nodes.items _ c.self.view_is c.args.node (sym c.has.ensures ∙ has) c.member.inside.alive c.member.inside.last _ c.member.view_is c.index-member.ensures false c.if-member.false)
