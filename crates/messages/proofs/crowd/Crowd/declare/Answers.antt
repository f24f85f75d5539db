use Rattle.std.proofs.Common.{◌≡◌, true, false, rules, sym, ◌∙◌}
use Rattle.messages.proofs.Rules.{not_alive, fails}
use Rattle.messages.proofs.crowd.Crowd.declare.Goals as goal

pub returns-then-not-member-clause-err : goal.returns-then-not-member-clause-err
returns-then-not-member-clause-err c =
    let has : c.has.result ≡ true = search rules in
    let dead : c.member.inside.alive ≡ false = search rules in
    not_alive c.self.inside.nodes.items _ c.self.view_is c.args.node (sym c.has.ensures ∙ has) c.member.inside.alive c.member.inside.last _ c.member.view_is c.index-member.ensures dead

pub returns-clause-ok : goal.returns-clause-ok
returns-clause-ok c =
    let has : c.has.result ≡ true = search rules in
    let alive : c.member.inside.alive ≡ true = search rules in
    fails c.self.inside.nodes.items _ c.self.view_is c.args.node (sym c.has.ensures ∙ has) c.member.inside.alive c.member.inside.last _ c.member.view_is c.index-member.ensures alive
