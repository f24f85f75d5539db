use Rattle.std.proofs.Common.{◌≡◌, ◌<◌, true, false, rules, sym, ◌∙◌}
use Rattle.messages.proofs.Rules.{not_dead, none_left, restarts_next}
use Rattle.messages.proofs.crowd.Crowd.next.Goals as goal

pub returns-then-member-clause-err : goal.returns-then-member-clause-err
returns-then-member-clause-err c =
    let has : c.has.result ≡ true = search rules in
    not_dead c.self.inside.nodes.items _ c.self.view_is c.args.node (sym c.has.ensures ∙ has) c.member.inside.alive c.member.inside.last _ c.member.view_is c.index-member.ensures c.if-member.true

pub returns-then-member-2-clause-err : goal.returns-then-member-2-clause-err
returns-then-member-2-clause-err c =
    let has : c.has.result ≡ true = search rules in
    let dead : c.member.inside.alive ≡ false = search rules in
    let last : c.member.inside.last ≡ 65535 = search rules in
    none_left c.self.inside.nodes.items _ c.self.view_is c.args.node (sym c.has.ensures ∙ has) c.member.inside.alive c.member.inside.last _ c.member.view_is c.index-member.ensures dead last

pub returns-clause-ok : goal.returns-clause-ok
returns-clause-ok c =
    let has : c.has.result ≡ true = search rules in
    let dead : c.member.inside.alive ≡ false = search rules in
    let few : c.member.inside.last < 65535 = search rules in
    restarts_next c.self.inside.nodes.items _ c.self.view_is c.args.node (sym c.has.ensures ∙ has) c.member.inside.alive c.member.inside.last _ c.member.view_is c.index-member.ensures dead few
