use Rattle.std.proofs.Common.{rules, sym, ◌∙◌}
use Rattle.node_core.specs.rule.Commands.{in_epoch, revoked}
use Rattle.node_core.specs.rule.Parts.{node_state}
use Rattle.node_core.proofs.PlanLaws.{in_order-next, revoked-in}
use Rattle.node_core.proofs.node.Node.revoke.Goals as goal

pub returns-clause-value : goal.returns-clause-value
returns-clause-value c =
    let s = node_state c.args.self.now in
    let k = c.args.command.now in
    let t = in_epoch s k.file k.number in
    let same = revoked-in s k.file k.number k.call k.mode c.args.wanted in
    in_order-next t c.args.self.now k.file k.number (revoked t k.file k.number k.call k.mode c.args.wanted) (revoked s k.file k.number k.call k.mode c.args.wanted) c.sent.result (sym c.is_next.ensures ∙ c.if-not-is_next.false) same (search rules)
