use Rattle.std.specs.Prelude.{◌≡◌, ◌≤◌}
use Rattle.std.proofs.Common.{arith, ap, ◌∙◌}
use Rattle.model.specs.rule.Limits.{HostFields}
use Rattle.token_server.specs.rule.State.{begin}
use Rattle.token_server.specs.rule.Parts.{ServerParts, server_state}
use Rattle.token_server.specs.code.Edits.{sketched}
use Rattle.token_server.proofs.SketchLaws.{asked-from}
use Rattle.token_server.proofs.server.Server.ask.Goals as goal

pub returns-clause-state : goal.returns-clause-state
returns-clause-state c =
    let host = c.host.view_is ∙ c.host-host.ensures in
    let node : c.host.inside.node ≡ c.args.request.call.node = ap (λ (h : HostFields). h.node) host in
    let incarnation : c.host.inside.incarnation ≡ c.args.request.call.incarnation = ap (λ (h : HostFields). h.incarnation) host in
    let counted : 1 ≤ c.args.request.call.incarnation = omega (arith, incarnation, c.host.invariant.incarnation_in) in
    ap (sketched c.args.self.now) c.of.ensures ∙ asked-from c.args.self.now c.args.request _ _ _ _ counted node c.host-host.ensures (c.before_epoch-begin.ensures ∙ ap (λ (p : ServerParts). begin (server_state p)) c.self.view_is) c.enqueued-moved.ensures
