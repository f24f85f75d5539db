use Rattle.std.specs.Prelude.{◌≡◌, ◌<◌, ◌≤◌, Option}
use Rattle.std.specs.Option.{option_map, option_to_list}
use Rattle.std.proofs.Common.{sym, ap, subst, ◌∙◌, arith}
use Rattle.model.specs.rule.Limits.{HostFields}
use Rattle.messages.specs.declared.message.Message.{Message}
use Rattle.messages.specs.rule.Messages.{host_of}
use Rattle.token_server.specs.declared.sketch.Sketch.{Sketch}
use Rattle.token_server.specs.rule.RowParts.{deaths_of}
use Rattle.token_server.specs.rule.Parts.{ServerParts, server_state}
use Rattle.token_server.specs.code.Edits.{IsOrderly, sketched}
use Rattle.token_server.proofs.OrderlyLaws.{orderly-delivered}
use Rattle.token_server.proofs.SketchLaws.{deliver-spent}
use Rattle.token_server.proofs.server.Server.plan_delivery.Goals as goal

pub serve_after-requires-clause-orderly : goal.serve_after-requires-clause-orderly
serve_after-requires-clause-orderly c =
    let m = c.args.message.now in
    let s = server_state c.args.self.now in
    let host = c.host.view_is ∙ c.host-host.ensures in
    let node : c.host.inside.node ≡ (host_of m).node = ap (λ (h : HostFields). h.node) host in
    let incarnation : c.host.inside.incarnation ≡ (host_of m).incarnation = ap (λ (h : HostFields). h.incarnation) host in
    let counted : 1 ≤ (host_of m).incarnation = omega (arith, incarnation, c.host.invariant.incarnation_in) in
    let known : c.dead.result ≡ s.dead (host_of m).node = c.dead.ensures ∙ (λ i. deaths_of (ap (λ (p : ServerParts). p.known_nodes) c.self.view_is i) (node i)) in
    let living : s.dead (host_of m).node < (host_of m).incarnation = omega (arith, known, incarnation, c.if-host-dead.false) in
    orderly-delivered s m (sketched c.args.self.now c.in-Some.sketch, option_to_list c.in-Some.first) counted living (c.in_ok-sketch.ensures.state ∙ ap (λ (o : Option (Sketch × Option Message)). option_map (λ d. (sketched c.args.self.now d.0, option_to_list d.1)) o) c.in-Some.is) (subst (λ (p : ServerParts). IsOrderly (server_state p)) c.self.view_is c.self.invariant.ready.orderly)

pub returns-in_err-sketch-clause-refused : goal.returns-in_err-sketch-clause-refused
returns-in_err-sketch-clause-refused c = λ r other refused.
    absurd (other (deliver-spent (server_state c.args.self.now) c.args.message.now r (sym c.is_addressed_by.ensures ∙ c.if-not-is_addressed_by.false) refused))

pub returns-in_err-in_list-in-Some-clause-refused : goal.returns-in_err-in_list-in-Some-clause-refused
returns-in_err-in_list-in-Some-clause-refused c = λ r other refused.
    absurd (other (deliver-spent (server_state c.args.self.now) c.args.message.now r (sym c.is_addressed_by.ensures ∙ c.if-not-is_addressed_by.false) refused))

pub returns-in_ok-in_list-in-Some-clause-refused : goal.returns-in_ok-in_list-in-Some-clause-refused
returns-in_ok-in_list-in-Some-clause-refused c = λ r other refused.
    absurd (other (deliver-spent (server_state c.args.self.now) c.args.message.now r (sym c.is_addressed_by.ensures ∙ c.if-not-is_addressed_by.false) refused))
