use Rattle.std.specs.Prelude.{◌≡◌, All}
use Rattle.std.proofs.Common.{sym, ap, subst, ◌∙◌, arith}
use Rattle.token_server.specs.rule.RowParts.{deaths_of}
use Rattle.token_server.specs.rule.Parts.{ServerParts, server_state}
use Rattle.token_server.specs.rule.State.{requests}
use Rattle.token_server.specs.code.Edits.{dropped}
use Rattle.token_server.proofs.CareLaws.{requests-parts}
use Rattle.token_server.proofs.OrderlyLaws.{Living}
use Rattle.token_server.proofs.ReadyLaws.{living-without}
use Rattle.token_server.proofs.server.Server.newly_dead.Goals as goal

pub returns-in_default-clause-active : goal.returns-in_default-clause-active
returns-in_default-clause-active c =
    let s = server_state c.args.self.now in
    let all = requests-parts (Living s.dead) s (subst (λ (p : ServerParts). All (Living (server_state p).dead) (requests (server_state p))) c.self.view_is c.self.invariant.ready.orderly.living) in
    let known : c.dead.result ≡ s.dead c.in-Some.node = c.dead.ensures ∙ ap (λ (p : ServerParts). deaths_of p.known_nodes c.in-Some.node) c.self.view_is in
    living-without s.dead c.in-Some.node c.in-Some.incarnation (dropped c.args.sketch.now.changed) _ (sym c.dropped.ensures ∙ c.in-Some.is) (omega (arith, known, c.if-incarnation-dead.false)) all.active

pub returns-in_default-clause-queue : goal.returns-in_default-clause-queue
returns-in_default-clause-queue c =
    let s = server_state c.args.self.now in
    let all = requests-parts (Living s.dead) s (subst (λ (p : ServerParts). All (Living (server_state p).dead) (requests (server_state p))) c.self.view_is c.self.invariant.ready.orderly.living) in
    let known : c.dead.result ≡ s.dead c.in-Some.node = c.dead.ensures ∙ ap (λ (p : ServerParts). deaths_of p.known_nodes c.in-Some.node) c.self.view_is in
    living-without s.dead c.in-Some.node c.in-Some.incarnation (dropped c.args.sketch.now.changed) _ (sym c.dropped.ensures ∙ c.in-Some.is) (omega (arith, known, c.if-incarnation-dead.false)) all.queue

pub returns-in_default-clause-waiting : goal.returns-in_default-clause-waiting
returns-in_default-clause-waiting c =
    let s = server_state c.args.self.now in
    let all = requests-parts (Living s.dead) s (subst (λ (p : ServerParts). All (Living (server_state p).dead) (requests (server_state p))) c.self.view_is c.self.invariant.ready.orderly.living) in
    let known : c.dead.result ≡ s.dead c.in-Some.node = c.dead.ensures ∙ ap (λ (p : ServerParts). deaths_of p.known_nodes c.in-Some.node) c.self.view_is in
    living-without s.dead c.in-Some.node c.in-Some.incarnation (dropped c.args.sketch.now.changed) _ (sym c.dropped.ensures ∙ c.in-Some.is) (omega (arith, known, c.if-incarnation-dead.false)) all.waiting
