use Rattle.std.specs.Prelude.{◌≡◌, ◌≢◌, Result, Ok, Err}
use Rattle.std.proofs.Common.{sym, ap, subst, ◌∙◌}
use Rattle.std.proofs.lemmas.Result.{IfOk-weaker, IfErr-weaker}
use Rattle.messages.specs.declared.outcome.Outcome.{Outcome}
use Rattle.messages.specs.declared.refusal.StepError.{StepError}
use Rattle.messages.specs.declared.refusal.StepError.TheVariants.{NoMemory}
use Rattle.token_server.specs.rule.State.{ServerState}
use Rattle.token_server.specs.rule.Serve.{serve}
use Rattle.token_server.specs.rule.Rows.{outstanding_to}
use Rattle.token_server.specs.rule.Resends.{outstanding, sending_first, resend_rule}
use Rattle.token_server.specs.rule.RowParts.{rows_of}
use Rattle.token_server.specs.rule.Parts.{ServerParts, server_state}
use Rattle.token_server.specs.code.Edits.{IsOrderly, sketched, planned}
use Rattle.token_server.proofs.OrderlyLaws.{orderly-requeued}
use Rattle.token_server.proofs.SketchLaws.{resend-spent}
use Rattle.token_server.proofs.server.Server.resend.Goals as goal

abbrev Done : Type 0
Done = Result (ServerState × Outcome) StepError

pub serve_after-requires-clause-orderly : goal.serve_after-requires-clause-orderly
serve_after-requires-clause-orderly c =
    subst IsOrderly (sym (ap (sketched c.args.self.now) c.moving.ensures)) (orderly-requeued (server_state c.args.self.now) (subst (λ (p : ServerParts). IsOrderly (server_state p)) c.self.view_is c.self.invariant.ready.orderly))

pub returns-in_err-commands-clause-refused : goal.returns-in_err-commands-clause-refused
returns-in_err-commands-clause-refused c = λ r refused. resend-spent (server_state c.args.self.now) r refused

pub returns-clause-refused : goal.returns-clause-refused
returns-clause-refused c = λ r refused. resend-spent (server_state c.args.self.now) r refused

pub returns-clause-ok : goal.returns-clause-ok
returns-clause-ok c =
    let p = c.args.self.now in
    let known_nodes = c.self.inside.known_nodes in
    let sent : c.in_ok-commands.commands ≡ outstanding (server_state p) = c.in_ok-commands.ensures ∙ ap (outstanding_to (rows_of known_nodes)) c.self.invariant.each_node ∙ ap (λ (q : ServerParts). outstanding (server_state q)) c.self.view_is in
    let done : Done = sending_first c.in_ok-commands.commands (serve (sketched p c.moving.result)) in
    let rule : resend_rule (server_state p) ≡ done = sym ((λ i. sending_first (sent i) (serve (sketched p (c.moving.ensures i))))) in
    IfOk-weaker c.serve_after.result (λ change. done ≡ Ok (planned p change.edit, change.outcome)) (λ change. resend_rule (server_state p) ≡ Ok (planned p change.edit, change.outcome)) (λ change is. rule ∙ is) c.serve_after.ensures.ok

pub returns-clause-err : goal.returns-clause-err
returns-clause-err c =
    let p = c.args.self.now in
    let known_nodes = c.self.inside.known_nodes in
    let sent : c.in_ok-commands.commands ≡ outstanding (server_state p) = c.in_ok-commands.ensures ∙ ap (outstanding_to (rows_of known_nodes)) c.self.invariant.each_node ∙ ap (λ (q : ServerParts). outstanding (server_state q)) c.self.view_is in
    let done : Done = sending_first c.in_ok-commands.commands (serve (sketched p c.moving.result)) in
    let rule : resend_rule (server_state p) ≡ done = sym ((λ i. sending_first (sent i) (serve (sketched p (c.moving.ensures i))))) in
    IfErr-weaker c.serve_after.result (λ e. e ≢ NoMemory → done ≡ Err e) (λ e. e ≢ NoMemory → resend_rule (server_state p) ≡ Err e) (λ e refused other. rule ∙ refused other) c.serve_after.ensures.err
