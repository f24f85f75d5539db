use Rattle.std.specs.Prelude.{◌≡◌, ◌≢◌, [], Result, Ok, Err}
use Rattle.std.proofs.Common.{sym, ap, subst, ◌∙◌}
use Rattle.std.proofs.lemmas.Result.{IfOk-weaker, IfErr-weaker}
use Rattle.messages.specs.declared.outcome.Outcome.{Outcome}
use Rattle.messages.specs.declared.refusal.StepError.{StepError}
use Rattle.messages.specs.declared.refusal.StepError.TheVariants.{NoMemory}
use Rattle.messages.specs.rule.Messages.{sending}
use Rattle.token_server.specs.rule.State.{ServerState}
use Rattle.token_server.specs.rule.Serve.{serve}
use Rattle.token_server.specs.rule.Resends.{sending_first}
use Rattle.token_server.specs.rule.Parts.{ServerParts, server_state}
use Rattle.token_server.specs.code.Edits.{IsReady, IsOrderly, sketched, planned}
use Rattle.token_server.proofs.ReadyLaws.{nothing-served, never-refused}
use Rattle.token_server.proofs.server.Server.no_change.Goals as goal

abbrev Done : Type 0
Done = Result (ServerState × Outcome) StepError

same-done : (a b : ServerState × Outcome) → ◌≡◌ {A = Done} (Ok a) (Ok b) → a ≡ b
same-done a b is = cc

pub serve_after-requires-clause-orderly : goal.serve_after-requires-clause-orderly
serve_after-requires-clause-orderly c =
    subst IsOrderly (sym (ap (sketched c.args.self.now) c.moving.ensures)) (subst (λ (p : ServerParts). IsOrderly (server_state p)) c.self.view_is c.self.invariant.ready.orderly)

pub returns-clause-state : goal.returns-clause-state
returns-clause-state c =
    let p = c.args.self.now in
    let holds : IsReady (server_state p) p.active.held = subst (λ (q : ServerParts). IsReady (server_state q) q.active.held) c.self.view_is c.self.invariant.ready in
    let done : Done = sending_first c.nothing.result (serve (sketched p c.moving.result)) in
    IfOk-weaker c.serve_after.result (λ change. done ≡ Ok (planned p change.edit, change.outcome)) (λ change. planned p change.edit ≡ server_state p)
    (λ change is. ap (λ (x : ServerState × Outcome). x.0) (same-done _ _ (sym is ∙ nothing-served p c.moving.result c.nothing.result c.moving.ensures c.nothing.ensures holds))) c.serve_after.ensures.ok

pub returns-clause-outcome : goal.returns-clause-outcome
returns-clause-outcome c =
    let p = c.args.self.now in
    let holds : IsReady (server_state p) p.active.held = subst (λ (q : ServerParts). IsReady (server_state q) q.active.held) c.self.view_is c.self.invariant.ready in
    let done : Done = sending_first c.nothing.result (serve (sketched p c.moving.result)) in
    IfOk-weaker c.serve_after.result (λ change. done ≡ Ok (planned p change.edit, change.outcome)) (λ change. change.outcome ≡ sending [])
    (λ change is. ap (λ (x : ServerState × Outcome). x.1) (same-done _ _ (sym is ∙ nothing-served p c.moving.result c.nothing.result c.moving.ensures c.nothing.ensures holds))) c.serve_after.ensures.ok

pub returns-clause-err : goal.returns-clause-err
returns-clause-err c =
    let p = c.args.self.now in
    let holds : IsReady (server_state p) p.active.held = subst (λ (q : ServerParts). IsReady (server_state q) q.active.held) c.self.view_is c.self.invariant.ready in
    let done : Done = sending_first c.nothing.result (serve (sketched p c.moving.result)) in
    IfErr-weaker c.serve_after.result (λ e. e ≢ NoMemory → done ≡ Err e) (λ e. e ≡ NoMemory)
    (λ e refused. never-refused e done _ refused (nothing-served p c.moving.result c.nothing.result c.moving.ensures c.nothing.ensures holds)) c.serve_after.ensures.err
