use Rattle.std.specs.Prelude.{◌≡◌, ◌≢◌, Bool, true, not, cond, [], Result, Ok, Err}
use Rattle.std.proofs.Common.{sym, ap, subst, ◌∙◌, arith}
use Rattle.std.proofs.lemmas.Bool.{and_from, le-leb}
use Rattle.std.proofs.lemmas.Result.{IfOk-weaker, IfErr-weaker}
use Rattle.messages.specs.declared.outcome.Outcome.{Outcome}
use Rattle.messages.specs.declared.refusal.StepError.{StepError}
use Rattle.messages.specs.declared.refusal.StepError.TheVariants.{NoMemory, Stranger}
use Rattle.messages.specs.rule.Messages.{is_within}
use Rattle.token_server.specs.rule.State.{ServerState, forgotten, requeued}
use Rattle.token_server.specs.rule.Serve.{serve}
use Rattle.token_server.specs.rule.Resends.{sending_first}
use Rattle.token_server.specs.rule.Server.{learn_rule}
use Rattle.token_server.specs.rule.Parts.{ServerParts, server_state}
use Rattle.token_server.specs.code.Edits.{IsOrderly, sketched, planned}
use Rattle.token_server.proofs.OrderlyLaws.{orderly-forgotten, orderly-requeued}
use Rattle.token_server.proofs.SketchLaws.{learn-spent}
use Rattle.token_server.proofs.server.Server.learn.Goals as goal

abbrev Done : Type 0
Done = Result (ServerState × Outcome) StepError

pub serve_after-requires-clause-orderly : goal.serve_after-requires-clause-orderly
serve_after-requires-clause-orderly c =
    let s = server_state c.args.self.now in
    subst IsOrderly (sym (ap (sketched c.args.self.now) c.of-sketch.ensures)) (orderly-requeued (forgotten s c.args.node c.args.incarnation) (orderly-forgotten s c.args.node c.args.incarnation (subst (λ (p : ServerParts). IsOrderly (server_state p)) c.self.view_is c.self.invariant.ready.orderly)))

pub returns-clause-refused : goal.returns-clause-refused
returns-clause-refused c = λ r other refused.
    let nodes : c.nodes.result ≡ c.args.self.now.shape.nodes = c.nodes.ensures.value ∙ ap (λ (p : ServerParts). p.shape.nodes) c.self.view_is in
    absurd (other (learn-spent (server_state c.args.self.now) c.args.node c.args.incarnation r (and_from _ _ (le-leb 1 c.args.node (omega (arith, c.if-node-eq0.false))) (le-leb c.args.node c.args.self.now.shape.nodes (omega (arith, nodes, c.if-node-nodes.false)))) refused))

pub returns-clause-ok : goal.returns-clause-ok
returns-clause-ok c =
    let p = c.args.self.now in
    let s = server_state p in
    let nodes : c.nodes.result ≡ c.args.self.now.shape.nodes = c.nodes.ensures.value ∙ ap (λ (q : ServerParts). q.shape.nodes) c.self.view_is in
    let within : is_within s.shape.nodes c.args.node ≡ true = and_from _ _ (le-leb 1 c.args.node (omega (arith, c.if-node-eq0.false))) (le-leb c.args.node c.args.self.now.shape.nodes (omega (arith, nodes, c.if-node-nodes.false))) in
    let done : Done = sending_first c.nothing.result (serve (sketched p c.of-sketch.result)) in
    let rule : learn_rule s c.args.node c.args.incarnation ≡ done =
    ap (λ (b : Bool). let x : Done = cond (not b) (Err Stranger) (sending_first [] (serve (requeued (forgotten s c.args.node c.args.incarnation)))) in x) within
    ∙ sym (λ i. sending_first (c.nothing.ensures i) (serve (sketched p (c.of-sketch.ensures i)))) in
    IfOk-weaker c.serve_after.result (λ change. done ≡ Ok (planned p change.edit, change.outcome)) (λ change. learn_rule s c.args.node c.args.incarnation ≡ Ok (planned p change.edit, change.outcome)) (λ change is. rule ∙ is) c.serve_after.ensures.ok

pub returns-clause-err : goal.returns-clause-err
returns-clause-err c =
    let p = c.args.self.now in
    let s = server_state p in
    let nodes : c.nodes.result ≡ c.args.self.now.shape.nodes = c.nodes.ensures.value ∙ ap (λ (q : ServerParts). q.shape.nodes) c.self.view_is in
    let within : is_within s.shape.nodes c.args.node ≡ true = and_from _ _ (le-leb 1 c.args.node (omega (arith, c.if-node-eq0.false))) (le-leb c.args.node c.args.self.now.shape.nodes (omega (arith, nodes, c.if-node-nodes.false))) in
    let done : Done = sending_first c.nothing.result (serve (sketched p c.of-sketch.result)) in
    let rule : learn_rule s c.args.node c.args.incarnation ≡ done =
    ap (λ (b : Bool). let x : Done = cond (not b) (Err Stranger) (sending_first [] (serve (requeued (forgotten s c.args.node c.args.incarnation)))) in x) within
    ∙ sym (λ i. sending_first (c.nothing.ensures i) (serve (sketched p (c.of-sketch.ensures i)))) in
    IfErr-weaker c.serve_after.result (λ e. e ≢ NoMemory → done ≡ Err e) (λ e. e ≢ NoMemory → learn_rule s c.args.node c.args.incarnation ≡ Err e) (λ e refused other. rule ∙ refused other) c.serve_after.ensures.err
