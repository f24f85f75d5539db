use Rattle.std.specs.Prelude.{◌≡◌, ◌≢◌, List, IfErr, Result, Ok, Err}
use Rattle.std.proofs.Common.{sym, ap, subst, ◌∙◌}
use Rattle.std.proofs.lemmas.Result.{err_from_is_err_and}
use Rattle.messages.specs.declared.message.Message.{Message}
use Rattle.messages.specs.declared.refusal.StepError.{StepError}
use Rattle.messages.specs.declared.refusal.StepError.TheVariants.{NoMemory}
use Rattle.token_server.specs.declared.sent_command.SentCommand.{SentCommand}
use Rattle.token_server.specs.rule.State.{ServerState, awaits}
use Rattle.token_server.specs.rule.Serve.{serve}
use Rattle.token_server.specs.code.Edits.{with_told, commands_told, IsReady, sketched, drafted, held_after, made_of}
use Rattle.token_server.proofs.ReadyLaws.{drafted-serves, drafted-orderly, drafted-apart, told-awaits, told-ready}
use Rattle.token_server.proofs.server.Server.serve_draft.Goals as goal

abbrev Answer : Type 0
Answer = Result (ServerState × List Message) StepError

pub commands-requires-clause-apart : goal.commands-requires-clause-apart
commands-requires-clause-apart c = drafted-apart c.args.self.now c.args.sketch.now c.args.draft.now c.requires

pub commands-requires-clause-counted : goal.commands-requires-clause-counted
commands-requires-clause-counted c = (drafted-orderly c.args.self.now c.args.sketch.now c.args.draft.now c.requires).counted

pub returns-in_err-told-clause-err : goal.returns-in_err-told-clause-err
returns-in_err-told-clause-err c =
    let k = c.args.sketch.now in
    let made = err_from_is_err_and c.from_residual.result c.from_residual.ensures.1 in
    let P : Result _ StepError → Type 0 = λ r. IfErr r (λ e. e ≢ NoMemory → serve (sketched c.args.self.now k) ≡ Err e) in
    subst P (sym made.1) (λ other. drafted-serves c.args.self.now k c.args.draft.now c.requires ∙ c.in_err-told.ensures.err (λ none. other (made.2 ∙ none)) ∙ ap (λ (e : StepError). let a : Answer = Err e in a) (sym made.2))

pub returns-clause-ok : goal.returns-clause-ok
returns-clause-ok c =
    let p = c.args.self.now in
    let k = c.args.sketch.now in
    let d = c.args.draft.now in
    let told : List SentCommand = c.in_ok-told.told.items in
    let given : made_of p d c.in_ok-given.given.items ≡ with_told told (drafted p d) = c.in_ok-given.ensures ∙ ap (λ (ts : List SentCommand). with_told ts (drafted p d)) c.as_slice.ensures.value in
    let sent : c.in_ok-commands_told.field-0 ≡ commands_told told = c.in_ok-commands_told.ensures ∙ ap commands_told c.as_slice-2.ensures.value in
    record {
      comes = drafted-serves p k d c.requires ∙ c.in_ok-told.ensures.ok ∙ sym (λ i. let a : Answer = Ok (given i, sent i) in a);
      awaited = c.requires.awaited ∙ sym (told-awaits p k d c.requires told (commands_told told) c.in_ok-told.ensures.ok) ∙ sym (ap awaits given);
      ready = subst (λ (s : ServerState). IsReady s (held_after d p.active.held)) (sym given) (told-ready p k d c.requires told (commands_told told) c.in_ok-told.ensures.ok c.in_ok-told.ensures.waits c.in_ok-told.ensures.quiet);
    }
