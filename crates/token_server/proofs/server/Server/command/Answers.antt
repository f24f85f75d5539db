use Rattle.std.specs.Prelude.{◌≡◌, ℕ, Option, Some, Result, Ok}
use Rattle.std.specs.Option.{option_map}
use Rattle.std.proofs.Common.{sym, ap, refl, ◌∙◌}
use Rattle.messages.specs.declared.refusal.StepError.{StepError}
use Rattle.messages.specs.rule.Shapes.{before_epoch}
use Rattle.token_server.specs.declared.sent_command.SentCommand.{SentCommand}
use Rattle.token_server.specs.rule.Rows.{Commands}
use Rattle.token_server.specs.rule.State.{ServerState, begin}
use Rattle.token_server.specs.code.Rows.{next_number}
use Rattle.token_server.specs.rule.Parts.{ServerParts}
use Rattle.token_server.specs.code.Edits.{commands_of, with_told, drafted}
use Rattle.token_server.specs.declared.known_nodes.server_command.Order.TheVariants.{Revoke}
use Rattle.token_server.specs.rule.Serve.{narrowed}
use Rattle.token_server.specs.code.Orders.{message_of}
use Rattle.token_server.proofs.ToldLaws.{has_number}
use Rattle.token_server.proofs.TurnLaws.{turn-gone, turn-sent}
use Rattle.token_server.proofs.server.Server.command.Goals as goal

pub returns-in_default-clause-ok : goal.returns-in_default-clause-ok
returns-in_default-clause-ok c =
    turn-gone c.args.told.now (drafted c.args.self.now c.args.draft.now) c.args.request.now c.args.at c.requires.waits (sym c.in_default.is ∙ c.commands_to.ensures.value)

pub returns-clause-ok : goal.returns-clause-ok
returns-clause-ok c =
    let s : ServerState = drafted c.args.self.now c.args.draft.now in
    let commands : Commands = c.in-Some.commands in
    let t : SentCommand = record { node = c.args.at; commands = c.told.result; command = c.of-command.result } in
    let known : Some commands ≡ option_map commands_of ((with_told c.args.told.now s).rows c.args.at) = sym c.in-Some.is ∙ c.commands_to.ensures.value in
    let next : next_number (begin s) commands ≡ Ok (Some c.in-Some-2.number) = ap (λ (p : ServerParts). next_number (before_epoch p.epoch) commands) (sym c.self.view_is) ∙ sym c.next_number.ensures ∙ c.in_ok-number.was ∙ ap (λ (o : Option ℕ). let x : Result (Option ℕ) StepError = Ok o in x) c.in-Some-2.is in
    let command : t.command ≡ message_of s.file c.order-order.result = c.of-command.ensures ∙ ap (λ (p : ServerParts). message_of p.file c.order-order.result) c.self.view_is in
    turn-sent c.args.told.now s c.args.request.now c.args.at c.requires.waits commands c.in-Some-2.number c.order-order.result t known next refl command c.told.ensures c.order-order.ensures.own
    (λ other. c.order-order.ensures.other other ∙ ap (λ (k : ℕ). Revoke c.in-Some-2.number (record { node = c.args.at; incarnation = k }) c.args.request.now.call c.args.request.now.mode (record { required = c.args.request.now.wanted.required; desired = narrowed s.active c.args.request.now })) c.incarnation.ensures.value)

pub told-requires : goal.told-requires
told-requires c =
    let next : next_number (before_epoch c.self.inside.epoch) c.in-Some.commands ≡ Ok (Some c.in-Some-2.number) = sym c.next_number.ensures ∙ c.in_ok-number.was ∙ ap (λ (o : Option ℕ). let x : Result (Option ℕ) StepError = Ok o in x) c.in-Some-2.is in
    (has_number (before_epoch c.self.inside.epoch) c.in-Some.commands c.in-Some-2.number next).number
