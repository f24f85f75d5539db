-- The resend of a token server's commands.
use Rattle.std.specs.Prelude.{List, ◌++◌, Result, Ok, Err}
use Rattle.messages.specs.declared.refusal.StepError.{StepError}
use Rattle.messages.specs.declared.message.Message.{Message}
use Rattle.messages.specs.declared.outcome.Outcome.{Outcome}
use Rattle.messages.specs.rule.Messages.{sending}
use Rattle.token_server.specs.rule.State.{ServerState, requeued}
use Rattle.token_server.specs.rule.Serve.{serve}
use Rattle.token_server.specs.rule.Rows.{outstanding_to}

-- the outstanding commands of the server
abbrev pub outstanding : ServerState → List Message
outstanding s = outstanding_to s.rows s.shape.nodes

-- a step that sends these messages first, and then those of serving
abbrev pub sending_first : List Message → Result (ServerState × List Message) StepError → Result (ServerState × Outcome) StepError
sending_first commands (Err e) = Err e
sending_first commands (Ok done) = Ok (done.0, sending (commands ++ done.1))

-- each outstanding command is sent again as it was, the waiting requests are queued again, and then the server serves
abbrev pub resend_rule : ServerState → Result (ServerState × Outcome) StepError
resend_rule s = sending_first (outstanding s) (serve (requeued s))
