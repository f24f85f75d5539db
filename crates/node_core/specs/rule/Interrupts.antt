-- How a node interrupts the wait of a process.
use Rattle.std.specs.Prelude.{ℕ, if◌then◌else◌, Option, Some, None, Result, Ok, Err}
use Rattle.model.specs.declared.reply.Reply.{Reply}
use Rattle.model.specs.declared.reply.Reply.TheVariants.{Interrupted}
use Rattle.messages.specs.declared.refusal.StepError.{StepError}
use Rattle.messages.specs.declared.refusal.StepError.TheVariants.{Stranger}
use Rattle.messages.specs.declared.outcome.Outcome.{Outcome}
use Rattle.model.specs.declared.op.LockCommand.{LockCommand}
use Rattle.model.specs.declared.op.LockCommand.TheVariants.{Wait}
use Rattle.node_core.specs.declared.open_call.OpenCall.{OpenCall}
use Rattle.node_core.specs.rule.State.{NodeState, Effect, open_call_of, outcome, quiet}
use Rattle.node_core.specs.rule.Try.{answered_if}
use Rattle.node_core.specs.rule.Calls.{is_pid}

-- the reply to an interrupt; none unless the call is a wait
abbrev pub interruption_of : LockCommand → Option Reply
interruption_of Wait = Some Interrupted
interruption_of _ = None

-- POSIX.1-2017 fcntl(), EINTR: a call that waits is answered and open no longer; nothing happens to any other call
abbrev pub interrupted : NodeState → Option OpenCall → Effect
interrupted s None = quiet s
interrupted s (Some c) = answered_if s c.number (interruption_of c.lock_command)

abbrev pub interrupt_rule : NodeState → ℕ → Result (NodeState × Outcome) StepError
interrupt_rule s pid = if is_pid pid then Ok (outcome None (interrupted s (open_call_of s pid))) else Err Stranger
