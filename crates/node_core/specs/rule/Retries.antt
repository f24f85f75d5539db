-- How a node tries the open call of a process again.
use Rattle.std.specs.Prelude.{ℕ, if◌then◌else◌, None, Result, Ok, Err}
use Rattle.messages.specs.declared.refusal.StepError.{StepError}
use Rattle.messages.specs.declared.refusal.StepError.TheVariants.{Stranger}
use Rattle.messages.specs.declared.outcome.Outcome.{Outcome}
use Rattle.node_core.specs.rule.State.{NodeState, open_call_of, outcome}
use Rattle.node_core.specs.rule.Try.{tried_if}
use Rattle.node_core.specs.rule.Calls.{is_pid}

-- the rule of retries: the open call of the process is tried, with its own number; without one nothing happens
abbrev pub retry_rule : NodeState → ℕ → Result (NodeState × Outcome) StepError
retry_rule s pid = if is_pid pid then Ok (outcome None (tried_if s (open_call_of s pid))) else Err Stranger
