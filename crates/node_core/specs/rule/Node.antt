-- The rule of a node.
use Rattle.std.specs.Prelude.{Result}
use Rattle.messages.specs.declared.refusal.StepError.{StepError}
use Rattle.messages.specs.declared.outcome.Outcome.{Outcome}
use Rattle.messages.specs.declared.event.NodeInput.TheVariants.{Call, Interrupt, Retry}
use Rattle.node_core.specs.declared.event.NodeEvent.{NodeEvent}
use Rattle.node_core.specs.declared.event.NodeEvent.TheVariants.{Input, Deliver}
use Rattle.node_core.specs.rule.State.{NodeState}
use Rattle.node_core.specs.rule.Calls.{call_rule}
use Rattle.node_core.specs.rule.Commands.{deliver_rule}
use Rattle.node_core.specs.rule.Interrupts.{interrupt_rule}
use Rattle.node_core.specs.rule.Retries.{retry_rule}

-- the rule of a node: its step at an event, or the reason for which the event is refused
abbrev pub node_rule : NodeState → NodeEvent → Result (NodeState × Outcome) StepError
node_rule s (Input (Call pid op)) = call_rule s pid op
node_rule s (Input (Interrupt pid)) = interrupt_rule s pid
node_rule s (Input (Retry pid)) = retry_rule s pid
node_rule s (Deliver m) = deliver_rule s m
