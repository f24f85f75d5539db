-- The answers to commands that a node remembers.
use Rattle.std.specs.Prelude.{ℕ, Option, Some, None}
use Rattle.model.specs.declared.call.CallId.{CallId}
use Rattle.messages.specs.declared.message.Message.{Message}
use Rattle.messages.specs.declared.message.Message.TheVariants as message
use Rattle.node_core.specs.declared.answer.Answer.{Answer}
use Rattle.node_core.specs.declared.answer.AnswerBody.{AnswerBody}
use Rattle.node_core.specs.declared.answer.AnswerBody.TheVariants.{Taken, GaveUp}
use Rattle.node_core.specs.rule.Commands.{answer_to}

-- the answer to a command, given by its file, number and call, as a message
abbrev pub message_on : ℕ → ℕ → CallId → AnswerBody → Message
message_on file number call Taken = message.Taken file number call
message_on file number call (GaveUp holder gives) = answer_to file number holder call gives

-- the answer as a message
abbrev pub message_of : Answer → Message
message_of answer = message_on answer.file answer.number answer.call answer.body

-- the remembered answer as a message, if there is one
abbrev pub answer_of : Option Answer → Option Message
answer_of None = None
answer_of (Some answer) = Some (message_of answer)
