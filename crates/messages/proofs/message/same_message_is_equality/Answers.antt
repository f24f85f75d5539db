use Rattle.messages.proofs.SameMessages.{same_message-is-equality}
use Rattle.messages.proofs.message.same_message_is_equality.Goals as goal

pub returns : goal.returns
returns c = same_message-is-equality
