use Rattle.message_text.proofs.MessageKinds.{messages_have_texts}
use Rattle.message_text.proofs.laws.messages_have_texts.Goals as goal

pub returns : goal.returns
returns c = messages_have_texts
