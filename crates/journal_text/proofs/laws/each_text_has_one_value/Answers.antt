use Rattle.journal_text.proofs.EventKinds.{event}
use Rattle.journal_text.proofs.LineKinds.{line}
use Rattle.message_text.proofs.MessageKinds.{message}
use Rattle.journal_text.proofs.OneReading.{apart-journal}
use Rattle.journal_text.proofs.ReplyKinds.{reply}
use Rattle.journal_text.proofs.laws.each_text_has_one_value.Goals as goal

pub returns : goal.returns
returns c = record { messages = λ version. (message version).apart; events = λ version. (event version).apart; replies = reply.apart; lines = λ version. (line version).apart; journals = apart-journal }
