use Rattle.texts.proofs.FirstWords.{none-alone, none-with}
use Rattle.message_text.proofs.MessageKinds.{begins-message}
use Rattle.message_text.proofs.message.message_in.Goals as goal

pub returns-in_err-word : goal.returns-in_err-word
returns-in_err-word g c = rw c.from_residual.ensures (none-alone (begins-message g.V.Edition.version) c.args.text.now c.in_err-word.ensures tt)

pub returns-in_default : goal.returns-in_default
returns-in_default g c =
    let split = c.in_ok-word in
    let other = c.in_default in
    rw split.ensures.1
    (none-with (begins-message g.V.Edition.version) split.word.now split.operands.now split.ensures.0 (other.not-grant, (other.not-revoke, (other.not-deny, (other.not-hello, (other.not-report, (other.not-request, (other.not-taken, (other.not-conflict, (other.not-freed, (other.not-released, tt)))))))))))
