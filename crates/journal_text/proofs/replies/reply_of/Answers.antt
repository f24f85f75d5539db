use Rattle.texts.proofs.FirstWords.{none-alone, none-with}
use Rattle.journal_text.proofs.ReplyKinds.{begins-reply}
use Rattle.journal_text.proofs.replies.reply_of.Goals as goal

pub returns-in_default : goal.returns-in_default
returns-in_default c =
    let split = c.in-Some in
    let other = c.in_default in
    rw split.ensures.1 (none-with begins-reply split.word.now split.operand.now split.ensures.0 (other.not-fd, (other.not-again, (other.not-blocked, tt))))

pub returns-in_default-text : goal.returns-in_default-text
returns-in_default-text c =
    let other = c.in_default-text in
    none-alone begins-reply c.args.text.now c.in-None.ensures (other.not-done, (other.not-free, (other.not-interrupted, (other.not-text, (other.not-exists, (other.not-text-2, (other.not-text-3, (other.not-text-4, (other.not-invalid, (other.not-overflow, tt))))))))))
