use Rattle.std.proofs.Common.{rules}
use Rattle.texts.proofs.FirstWords.{none-alone, none-with}
use Rattle.texts.proofs.OfKinds.{reads-made}
use Rattle.journal_text.proofs.LineKinds.{answers, begins-line}
use Rattle.journal_text.proofs.lines.line_in.Goals as goal

pub returns-in_err-word : goal.returns-in_err-word
returns-in_err-word g c = rw c.from_residual.ensures (none-alone (begins-line g.V.Edition.version) c.args.line.now c.in_err-word.ensures tt)

pub returns-in-reply : goal.returns-in-reply
returns-in-reply g c = rw (c.in_ok-word.ensures.1, c.in-reply.is) (reads-made (answers g.V.Edition.version).kind c.in_ok-word.operands.now c.read.result c.map.result c.read.ensures c.map.ensures.cases (λ f x made. search rules))

pub returns-in_default : goal.returns-in_default
returns-in_default g c =
    let split = c.in_ok-word in
    let other = c.in_default in
    rw split.ensures.1 (none-with (begins-line g.V.Edition.version) split.word.now split.operands.now split.ensures.0 (other.not-entry, (other.not-reply, (other.not-send, (other.not-end, tt)))))
