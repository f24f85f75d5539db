use Rattle.std.proofs.Common.{rules}
use Rattle.texts.proofs.FirstWords.{none-alone, none-with}
use Rattle.texts.proofs.OfKinds.{reads-made}
use Rattle.journal_text.proofs.EventKinds.{begins-event, calls, fails, interrupts, learns, retries, starts}
use Rattle.journal_text.proofs.events.event_in.Goals as goal

pub returns-in_err-word : goal.returns-in_err-word
returns-in_err-word g c = rw c.from_residual.ensures (none-alone (begins-event g.V.Edition.version) c.args.text.now c.in_err-word.ensures tt)

pub returns-in-call : goal.returns-in-call
returns-in-call g c = rw (c.in_ok-word.ensures.1, c.in-call.is) (reads-made (calls g.V.Edition.version).kind c.in_ok-word.operands.now c.read.result c.map.result c.read.ensures c.map.ensures.cases (λ f x made. search rules))

pub returns-in-interrupt : goal.returns-in-interrupt
returns-in-interrupt g c = rw (c.in_ok-word.ensures.1, c.in-interrupt.is) (reads-made (interrupts g.V.Edition.version).kind c.in_ok-word.operands.now c.read-in-interrupt.result c.map-in-interrupt.result c.read-in-interrupt.ensures c.map-in-interrupt.ensures.cases (λ f x made. search rules))

pub returns-in-retry : goal.returns-in-retry
returns-in-retry g c = rw (c.in_ok-word.ensures.1, c.in-retry.is) (reads-made (retries g.V.Edition.version).kind c.in_ok-word.operands.now c.read-in-retry.result c.map-in-retry.result c.read-in-retry.ensures c.map-in-retry.ensures.cases (λ f x made. search rules))

pub returns-in-learn : goal.returns-in-learn
returns-in-learn g c = rw (c.in_ok-word.ensures.1, c.in-learn.is) (reads-made (learns g.V.Edition.version).kind c.in_ok-word.operands.now c.read-in-learn.result c.map-in-learn.result c.read-in-learn.ensures c.map-in-learn.ensures.cases (λ f x made. search rules))

pub returns-in-text : goal.returns-in-text
returns-in-text g c = rw (c.in_ok-word.ensures.1, c.in-text.is) (reads-made (fails g.V.Edition.version).kind c.in_ok-word.operands.now c.epoch_in.result c.map-in-text.result c.epoch_in.ensures c.map-in-text.ensures.cases (λ f x made. search rules))

pub returns-in-text-2 : goal.returns-in-text-2
returns-in-text-2 g c = rw (c.in_ok-word.ensures.1, c.in-text-2.is) (reads-made (starts g.V.Edition.version).kind c.in_ok-word.operands.now c.epoch_in-in-text-2.result c.map-in-text-2.result c.epoch_in-in-text-2.ensures c.map-in-text-2.ensures.cases (λ f x made. search rules))

pub returns-in_default : goal.returns-in_default
returns-in_default g c =
    let split = c.in_ok-word in
    let other = c.in_default in
    rw split.ensures.1 (none-with (begins-event g.V.Edition.version) split.word.now split.operands.now split.ensures.0 (other.not-call, (other.not-deliver, (other.not-interrupt, (other.not-retry, (other.not-resend, (other.not-declare, (other.not-restart, (other.not-learn, (other.not-text, (other.not-text-2, tt)))))))))))
