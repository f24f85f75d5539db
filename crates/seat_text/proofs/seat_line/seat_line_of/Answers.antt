use Rattle.std.proofs.Common.{rules}
use Rattle.texts.proofs.FirstWords.{none-alone, none-with}
use Rattle.texts.proofs.OfKinds.{reads-made}
use Rattle.seat_text.proofs.SeatLines.{begins-line, calls, interrupts, retries, tagged}
use Rattle.seat_text.proofs.seat_line.seat_line_of.Goals as goal

pub returns-in-call : goal.returns-in-call
returns-in-call c = rw (c.in-Some.ensures.1, c.in-call.is) (reads-made calls.kind c.in-Some.operands.now c.read.result c.map.result c.read.ensures c.map.ensures.cases (λ f x made. search rules))

pub returns-in-tagged : goal.returns-in-tagged
returns-in-tagged c = rw (c.in-Some.ensures.1, c.in-tagged.is) (reads-made tagged.kind c.in-Some.operands.now c.read-in-tagged.result c.map-in-tagged.result c.read-in-tagged.ensures c.map-in-tagged.ensures.cases (λ f x made. search rules))

pub returns-in-interrupt : goal.returns-in-interrupt
returns-in-interrupt c = rw (c.in-Some.ensures.1, c.in-interrupt.is) (reads-made interrupts.kind c.in-Some.operands.now c.read-in-interrupt.result c.map-in-interrupt.result c.read-in-interrupt.ensures c.map-in-interrupt.ensures.cases (λ f x made. search rules))

pub returns-in-retry : goal.returns-in-retry
returns-in-retry c = rw (c.in-Some.ensures.1, c.in-retry.is) (reads-made retries.kind c.in-Some.operands.now c.read-in-retry.result c.map-in-retry.result c.read-in-retry.ensures c.map-in-retry.ensures.cases (λ f x made. search rules))

pub returns-in_default : goal.returns-in_default
returns-in_default c =
    let split = c.in-Some in
    let other = c.in_default in
    rw split.ensures.1
    (none-with begins-line split.word.now split.operands.now split.ensures.0 (other.not-call, (other.not-tagged, (other.not-deliver, (other.not-interrupt, (other.not-retry, (other.not-resend, (other.not-declare, (other.not-restart, (other.not-text, (other.not-text-2, tt)))))))))))

pub returns-in_default-line : goal.returns-in_default-line
returns-in_default-line c = none-alone begins-line c.args.line.now c.in-None.ensures (c.in_default-line.not-tick, tt)
