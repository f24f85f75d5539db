use Rattle.std.proofs.Common.{rules}
use Rattle.texts.proofs.FirstWords.{none-alone, none-with}
use Rattle.texts.proofs.OfKinds.{reads-made}
use Rattle.lockscript.proofs.CommandKinds.{begins-command, calls, interrupts, learns, retries}
use Rattle.lockscript.proofs.commands.command_of.Goals as goal

pub returns-in-call : goal.returns-in-call
returns-in-call c = rw (c.in-Some.ensures.1, c.in-call.is) (reads-made calls.kind c.in-Some.operands.now c.read.result c.map.result c.read.ensures c.map.ensures.cases (λ f x made. search rules))

pub returns-in-interrupt : goal.returns-in-interrupt
returns-in-interrupt c = rw (c.in-Some.ensures.1, c.in-interrupt.is) (reads-made interrupts.kind c.in-Some.operands.now c.read-in-interrupt.result c.map-in-interrupt.result c.read-in-interrupt.ensures c.map-in-interrupt.ensures.cases (λ f x made. search rules))

pub returns-in-retry : goal.returns-in-retry
returns-in-retry c = rw (c.in-Some.ensures.1, c.in-retry.is) (reads-made retries.kind c.in-Some.operands.now c.read-in-retry.result c.map-in-retry.result c.read-in-retry.ensures c.map-in-retry.ensures.cases (λ f x made. search rules))

pub returns-in-learn : goal.returns-in-learn
returns-in-learn c = rw (c.in-Some.ensures.1, c.in-learn.is) (reads-made learns.kind c.in-Some.operands.now c.read-in-learn.result c.map-in-learn.result c.read-in-learn.ensures c.map-in-learn.ensures.cases (λ f x made. search rules))

pub returns-in_default : goal.returns-in_default
returns-in_default c =
    let split = c.in-Some in
    let other = c.in_default in
    rw split.ensures.1
    (none-with begins-command split.word.now split.operands.now split.ensures.0 (other.not-call, (other.not-interrupt, (other.not-retry, (other.not-deliver, (other.not-lose, (other.not-resend, (other.not-declare, (other.not-restart, (other.not-text, (other.not-text-2, (other.not-learn, tt))))))))))))

pub returns-in_default-line : goal.returns-in_default-line
returns-in_default-line c = none-alone begins-command c.args.line.now c.in-None.ensures (c.in_default-line.not-settle, tt)
