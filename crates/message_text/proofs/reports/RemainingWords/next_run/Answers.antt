use Rattle.message_text.proofs.ReportWords.{no_span}
use Rattle.message_text.proofs.reports.RemainingWords.next_run.Goals as goal

pub returns-then-hi-lo : goal.returns-then-hi-lo
returns-then-hi-lo c =
    no_span c.in_ok-next.field-0.now c.in_ok-next-2.field-0.now c.in_ok-next-3.field-0.now c.args.self.now c.next.new.self c.next-2.new.self c.next-3.new.self c.in_ok-lo.lo c.in_ok-hi.hi
    c.in_ok-next.ensures c.in_ok-next-2.ensures c.in_ok-next-3.ensures (c.in_ok-lo.ensures.0.1, c.in_ok-lo.ensures.1) (c.in_ok-hi.ensures.0.1, c.in_ok-hi.ensures.1) c.if-hi-lo.true
