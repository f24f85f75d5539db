use Rattle.std.proofs.Common.{arith}
use Rattle.replay.proofs.audit.measured.Goals as goal

pub returns-then-count-gt-JOURNAL_LIMIT-clause-fault : goal.returns-then-count-gt-JOURNAL_LIMIT-clause-fault
returns-then-count-gt-JOURNAL_LIMIT-clause-fault c =
    let has = c.in_ok-shape.ensures.journal in
    (record { shape = c.in_ok-shape.shape; entries = has.0 }, has.1, omega (arith, has.2, c.if-count-gt-JOURNAL_LIMIT.true))
