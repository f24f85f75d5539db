use Rattle.std.proofs.Common.{arith}
use Rattle.replay.proofs.audit.audit_of.Goals as goal

pub returns-in-Err-NotARun-clause-audited : goal.returns-in-Err-NotARun-clause-audited
returns-in-Err-NotARun-clause-audited c = c.in-Err-NotARun.ensures.wrong c.in-Err-NotARun.position (cc c.in-Err-NotARun.field-0-is)

pub returns-in-Err-JournalFull-clause-fault : goal.returns-in-Err-JournalFull-clause-fault
returns-in-Err-JournalFull-clause-fault c =
    let full = c.in-Err-JournalFull.ensures.full.0 (cc c.in-Err-JournalFull.field-0-is) in
    absurd (omega (arith, full, c.requires))
