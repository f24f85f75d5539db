use Rattle.std.proofs.Common.{List, length, ap, arith}
use Rattle.messages.specs.declared.entry.Entry.{Entry}
use Rattle.replay.proofs.audit.entries_read.Goals as goal

pub returns-then-len-clause-fault : goal.returns-then-len-clause-fault
returns-then-len-clause-fault c = λ other.
    let read = c.in_ok-shape.ensures.journal in
    let items = ap (λ (es : List Entry). length es) (read.2 c.in_ok-entries.ensures.items) in
    (record { shape = c.in_ok-shape.shape; entries = read.0 }, read.1, omega (arith, c.if-len.true, c.len.ensures, items))
