use Rattle.std.proofs.Common.{arith}
use Rattle.lock_table.proofs.PageLemmas.{bits-none, bits-below}
use Rattle.lock_table.proofs.flag_set.lowest_bit.Goals as goal

pub returns-then-left-eq0-clause-none_below : goal.returns-then-left-eq0-clause-none_below
returns-then-left-eq0-clause-none_below c = λ i from below. bits-none c.args.word c.args.from c.if-left-eq0.true i from

pub returns-clause-none_below : goal.returns-clause-none_below
returns-clause-none_below c = λ i from below. bits-below c.args.word c.args.from (omega arith) c.if-left-eq0.false i from (omega arith)
