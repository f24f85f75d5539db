use Rattle.std.proofs.Common.{length, ap, arith}
use Rattle.std.proofs.lemmas.List.{append-nil}
use Rattle.intervals.proofs.row.Row.cut.Goals as goal

pub returns-then-len-le-MOST-clause-runs : goal.returns-then-len-le-MOST-clause-runs
returns-then-len-le-MOST-clause-runs g c = rw c.new.ensures (append-nil c.args.runs.now.items)

pub returns-then-len-le-MOST-clause-kept : goal.returns-then-len-le-MOST-clause-kept
returns-then-len-le-MOST-clause-kept g c some = absurd (let none = ap length c.new.ensures in omega (arith, none, some))

pub returns-then-len-le-MOST-clause-place : goal.returns-then-len-le-MOST-clause-place
returns-then-len-le-MOST-clause-place g c some = absurd (let none = ap length c.new.ensures in omega (arith, none, some))

pub returns-in_default-clause-runs : goal.returns-in_default-clause-runs
returns-in_default-clause-runs g c = rw c.new-in_default.ensures (append-nil c.args.runs.now.items)

pub returns-in_default-clause-kept : goal.returns-in_default-clause-kept
returns-in_default-clause-kept g c some = absurd (let none = ap length c.new-in_default.ensures in omega (arith, none, some))

pub returns-in_default-clause-place : goal.returns-in_default-clause-place
returns-in_default-clause-place g c some = absurd (let none = ap length c.new-in_default.ensures in omega (arith, none, some))

pub returns-then-len-capacity-clause-runs : goal.returns-then-len-capacity-clause-runs
returns-then-len-capacity-clause-runs g c = rw c.new-then-len-capacity.ensures (append-nil c.args.runs.now.items)

pub returns-then-len-capacity-clause-kept : goal.returns-then-len-capacity-clause-kept
returns-then-len-capacity-clause-kept g c some = absurd (let none = ap length c.new-then-len-capacity.ensures in omega (arith, none, some))

pub returns-then-len-capacity-clause-place : goal.returns-then-len-capacity-clause-place
returns-then-len-capacity-clause-place g c some = absurd (let none = ap length c.new-then-len-capacity.ensures in omega (arith, none, some))

pub kept_of-kept-requires : goal.kept_of-kept-requires
kept_of-kept-requires g c = let same = ap length c.deref.ensures.value in omega (arith, same, c.if-len-le-MOST.false)

pub with_rest-requires : goal.with_rest-requires
with_rest-requires g c = let same = ap length c.deref.ensures.value in omega (arith, same, c.kept_of-kept.ensures.within)
