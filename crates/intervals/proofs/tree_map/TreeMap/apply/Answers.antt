use Rattle.std.proofs.Common.{◌≡◌, ◌+◌, true, nat_le, le-leb, length, ap, arith}
use Rattle.intervals.specs.rule.Bytes.{greatest}
use Rattle.intervals.specs.code.Parts.{row_runs}
use Rattle.intervals.proofs.Rows.{few_runs}
use Rattle.intervals.proofs.tree_map.TreeMap.apply.Goals as goal

pub overflow_add-self : goal.overflow_add-self
overflow_add-self g c =
    let made = c.write-had.ensures in
    omega (arith, few_runs (row_runs c.write-had.new.self) (greatest + 1) made.runs made.bounded, made.count, made.had, c.self.invariant.3)

pub returns : goal.returns
returns g c =
    let same = ap length c.self.view_is in
    let fits : nat_le (length c.args.self.now) c.args.edit.runs ≡ true = le-leb _ _ (let few = c.if-self-edit.false in omega (arith, few, same, c.self.invariant.3)) in
    rw (fits, ← c.self.view_is) (λ i b. c.write-had.ensures.bytes b i)
