use Rattle.std.proofs.Common.{◌≡◌, true, nat_le, le-leb, length, ap, arith}
use Rattle.intervals.proofs.vec_map.VecMap.apply.Goals as goal

pub returns-then-len-runs : goal.returns-then-len-runs
returns-then-len-runs g c =
    let same = ap length c.self.view_is in
    let fits : nat_le (length c.args.self.now) c.args.edit.runs ≡ true = le-leb _ _ (omega (arith, same, c.if-len-runs.true)) in
    rw (fits, ← c.self.view_is) (λ i b. c.write.ensures.bytes b i)
