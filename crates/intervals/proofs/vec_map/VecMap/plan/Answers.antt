use Rattle.std.proofs.Common.{◌≡◌, true, nat_le, le-leb, length, refl, ap, arith}
use Rattle.intervals.proofs.vec_map.VecMap.plan.Goals as goal

pub returns-clause-written : goal.returns-clause-written
returns-clause-written g c =
    let same = ap length c.self.view_is in
    let fits : nat_le (length c.args.self.now) c.len-runs.result ≡ true = le-leb _ _ (omega (arith, same)) in
    rw fits refl

pub returns-clause-enough : goal.returns-clause-enough
returns-clause-enough g c = let same = ap length c.self.view_is in omega (arith, same)
