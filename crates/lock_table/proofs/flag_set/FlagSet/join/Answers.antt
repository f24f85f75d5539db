use Rattle.std.proofs.Common.{rules}
use Rattle.lock_table.proofs.PageLemmas.{has-kept, has-more}
use Rattle.lock_table.proofs.flag_set.FlagSet.join.Goals as goal

pub loop-i-preserved : goal.loop-i-preserved
loop-i-preserved c = record {
  kept = λ k h. has-kept c.loop-i.self.words c.loop-i.i _ k (c.loop-i.invariant.kept k h);
  joined = has-more c.loop-i.self.words c.args.other.now.words c.loop-i.i (search rules) c.loop-i.invariant.joined;
}
