use Rattle.std.proofs.Common.{◌-◌, vec_len}
use Rattle.merges.proofs.queue.Queue.sort_out.Given as goal

abbrev pub decreases-loop-position : goal.decreases-loop-position
decreases-loop-position l = vec_len l.self.open - l.position
