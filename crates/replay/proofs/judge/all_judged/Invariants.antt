-- The histories before this one were judged.
use Rattle.std.proofs.Common.{map, option_map}
use Rattle.replay.proofs.Judging.{SoFar}
use Rattle.replay.proofs.judge.all_judged.Given as goal

abbrev pub invariant-loop-path : goal.invariant-loop-path
invariant-loop-path g l = SoFar l.judging.allowed (option_map (λ given. given.path.now) l.given) (g.S.Store.holds l.initial.store) (g.S.Store.holds l.store) l.outcome l.path-index (map (λ path. path.now) l.paths)
