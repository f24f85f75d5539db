use Rattle.std.proofs.Common.{map, take}
use Rattle.replay.specs.rule.Stores.{SameFiles}
use Rattle.seat_commands.specs.rule.Merging.{HaveLogs}
use Rattle.seat_commands.proofs.logs.logs_of.Given as goal

abbrev pub invariant-loop-path : goal.invariant-loop-path
invariant-loop-path g l = record {
  have : HaveLogs (g.S.Store.holds l.fn.store) (map (λ path. path.now) (take l.path-index l.paths)) l.logs.items;
  files : SameFiles (g.S.Store.holds l.fn.store) (g.S.Store.holds l.store);
}
