use Rattle.std.proofs.Common.{◌≡◌, ◌+◌, length}
use Rattle.book.specs.rule.Commits.{AreFirst}
use Rattle.book.proofs.book.beginnings.push_servers.Given as goal

abbrev pub invariant-loop-index : goal.invariant-loop-index
invariant-loop-index g l = record {
  count : length l.seats.items ≡ l.shape.nodes + l.index;
  first : AreFirst l.shape l.seats.items;
}
