use Rattle.std.proofs.Common.{◌+◌, ◌≤◌, length}
use Rattle.std.specs.HashMap.{spare as spare_places}
use Rattle.std.specs.Vec.{vec_capacity}
use Rattle.cluster_core.specs.code.Changes.{KnowsFirst}
use Rattle.cluster_core.proofs.sent_index.SentIndex.note_from.Given as goal

abbrev pub invariant-loop-place : goal.invariant-loop-place
invariant-loop-place l = record {
  knows : KnowsFirst l.fn.self.places l.fn.self.others.items l.sent l.start → KnowsFirst l.self.places l.self.others.items l.sent l.place;
  places : length l.sent ≤ l.place + spare_places l.self.places;
  others : length l.sent + length l.self.others.items ≤ l.place + vec_capacity l.self.others;
}
