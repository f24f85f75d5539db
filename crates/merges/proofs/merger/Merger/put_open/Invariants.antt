use Rattle.std.specs.Prelude.{◌≡◌, true}
use Rattle.merges.specs.code.Merging.{Longer, PutsOn, fields_of}
use Rattle.merges.proofs.merger.Merger.put_open.Given as goal

abbrev pub invariant-loop-index : goal.invariant-loop-index
invariant-loop-index l = record {
  puts : PutsOn (fields_of l.fn.self) (fields_of l.self);
  longer : l.put ≡ true → Longer (fields_of l.fn.self) (fields_of l.self);
}
