use Rattle.std.specs.Prelude.{◌≡◌, ℕ, ◌<◌, false, true}
use Rattle.merges.specs.code.Merging.{CannotCome, IsExact, Longer, PutsOn, fields_of}
use Rattle.merges.proofs.merger.Merger.put_round.Given as goal

abbrev pub invariant-loop-index : goal.invariant-loop-index
invariant-loop-index l = record {
  puts : PutsOn (fields_of l.fn.self) (fields_of l.self);
  exact : l.put ≡ false → IsExact (fields_of l.self);
  cannot : l.put ≡ false → (k : ℕ) → k < l.index → CannotCome (fields_of l.self) k;
  longer : l.put ≡ true → Longer (fields_of l.fn.self) (fields_of l.self);
}
