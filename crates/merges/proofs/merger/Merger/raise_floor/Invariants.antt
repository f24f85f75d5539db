use Rattle.std.specs.Prelude.{ℕ, ◌+◌, ◌≤◌, All}
use Rattle.merges.specs.declared.logged.LoggedChange.{LoggedChange}
use Rattle.merges.specs.code.Merging.{EndsFrom, last_moment}
use Rattle.merges.proofs.Floors.{EndsAbout}
use Rattle.merges.proofs.merger.Merger.raise_floor.Given as goal

abbrev pub invariant-loop-index : goal.invariant-loop-index
invariant-loop-index l = record {
  changes : All (λ (c : LoggedChange). l.floor ≤ c.interval.ended) l.self.changes;
  logs : EndsFrom l.floor l.index l.self.logs.items;
  exact : (moment skew : ℕ) → moment ≤ last_moment → All (λ (c : LoggedChange). moment ≤ c.interval.ended + skew) l.self.changes → EndsAbout skew moment l.index l.self.logs.items → moment ≤ l.floor + skew;
}
