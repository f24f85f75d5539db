use Rattle.std.proofs.Common.{ℕ, ◌≤◌, ◌<◌}
use Rattle.model.specs.declared.owner.Owner.{Owner}
use Rattle.lock_table.specs.code.Rows.{Has, HasPage}
use Rattle.lock_table.proofs.page_index.PageIndex.near.Given as goal

abbrev pub invariant-loop-page : goal.invariant-loop-page
invariant-loop-page l = record {
  long : (o : Owner) → Has l.self.long o → Has l.near o;
  pages : (o : Owner) (p : ℕ) → l.first ≤ p → p < l.page → HasPage l.self l.file o p → Has l.near o;
}
