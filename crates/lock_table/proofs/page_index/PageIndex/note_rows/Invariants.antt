use Rattle.std.proofs.Common.{◌≡◌, ℕ, ◌⊎◌, drop, Some}
use Rattle.model.specs.declared.mode.Mode.{Mode}
use Rattle.model.specs.declared.owner.Owner.{Owner}
use Rattle.lock_table.specs.rule.Tables.{rows_held}
use Rattle.lock_table.specs.code.Rows.{IsKept, MayHold}
use Rattle.lock_table.proofs.page_index.PageIndex.note_rows.Given as goal

abbrev pub invariant-loop-row : goal.invariant-loop-row
invariant-loop-row l = record {
  kept : IsKept l.self;
  keeps : (f : ℕ) (o : Owner) (b : ℕ) → MayHold l.initial.self f o b → MayHold l.self f o b;
  covers : (f : ℕ) (o : Owner) (b : ℕ) (m : Mode) → rows_held l.rows f o b ≡ Some m → MayHold l.self f o b ⊎ (rows_held (drop l.row-index l.rows) f o b ≡ Some m);
}
