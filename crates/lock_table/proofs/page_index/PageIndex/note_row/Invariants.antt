use Rattle.std.proofs.Common.{◌≡◌, ℕ, ◌+◌, ◌-◌, ◌<◌, Some}
use Rattle.intervals.specs.rule.Bytes.{greatest}
use Rattle.intervals.specs.rule.Runs.{value_at}
use Rattle.model.specs.declared.mode.Mode.{Mode}
use Rattle.model.specs.declared.owner.Owner.{Owner}
use Rattle.lock_table.specs.code.Rows.{IsKept, MayHold}
use Rattle.lock_table.proofs.page_index.PageIndex.note_row.Given as goal

-- the bytes that the row holds below `from` are noted
abbrev pub invariant-loop-run : goal.invariant-loop-run
invariant-loop-run l = record {
  kept : IsKept l.self;
  keeps : (f : ℕ) (o : Owner) (b : ℕ) → MayHold l.initial.self f o b → MayHold l.self f o b;
  noted : (b : ℕ) (m : Mode) → b < l.from → value_at l.row.spans b ≡ Some m → MayHold l.self l.row.file l.row.owner b;
}

abbrev pub decreases-loop-run : goal.decreases-loop-run
decreases-loop-run l = greatest + 1 - l.from
