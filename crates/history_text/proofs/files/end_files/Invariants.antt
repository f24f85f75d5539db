use Rattle.std.proofs.Common.{◌≡◌, ℕ, length, take, drop}
use Rattle.history_text.specs.declared.rule.Allowed.{Allowed}
use Rattle.history_text.specs.code.Readings.{AreEndedOf, AreFilesOf, AreLives, AreLosses}
use Rattle.history_text.proofs.files.end_files.Given as goal

abbrev pub invariant-loop-i : goal.invariant-loop-i
invariant-loop-i l =
    record {
      count : length l.files.items ≡ length l.fn.files.items;
      rest : drop l.i l.files.items ≡ drop l.i l.fn.files.items;
      ended : (allowed : Allowed) (lines : ℕ) → AreLives lines l.owners.lives.items → AreLosses allowed lines l.losses → AreFilesOf l.owners.lives.items lines l.fn.files.items → AreEndedOf allowed l.owners.lives.items lines (take l.i l.fn.files.items) (take l.i l.files.items);
    }
