-- What is left of two lists that are read side by side.
use Rattle.std.proofs.Common.{◌≡◌, List, ◌++◌}
use Rattle.intervals.specs.declared.part.Part.{Part}
use Rattle.intervals.specs.declared.byte_run.ByteRun.{ByteRun}
use Rattle.intervals.specs.code.Parts.{all_runs, AreSome}

-- the rests of two lists are equal exactly where the lists are
pub record LeftOfBoth {X : Type 0} (whole other left behind : List X) : Type 0 where
  pub there : left ≡ behind → whole ≡ other
  pub back : whole ≡ other → left ≡ behind

-- the rests of two rows: equal exactly where the rows have equal runs
pub record AreLeft {V : Type 0} (whole other : List (ByteRun V)) (runs : List (ByteRun V)) (parts : List (Part V)) (others : List (ByteRun V)) (behind : List (Part V)) : Type 0 where
  pub some : AreSome parts
  pub some_behind : AreSome behind
  pub left : LeftOfBoth whole other (runs ++ all_runs parts) (others ++ all_runs behind)
