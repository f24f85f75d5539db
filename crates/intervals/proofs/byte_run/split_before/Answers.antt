use Rattle.std.proofs.Common.{◌++◌}
use Rattle.intervals.specs.code.Runs.{AreRuns}
use Rattle.intervals.proofs.Split.{runs-front, runs-back}
use Rattle.intervals.proofs.byte_run.split_before.Goals as goal

pub returns-clause-first : goal.returns-clause-first
returns-clause-first g c =
    let runs : AreRuns (c.split_at.result.0.now ++ c.split_at.result.1.now) = rw (← c.split_at.ensures.by_index.0) c.requires in
    runs-front _ _ runs

pub returns-clause-last : goal.returns-clause-last
returns-clause-last g c =
    let runs : AreRuns (c.split_at.result.0.now ++ c.split_at.result.1.now) = rw (← c.split_at.ensures.by_index.0) c.requires in
    runs-back c.split_at.result.0.now _ runs

pub returns-clause-ended : goal.returns-clause-ended
returns-clause-ended g c = rw c.split_at.ensures.front c.ends_below.ensures.ended

pub returns-clause-reached : goal.returns-clause-reached
returns-clause-reached g c = rw c.split_at.ensures.back c.ends_below.ensures.reached
