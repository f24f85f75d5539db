use Rattle.std.proofs.Common.{sym}
use Rattle.replay.proofs.judge.judge.Goals as goal

pub returns-in-None-clause-done : goal.returns-in-None-clause-done
returns-in-None-clause-done g c = rw (c.in-None.is, sym c.judging_of-judging.ensures, sym c.as_slice-paths.ensures.value) c.all_judged.ensures.done

pub returns-in-Some-clause-done : goal.returns-in-Some-clause-done
returns-in-Some-clause-done g c = rw (c.in-Some.is, sym c.judging_of-judging.ensures, sym c.as_slice-paths.ensures.value) c.judged_by.ensures.done

pub returns-in-None-clause-fault : goal.returns-in-None-clause-fault
returns-in-None-clause-fault g c = rw (c.in-None.is, sym c.as_slice-paths.ensures.value) c.all_judged.ensures.fault

pub returns-in-Some-clause-fault : goal.returns-in-Some-clause-fault
returns-in-Some-clause-fault g c = rw (c.in-Some.is, sym c.as_slice-paths.ensures.value) c.judged_by.ensures.fault
