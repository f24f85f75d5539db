use Rattle.std.proofs.Common.{arith}
use Rattle.history_text.proofs.JudgedLaws.{so-far-all, so-far-more}
use Rattle.history_text.proofs.judged.files_judged.Goals as goal

pub loop-file-preserved : goal.loop-file-preserved
loop-file-preserved c =
    so-far-more c.args.history.now _ _ _ c.loop-file.file c.index.result.now c.in_ok-found.found (omega (arith, c.loop-file-test.true, c.len-file-end.ensures)) c.index.ensures c.in_ok-found.ensures c.outcome.ensures c.with-outcome.ensures.yes c.with-outcome.ensures.no c.loop-file.invariant

pub returns : goal.returns
returns c = so-far-all c.args.history.now c.loop-file.outcome c.loop-file.file (omega (arith, c.loop-file-test.false, c.len-file-end.ensures)) c.loop-file.invariant
