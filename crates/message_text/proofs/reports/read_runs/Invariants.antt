use Rattle.std.proofs.Common.{length}
use Rattle.message_text.specs.code.Reports.{runs_in}
use Rattle.message_text.proofs.ReportWords.{AreLeft}
use Rattle.message_text.proofs.reports.read_runs.Given as goal

abbrev pub invariant-loop-run : goal.invariant-loop-run
invariant-loop-run l = AreLeft (runs_in l.text) l.runs.items l.words

abbrev pub decreases-loop-run : goal.decreases-loop-run
decreases-loop-run l = length l.words
