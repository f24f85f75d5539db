use Rattle.std.proofs.Common.{◌↔◌, ◌-◌}
use Rattle.message_text.specs.code.Reports.{IsRunsText}
use Rattle.message_text.proofs.ReportWords.{AreRunWords}
use Rattle.message_text.proofs.reports.are_runs.Given as goal

abbrev pub invariant-loop : goal.invariant-loop
invariant-loop l = IsRunsText l.text ↔ AreRunWords l.last (l.count - l.counter) l.words
