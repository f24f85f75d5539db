use Rattle.std.proofs.Common.{◌≡◌, false, ap, rules, sym, ◌∙◌}
use Rattle.std.proofs.lemmas.Bool.{false≢true}
use Rattle.message_text.specs.code.Reports.{may_stand}
use Rattle.message_text.proofs.ReportWords.{same_first}
use Rattle.message_text.proofs.reports.next_standing.Goals as goal

pub returns-then-not-may_stand : goal.returns-then-not-may_stand
returns-then-not-may_stand c run more span stands is =
    let found = c.in_ok-run.ensures in
    let same = same_first c.in_ok-run.run' run c.next_run.new.self more found.0 span (sym found.1 ∙ is) in
    let test : may_stand c.args.last c.in_ok-run.run' ≡ false = search rules in
    false≢true (sym test ∙ ap (may_stand c.args.last) same.0 ∙ stands)
