use Rattle.std.proofs.Common.{◌≡◌, true, ap, ◌∙◌}
use Rattle.std.proofs.lemmas.Bool.{false≢true}
use Rattle.messages.specs.rule.TokenRuns.{are_longest}
use Rattle.message_text.proofs.ReportWords.{all_read, none_read, one_read}
use Rattle.message_text.proofs.reports.read_runs.Goals as goal

pub loop-run-init : goal.loop-run-init
loop-run-init c = rw c.new-runs.ensures.items (none_read c.args.text.now c.new-words.result c.next_count-count.new.self c.next_count-count.result c.new-words.ensures c.next_count-count.ensures c.requires)

pub loop-run-preserved : goal.loop-run-preserved
loop-run-preserved c = rw c.in_ok-push.ensures.items (one_read _ c.loop-run.runs.items c.loop-run.words c.next_run.new.self c.in-Some.run' c.loop-run.invariant c.in-Some.ensures.0 c.in-Some.ensures.1).0

pub unreachable-requires : goal.unreachable-requires
unreachable-requires c =
    let same = all_read _ c.loop-run.runs.items c.loop-run.words c.loop-run.invariant c.in_default.ensures in
    let longest : are_longest c.loop-run.runs.items ≡ true = ap are_longest same ∙ c.requires.1.1 in
    false≢true (c.in-None.ensures.longest.1 longest)

pub returns : goal.returns
returns c = c.in-Some-new.ensures.value ∙ all_read _ c.loop-run.runs.items c.loop-run.words c.loop-run.invariant c.in_default.ensures
