use Rattle.std.proofs.Common.{◌≡◌, ◌+◌, ◌-◌, ℕ, suc, arith, None, subst}
use Rattle.std.proofs.lemmas.Bool.{false≢true}
use Rattle.std.specs.Prelude.{◌↔◌}
use Rattle.message_text.specs.code.Reports.{IsRunsText}
use Rattle.message_text.proofs.ReportWords.{AreRunWords, are_runs, no_count, no_run, one_run}
use Rattle.message_text.proofs.reports.are_runs.Goals as goal

pub returns-in_default : goal.returns-in_default
returns-in_default c = (λ h. absurd (false≢true h), λ told. absurd (no_count c.args.text.now c.new-words.result c.new-words.ensures c.in_default.ensures told))

pub loop-init : goal.loop-init
loop-init c =
    let same : c.in-Some.count ≡ c.in-Some.count - 0 = omega arith in
    subst (λ (n : ℕ). IsRunsText c.args.text.now ↔ AreRunWords None n c.next_count.new.self) same (are_runs c.args.text.now c.new-words.result c.next_count.new.self c.in-Some.count c.new-words.ensures c.in-Some.ensures)

pub returns-in_default-next_standing : goal.returns-in_default-next_standing
returns-in_default-next_standing c =
    let left = c.in-Some.count - c.loop.counter in
    let next : left ≡ suc (c.in-Some.count - (c.loop.counter + 1)) = omega (arith, c.loop-test.true) in
    (λ h. absurd (false≢true h), λ told. absurd (no_run c.loop.last left (c.in-Some.count - (c.loop.counter + 1)) c.loop.words next c.in_default-next_standing.ensures (c.loop.invariant.0 told)))

pub loop-preserved : goal.loop-preserved
loop-preserved c =
    let left = c.in-Some.count - c.loop.counter in
    let fewer = c.in-Some.count - (c.loop.counter + 1) in
    let next : left ≡ suc fewer = omega (arith, c.loop-test.true) in
    let run = c.in-Some-next_standing in
    let step = one_run c.loop.last left fewer c.loop.words c.next_standing.new.words run.run' next run.ensures.2 run.ensures.0 run.ensures.1 in
    (λ told. step.0 (c.loop.invariant.0 told), λ are. c.loop.invariant.1 (step.1 are))

pub returns : goal.returns
returns c =
    let none : c.in-Some.count - c.loop.counter ≡ 0 = omega (arith, c.loop-test.false) in
    let are : IsRunsText c.args.text.now ↔ AreRunWords c.loop.last 0 c.loop.words = subst (λ (n : ℕ). IsRunsText c.args.text.now ↔ AreRunWords c.loop.last n c.loop.words) none c.loop.invariant in
    (λ empty. are.1 (c.is_empty.ensures.0 empty), λ told. c.is_empty.ensures.1 (are.0 told))
