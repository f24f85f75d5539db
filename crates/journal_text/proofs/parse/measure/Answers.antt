use Rattle.std.proofs.Common.{refl, subst, ◌∙◌}
use Rattle.std.proofs.lemmas.Result.{err_from_is_err_and}
use Rattle.messages.specs.declared.version.Version.{Version}
use Rattle.journal_text.specs.code.Places.{IsStuck, StandsNext}
use Rattle.journal_text.proofs.Standing.{standing-first, standing-passed, standing-stuck}
use Rattle.journal_text.proofs.Steps.{built_of}
use Rattle.journal_text.proofs.Steps.Reading.{nothing}
use Rattle.journal_text.proofs.parse.measure.Goals as goal

pub loop-init : goal.loop-init
loop-init c =
    let after = c.first_line.new.self in
    let begins = c.in_ok-shape.ensures.begins in (
      built_of nothing,
      standing-first c.args.text.now c.new-reader.result.rest.now c.in_ok-shape.shape after.rest.now after.taken after.place (built_of nothing)
          c.new-reader.ensures.rest begins.0 begins.2 begins.1 (c.first_line.ensures.place ∙ c.new-reader.ensures.place) refl,
    )

pub returns-in_err-pass_line-clause-bad : goal.returns-in_err-pass_line-clause-bad
returns-in_err-pass_line-clause-bad c =
    let p = err_from_is_err_and c.from_residual-in_err-pass_line.result c.from_residual-in_err-pass_line.ensures.1 in
    let here = c.loop.reader in
    let at_loop = c.loop.invariant in
    let stuck = c.in_err-pass_line.ensures.stuck in
    let here_stuck = subst (λ (v : Version). IsStuck v here.place here.rest.now) c.version.ensures stuck.1 in
    rw (p.1, p.2, stuck.0) (standing-stuck c.args.text.now c.in_ok-shape.shape here.rest.now here.taken here.place at_loop.0 at_loop.1 here_stuck)

pub loop-preserved : goal.loop-preserved
loop-preserved c =
    let here = c.loop.reader in
    let after = c.pass_line.new.self in
    let at_loop = c.loop.invariant in
    let line = c.in_ok-pass_line.ensures.passed c.if-branch.true in
    let stands = subst (λ (v : Version). StandsNext v here.place here.rest.now line.0 after.place after.rest.now) c.version.ensures line.1 in
    standing-passed c.args.text.now c.in_ok-shape.shape here.rest.now here.taken here.place at_loop.0 line.0 after.place after.rest.now after.taken at_loop.1 stands line.2
