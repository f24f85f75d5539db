use Rattle.std.proofs.Common.{refl, sym, ap, subst, ◌∙◌}
use Rattle.std.proofs.lemmas.Result.{err_from_is_err_and}
use Rattle.messages.specs.declared.version.Version.{Version}
use Rattle.journal_text.specs.declared.journal_place.JournalPlace.{JournalPlace}
use Rattle.journal_text.specs.code.Built.{BuilderFields, built}
use Rattle.journal_text.specs.code.Places.{IsStuck, StandsNext}
use Rattle.journal_text.proofs.Standing.{standing-first, standing-line, standing-stuck, standing-whole}
use Rattle.journal_text.proofs.Steps.{built_of, last-only}
use Rattle.journal_text.proofs.Steps.Reading.{nothing}
use Rattle.journal_text.proofs.parse.read_each.Goals as goal

pub loop-builder-init : goal.loop-builder-init
loop-builder-init g c =
    let after = c.first_line.new.self in
    let begins = c.in_ok-shape.ensures.begins in
    let standing = standing-first c.args.text.now c.new-reader.result.rest.now c.in_ok-shape.shape after.rest.now after.taken after.place (built_of nothing)
    c.new-reader.ensures.rest begins.0 begins.2 begins.1 (c.first_line.ensures.place ∙ c.new-reader.ensures.place) refl in
    (built_of nothing, standing, sym c.new-builder.ensures, (λ took. took))

pub returns-in_err-line-clause-bad : goal.returns-in_err-line-clause-bad
returns-in_err-line-clause-bad g c =
    let p = err_from_is_err_and c.from_residual-in_err-line.result c.from_residual-in_err-line.ensures.1 in
    let here = c.loop-builder.reader in
    let at_loop = c.loop-builder.invariant in
    let stuck = c.in_err-line.ensures.stuck in
    let here_stuck = subst (λ (v : Version). IsStuck v here.place here.rest.now) c.version.ensures stuck.1 in
    rw (p.1, p.2, stuck.0) (λ other. standing-stuck c.args.text.now c.in_ok-shape.shape here.rest.now here.taken here.place at_loop.0 at_loop.1 here_stuck)

pub loop-builder-preserved : goal.loop-builder-preserved
loop-builder-preserved g c =
    let here = c.loop-builder.reader in
    let after = c.next_line.new.self in
    let at_loop = c.loop-builder.invariant in
    let b : BuilderFields = at_loop.0 in
    let line = rw c.in-Some.is at c.in_ok-line.ensures.line in
    let more : BuilderFields = built b c.in-Some.line in
    let stands = subst (λ (v : Version). StandsNext v here.place here.rest.now c.in-Some.line after.place after.rest.now) c.version.ensures line.0 in
    let standing = standing-line c.args.text.now c.in_ok-shape.shape here.rest.now here.taken here.place b c.in-Some.line after.place after.rest.now after.taken more at_loop.1 stands line.1 refl in (
      more,
      standing,
      last-only b c.in-Some.line c.loop-builder.builder at_loop.2 ∙ sym c.in_ok-take.ensures.last,
      (λ took.
          rw at_loop.2 (c.in_ok-take.ensures.taken c.in_ok-shape.shape b.entries (at_loop.3 took))),
    )

pub returns-clause-journal : goal.returns-clause-journal
returns-clause-journal g c =
    let here = c.loop-builder.reader in
    let at_loop = c.loop-builder.invariant in
    let b : BuilderFields = at_loop.0 in
    let ended = rw c.in_default.is at c.in_ok-line.ensures.line in
    let phase = ap (λ (q : JournalPlace). q.phase) (sym ended.3) ∙ ended.1 in
    (b.entries, standing-whole c.args.text.now c.in_ok-shape.shape here.rest.now here.taken here.place b at_loop.1 (sym ended.2 ∙ ended.0) phase, at_loop.3)
