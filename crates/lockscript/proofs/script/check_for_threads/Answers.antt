use Rattle.std.proofs.Common.{◌≡◌, ◌∙◌, sym, ap, true, false, [], ◌∷◌, ◌++◌}
use Rattle.std.proofs.lemmas.Result.{err_from_is_err_and}
use Rattle.lockscript.specs.rule.Scripts.{script_of}
use Rattle.lockscript.specs.rule.ThreadLines.{is_for_threads}
use Rattle.lockscript.proofs.Begun.{script-begun}
use Rattle.lockscript.proofs.ThreadScripts.{bad-at-first, bad-behind, bad-end, bad-not_taken, more-for-threads}
use Rattle.lockscript.proofs.script.check_for_threads.Goals as goal

pub returns-in_err-shape_in-clause-bad : goal.returns-in_err-shape_in-clause-bad
returns-in_err-shape_in-clause-bad c =
    let p = err_from_is_err_and c.from_residual.result c.from_residual.ensures.1 in
    rw (p.1, p.2) (bad-at-first c.args.text.now _ (rw c.new-source.ensures.rest at c.in_err-shape_in.ensures.bad))

pub returns-in_err-line-clause-bad : goal.returns-in_err-line-clause-bad
returns-in_err-line-clause-bad c =
    let p = err_from_is_err_and c.from_residual-in_err-line.result c.from_residual-in_err-line.ensures.1 in
    let here = c.loop-line.source in
    let after = c.next_command.new.self in
    let unfinished = c.in_err-line.ensures.unfinished in
    rw (p.1, p.2, unfinished.0)
    (λ e. absurd (cc), bad-end c.args.text.now c.loop-line.invariant.0 here.rest.now here.taken c.loop-line.invariant.1 after.rest.now after.taken unfinished.1 unfinished.2 unfinished.3)

pub returns-in_err-made-clause-bad : goal.returns-in_err-made-clause-bad
returns-in_err-made-clause-bad c =
    let p = err_from_is_err_and c.from_residual-in_err-made.result c.from_residual-in_err-made.ensures.1 in
    let here = c.loop-line.source in
    let after = c.next_command.new.self in
    let line = rw c.in-Some.is at c.in_ok-line.ensures.line in
    let bad = c.in_err-made.ensures.bad_line in
    rw (p.1, p.2, bad.0)
    (λ e. absurd (cc), bad-behind c.args.text.now c.loop-line.invariant.0 here.rest.now here.taken c.loop-line.invariant.1 c.in-Some.line.number c.in-Some.line.text.now after.rest.now line.1 bad.1)

pub returns-then-not-is_for_threads-clause-bad : goal.returns-then-not-is_for_threads-clause-bad
returns-then-not-is_for_threads-clause-bad c =
    let here = c.loop-line.source in
    let after = c.next_command.new.self in
    let line = rw c.in-Some.is at c.in_ok-line.ensures.line in
    let made = c.in_ok-made.ensures.made in
    let refuses : false ≡ is_for_threads c.in_ok-made.made.command = sym c.if-not-is_for_threads.true ∙ (c.is_for_threads.ensures ∙ ap is_for_threads c.command.ensures.value) in (
      λ e. absurd (cc),
      bad-not_taken c.args.text.now c.loop-line.invariant.0 here.rest.now here.taken c.loop-line.invariant.1 c.in-Some.line.number c.in-Some.line.text.now after.rest.now
          c.in_ok-made.made line.1 made.0 made.1 refuses,
    )

pub loop-line-preserved : goal.loop-line-preserved
loop-line-preserved c =
    let here = c.loop-line.source in
    let after = c.next_command.new.self in
    let line = rw c.in-Some.is at c.in_ok-line.ensures.line in
    let made = c.in_ok-made.ensures.made in
    let takes : true ≡ is_for_threads c.in_ok-made.made.command = sym c.if-not-is_for_threads.false ∙ (c.is_for_threads.ensures ∙ ap is_for_threads c.command.ensures.value) in
    let s = c.loop-line.invariant.0 in (
      script_of s.shape (s.lines ++ c.in_ok-made.made ∷ []),
      rw (← line.0)
          (more-for-threads c.args.text.now s here.rest.now here.taken c.in-Some.line.number c.in-Some.line.text.now after.rest.now
          c.in_ok-made.made c.loop-line.invariant.1 line.1 made.0 made.1 takes),
    )

pub returns-clause-script : goal.returns-clause-script
returns-clause-script c =
    let here = c.loop-line.source in
    let ended = rw c.in_default.is at c.in_ok-line.ensures.line in
    let begun = c.loop-line.invariant.1 in
    (c.loop-line.invariant.0, (script-begun c.args.text.now c.loop-line.invariant.0 here.rest.now here.taken c.next_command.new.self.taken begun.0 ended.1, begun.1))
