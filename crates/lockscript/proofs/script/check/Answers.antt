use Rattle.std.proofs.Common.{[], ◌∷◌, ◌++◌}
use Rattle.std.proofs.lemmas.Result.{err_from_is_err_and}
use Rattle.lockscript.proofs.BadLines.{bad-line, bad-unfinished}
use Rattle.lockscript.proofs.Begun.{begun-line, script-begun}
use Rattle.lockscript.specs.rule.Scripts.{script_of}
use Rattle.lockscript.proofs.script.check.Goals as goal

pub returns-in_err-line-clause-bad : goal.returns-in_err-line-clause-bad
returns-in_err-line-clause-bad c =
    let p = err_from_is_err_and c.from_residual-in_err-line.result c.from_residual-in_err-line.ensures.1 in
    let here = c.loop-line.source in
    let after = c.next_command.new.self in
    let unfinished = c.in_err-line.ensures.unfinished in
    rw (p.1, p.2, unfinished.0)
    (bad-unfinished c.args.text.now c.loop-line.invariant.0 here.rest.now here.taken after.rest.now after.taken c.loop-line.invariant.1 unfinished.1 unfinished.2 unfinished.3)

pub returns-in_err-script_line-clause-bad : goal.returns-in_err-script_line-clause-bad
returns-in_err-script_line-clause-bad c =
    let p = err_from_is_err_and c.from_residual-in_err-script_line.result c.from_residual-in_err-script_line.ensures.1 in
    let here = c.loop-line.source in
    let after = c.next_command.new.self in
    let line = rw c.in-Some.is at c.in_ok-line.ensures.line in
    let bad = c.in_err-script_line.ensures.bad_line in
    rw (p.1, p.2, bad.0)
    (bad-line c.args.text.now c.loop-line.invariant.0 here.rest.now here.taken c.in-Some.line.number c.in-Some.line.text.now after.rest.now c.loop-line.invariant.1 line.1 bad.1)

pub loop-line-preserved : goal.loop-line-preserved
loop-line-preserved c =
    let here = c.loop-line.source in
    let after = c.next_command.new.self in
    let line = rw c.in-Some.is at c.in_ok-line.ensures.line in
    let made = c.in_ok-script_line.ensures.made in
    let s = c.loop-line.invariant.0 in (
      script_of s.shape (s.lines ++ c.in_ok-script_line.field-0 ∷ []),
      rw (← line.0)
          (begun-line c.args.text.now s.shape s.lines here.rest.now here.taken c.in-Some.line.number c.in-Some.line.text.now after.rest.now
          c.in_ok-script_line.field-0 c.loop-line.invariant.1 line.1 made.0 made.1),
    )

pub returns-clause-script : goal.returns-clause-script
returns-clause-script c =
    let here = c.loop-line.source in
    let ended = rw c.in_default.is at c.in_ok-line.ensures.line in
    (c.loop-line.invariant.0, script-begun c.args.text.now c.loop-line.invariant.0 here.rest.now here.taken c.next_command.new.self.taken c.loop-line.invariant.1 ended.1)
