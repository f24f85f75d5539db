use Rattle.std.proofs.lemmas.Result.{err_from_is_err_and}
use Rattle.lockscript.proofs.BadLines.{bad-line, bad-unfinished}
use Rattle.lockscript.proofs.Begun.{begun-line, script-begun}
use Rattle.lockscript.specs.rule.Scripts.{script_of}
use Rattle.lockscript.proofs.script.Script.parse.Goals as goal

pub returns-in_err-line-clause-refused : goal.returns-in_err-line-clause-refused
returns-in_err-line-clause-refused c =
    let p = err_from_is_err_and c.from_residual-in_err-line.result c.from_residual-in_err-line.ensures.1 in
    let here = c.loop-lines.source in
    let after = c.next_command.new.self in
    let unfinished = c.in_err-line.ensures.unfinished in
    let script = script_of c.in_ok-shape.shape c.loop-lines.lines.items in
    rw (p.1, p.2, unfinished.0)
    (bad-unfinished c.args.text.now script here.rest.now here.taken after.rest.now after.taken c.loop-lines.invariant unfinished.1 unfinished.2 unfinished.3)

pub returns-in_err-made-clause-refused : goal.returns-in_err-made-clause-refused
returns-in_err-made-clause-refused c =
    let p = err_from_is_err_and c.from_residual-in_err-made.result c.from_residual-in_err-made.ensures.1 in
    let here = c.loop-lines.source in
    let after = c.next_command.new.self in
    let line = rw c.in-Some.is at c.in_ok-line.ensures.line in
    let bad = c.in_err-made.ensures.bad_line in
    let script = script_of c.in_ok-shape.shape c.loop-lines.lines.items in
    rw (p.1, p.2, bad.0)
    (bad-line c.args.text.now script here.rest.now here.taken c.in-Some.line.number c.in-Some.line.text.now after.rest.now c.loop-lines.invariant line.1 bad.1)

pub loop-lines-preserved : goal.loop-lines-preserved
loop-lines-preserved c =
    let here = c.loop-lines.source in
    let after = c.next_command.new.self in
    let line = rw c.in-Some.is at c.in_ok-line.ensures.line in
    let made = c.in_ok-made.ensures.made in
    let shape = c.in_ok-shape.shape in
    rw (c.in-Ok.ensures.items, ← line.0)
    (begun-line c.args.text.now shape c.loop-lines.lines.items here.rest.now here.taken c.in-Some.line.number c.in-Some.line.text.now after.rest.now
    c.in_ok-made.made c.loop-lines.invariant line.1 made.0 made.1)

pub returns-clause-script : goal.returns-clause-script
returns-clause-script c =
    let here = c.loop-lines.source in
    let ended = rw c.in_default.is at c.in_ok-line.ensures.line in
    let script = script_of c.in_ok-shape.shape c.loop-lines.lines.items in
    script-begun c.args.text.now script here.rest.now here.taken c.next_command.new.self.taken c.loop-lines.invariant ended.1
