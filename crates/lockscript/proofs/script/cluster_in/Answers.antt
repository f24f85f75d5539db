use Rattle.std.proofs.Common.{[], refl}
use Rattle.std.proofs.lemmas.Result.{err_from_is_err_and}
use Rattle.lockscript.specs.rule.Scripts.IsBad.{has_no_cluster, has_no_end}
use Rattle.lockscript.proofs.BadLines.{bad-first, bad-none}
use Rattle.lockscript.proofs.script.cluster_in.Goals as goal

pub returns-in-None-clause-bad : goal.returns-in-None-clause-bad
returns-in-None-clause-bad c =
    let line = rw c.in-Some.is at c.in_ok-first.ensures.line in
    let found = rw c.requires at line.1 in
    bad-first c.args.source.now.rest.now c.in-Some.first.number c.in-Some.first.text.now c.next_command.new.self.rest.now found c.in-None.ensures

pub returns-in_err-first-clause-bad : goal.returns-in_err-first-clause-bad
returns-in_err-first-clause-bad c =
    let p = err_from_is_err_and c.from_residual.result c.from_residual.ensures.1 in
    let after = c.next_command.new.self in
    let unfinished = c.in_err-first.ensures.unfinished in
    rw (p.1, p.2, unfinished.0)
    (bad-none c.args.source.now.rest.now after.rest.now after.taken (rw c.requires at unfinished.1) (has_no_end unfinished.2 unfinished.3))

pub returns-in_default-clause-bad : goal.returns-in_default-clause-bad
returns-in_default-clause-bad c =
    let ended = rw c.in_default.is at c.in_ok-first.ensures.line in
    rw c.next_number.ensures
    (bad-none c.args.source.now.rest.now [] c.next_command.new.self.taken (rw c.requires at ended.1) (has_no_cluster refl refl))
