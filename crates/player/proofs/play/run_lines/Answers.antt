use Rattle.std.proofs.Common.{Some, None, List, length, reverse, arith, subst, ◌≡◌}
use Rattle.std.proofs.lemmas.Result.{err_from_is_err_and}
use Rattle.lockscript.specs.rule.Scripts.{LineFields}
use Rattle.player.specs.code.Rounds.{progress}
use Rattle.player.specs.rule.Progress.{RunsTo}
use Rattle.player.proofs.Progresses.{runs_first, runs_out, fills}
use Rattle.player.proofs.play.run_lines.Goals as goal

pub returns-in_err-take-clause-full : goal.returns-in_err-take-clause-full
returns-in_err-take-clause-full g c =
    let p = err_from_is_err_and c.from_residual.result c.from_residual.ensures.1 in
    rw (p.1, p.2) (λ e. c.loop-line.invariant None (fills (progress c.loop-line.player) c.pop.new.self.items c.loop-line.lines.items c.in-Some.line c.in-Some.ensures.items (c.in_err-take.ensures.full e)))

pub loop-line-preserved-then-len-eq0 : goal.loop-line-preserved-then-len-eq0
loop-line-preserved-then-len-eq0 g c = λ end runs.
    let rest = subst (λ (ls : List LineFields). RunsTo (progress c.take.new.self) (reverse ls) end) c.shrink_to_fit.ensures.items runs in
    c.loop-line.invariant end (runs_first (progress c.loop-line.player) (progress c.take.new.self) c.pop.new.self.items c.loop-line.lines.items c.in-Some.line end c.in-Some.ensures.items c.in_ok-take.ensures.ok rest)

pub loop-line-preserved : goal.loop-line-preserved
loop-line-preserved g c = λ end runs.
    c.loop-line.invariant end (runs_first (progress c.loop-line.player) (progress c.take.new.self) c.pop.new.self.items c.loop-line.lines.items c.in-Some.line end c.in-Some.ensures.items c.in_ok-take.ensures.ok runs)

pub returns-clause-ok : goal.returns-clause-ok
returns-clause-ok g c =
    let none : length c.loop-line.lines.items ≡ 0 = omega (arith, c.in_default.ensures.cases.0) in
    c.loop-line.invariant (Some (progress c.loop-line.player)) (runs_out (progress c.loop-line.player) c.loop-line.lines.items none)
