use Rattle.std.proofs.Common.{arith, refl}
use Rattle.std.proofs.lemmas.Option.{slice_get_read, slice_get_within}
use Rattle.thread_runs.specs.rule.Runs.{parts}
use Rattle.thread_runs.proofs.InPhases.{none_passed, passed}
use Rattle.thread_runs.proofs.phase_order.are_phases.Goals as goal

pub loop-line-init : goal.loop-line-init
loop-line-init c = none_passed (parts c.args.no_join) c.args.lines.now

pub loop-line-preserved : goal.loop-line-preserved
loop-line-preserved c =
    let e = c.in-Some.ensures in
    let at = slice_get_read c.args.lines.now _ c.loop-line.line-index c.line-item.result refl c.loop-line-test.true c.line-item.is in
    passed (parts c.args.no_join) c.args.lines.now c.loop-line.line-index c.loop-line.known.all c.loop-line.known.earlier c.in-Some.next.all c.in-Some.next.earlier c.line-item.result at c.loop-line.invariant
    (record { all_is = e.all; earlier_is = e.earlier; later = e.later })

pub returns : goal.returns
returns c = λ t i j k l m n a b d at at' at'' parted p q e f.
    let last = slice_get_within c.args.lines.now k n at'' in
    let done = c.loop-line-test.false in
    c.loop-line.invariant.phases i j k l m n a b d (omega arith) at at' at'' parted p q e f
