use Rattle.std.proofs.Common.{subst, sym}
use Rattle.std.proofs.lemmas.Result.{err_from_is_err_and}
use Rattle.cluster_core.specs.rule.Rounds.{IsQuiet}
use Rattle.player.proofs.Takes.{takes_all, takes_first, takes_more, takes_stop}
use Rattle.player.proofs.rounds.take_all.Goals as goal

pub loop-event-init : goal.loop-event-init
loop-event-init c = takes_first c.args.run.now c.args.events.now

pub loop-event-preserved : goal.loop-event-preserved
loop-event-preserved c =
    let quiet = subst IsQuiet (sym c.event-item.is) (c.requires c.loop-event.event-index c.event-item.result c.loop-event-test.true) in
    takes_more c.args.run.now c.args.events.now c.loop-event.event-index c.loop-event.run c.take.new.self c.event-item.result _ c.loop-event-test.true c.event-item.is c.in_ok-copy.ensures quiet c.loop-event.invariant c.in_ok-take.ensures.ok

pub returns-clause-goes : goal.returns-clause-goes
returns-clause-goes c = (c.loop-event.invariant.es, c.loop-event.invariant.goes)

pub returns-clause-took : goal.returns-clause-took
returns-clause-took c = takes_all c.args.run.now c.args.events.now c.loop-event.event-index c.loop-event.run c.loop-event-test.false c.loop-event.invariant

pub returns-in_err-take-clause-stops : goal.returns-in_err-take-clause-stops
returns-in_err-take-clause-stops c =
    let p = err_from_is_err_and c.from_residual-in_err-take.result c.from_residual-in_err-take.ensures.1 in
    rw (p.1, p.2) (takes_stop c.loop-event.run c.take.new.self c.args.events.now c.loop-event.event-index c.event-item.result _ _ c.loop-event-test.true c.event-item.is c.in_ok-copy.ensures c.in_err-take.ensures.unchanged c.in_err-take.ensures.err)
