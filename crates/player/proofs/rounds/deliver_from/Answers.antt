use Rattle.std.proofs.Common.{rules}
use Rattle.player.proofs.Arrivals.{arrives_all, arrives_more, arrives_none}
use Rattle.player.proofs.QuietRuns.{quietly_append, quietly_none}
use Rattle.player.proofs.rounds.deliver_from.Goals as goal

pub loop-place-init : goal.loop-place-init
loop-place-init c = record { arrives = arrives_none c.args.run.now c.args.first; goes = quietly_none c.args.run.now }

pub loop-place-preserved : goal.loop-place-preserved
loop-place-preserved c = record {
  arrives = arrives_more c.args.run.now c.loop-place.run c.deliver.new.run c.args.first c.loop-place.place (search rules) c.loop-place.invariant.arrives c.in_ok-deliver.ensures.passes;
  goes = quietly_append c.args.run.now c.loop-place.run c.deliver.new.run c.loop-place.invariant.goes c.in_ok-deliver.ensures.goes;
}

pub returns-in_err-deliver-clause-goes : goal.returns-in_err-deliver-clause-goes
returns-in_err-deliver-clause-goes c = quietly_append c.args.run.now c.loop-place.run c.deliver.new.run c.loop-place.invariant.goes c.deliver.ensures.goes

pub returns-clause-arrives : goal.returns-clause-arrives
returns-clause-arrives c = arrives_all c.args.run.now c.loop-place.run c.args.first c.loop-place.place (search rules) c.loop-place.invariant.arrives
