use Rattle.std.proofs.Common.{ap, sym, ◌∙◌, arith}
use Rattle.std.proofs.lemmas.List.{drop_all}
use Rattle.intervals.specs.code.Replays.{replayed_on}
use Rattle.intervals.proofs.replay.replay.Goals as goal

pub loop-command-init : goal.loop-command-init
loop-command-init g c = ap (λ f. replayed_on f c.args.commands.now) c.new-map.ensures

pub returns : goal.returns
returns g c = sym (ap (replayed_on (g.S.SpanMap.at c.loop-command.map)) (drop_all c.loop-command.command-index c.args.commands.now (omega (arith, c.loop-command-test.false)))) ∙ c.loop-command.invariant
