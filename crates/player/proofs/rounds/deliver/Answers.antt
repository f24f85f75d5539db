use Rattle.std.proofs.Common.{◌∙◌, Err, ap}
use Rattle.player.proofs.Deliveries.{delivers_passes, delivers_quietly, rests_passes, rests_quietly, rests_stops}
use Rattle.player.proofs.rounds.deliver.Goals as goal

pub returns-in-Ok-clause-goes : goal.returns-in-Ok-clause-goes
returns-in-Ok-clause-goes c = delivers_quietly c.args.run.now c.deliver.new.self c.args.place c.in-Ok.ensures.ok

pub returns-in-Ok-clause-passes : goal.returns-in-Ok-clause-passes
returns-in-Ok-clause-passes c = delivers_passes c.args.run.now c.deliver.new.self c.args.place c.in-Ok.ensures.ok

pub returns-in-Err-Fenced-clause-goes : goal.returns-in-Err-Fenced-clause-goes
returns-in-Err-Fenced-clause-goes c = rests_quietly c.args.run.now c.deliver.new.self c.in-Err-Fenced.ensures.unchanged

pub returns-in-Err-Fenced-clause-passes : goal.returns-in-Err-Fenced-clause-passes
returns-in-Err-Fenced-clause-passes c = rests_passes c.args.run.now c.deliver.new.self c.args.place c.in-Err-Fenced.ensures.unchanged (c.in-Err-Fenced.ensures.err (λ is. cc (is, c.in-Err-Fenced.field-0-is)) ∙ ap Err c.in-Err-Fenced.field-0-is)

pub returns-in-Err-clause-goes : goal.returns-in-Err-clause-goes
returns-in-Err-clause-goes c = rests_quietly c.args.run.now c.deliver.new.self c.in-Err.ensures.unchanged

pub returns-in-Err-clause-stops : goal.returns-in-Err-clause-stops
returns-in-Err-clause-stops c = rests_stops c.args.run.now c.deliver.new.self c.args.place c.in-Err.refusal c.requires c.in-Err.ensures.unchanged c.in-Err.ensures.err
