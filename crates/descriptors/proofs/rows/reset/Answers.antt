use Rattle.std.specs.Prelude.{None}
use Rattle.descriptors.proofs.RowLaws.{processes-reset, rows-set, fresh-row}
use Rattle.descriptors.proofs.rows.reset.Goals as goal

pub returns-clause-processes : goal.returns-clause-processes
returns-clause-processes c = processes-reset c.args.rows.now c.args.pid c.args.runs (λ fd. None) c.new.result c.requires.within c.new.ensures.runs c.new.ensures.opened

pub returns-clause-rows : goal.returns-clause-rows
returns-clause-rows c = rows-set c.args.rows.now c.args.pid c.new.result c.requires.within c.requires.rows (fresh-row c.args.pid c.new.result c.args.runs c.new.ensures.runs c.new.ensures.opened c.requires.number)
