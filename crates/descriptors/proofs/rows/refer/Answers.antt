use Rattle.std.proofs.Common.{sym, ◌∙◌}
use Rattle.descriptors.specs.rule.Rows.{row}
use Rattle.descriptors.proofs.RowLaws.{processes-refer, processes-runs, rows-set, referred-row}
use Rattle.descriptors.proofs.rows.refer.Goals as goal

pub returns-clause-processes : goal.returns-clause-processes
returns-clause-processes c = processes-refer c.args.rows.now c.args.pid c.args.fd c.args.opened c.refer.new.self c.requires.within c.refer.ensures.runs c.refer.ensures.opened

pub returns-clause-rows : goal.returns-clause-rows
returns-clause-rows c =
    let runs = sym (processes-runs c.args.rows.now c.args.pid) ∙ c.requires.runs in
    rows-set c.args.rows.now c.args.pid c.refer.new.self c.requires.within c.requires.rows (referred-row c.args.pid c.refer.new.self (row c.args.rows.now c.args.pid) c.args.fd c.args.opened c.refer.ensures.runs runs c.refer.ensures.opened (c.requires.rows c.args.pid) c.requires.number)
