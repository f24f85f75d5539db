use Rattle.std.specs.Prelude.{true}
use Rattle.std.proofs.Common.{sym, ◌∙◌, ap}
use Rattle.descriptors.specs.rule.Rows.{row, processes}
use Rattle.descriptors.proofs.RowLaws.{processes-reset, processes-runs, processes-opened, rows-set, copied-row}
use Rattle.descriptors.proofs.rows.copy_row.Goals as goal

pub returns-clause-processes : goal.returns-clause-processes
returns-clause-processes c =
    let rows = c.args.rows.now in
    let same = c.row_at-row.ensures in
    let runs = sym (processes-runs rows c.args.pid) ∙ c.requires.runs in
    processes-reset rows c.args.child true ((processes rows).opened c.args.pid) c.row_at-row.result c.requires.within (same.runs ∙ runs) (λ fd. ap (λ f. f fd) same.opened ∙ sym (processes-opened rows c.args.pid fd))

pub returns-clause-rows : goal.returns-clause-rows
returns-clause-rows c =
    let rows = c.args.rows.now in
    let runs = sym (processes-runs rows c.args.pid) ∙ c.requires.runs in
    rows-set rows c.args.child c.row_at-row.result c.requires.within c.requires.rows (copied-row c.args.child c.args.pid c.row_at-row.result (row rows c.args.pid) c.row_at-row.ensures runs (c.requires.rows c.args.pid) c.requires.number)
