use Rattle.std.proofs.Common.{ap, sym, ◌∙◌, ◌++◌, drop, take, arith}
use Rattle.std.proofs.lemmas.List.{append_assoc}
use Rattle.intervals.specs.code.Parts.{all_runs}
use Rattle.intervals.proofs.Places.{all_runs-insert, some-insert}
use Rattle.intervals.proofs.row.Row.insert.Goals as goal

pub returns-clause-runs : goal.returns-clause-runs
returns-clause-runs g c some =
    let row = c.args.self.now in
    rw c.in-Ok.ensures.items (ap (λ l. row.first ++ l) (all_runs-insert row.rest.items c.args.at c.args.part) ∙ sym (append_assoc row.first (all_runs (take c.args.at row.rest.items)) (c.args.part ++ all_runs (drop c.args.at row.rest.items))))

pub returns-clause-some : goal.returns-clause-some
returns-clause-some g c = rw c.in-Ok.ensures.items (some-insert c.args.self.now.rest.items c.args.at c.args.part c.requires.some (omega arith))
