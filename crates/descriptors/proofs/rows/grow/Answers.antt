use Rattle.std.proofs.Common.{◌+◌, refl, arith}
use Rattle.descriptors.proofs.RowLaws.{processes-same, grown-same, rows-same}
use Rattle.descriptors.proofs.rows.grow.Goals as goal

pub returns-clause-same : goal.returns-clause-same
returns-clause-same c =
    let len = c.in_ok-resize.ensures.len in
    let ok = c.args.rows.now.ok in
    let new_ok = c.resize.new.self.ok in
    processes-same _ _ (grown-same c.resize.new.self.items c.args.rows.now.items (c.args.pid + 1) c.new.result (omega arith) (omega arith) (λ k d lt within. c.in_ok-resize.ensures.by_index.0 k d lt (omega arith)) (λ k d past lt. c.in_ok-resize.ensures.by_index.1 k d refl (omega arith) lt) c.new.ensures.runs c.new.ensures.opened)

pub returns-clause-rows : goal.returns-clause-rows
returns-clause-rows c = λ h.
    let len = c.in_ok-resize.ensures.len in
    let ok = c.args.rows.now.ok in
    let new_ok = c.resize.new.self.ok in
    rows-same _ _ (grown-same c.resize.new.self.items c.args.rows.now.items (c.args.pid + 1) c.new.result (omega arith) (omega arith) (λ k d lt within. c.in_ok-resize.ensures.by_index.0 k d lt (omega arith)) (λ k d past lt. c.in_ok-resize.ensures.by_index.1 k d refl (omega arith) lt) c.new.ensures.runs c.new.ensures.opened) h
