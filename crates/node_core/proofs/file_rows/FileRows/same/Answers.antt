use Rattle.std.proofs.Common.{arith, refl}
use Rattle.node_core.proofs.FileLaws.{file_state-same, known-count}
use Rattle.node_core.proofs.file_rows.FileRows.same.Goals as goal

pub get-requires : goal.get-requires
get-requires c =
    let many = known-count c.self.inside.count c.self.inside.rows.items c.args.self.now c.self.view_is in
    (omega arith, omega arith)

pub get-requires-in-loop-before : goal.get-requires-in-loop-before
get-requires-in-loop-before c =
    let many = known-count c.self.inside.count c.self.inside.rows.items c.args.self.now c.self.view_is in
    let same = c.requires in
    (omega arith, omega arith)

pub returns : goal.returns
returns c =
    let many = known-count c.self.inside.count c.self.inside.rows.items c.args.self.now c.self.view_is in
    let same = c.requires in
    (λ _. file_state-same c.args.self.now c.args.other.now c.loop-before.before (omega arith) (omega arith) c.loop-before.invariant, λ _. refl)
