use Rattle.std.proofs.Common.{arith}
use Rattle.node_core.proofs.FileLaws.{own-row, shared-row, row-says}
use Rattle.node_core.proofs.file_rows.FileRows.get.Goals as goal

pub returns-then-place-len-clause-row : goal.returns-then-place-len-clause-row
returns-then-place-len-clause-row c = own-row c.self.inside.count c.self.inside.rows.items c.args.self.now c.args.file c.index.result.now c.self.view_is c.requires (omega arith) c.index.ensures

pub returns-then-place-len-clause-state : goal.returns-then-place-len-clause-state
returns-then-place-len-clause-state c = row-says c.args.self.now c.args.file c.index.result.now c.requires (own-row c.self.inside.count c.self.inside.rows.items c.args.self.now c.args.file c.index.result.now c.self.view_is c.requires (omega arith) c.index.ensures)

pub returns-else-place-len-clause-row : goal.returns-else-place-len-clause-row
returns-else-place-len-clause-row c = shared-row c.self.inside.count c.self.inside.rows.items c.args.self.now c.args.file c.self.inside.fresh c.self.view_is c.requires (omega arith) c.self.invariant.0

pub returns-else-place-len-clause-state : goal.returns-else-place-len-clause-state
returns-else-place-len-clause-state c = row-says c.args.self.now c.args.file c.self.inside.fresh c.requires (shared-row c.self.inside.count c.self.inside.rows.items c.args.self.now c.args.file c.self.inside.fresh c.self.view_is c.requires (omega arith) c.self.invariant.0)
