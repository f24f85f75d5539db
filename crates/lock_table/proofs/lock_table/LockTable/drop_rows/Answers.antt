use Rattle.std.proofs.Common.{List}
use Rattle.std.specs.List.{filter}
use Rattle.lock_table.specs.declared.owner_locks.OwnerLocks.{OwnerLocks}
use Rattle.lock_table.specs.rule.Tables.{all_rows, rows_held}
use Rattle.lock_table.proofs.RowLemmas.{is_of_other, held-filter, rows-filter, blocks_are}
use Rattle.lock_table.proofs.PageLemmas.{covers-without_anywhere}
use Rattle.lock_table.proofs.lock_table.LockTable.drop_rows.Goals as goal

pub invariant_of-self : goal.invariant_of-self
invariant_of-self c =
    let rows = all_rows c.self.inside.blocks.items in
    let left = filter (is_of_other c.args.owner) rows in
    rw c.drop_rows.ensures.rows (rows-filter (is_of_other c.args.owner) rows c.self.invariant.0, c.drop_rows.ensures.some, covers-without_anywhere c.self.inside.index (rows_held rows) (rows_held left) c.args.owner (held-filter rows c.args.owner) c.self.invariant.2)

pub returns-clause-locks : goal.returns-clause-locks
returns-clause-locks c =
    rw (c.drop_rows.ensures.rows, ← (blocks_are c.self.inside.blocks.items c.self.inside.limit c.args.self.now c.self.view_is)) (λ j f o. held-filter (all_rows c.self.inside.blocks.items) c.args.owner f o j)
