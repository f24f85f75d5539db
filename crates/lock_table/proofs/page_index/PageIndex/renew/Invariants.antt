use Rattle.std.proofs.Common.{take}
use Rattle.lock_table.specs.rule.Tables.{all_rows, rows_held}
use Rattle.lock_table.specs.code.Rows.{IsKept, Covers}
use Rattle.lock_table.proofs.page_index.PageIndex.renew.Given as goal

abbrev pub invariant-loop-block : goal.invariant-loop-block
invariant-loop-block l = record {
  kept : IsKept l.self;
  covers : Covers l.self (rows_held (all_rows (take l.block-index l.blocks)));
}
