use Rattle.std.proofs.Common.{◌≡◌, ℕ, ◌+◌, ◌/◌, ◌%◌, ◌<◌}
use Rattle.intervals.specs.rule.Bytes.{nothing}
use Rattle.lock_table.specs.code.Rows.{HoldsLess, HasFlag}
use Rattle.lock_table.specs.rule.Tables.{held}
use Rattle.lock_table.proofs.lock_table.LockTable.drop_in_word.Given as goal

abbrev pub invariant-loop-bit : goal.invariant-loop-bit
invariant-loop-bit l = record {
  limit : l.self.limit ≡ l.initial.self.limit;
  less : HoldsLess l.owner (held l.initial.self) (held l.self);
  gone : (k : ℕ) → k / 64 ≡ l.word → k % 64 < l.bit → HasFlag l.files k → held l.self (k + 1) l.owner ≡ nothing;
}
