-- The receipts before this one are counted.
use Rattle.std.proofs.Common.{◌≤◌, take}
use Rattle.book.specs.rule.Commits.{Holds}
use Rattle.replay.specs.rule.Scripts.{IsCount}
use Rattle.replay.proofs.threads.held_in.Given as goal

abbrev pub invariant-loop-receipt : goal.invariant-loop-receipt
invariant-loop-receipt l = IsCount (Holds l.journal.entries) (take l.receipt-index l.receipts) l.held × (l.held ≤ l.receipt-index)
