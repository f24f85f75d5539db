use Rattle.std.proofs.Common.{arith, sym, subst, ℕ, ◌+◌, take}
use Rattle.book.specs.rule.Commits.{Holds}
use Rattle.replay.specs.rule.Scripts.{IsCount}
use Rattle.replay.proofs.OnThreads.{one_more_taken, no_more_taken}
use Rattle.replay.proofs.threads.held_in.Goals.{then-holds, else-holds}
use Rattle.replay.proofs.threads.held_in.Goals as goal

pub loop-receipt-preserved : goal.loop-receipt-preserved
loop-receipt-preserved c =
    let entries = c.args.journal.now.entries in
    let receipts = c.args.receipts.now in
    let i = c.loop-receipt.receipt-index in
    let receipt = c.receipt-item.result in
    let held = c.loop-receipt.held in
    let was = c.loop-receipt.invariant in
    let Counted : ℕ → Type 0 = λ count. IsCount (Holds entries) (take (i + 1) receipts) count in
    elim c.if-holds.branch [
      | then-holds w ↦ (subst Counted (sym w.held-is) (one_more_taken (Holds entries) receipts i receipt held c.loop-receipt-test.true c.receipt-item.is was.0 w.if-holds.ensures), (let at = w.held-is in let le = was.1 in omega arith))
      | else-holds w ↦ (subst Counted (sym w.held-is) (no_more_taken (Holds entries) receipts i receipt held c.loop-receipt-test.true c.receipt-item.is was.0 w.if-holds.ensures), (let at = w.held-is in let le = was.1 in omega arith))
    ]
