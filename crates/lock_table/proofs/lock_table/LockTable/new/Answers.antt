use Rattle.std.proofs.Common.{[]}
use Rattle.lock_table.proofs.RowLemmas.{held-none}
use Rattle.lock_table.proofs.lock_table.LockTable.new.Goals as goal

pub returns-clause-locks : goal.returns-clause-locks
returns-clause-locks c = rw c.new.ensures.items (λ i file owner. held-none [] file owner tt i)
