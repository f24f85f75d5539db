use Rattle.lock_table.proofs.RowLemmas.{blocks_are}
use Rattle.lock_table.proofs.lock_table.LockTable.room_for.Goals as goal
