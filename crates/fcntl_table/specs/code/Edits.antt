-- Planned changes of the table.
use Rattle.std.specs.Prelude.{◌≡◌, true}
use Rattle.model.specs.rule.Locks.{with_lock}
use Rattle.model.specs.rule.Table.{Table, is_running, descriptor, closed_if, exited}
use Rattle.lock_table.specs.code.Rows.{Fits as LocksFit}
use Rattle.descriptors.specs.code.Edits.{edited as edited_processes}
use Rattle.fcntl_table.specs.declared.edit.TableEdit.{TableEdit}
use Rattle.fcntl_table.specs.declared.edit.TableEdit.TheVariants.{Nothing, OfProcess, OfLocks, Closes, Exits}
use Rattle.fcntl_table.specs.declared.table.FcntlTable.{FcntlTable}
use Rattle.fcntl_table.specs.rule.Hosts.{with_host}
use Rattle.fcntl_table.specs.code.Hosts.{FitsOn}
use Rattle.fcntl_table.specs.rule.Tables.{table_of}

-- the table after the edit is made
abbrev pub edited : Table → TableEdit → Table
edited t Nothing = t
edited t (OfProcess host e) = record t { on = with_host t.on host (edited_processes (t.on host.node host.incarnation) e) }
edited t (OfLocks e) = record t { locks = with_lock t.locks e.file e.owner e.write.span e.write.value }
edited t (Closes p fd) = closed_if t p fd (descriptor t p fd)
edited t (Exits p) = exited t p

-- the edit can be made: its parts fit the table, and the process that closes or exits runs
abbrev pub Fits : FcntlTable → TableEdit → Type 0
Fits t Nothing = Unit {0}
Fits t (OfProcess host e) = FitsOn t.hosts host e
Fits t (OfLocks e) = LocksFit t.locks e
Fits t (Closes p fd) = is_running (table_of t) p ≡ true
Fits t (Exits p) = is_running (table_of t) p ≡ true
