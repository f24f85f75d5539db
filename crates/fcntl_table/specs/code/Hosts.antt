-- Planned changes of the processes of a host.
use Rattle.std.specs.Prelude.{◌≡◌, List, Some}
use Rattle.std.specs.Map.{lookup}
use Rattle.model.specs.declared.host.Host.{Host}
use Rattle.model.specs.rule.Owners.{same_host}
use Rattle.descriptors.specs.declared.process_entry.ProcessEntry.{ProcessEntry}
use Rattle.descriptors.specs.declared.edit.ProcessEdit.{ProcessEdit}
use Rattle.descriptors.specs.code.Edits.{Fits}
use Rattle.fcntl_table.specs.rule.Hosts.{HostRows}

-- there is an entry for the host, and the edit can be made in its rows
pub record FitsOn (hosts : HostRows) (host : Host) (edit : ProcessEdit) : Type 0 where
  pub rows : List ProcessEntry
  pub kept : lookup (same_host host) hosts ≡ Some rows
  pub fits : Fits rows edit
