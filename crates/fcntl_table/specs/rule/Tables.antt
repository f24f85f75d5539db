-- The one table that the code's table stands for, and the owner and the bytes of a call.
use Rattle.model.specs.rule.Table.{Table}
use Rattle.model.specs.declared.host.Host.{Host}
use Rattle.fcntl_table.specs.declared.table.FcntlTable.{FcntlTable}
use Rattle.fcntl_table.specs.rule.Hosts.{table_with, IsKept}
use Rattle.std.specs.Prelude.{◌≡◌, ℕ, ◌≤◌}
use Rattle.intervals.specs.rule.Bytes.{Range, greatest}
use Rattle.model.specs.declared.owner.Owner.{Owner}
use Rattle.model.specs.rule.Limits.{IsNumber, most_of}

-- the one table that the code's table stands for
unfoldable pub table_of : FcntlTable → Table
table_of t = table_with t.hosts t.locks

-- there is an entry for the host, even if no process of it runs
abbrev pub Keeps : FcntlTable → Host → Type 0
Keeps t host = IsKept t.hosts host

-- the owner is of this node and incarnation, and its number is in range
pub record IsOwn (node incarnation : ℕ) (o : Owner) : Type 0 where
  pub of_node : o.node ≡ node
  pub of_incarnation : o.incarnation ≡ incarnation
  pub number_in : IsNumber (most_of o.kind) o.number

-- the span has a byte and ends at the greatest offset or below it
pub record IsSpan (s : Range) : Type 0 where
  pub ordered : s.lo ≤ s.hi
  pub ends : s.hi ≤ greatest
