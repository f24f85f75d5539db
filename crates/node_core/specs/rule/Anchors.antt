-- No lock of a node outlives its descriptors, and no open call outlives its own.
use Rattle.std.specs.Prelude.{◌≡◌, ℕ, List, All, Some}
use Rattle.model.specs.declared.owner.Kind.{Kind}
use Rattle.model.specs.declared.opened.Opened.{Opened}
use Rattle.model.specs.rule.Limits.{IsNumber, most_processes}
use Rattle.model.specs.rule.Table.{Table, owner_of}
use Rattle.model.specs.rule.Anchors.{IsOwn}
use Rattle.fcntl_table.specs.rule.Tables.{IsSpan}
use Rattle.node_core.specs.declared.open_call.OpenCall.{OpenCall}
use Rattle.node_core.specs.rule.State.{NodeState}

-- an open call has a descriptor of its process for the file, on which its lock would depend
pub record Waits (t : Table) (node incarnation : ℕ) (c : OpenCall) : Type 0 where
  pub pid_in : IsNumber most_processes c.pid
  pub kind : Kind
  pub fd : ℕ
  pub opened : Opened
  pub there : (t.on node incarnation).opened c.pid fd ≡ Some opened
  pub file : opened.file ≡ c.file
  pub owner : owner_of (record { node = node; incarnation = incarnation; pid = c.pid }) kind opened ≡ c.owner
  pub span : IsSpan c.span

-- the table is the node's own, no lock in it outlives its descriptors, and each open call has its descriptor
pub record AreAnchored (t : Table) (node incarnation : ℕ) (calls : List OpenCall) : Type 0 where
  pub own : IsOwn t node incarnation
  pub waiting : All (Waits t node incarnation) calls

abbrev pub IsAnchored : NodeState → Type 0
IsAnchored s = AreAnchored s.table s.node s.incarnation s.pending
