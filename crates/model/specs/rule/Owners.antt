-- The owners of locks, and their order.
use Rattle.std.specs.Prelude.{ℕ, ◌+◌, ◌-◌, Bool, true, false, ◌&&◌, ◌==◌, nat_lt, if◌then◌else◌}
use Rattle.std.specs.declared.cmp.Ordering.{Ordering}
use Rattle.std.specs.declared.cmp.Ordering.TheVariants.{Less, Equal, Greater}
use Rattle.std.specs.Ordering.{nat_cmp, ordering_then}
use Rattle.model.specs.declared.mode.Mode.{Mode}
use Rattle.model.specs.declared.mode.Mode.TheVariants.{Read, Write}
use Rattle.model.specs.declared.owner.Kind.{Kind}
use Rattle.model.specs.declared.owner.Kind.TheVariants.{OfProcess, OfDescription}
use Rattle.model.specs.declared.owner.Owner.{Owner}
use Rattle.model.specs.declared.call.CallId.{CallId}
use Rattle.model.specs.declared.host.Host.{Host}
use Rattle.model.specs.declared.process.Process.{Process}
use Rattle.model.specs.rule.Limits.{most_processes}

abbrev pub same_mode : Mode → Mode → Bool
same_mode Read Read = true
same_mode Write Write = true
same_mode _ _ = false

abbrev pub same_kind : Kind → Kind → Bool
same_kind OfProcess OfProcess = true
same_kind OfDescription OfDescription = true
same_kind _ _ = false

abbrev pub same_owner : Owner → Owner → Bool
same_owner a b = (a.node == b.node) && ((a.incarnation == b.incarnation) && (same_kind a.kind b.kind && (a.number == b.number)))

abbrev pub same_host : Host → Host → Bool
same_host a b = (a.node == b.node) && (a.incarnation == b.incarnation)

-- the node and the incarnation that made a call
abbrev pub host_of_call : CallId → Host
host_of_call c = record { node = c.node; incarnation = c.incarnation }

-- the owner that a process is
abbrev pub process_owner : Process → Owner
process_owner p = record { node = p.node; incarnation = p.incarnation; kind = OfProcess; number = p.pid }

-- Linux fcntl(2), F_OFD_SETLK: the owner that description d of the process's node is
abbrev pub description_owner : Process → ℕ → Owner
description_owner p d = record { node = p.node; incarnation = p.incarnation; kind = OfDescription; number = d }

-- the order of kinds: processes before descriptions
abbrev pub kind_cmp : Kind → Kind → Ordering
kind_cmp OfProcess OfProcess = Equal
kind_cmp OfProcess OfDescription = Less
kind_cmp OfDescription OfProcess = Greater
kind_cmp OfDescription OfDescription = Equal

-- the order of owners: by node, then incarnation, then kind (processes before descriptions), then number
abbrev pub owner_cmp : Owner → Owner → Ordering
owner_cmp a b = ordering_then (nat_cmp a.node b.node) (ordering_then (nat_cmp a.incarnation b.incarnation) (ordering_then (kind_cmp a.kind b.kind) (nat_cmp a.number b.number)))

-- the number of owners that a node can have in one incarnation
abbrev pub most_owners : ℕ
most_owners = 16640

-- the owner at place k, from 0, in the order of the owners that a node can have
abbrev pub owner_at : ℕ → ℕ → ℕ → Owner
owner_at node incarnation k =
    if nat_lt k most_processes
    then record { node = node; incarnation = incarnation; kind = OfProcess; number = k + 1 }
    else record { node = node; incarnation = incarnation; kind = OfDescription; number = k + 1 - most_processes }
