-- The ranges of the numbers of nodes, processes, descriptions and calls.
use Rattle.std.specs.Prelude.{ℕ, ◌≤◌}
use Rattle.model.specs.declared.owner.Kind.{Kind}
use Rattle.model.specs.declared.owner.Kind.TheVariants.{OfProcess, OfDescription}

-- the greatest number of nodes in a cluster
abbrev pub most_nodes : ℕ
most_nodes = 64

-- the greatest number of processes on a node
abbrev pub most_processes : ℕ
most_processes = 256

-- the greatest number of descriptors in a process
abbrev pub most_descriptors : ℕ
most_descriptors = 64

-- the greatest number of open file descriptions on a node: all descriptors of all its processes
abbrev pub most_descriptions : ℕ
most_descriptions = 16384

-- n is a number from 1 to most
abbrev pub IsNumber : ℕ → ℕ → Type 0
IsNumber most n = (1 ≤ n) × (n ≤ most)

-- the number of a node, and of one of its incarnations, are in range
pub record IsHost (node incarnation : ℕ) : Type 0 where
  pub node_in : IsNumber most_nodes node
  pub incarnation_in : IsNumber 65535 incarnation

pub record HostFields : Type 0 where
  pub node : ℕ
  pub incarnation : ℕ

pub record ProcessFields : Type 0 where
  pub node : ℕ
  pub incarnation : ℕ
  pub pid : ℕ

pub record IsProcess (p : ProcessFields) : Type 0 where
  pub host : IsHost p.node p.incarnation
  pub pid_in : IsNumber most_processes p.pid

pub record OwnerFields : Type 0 where
  pub node : ℕ
  pub incarnation : ℕ
  pub kind : Kind
  pub number : ℕ

-- the greatest number of owners of a kind on a node
abbrev pub most_of : Kind → ℕ
most_of OfProcess = most_processes
most_of OfDescription = most_descriptions

pub record IsOwner (o : OwnerFields) : Type 0 where
  pub host : IsHost o.node o.incarnation
  pub number_in : IsNumber (most_of o.kind) o.number

pub record CallFields : Type 0 where
  pub node : ℕ
  pub incarnation : ℕ
  pub number : ℕ

pub record IsCall (c : CallFields) : Type 0 where
  pub host : IsHost c.node c.incarnation
  pub number_in : IsNumber 4294967295 c.number
