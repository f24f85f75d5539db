-- Locks depend on descriptors: no lock outlives those of its owner.
use Rattle.std.specs.Prelude.{◌≡◌, ℕ, ◌<◌, true, false, ◌&&◌, ◌==◌, Some}
use Rattle.model.specs.declared.mode.Mode.{Mode}
use Rattle.model.specs.declared.owner.Kind.{Kind}
use Rattle.model.specs.declared.owner.Kind.TheVariants.{OfProcess, OfDescription}
use Rattle.model.specs.declared.owner.Owner.{Owner}
use Rattle.model.specs.declared.opened.Opened.{Opened}
use Rattle.model.specs.rule.Limits.{IsNumber, most_processes, most_descriptors, most_descriptions}
use Rattle.model.specs.rule.Locks.{Locks, IsOfNode}
use Rattle.model.specs.rule.Descriptors.{Processes, no_processes}
use Rattle.model.specs.rule.Table.{Table}

-- the descriptors that an owner's locks in a file depend on: a process has one of the file, a description has one that refers to it there
abbrev pub Hangs : Processes → ℕ → Kind → ℕ → Type 0
Hangs ps file OfProcess number = (fd : ℕ) × (o : Opened) × (ps.opened number fd ≡ Some o) × (o.file ≡ file)
Hangs ps file OfDescription number = (pid : ℕ) × (fd : ℕ) × (o : Opened) × (ps.opened pid fd ≡ Some o) × (o.description ≡ number) × (o.file ≡ file)

-- on one node, numbers are in range, descriptors belong to running processes, a description has one file and access, and locks have the descriptors they need
pub record AreAnchored (ps : Processes) (h : Locks) (node incarnation : ℕ) : Type 0 where
  pub numbers : (pid : ℕ) → ps.runs pid ≡ true → IsNumber most_processes pid
  pub descriptors : (pid fd : ℕ) (o : Opened) → ps.opened pid fd ≡ Some o → (ps.runs pid ≡ true) × (fd < most_descriptors)
  pub agree : (pid fd qid k : ℕ) (o x : Opened) → ps.opened pid fd ≡ Some o → ps.opened qid k ≡ Some x → o.description ≡ x.description → o ≡ x
  pub locks : (file : ℕ) (owner : Owner) (b : ℕ) (mode : Mode) → owner.node ≡ node → owner.incarnation ≡ incarnation → h file owner b ≡ Some mode → Hangs ps file owner.kind owner.number

-- each lock of the node in this incarnation has the descriptors that it depends on
abbrev pub IsAnchored : Table → ℕ → ℕ → Type 0
IsAnchored t node incarnation = AreAnchored (t.on node incarnation) t.locks node incarnation

-- the table holds only this node's processes, in this incarnation, and their locks, with numbers in range
pub record IsOwn (t : Table) (node incarnation : ℕ) : Type 0 where
  pub others : (n i : ℕ) → ((n == node) && (i == incarnation)) ≡ false → t.on n i ≡ no_processes
  pub descriptions : (pid fd : ℕ) (o : Opened) → (t.on node incarnation).opened pid fd ≡ Some o → IsNumber most_descriptions o.description
  pub locks : (file : ℕ) → IsOfNode (t.locks file) node incarnation
  pub anchored : IsAnchored t node incarnation
