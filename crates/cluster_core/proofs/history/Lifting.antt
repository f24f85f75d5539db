-- A step of one node's table is a step of the union of all.
use Rattle.std.proofs.Common.{◌≡◌, ℕ, ◌≤◌, true, false, if◌then◌else◌, ◌&&◌, ◌==◌, inl, inr, refl, sym, ◌∙◌, ap, subst, Option}
use Rattle.std.proofs.lemmas.Bool.{and_parts, eqb-true, eq-eqb, cases_Bool, both_ways}
use Rattle.intervals.specs.rule.Bytes.{nothing}
use Rattle.model.specs.declared.mode.Mode.{Mode}
use Rattle.model.specs.declared.owner.Owner.{Owner}
use Rattle.model.specs.declared.op.Op.{Op}
use Rattle.model.specs.declared.reply.Reply.{Reply}
use Rattle.model.specs.rule.Locks.{bars}
use Rattle.model.specs.rule.Descriptors.{no_processes}
use Rattle.model.specs.rule.Table.{Table, LockTarget}
use Rattle.model.specs.rule.Step.{Step}
use Rattle.messages.specs.rule.Shapes.{most_regions, ShapeFields}
use Rattle.messages.specs.rule.Messages.{is_within}
use Rattle.node_core.specs.rule.State.{NodeState, process}
use Rattle.cluster_core.specs.rule.World.{WorldState, has_node, is_live}
use Rattle.cluster_core.specs.rule.Union.{union}
use Rattle.cluster_core.proofs.common.Choices.{if_again}
use Rattle.model.specs.rule.Anchors.{IsOwn}
use Rattle.cluster_core.specs.rule.Evidence.{IsAbout}
use Rattle.cluster_core.proofs.steps.Tries.{IsUnhindered}
use Rattle.cluster_core.proofs.history.Unions.{live_at}
use Rattle.cluster_core.proofs.history.Joined.{IsFreeBeside, is_of_host, of_host, joined, step-joined, about-joined}

-- no lock of another node blocks a lock of that mode on these bytes
abbrev pub IsFreeOfOthers : WorldState → ℕ → Mode → LockTarget → Type 0
IsFreeOfOthers w n mode c = (m : ℕ) (o : Owner) (b : ℕ) → has_node w m ≡ true → (m ≡ n → ⊥) → c.span.lo ≤ b → b ≤ c.span.hi → bars mode ((w.nodes m).table.locks c.file o b) ≡ false

-- if a call of a process of the node is not blocked, no lock of another node blocks it
abbrev pub IsFreeElsewhere : WorldState → ℕ → ℕ → Op → Reply → Type 0
IsFreeElsewhere w n pid op reply = (mode : Mode) (c : LockTarget) → IsUnhindered reply → IsAbout (w.nodes n).table (process (w.nodes n) pid) op mode c → IsFreeOfOthers w n mode c

-- the worlds differ in the state of one node alone, which stays in its incarnation
pub record DiffersAt (w v : WorldState) (n : ℕ) : Type 0 where
  pub shape : v.shape ≡ w.shape
  pub incarnation : (v.nodes n).incarnation ≡ (w.nodes n).incarnation
  pub others : (m : ℕ) → (m ≡ n → ⊥) → v.nodes m ≡ w.nodes m

-- the locks of an owner are those of its node while that is live
pub union_locks-live : (w : WorldState) (file : ℕ) (o : Owner) → is_live w o.node o.incarnation ≡ true → (union w).locks file o ≡ (w.nodes o.node).table.locks file o
union_locks-live w file o live = rw live refl

pub union_locks-dead : (w : WorldState) (file : ℕ) (o : Owner) → is_live w o.node o.incarnation ≡ false → (union w).locks file o ≡ nothing
union_locks-dead w file o dead = rw dead refl

-- the locks of an owner whose node of the shape is live are those of its node's table
pub union_locks-host : (w : WorldState) (n file : ℕ) (o : Owner) → has_node w n ≡ true → o.node ≡ n → o.incarnation ≡ (w.nodes n).incarnation → (union w).locks file o ≡ (w.nodes n).table.locks file o
union_locks-host w n file o there node incarnation =
    let live : is_live w o.node o.incarnation ≡ true = live_at w n o.node o.incarnation there node incarnation in
    union_locks-live w file o live ∙ ap (λ (k : ℕ). (w.nodes k).table.locks file o) node

module _ (w v : WorldState) (n : ℕ) (there : has_node w n ≡ true) (named : (w.nodes n).node ≡ n) (differs : DiffersAt w v n) where
  there_still : has_node v n ≡ true
  there_still = ap (λ (s : ShapeFields). is_within s.nodes n) differs.shape ∙ there

  number : (n == (w.nodes n).node) ≡ true
  number = eq-eqb n (w.nodes n).node (sym named)

  part_here : {A : Type 0} (F : NodeState → A) (none : A) (k : ℕ) → (if is_live v n k then F (v.nodes n) else none) ≡ (if (n == (w.nodes n).node) && (k == (w.nodes n).incarnation) then F (v.nodes n) else (if is_live w n k then F (w.nodes n) else none))
  part_here F none k =
      (λ i. if there_still i && (k == differs.incarnation i) then F (v.nodes n) else none)
      ∙ if_again (k == (w.nodes n).incarnation) (F (v.nodes n)) (F (w.nodes n)) none
      ∙ (λ i. if sym number i && (k == (w.nodes n).incarnation) then F (v.nodes n) else (if sym there i && (k == (w.nodes n).incarnation) then F (w.nodes n) else none))

  part_elsewhere : {A : Type 0} (F : NodeState → A) (none : A) (m k : ℕ) → (m == n) ≡ false → v.nodes m ≡ w.nodes m → (if is_live v m k then F (v.nodes m) else none) ≡ (if (m == (w.nodes n).node) && (k == (w.nodes n).incarnation) then F (v.nodes n) else (if is_live w m k then F (w.nodes m) else none))
  part_elsewhere F none m k apart same =
      let other : (m == (w.nodes n).node) ≡ false = ap (λ (j : ℕ). m == j) named ∙ apart in
      (λ i. if is_within (differs.shape i).nodes m && (k == (same i).incarnation) then F (same i) else none) ∙ rw other refl

  part : {A : Type 0} (F : NodeState → A) (none : A) (m k : ℕ) → (if is_live v m k then F (v.nodes m) else none) ≡ (if (m == (w.nodes n).node) && (k == (w.nodes n).incarnation) then F (v.nodes n) else (if is_live w m k then F (w.nodes m) else none))
  part {A} F none m k = elim (cases_Bool (m == n)) [
    | inl same ↦
        let P : ℕ → Type 0 = λ j. ◌≡◌ {A = A} (if is_live v j k then F (v.nodes j) else none) (if (j == (w.nodes n).node) && (k == (w.nodes n).incarnation) then F (v.nodes n) else (if is_live w j k then F (w.nodes j) else none)) in
        subst P (sym (eqb-true m n same)) (part_here F none k)
    | inr other ↦ part_elsewhere F none m k other (differs.others m (λ same. both_ways (m == n) other (eq-eqb m n same)))
  ]

  -- the union is the node's table beside those of the others
  pub union_joined : union v ≡ joined (union w) (w.nodes n).node (w.nodes n).incarnation (v.nodes n).table
  union_joined = λ i. record {
    limit = most_regions (differs.shape i).version;
    on = λ m k. part (λ s. s.table.on m k) no_processes m k i;
    locks = λ file o. part (λ s. s.table.locks file o) nothing o.node o.incarnation i;
  }

-- a call that no lock of another node blocks is blocked by none beside the node's table
free_beside : (w : WorldState) (n pid : ℕ) (op : Op) (reply : Reply) → (w.nodes n).node ≡ n → IsFreeElsewhere w n pid op reply → IsFreeBeside (union w) (process (w.nodes n) pid) (w.nodes n).table op reply
free_beside w n pid op reply named free mode c unhindered about o b apart above below =
    let s = w.nodes n in
    elim (cases_Bool (is_live w o.node o.incarnation)) [
      | inl live ↦
          let parts = and_parts (has_node w o.node) (o.incarnation == (w.nodes o.node).incarnation) live in
          let other : o.node ≡ n → ⊥ = λ same.
          let incarnation : o.incarnation ≡ s.incarnation = eqb-true _ _ parts.1 ∙ ap (λ (k : ℕ). (w.nodes k).incarnation) same in
          both_ways (is_of_host s.node s.incarnation o) apart (of_host s.node s.incarnation o (same ∙ sym named) incarnation) in
          ap (λ (f : ℕ → Option Mode). bars mode (f b)) (union_locks-live w c.file o live) ∙ free mode c unhindered about o.node o b parts.0 other above below
      | inr dead ↦ ap (λ (f : ℕ → Option Mode). bars mode (f b)) (union_locks-dead w c.file o dead)
    ]

-- a step of the node's table is a step of the union
pub step_lifts : (w v : WorldState) (n pid : ℕ) (op : Op) (reply : Reply) → has_node w n ≡ true → (w.nodes n).node ≡ n → (w.nodes n).table.limit ≡ most_regions w.shape.version → IsOwn (w.nodes n).table (w.nodes n).node (w.nodes n).incarnation → DiffersAt w v n → IsFreeElsewhere w n pid op reply → Step (w.nodes n).table (process (w.nodes n) pid) op reply (v.nodes n).table → Step (union w) (process (w.nodes n) pid) op reply (union v)
step_lifts w v n pid op reply there named limit own differs free step =
    let s = w.nodes n in
    let p = process s pid in
    let nothing_else : DiffersAt w w n = record { shape = refl; incarnation = refl; others = λ m other. refl } in
    let old : union w ≡ joined (union w) s.node s.incarnation s.table = union_joined w w n there named nothing_else in
    let new : union v ≡ joined (union w) s.node s.incarnation (v.nodes n).table = union_joined w v n there named differs in
    let P : Table → Type 0 = λ t. Step t p op reply (union v) in
    let Q : Table → Type 0 = λ t. Step (joined (union w) s.node s.incarnation s.table) p op reply t in
    subst P (sym old) (subst Q (sym new) (step-joined (union w) p s.table (v.nodes n).table op reply limit own (free_beside w n pid op reply named free) step))

-- the target of a call in the node's table is its target in the union
pub about_lifts : (w : WorldState) (n pid : ℕ) (op : Op) (mode : Mode) (c : LockTarget) → has_node w n ≡ true → (w.nodes n).node ≡ n → IsAbout (w.nodes n).table (process (w.nodes n) pid) op mode c → IsAbout (union w) (process (w.nodes n) pid) op mode c
about_lifts w n pid op mode c there named about =
    let s = w.nodes n in
    let same : union w ≡ joined (union w) s.node s.incarnation s.table = union_joined w w n there named (record { shape = refl; incarnation = refl; others = λ m other. refl }) in
    let P : Table → Type 0 = λ t. IsAbout t (process s pid) op mode c in
    subst P (sym same) (about-joined (union w) (process s pid) s.table op mode c about)
