-- The union of the nodes' tables.
use Rattle.std.proofs.Common.{◌≡◌, ℕ, true, if◌then◌else◌, ◌&&◌, ◌==◌, refl, sym, ◌∙◌, ap, Option, Some, None}
use Rattle.std.proofs.lemmas.Bool.{and_from, eq-eqb}
use Rattle.intervals.specs.rule.Bytes.{nothing}
use Rattle.model.specs.declared.mode.Mode.{Mode}
use Rattle.model.specs.declared.owner.Owner.{Owner}
use Rattle.model.specs.rule.Locks.{FileLocks, IsOfNode}
use Rattle.model.specs.rule.Descriptors.{Processes, no_processes}
use Rattle.model.specs.rule.Table.{empty_table}
use Rattle.messages.specs.rule.Shapes.{most_regions, ShapeFields}
use Rattle.messages.specs.rule.Messages.{is_within}
use Rattle.cluster_core.specs.rule.World.{WorldState, first_world, has_node, is_live}
use Rattle.cluster_core.specs.rule.Union.{union}
use Rattle.cluster_core.proofs.common.Choices.{if_either}
use Rattle.model.proofs.NodeTables.{owner_at-node, owner_at-incarnation}

-- the union depends on the nodes' incarnations and tables alone
pub union_same : (w v : WorldState) → v.shape ≡ w.shape → ((n : ℕ) → (v.nodes n).incarnation ≡ (w.nodes n).incarnation) → ((n : ℕ) → (v.nodes n).table ≡ (w.nodes n).table) → union v ≡ union w
union_same w v shape incarnations tables = λ i. record {
  limit = most_regions (shape i).version;
  on = λ n k. if is_within (shape i).nodes n && (k == incarnations n i) then (tables n i).on n k else no_processes;
  locks = λ file owner. if is_within (shape i).nodes owner.node && (owner.incarnation == incarnations owner.node i) then (tables owner.node i).locks file owner else nothing;
}

-- the first union is empty
pub union_first : (shape : ShapeFields) → empty_table (most_regions shape.version) ≡ union (first_world shape)
union_first shape = λ i. record {
  limit = most_regions shape.version;
  on = λ n k. if_either (λ (ps : Processes). no_processes ≡ ps) (is_live (first_world shape) n k) no_processes no_processes refl refl i;
  locks = λ file owner. if_either (λ (f : ℕ → Option Mode). nothing ≡ f) (is_live (first_world shape) owner.node owner.incarnation) nothing nothing refl refl i;
}

-- a node of the shape is live in its incarnation
pub live_at : (w : WorldState) (n k i : ℕ) → has_node w n ≡ true → k ≡ n → i ≡ (w.nodes n).incarnation → is_live w k i ≡ true
live_at w n k i there node incarnation =
    and_from (has_node w k) (i == (w.nodes k).incarnation) (ap (has_node w) node ∙ there) (eq-eqb i (w.nodes k).incarnation (incarnation ∙ ap (λ (j : ℕ). (w.nodes j).incarnation) (sym node)))

-- owners of other nodes and incarnations hold nothing
pub none_held : (h : FileLocks) (n i : ℕ) (o : Owner) → IsOfNode h n i → (o.node ≡ n → o.incarnation ≡ i → ⊥) → nothing ≡ h o
none_held h n i o own other = λ j b. at b j
  where
    held : (b : ℕ) (mode : Mode) → h o b ≡ Some mode → ⊥
    held b mode there =
        let is = own.is_own o b mode there in
        other (ap (λ (x : Owner). x.node) is.2 ∙ owner_at-node n i is.0) (ap (λ (x : Owner). x.incarnation) is.2 ∙ owner_at-incarnation n i is.0)

    at : (b : ℕ) → None ≡ h o b
    at b = elim (h o b) as (λ x. h o b ≡ x → None ≡ x) [ None ↦ λ there. refl | Some mode ↦ λ there. absurd (held b mode there) ] refl
