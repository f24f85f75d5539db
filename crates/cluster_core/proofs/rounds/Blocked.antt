-- A lock of its own node that blocks an open call blocks it in the table of all nodes.
use Rattle.std.specs.Prelude.{MatchOption}
use Rattle.std.proofs.Common.{◌≡◌, ℕ, true, ◌==◌, sym, ◌∙◌, subst, arith, List, Contains, Option, Some}
use Rattle.std.proofs.lemmas.Bool.{and_parts, eqb-true}
use Rattle.std.proofs.lemmas.List.Elements.{All-contains}
use Rattle.intervals.specs.rule.Bytes.{IsRun}
use Rattle.model.specs.declared.lock_info.LockInfo.{LockInfo}
use Rattle.model.specs.declared.mode.Mode.{Mode}
use Rattle.model.specs.rule.Locks.{IsOfNode, IsRegion, IsFree, IsLowestBlocker, Blocks, lowest_blocker}
use Rattle.model.proofs.BlockerLaws.{lowest_is_lowest}
use Rattle.messages.specs.rule.Shapes.{ShapeFields}
use Rattle.messages.specs.declared.entry.Entry.{Entry}
use Rattle.node_core.specs.declared.open_call.OpenCall.{OpenCall}
use Rattle.node_core.specs.rule.State.{NodeState, target_of}
use Rattle.cluster_core.specs.rule.World.{WorldState, has_node}
use Rattle.cluster_core.specs.rule.Union.{union}
use Rattle.cluster_core.specs.rule.Rests.{IsBlockedHere}
use Rattle.cluster_core.specs.rule.Rounds.{IsBlockedWait}
use Rattle.cluster_core.proofs.steps.Tries.{about_own}
use Rattle.cluster_core.proofs.history.Joined.{holder_of_host}
use Rattle.cluster_core.proofs.history.Lifting.{union_locks-host}
use Rattle.cluster_core.proofs.history.Nodes.{IsOpen, Holds}
use Rattle.cluster_core.proofs.history.Worlds.{Good}

-- the lock that a node finds in the way of an open call blocks it there
blocks_here : (past : List Entry) (s : NodeState) (c : OpenCall) (lock : LockInfo) → Holds past s → IsOpen past s c → lowest_blocker (s.table.locks c.file) c.owner c.span c.mode ≡ Some lock → Blocks (s.table.locks c.file) c.owner c.span c.mode lock
blocks_here past s c lock holds o there =
    let h = s.table.locks c.file in
    let is = about_own s.table s.node s.incarnation c.pid o.op c.mode (target_of c) o.is_process.pid_in holds.own o.ready.passes in
    let own : IsOfNode h c.owner.node c.owner.incarnation =
    subst (λ (k : ℕ). IsOfNode h k c.owner.incarnation) (sym is.owner.node_is) (subst (λ (k : ℕ). IsOfNode h s.node k) (sym is.owner.incarnation_is) (holds.own.locks c.file)) in
    let P : Option LockInfo → Type 0 = λ x. MatchOption x (IsFree h c.owner c.span c.mode) (IsLowestBlocker h c.owner c.span c.mode) in
    let found : IsLowestBlocker h c.owner c.span c.mode lock = subst P there (lowest_is_lowest h c.owner c.span c.mode own is.span.ordered is.span.ends) in
    found.blocks

-- a region of a node's locks is one of the locks of all nodes
region_in_union : (w : WorldState) (n file : ℕ) (past : List Entry) (lock : LockInfo) → has_node w n ≡ true → (w.nodes n).node ≡ n → Holds past (w.nodes n) → IsRegion ((w.nodes n).table.locks file) lock → IsRegion ((union w).locks file) lock
region_in_union w n file past lock there named holds region =
    let s = w.nodes n in
    let owner = holder_of_host s.table s.node s.incarnation file lock.owner lock.span.lo lock.mode holds.own (region.all lock.span.lo (omega arith) region.ordered) in
    let parts = and_parts (lock.owner.node == s.node) (lock.owner.incarnation == s.incarnation) owner in
    let in_union = union_locks-host w n file lock.owner there (eqb-true lock.owner.node s.node parts.0 ∙ named) (eqb-true lock.owner.incarnation s.incarnation parts.1) in
    subst (λ (f : ℕ → Option Mode). IsRun f lock.span lock.mode) (sym in_union) region

-- a wait that a lock of its own node blocks is blocked in the table of all nodes
pub blocked_waits : (shape : ShapeFields) (past : List Entry) (w : WorldState) → Good shape past w → (n : ℕ) → has_node w n ≡ true → (c : OpenCall) → Contains (w.nodes n).pending c → IsBlockedHere (w.nodes n) c → IsBlockedWait w c
blocked_waits shape past w g n there c at blocked =
    let s = w.nodes n in
    let holds = g.holds n in
    let o = All-contains (IsOpen past s) s.pending c holds.waiting at in
    let b = blocks_here past s c blocked.lock holds o blocked.there in
    record {
      waits = blocked.waits;
      lock = blocked.lock;
      blocks = record {
        is_other = b.is_other;
        region = region_in_union w n c.file past blocked.lock there (g.named n) holds b.region;
        conflicts = b.conflicts;
        starts = b.starts;
        ends = b.ends;
      };
    }
