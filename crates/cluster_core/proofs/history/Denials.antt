-- A node that first does a revoke which a lock blocks gives the evidence for the denial.
use Rattle.std.proofs.Common.{◌≡◌, ℕ, ◌+◌, ◌≤◌, Bool, true, false, ◌&&◌, ◌||◌, ◌==◌, inl, inr, refl, sym, ◌∙◌, ap, subst, arith, List, [], ◌∷◌, ◌++◌, length, length-append, get_or, All, Option, Some, None, MatchOption}
use Rattle.std.specs.Prelude.{max}
use Rattle.std.specs.List.{list_any}
use Rattle.std.proofs.lemmas.Bool.{and_parts, and_from, eqb-true, eq-eqb, cases_Bool}
use Rattle.std.proofs.lemmas.List.Elements.{All-nil, All-same}
use Rattle.intervals.specs.rule.Bytes.{Range, IsRun, greatest}
use Rattle.model.specs.declared.call.CallId.{CallId}
use Rattle.model.specs.declared.lock_info.LockInfo.{LockInfo}
use Rattle.model.specs.declared.mode.Mode.{Mode}
use Rattle.model.specs.declared.op.Op.{Op}
use Rattle.model.specs.declared.owner.Owner.{Owner}
use Rattle.model.specs.rule.Locks.{IsRegion, IsClear, IsLowestInWay, Blocks, lowest_in_way}
use Rattle.model.specs.rule.Table.{Table}
use Rattle.model.specs.rule.Step.{Step}
use Rattle.model.proofs.WayLaws.{lowest_in_way_is_lowest}
use Rattle.messages.specs.rule.Shapes.{ShapeFields, begin_of}
use Rattle.messages.specs.rule.TokenRuns.{Wants}
use Rattle.messages.specs.rule.Messages.{same_host, is_conflict}
use Rattle.messages.specs.declared.message.Message.TheVariants.{Revoke, Conflict}
use Rattle.messages.proofs.SameMessages.{host_refl}
use Rattle.messages.specs.declared.event.Event.TheVariants.{Deliver}
use Rattle.messages.specs.declared.entry.Entry.{Entry}
use Rattle.node_core.specs.declared.open_call.OpenCall.{OpenCall}
use Rattle.node_core.specs.rule.State.{NodeState, host, process, target_of}
use Rattle.cluster_core.specs.rule.World.{WorldState, first_world, has_node}
use Rattle.cluster_core.specs.rule.Runs.{Leads}
use Rattle.cluster_core.specs.rule.Union.{union}
use Rattle.cluster_core.specs.rule.Histories.{caller, names_conflict, EntryAt, IsCalledAt, OneCall}
use Rattle.cluster_core.specs.rule.Evidence.{IsAbout, IsAsked, IsFirstDone, HasEvidence}
use Rattle.cluster_core.proofs.history.Entries.{entry_at-last, entry_at-push, entry_at-within}
use Rattle.model.specs.rule.Anchors.{IsOwn}
use Rattle.cluster_core.proofs.steps.Tries.{about_step, blocked_step}
use Rattle.cluster_core.proofs.history.Joined.{is_of_host, holder_of_host}
use Rattle.cluster_core.proofs.history.Lifting.{union_locks-host, about_lifts}
use Rattle.cluster_core.proofs.history.Nodes.{IsOpen}
use Rattle.cluster_core.proofs.history.Prefixes.{after_all, after-keeps}
use Rattle.cluster_core.proofs.history.Witnesses.{about_span, about_node, called_one, asked_one, asked-keeps, IsAskedBy, MayRefuse, Denies}

-- the facts where node n first does the revoke
pub record Revokes (shape : ShapeFields) (past : List Entry) (w later : WorldState) (made : Entry) (n file number : ℕ) (call : CallId) (mode : Mode) (wanted : Wants) (lock : LockInfo) : Type 0 where
  pub there : has_node w n ≡ true
  pub leads : Leads (first_world shape) past w
  pub named : (m : ℕ) → (w.nodes m).node ≡ m
  pub own : IsOwn (w.nodes n).table (w.nodes n).node (w.nodes n).incarnation
  pub asked : IsAsked shape past file call mode wanted.required
  pub other : (w.nodes n).node ≡ call.node → ⊥
  pub next_one : number ≡ max ((w.nodes n).files file).last (begin_of number) + 1
  pub does : made.event ≡ Deliver (Revoke file number (host (w.nodes n)) call mode wanted)
  pub no_reply : made.reply ≡ None
  pub answer : made.sends ≡ Conflict file number (host (w.nodes n)) call lock ∷ []
  pub unsaid : (k : ℕ) (e : Entry) → EntryAt past k e → names_conflict file (host (w.nodes n)) number e ≡ false
  pub here : lowest_in_way ((w.nodes n).table.locks file) (w.nodes n).node (w.nodes n).incarnation wanted.required mode ≡ Some lock
  pub leads_on : Leads (first_world shape) (past ++ made ∷ []) later
  pub same : union later ≡ union w
  pub others_stay : (m : ℕ) → (m ≡ n → ⊥) → later.nodes m ≡ w.nodes m
  pub one_call : OneCall past
  pub waiting : (m : ℕ) → All (IsOpen past (w.nodes m)) (w.nodes m).pending
  pub about : (m : ℕ) → All (IsAskedBy shape past (w.nodes m)) (w.nodes m).pending
  pub strangers : (m : ℕ) → has_node w m ≡ false → (w.nodes m).pending ≡ []

module _ (shape : ShapeFields) (past : List Entry) (w later : WorldState) (made : Entry) (n file number : ℕ) (call : CallId) (mode : Mode) (wanted : Wants) (lock : LockInfo) (r : Revokes shape past w later made n file number call mode wanted lock) where
  abbrev s : NodeState
  s = w.nodes n

  lowest : IsLowestInWay (IsRegion (s.table.locks file)) wanted.required mode lock
  lowest =
      let h = s.table.locks file in
      let span = about_span (union r.asked.world) (caller call r.asked.pid) r.asked.op mode r.asked.about r.asked.asks in
      let P : Option LockInfo → Type 0 = λ x. MatchOption x (IsClear h wanted.required mode) (IsLowestInWay (IsRegion h) wanted.required mode) in
      let is = r.asked.span_is in
      let ordered = subst (λ (x : Range). x.lo ≤ x.hi) is span.ordered in
      let ends = subst (λ (x : Range). x.hi ≤ greatest) is span.ends in
      subst P r.here (lowest_in_way_is_lowest h s.node s.incarnation wanted.required mode (r.own.locks file) ordered ends)

  its_owner : is_of_host s.node s.incarnation lock.owner ≡ true
  its_owner =
      let region = lowest.is_one in
      holder_of_host s.table s.node s.incarnation file lock.owner lock.span.lo lock.mode r.own (region.all lock.span.lo (omega arith) region.ordered)

  owner_node : lock.owner.node ≡ s.node
  owner_node = eqb-true lock.owner.node s.node (and_parts (lock.owner.node == s.node) (lock.owner.incarnation == s.incarnation) its_owner).0

  owner_incarnation : lock.owner.incarnation ≡ s.incarnation
  owner_incarnation = eqb-true lock.owner.incarnation s.incarnation (and_parts (lock.owner.node == s.node) (lock.owner.incarnation == s.incarnation) its_owner).1

  region_now : IsRegion ((union later).locks file) lock
  region_now =
      let in_union = union_locks-host w n file lock.owner r.there (owner_node ∙ r.named n) owner_incarnation in
      let P : (ℕ → Option Mode) → Type 0 = λ f. IsRun f lock.span lock.mode in
      let Q : Table → Type 0 = λ t. IsRegion (t.locks file) lock in
      subst Q (sym r.same) (subst P (sym in_union) lowest.is_one)

  -- the lock blocks each owner of the caller's node
  blocks_now : (o : Owner) → o.node ≡ call.node → Blocks ((union later).locks file) o wanted.required mode lock
  blocks_now o of_caller = record {
    is_other = λ same. r.other (sym owner_node ∙ (ap (λ (x : Owner). x.node) same ∙ of_caller));
    region = region_now;
    conflicts = lowest.in_way.conflicts;
    starts = lowest.in_way.starts;
    ends = lowest.in_way.ends;
  }

  first_done_now : IsFirstDone shape (past ++ made ∷ []) file (host s) number (length past + 1)
  first_done_now = record {
    place = length past;
    at_is = refl;
    before = w;
    up_to = after-keeps shape past (made ∷ []) (length past) w (omega arith) (after_all shape past (length past) w (omega arith) r.leads);
    there = ap (has_node w) (r.named n) ∙ r.there;
    holder_is = ap (λ (k : ℕ). host (w.nodes k)) (r.named n);
    is_next = ap (λ (k : ℕ). max ((w.nodes k).files file).last (begin_of number) + 1) (r.named n) ∙ sym r.next_one;
  }

  abbrev evidence_now : HasEvidence shape (past ++ made ∷ []) file call (host s) number lock
  evidence_now = record {
    mode = mode;
    wanted = wanted;
    asked = asked-keeps shape past made file call mode wanted.required r.asked;
    at = length past + 1;
    later = let within = entry_at-within past r.asked.at r.asked.called.calling r.asked.called.there in omega arith;
    revoked = record {
      revoking = made;
      there = entry_at-last past made;
      names = ap (list_any (is_conflict file (host s) number)) r.answer ∙ itself;
      first = λ k e lt h. elim (entry_at-push past made e k h) [ inl old ↦ r.unsaid k e old | inr new ↦ absurd (let is = new.0 in omega arith) ];
    };
    first_done = first_done_now;
    does = r.does;
    answer = r.answer;
    no_reply = r.no_reply;
    world = later;
    after = after_all shape (past ++ made ∷ []) (length past + 1) later (let long = length-append past (made ∷ []) in omega arith) r.leads_on;
    of_node = owner_node;
    of_incarnation = owner_incarnation;
    blocks = blocks_now r.asked.about.owner (about_node (union r.asked.world) (caller call r.asked.pid) r.asked.op mode r.asked.about r.asked.asks);
  }
    where
      itself : list_any (is_conflict file (host s) number) (Conflict file number (host s) call lock ∷ []) ≡ true
      itself =
          let both = and_from (file == file) ((number == number) && same_host (host s) (host s)) (eq-eqb file file refl) (and_from (number == number) (same_host (host s) (host s)) (eq-eqb number number refl) (host_refl (host s))) in
          ap (λ (b : Bool). b || false) both

  -- while the call is open the one table may refuse it now
  allows_now : (c : OpenCall) → has_node w call.node ≡ true → IsOpen past (w.nodes call.node) c → IsAskedBy shape past (w.nodes call.node) c → MayRefuse later call r.asked.pid r.asked.op lock (w.nodes call.node) c
  allows_now c there_too o by named reply refuses =
      let t = w.nodes call.node in
      let p = process t c.pid in
      let P : CallId → Type 0 = λ id. IsAsked shape past c.file id c.mode c.span in
      let same = asked_one shape past call file c.file mode c.mode wanted.required c.span r.one_call r.asked (subst P named by) in
      let calls = called_one past call c.pid r.asked.pid o.op r.asked.op o.called.at r.asked.at r.one_call (subst (λ (id : CallId). IsCalledAt past id c.pid o.op o.called.at) named o.called.there) r.asked.called in
      let about : IsAbout (union w) p o.op c.mode (target_of c) = about_lifts w call.node c.pid o.op c.mode (target_of c) there_too (r.named call.node) o.ready.passes in
      let Q : Table → Type 0 = λ x. IsAbout x p o.op c.mode (target_of c) in
      let owned = about_node (union w) p o.op c.mode (target_of c) about ∙ r.named call.node in
      let A : ℕ → Type 0 = λ f. Blocks ((union later).locks f) c.owner wanted.required mode lock in
      let B : Mode → Type 0 = λ m. Blocks ((union later).locks c.file) c.owner wanted.required m lock in
      let C : Range → Type 0 = λ x. Blocks ((union later).locks c.file) c.owner x c.mode lock in
      let blocks = subst C same.span_is (subst B same.mode_is (subst A same.file_is (blocks_now c.owner owned))) in
      let step = about_step (union later) p o.op c.lock_command c.mode (target_of c) reply (union later) o.ready.is_for (subst Q (sym r.same) about) (blocked_step (union later) c.lock_command c.mode lock (target_of c) reply refuses blocks) in
      let D : CallId → Type 0 = λ id. Step (union later) (caller id c.pid) o.op reply (union later) in
      let E : ℕ → Type 0 = λ pid. Step (union later) (caller call pid) o.op reply (union later) in
      let F : Op → Type 0 = λ op. Step (union later) (caller call r.asked.pid) op reply (union later) in
      subst F calls.op_is (subst E calls.pid_is (subst D named step))

  -- MayRefuse holds of the node's open calls of that name
  abbrev IsAllowed : NodeState → OpenCall → Type 0
  IsAllowed t c = MayRefuse later call r.asked.pid r.asked.op lock t c

  all_allowed : All (IsAllowed (w.nodes call.node)) (w.nodes call.node).pending
  all_allowed =
      let t = w.nodes call.node in
      elim (cases_Bool (has_node w call.node)) [
        | inl there_too ↦ λ k d lt. allows_now (get_or t.pending k d) there_too (r.waiting call.node k d lt) (r.about call.node k d lt)
        | inr stranger ↦ All-same (IsAllowed t) t.pending [] (r.strangers call.node stranger) (All-nil (IsAllowed t))
      ]

  pub denies_now : Denies shape (past ++ made ∷ []) later file call (host s) number lock
  denies_now =
      let other : call.node ≡ n → ⊥ = λ same. r.other (r.named n ∙ sym same) in
      let stays = r.others_stay call.node other in
      let P : NodeState → Type 0 = λ t. All (IsAllowed t) t.pending in
      record { evidence = evidence_now; allows = subst P (sym stays) all_allowed }
