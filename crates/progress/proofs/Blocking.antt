-- A wait that a lock blocks stays blocked while nothing fails, nobody calls, and no other call about its file is open.
use Rattle.std.specs.Prelude.{◌==◌, ◌&&◌, MatchOption}
use Rattle.std.proofs.Common.{◌≡◌, ℕ, ◌≤◌, true, false, if◌then◌else◌, inl, inr, refl, sym, ◌∙◌, ap, subst, arith, List, [], ◌∷◌, ◌++◌, Contains, Option, Some, None, Ok}
use Rattle.std.proofs.lemmas.Bool.{and_parts, and_from, both_ways, cases_Bool, cases_lt, eqb-true, eqb-false}
use Rattle.std.proofs.lemmas.List.Elements.{All-nil, All-cons, All-head, All-tail, All-contains}
use Rattle.intervals.specs.rule.Bytes.{nothing}
use Rattle.model.specs.declared.call.CallId.{CallId}
use Rattle.model.specs.declared.lock_info.LockInfo.{LockInfo}
use Rattle.model.specs.declared.mode.Mode.{Mode}
use Rattle.model.specs.declared.owner.Owner.{Owner}
use Rattle.model.specs.declared.op.LockCommand.TheVariants.{Wait}
use Rattle.model.specs.declared.reply.Reply.{Reply}
use Rattle.model.specs.declared.reply.Reply.TheVariants.{Done}
use Rattle.model.specs.rule.Locks.{FileLocks, IsOfNode, IsFree, IsLowestBlocker, Blocks, bars}
use Rattle.model.specs.rule.Table.{Table, LockTarget}
use Rattle.model.proofs.BlockerLaws.{lowest_is_lowest}
use Rattle.token_set.specs.rule.Tokens.{covers}
use Rattle.messages.specs.rule.Shapes.{ShapeFields, IsShape}
use Rattle.messages.specs.rule.Messages.{is_within}
use Rattle.messages.specs.declared.entry.Entry.{Entry}
use Rattle.node_core.specs.declared.open_call.OpenCall.{OpenCall}
use Rattle.node_core.specs.rule.State.{NodeState, process, target_of}
use Rattle.cluster_core.specs.rule.World.{WorldState, first_world, has_node, is_alive, is_live}
use Rattle.cluster_core.specs.rule.Next.{next}
use Rattle.cluster_core.specs.rule.Runs.{Leads}
use Rattle.cluster_core.specs.rule.Safe.{IsSafe}
use Rattle.cluster_core.specs.rule.Union.{union}
use Rattle.cluster_core.specs.rule.Rounds.{IsQuiet, AllRest}
use Rattle.cluster_core.proofs.common.Choices.{at_number}
use Rattle.cluster_core.proofs.history.Lifting.{IsFreeOfOthers, union_locks-live, union_locks-dead}
use Rattle.cluster_core.proofs.history.Nodes.{IsOpen}
use Rattle.cluster_core.proofs.history.Resting.{rests_after}
use Rattle.cluster_core.proofs.history.Worlds.{Good}
use Rattle.cluster_core.proofs.rounds.Quiet.{quiet-rest, quiet-members, union-rests}
use Rattle.cluster_core.proofs.rounds.Stretches.{AllQuiet}
use Rattle.cluster_core.proofs.runs.JournalRuns.{leads_push}
use Rattle.cluster_core.proofs.runs.Runs.{good_run, safe_run}
use Rattle.cluster_core.proofs.steps.Tries.{IsServed, about_own, about_one}
use Rattle.cluster_core.proofs.tokens.Unbarred.{safe_free}
use Rattle.progress.specs.rule.Rounds.{AllAreBlocked, BlockedStaysBlocked}
use Rattle.progress.proofs.Steps.{Answers, open_before, step-answers}

-- a byte of the lock that blocks, within the span, is locked in a mode that bars
barred : (h : FileLocks) (c : OpenCall) (lock : LockInfo) → Blocks h c.owner c.span c.mode lock → c.span.lo ≤ c.span.hi → (b : ℕ) × (c.span.lo ≤ b) × (b ≤ c.span.hi) × (bars c.mode (h lock.owner b) ≡ true)
barred h c lock k ordered = elim (cases_lt lock.span.lo c.span.lo) [
  | inl before ↦ (c.span.lo, omega arith, ordered, ap (bars c.mode) (k.region.all c.span.lo (omega arith) k.ends) ∙ k.conflicts)
  | inr after ↦ (lock.span.lo, after, k.starts, ap (bars c.mode) (k.region.all lock.span.lo (omega arith) k.region.ordered) ∙ k.conflicts)
]

-- after a run a step closes an open call
module _ (shape : ShapeFields) (past : List Entry) (w v : WorldState) (good : Good shape past w) (safe : IsSafe v) (a : Answers w v) where
  abbrev n : ℕ
  n = a.number

  abbrev s : NodeState
  s = w.nodes n

  abbrev call : OpenCall
  call = a.closes.call

  is_open : IsOpen past s call
  is_open = All-contains (IsOpen past s) s.pending call (good.holds n).waiting a.closes.at

  -- no lock of its node blocks it
  free_here : call.lock_command ≡ Wait → IsFree (s.table.locks call.file) call.owner call.span call.mode
  free_here waits =
      let h = s.table.locks call.file in
      let holds = good.holds n in
      let is = about_own s.table s.node s.incarnation call.pid is_open.op call.mode (target_of call) is_open.is_process.pid_in holds.own is_open.ready.passes in
      let own : IsOfNode h call.owner.node call.owner.incarnation =
      subst (λ (k : ℕ). IsOfNode h k call.owner.incarnation) (sym is.owner.node_is) (subst (λ (k : ℕ). IsOfNode h s.node k) (sym is.owner.incarnation_is) (holds.own.locks call.file)) in
      let P : Option LockInfo → Type 0 = λ x. MatchOption x (IsFree h call.owner call.span call.mode) (IsLowestBlocker h call.owner call.span call.mode) in
      subst P (a.closes.free waits) (lowest_is_lowest h call.owner call.span call.mode own is.span.ordered is.span.ends)

  -- and none of another node, since the token covers it
  free_elsewhere : call.lock_command ≡ Wait → IsFreeOfOthers w n call.mode (target_of call)
  free_elsewhere waits =
      let served : IsServed s.table (process s call.pid) is_open.op Done (v.nodes n) =
      λ mode c unhindered about.
      let one = about_one s.table (process s call.pid) is_open.op mode call.mode c (target_of call) about is_open.ready.passes in
      subst (λ (m : Mode). covers ((v.nodes n).files c.file).token c.span m ≡ true) (sym one.0)
      (subst (λ (t : LockTarget). covers ((v.nodes n).files t.file).token t.span call.mode ≡ true) (sym one.1) (a.closes.covered waits)) in
      let still : (m : ℕ) → has_node w m ≡ true → has_node v m ≡ true = λ m there. ap (λ (x : ShapeFields). is_within x.nodes m) a.differs.shape ∙ there in
      safe_free w v n (v.nodes n) call.pid is_open.op Done a.differs.shape refl a.differs.others safe (still n a.there) served still call.mode (target_of call) tt is_open.ready.passes

  -- so no lock in the table of all nodes blocks it
  not_blocked : call.lock_command ≡ Wait → (lock : LockInfo) → Blocks ((union w).locks call.file) call.owner call.span call.mode lock → ⊥
  not_blocked waits lock k =
      let holds = good.holds n in
      let is = about_own s.table s.node s.incarnation call.pid is_open.op call.mode (target_of call) is_open.is_process.pid_in holds.own is_open.ready.passes in
      let b = barred ((union w).locks call.file) call lock k is.span.ordered in
      let o = lock.owner in
      elim (cases_Bool (is_live w o.node o.incarnation)) [
        | inl live ↦
            let held : bars call.mode ((w.nodes o.node).table.locks call.file o b.0) ≡ true = ap (λ (f : ℕ → Option Mode). bars call.mode (f b.0)) (sym (union_locks-live w call.file o live)) ∙ b.3 in
            let there = and_parts (has_node w o.node) (o.incarnation == (w.nodes o.node).incarnation) live in
            elim (cases_Bool (o.node == n)) [
              | inl same ↦
                  let mine : bars call.mode (s.table.locks call.file o b.0) ≡ true = subst (λ (j : ℕ). bars call.mode ((w.nodes j).table.locks call.file o b.0) ≡ true) (eqb-true o.node n same) held in
                  both_ways (bars call.mode (s.table.locks call.file o b.0)) (free_here waits o b.0 k.is_other b.1 b.2) mine
              | inr other ↦
                  both_ways (bars call.mode ((w.nodes o.node).table.locks call.file o b.0)) (free_elsewhere waits o.node o b.0 there.0 (eqb-false o.node n other) b.1 b.2) held
            ]
        | inr dead ↦
            let none : bars call.mode ((union w).locks call.file o b.0) ≡ false = ap (λ (f : ℕ → Option Mode). bars call.mode (f b.0)) (union_locks-dead w call.file o dead) in
            both_ways (bars call.mode ((union w).locks call.file o b.0)) none b.3
      ]

  -- the locks of other files stay in the table of all nodes
  same_locks : (file : ℕ) → (file ≡ call.file → ⊥) → (union v).locks file ≡ (union w).locks file
  same_locks file apart = λ i o. at o i
    where
      incarnation : (m : ℕ) → (v.nodes m).incarnation ≡ (w.nodes m).incarnation
      incarnation m = at_number m n (λ b. (v.nodes m).incarnation ≡ (w.nodes m).incarnation)
          (λ same. subst (λ (j : ℕ). (v.nodes j).incarnation ≡ (w.nodes j).incarnation) (sym same) a.differs.incarnation)
          (λ other. ap (λ (x : NodeState). x.incarnation) (a.differs.others m other))

      locks : (m : ℕ) → (v.nodes m).table.locks file ≡ (w.nodes m).table.locks file
      locks m = at_number m n (λ b. (v.nodes m).table.locks file ≡ (w.nodes m).table.locks file)
          (λ same. subst (λ (j : ℕ). (v.nodes j).table.locks file ≡ (w.nodes j).table.locks file) (sym same) (a.closes.elsewhere file apart))
          (λ other. ap (λ (x : NodeState). x.table.locks file) (a.differs.others m other))

      at : (o : Owner) → (union v).locks file o ≡ (union w).locks file o
      at o = λ i. if is_within (a.differs.shape i).nodes o.node && (o.incarnation == incarnation o.node i) then locks o.node i o else nothing

  -- the call that is closed is of another file, so the others stay blocked
  pub answered_stay : (file : ℕ) → v.alive ≡ w.alive → is_alive w n ≡ true → AllAreBlocked w file → AllAreBlocked v file
  answered_stay file alive here all m c live at of_file = elim (cases_Bool (call.file == file)) [
    | inl same ↦ let b = all n call here a.closes.at (eqb-true call.file file same) in absurd (not_blocked b.waits b.lock b.blocks)
    | inr other ↦
        let live_before : is_alive w m ≡ true = (λ i. is_within (sym a.differs.shape i).nodes m && sym alive i m) ∙ live in
        let b = all m c live_before (open_before w v a m c at) of_file in
        record {
          waits = b.waits;
          lock = b.lock;
          blocks = subst (λ (h : FileLocks). Blocks h c.owner c.span c.mode b.lock) (sym (same_locks c.file (λ same. eqb-false call.file file other (sym same ∙ of_file)))) b.blocks;
        }
  ]

-- a step that answers none leaves all
rests_stay : (w v : WorldState) (file : ℕ) → AllRest w v → AllAreBlocked w file → AllAreBlocked v file
rests_stay w v file r all n c live at of_file =
    let live_before : is_alive w n ≡ true = (λ i. is_within (sym r.shape i).nodes n && sym r.alive i n) ∙ live in
    let b = all n c live_before (subst (λ (cs : List OpenCall). Contains cs c) (r.nodes n).pending at) of_file in
    record {
      waits = b.waits;
      lock = b.lock;
      blocks = subst (λ (t : Table). Blocks (t.locks c.file) c.owner c.span c.mode b.lock) (sym (union-rests w v r)) b.blocks;
    }

module _ (shape : ShapeFields) (is : IsShape shape) (file : ℕ) where
  -- a node with an open call is alive
  alive_with_call : (past : List Entry) (w v : WorldState) → Leads (first_world shape) past w → (a : Answers w v) → is_alive w a.number ≡ true
  alive_with_call past w v before a = and_from (has_node w a.number) (w.alive a.number) a.there (elim (cases_Bool (w.alive a.number)) [
    | inl alive ↦ alive
    | inr dead ↦
        let none : Contains [] a.closes.call = subst (λ (s : NodeState). Contains s.pending a.closes.call) (rests_after shape past w before a.number dead) a.closes.at in
        absurd (let lt = none.1 in omega arith)
  ])

  step_stays : (past : List Entry) (w : WorldState) (e : Entry) (v : WorldState) → Leads (first_world shape) past w → next w e.event ≡ Ok (v, e) → IsQuiet e.event → AllAreBlocked w file → AllAreBlocked v file
  step_stays past w e v before step quiet all = by e.reply refl
    where
      by : (o : Option (CallId × Reply)) → e.reply ≡ o → AllAreBlocked v file
      by None said =
          let alone = All-cons (λ (x : Entry). IsQuiet x.event) e [] quiet (All-nil (λ (x : Entry). IsQuiet x.event)) in
          let none = All-cons (λ (x : Entry). x.reply ≡ None) e [] said (All-nil (λ (x : Entry). x.reply ≡ None)) in
          rests_stay w v file (quiet-rest (e ∷ []) w v (v, step, refl) alone none) all
      by (Some reply) said =
          let a = step-answers w e v reply step quiet said in
          let safe = safe_run shape (past ++ e ∷ []) v is (leads_push (first_world shape) w v past e before step) in
          answered_stay shape past w v (good_run shape past w is before).0 safe a file (quiet-members w e v step quiet).alive (alive_with_call past w v before a) all

  stretch_stays : (es past : List Entry) (w v : WorldState) → Leads (first_world shape) past w → Leads w es v → AllQuiet es → AllAreBlocked w file → AllAreBlocked v file
  stretch_stays [] past w v before leads quiet all = subst (λ (x : WorldState). AllAreBlocked x file) leads all
  stretch_stays (e ∷ es) past w v before leads quiet all =
      stretch_stays es (past ++ e ∷ []) leads.0 v (leads_push (first_world shape) w leads.0 past e before leads.1) leads.2 (All-tail (λ (x : Entry). IsQuiet x.event) e es quiet)
      (step_stays past w e leads.0 before leads.1 (All-head (λ (x : Entry). IsQuiet x.event) e es quiet) all)

pub blocked_stays : BlockedStaysBlocked
blocked_stays shape past es w v file is before leads quiet all = stretch_stays shape is file es past w v before leads quiet all
