-- The facts of the cluster after each run.
use Rattle.std.proofs.Common.{◌≡◌, ℕ, ◌+◌, ◌≤◌, Bool, true, false, if◌then◌else◌, ◌⊎◌, inl, inr, refl, sym, ◌∙◌, ap, subst, arith, List, [], ◌∷◌, ◌++◌, length, length-append, get_or, All, Contains, Some, None, Ok}
use Rattle.std.specs.List.{list_any}
use Rattle.std.proofs.lemmas.Bool.{eq-eqb, cases_Bool, or_parts}
use Rattle.std.proofs.lemmas.List.Folds.{list_any-append}
use Rattle.std.proofs.lemmas.List.Elements.{All-nil, All-same, All-append, All-weaker, All-contains, All-contains_itself}
use Rattle.model.specs.declared.call.CallId.{CallId}
use Rattle.model.specs.declared.op.Op.{Op}
use Rattle.model.specs.declared.reply.Reply.{Reply}
use Rattle.model.specs.rule.Limits.{IsProcess}
use Rattle.model.specs.rule.Table.{Table}
use Rattle.model.specs.rule.Step.{Step}
use Rattle.messages.specs.rule.Shapes.{most_regions, ShapeFields}
use Rattle.messages.specs.declared.message.Message.{Message}
use Rattle.messages.specs.declared.event.Event.{Event}
use Rattle.messages.specs.declared.event.Event.TheVariants.{Member}
use Rattle.messages.specs.declared.event.MemberEvent.TheVariants.{Declare, Restart}
use Rattle.messages.specs.declared.entry.Entry.{Entry}
use Rattle.messages.specs.declared.outcome.Outcome.{Outcome}
use Rattle.node_core.specs.declared.open_call.OpenCall.{OpenCall}
use Rattle.node_core.specs.rule.State.{NodeState, first_node, process, id_of, target_of}
use Rattle.token_server.specs.rule.State.{ServerState}
use Rattle.cluster_core.specs.declared.item.Item.TheVariants.{Answered}
use Rattle.cluster_core.specs.rule.World.{WorldState, first_world, most_incarnations, has_node}
use Rattle.cluster_core.specs.rule.Next.{next, entry, recorded, with_node, with_server, declared, restarted, silent}
use Rattle.cluster_core.specs.rule.Runs.{Leads}
use Rattle.cluster_core.specs.rule.Union.{union}
use Rattle.cluster_core.specs.rule.Histories.{caller, EntryAt, IsRepliedAt, OneCall, OneReply}
use Rattle.cluster_core.specs.rule.Evidence.{IsAbout, IsAsked}
use Rattle.cluster_core.proofs.tokens.Epochs.{EndsOf}
use Rattle.cluster_core.specs.code.Calls.{slots_of}
use Rattle.cluster_core.proofs.common.Choices.{at_number}
use Rattle.cluster_core.proofs.runs.JournalRuns.{leads_push}
use Rattle.cluster_core.proofs.history.Entries.{not_there, same_answer, IsNamed, Unanswered, entry_at-push, called_at-push, named-push, named_called, one_call-push, one_reply-push}
use Rattle.cluster_core.proofs.history.Fitting.{Called}
use Rattle.cluster_core.proofs.steps.Tries.{IsSilent}
use Rattle.cluster_core.proofs.history.Nodes.{IsOpen, Holds, IsExplained, IsDenied, IsNoDenial, IsNoDeclaration, Moves, moves_limit, same_id, open-push}
use Rattle.model.specs.rule.Anchors.{IsAnchored}
use Rattle.model.proofs.NodeTables.{own_empty}
use Rattle.cluster_core.proofs.history.Failures.{union_gone}
use Rattle.cluster_core.proofs.history.Unions.{union_same}
use Rattle.cluster_core.proofs.history.Lifting.{IsFreeElsewhere, DiffersAt, step_lifts, about_lifts}
use Rattle.cluster_core.proofs.history.Prefixes.{after_all}
use Rattle.cluster_core.proofs.history.Slots.{Slotted, AllSlotted, Stands}
use Rattle.cluster_core.proofs.history.Placing.{Placed, nothing_placed, gone_placed, answer_placed, denial_placed}
use Rattle.cluster_core.proofs.history.Quiet.{refusal_names}
use Rattle.cluster_core.proofs.steps.Requested.{Comes, AnyNumber, comes-weaker}
use Rattle.cluster_core.proofs.steps.Sends.{IsAround, AsksFor}
use Rattle.intervals.specs.rule.Bytes.{Range}
use Rattle.cluster_core.proofs.history.Witnesses.{asked_ends, IsAskedBy, MayRefuse, for_blocking, Denies, Backed, HeldFor, StaysOpen, asked-keeps, held-keeps, backed-keeps}

-- each message that an entry sent is among those that were sent
abbrev pub Told : List Entry → List Message → Type 0
Told past sent = (k : ℕ) (e : Entry) (test : Message → Bool) → EntryAt past k e → list_any test sent ≡ false → list_any test e.sends ≡ false

-- a node that is alive is in an incarnation that a node may have
abbrev pub IsGiven : Bool → ℕ → Type 0
IsGiven alive incarnation = (1 ≤ incarnation) × (alive ≡ true → incarnation ≤ most_incarnations)

-- the facts of the actors after a run, and of the run itself
pub record Good (shape : ShapeFields) (past : List Entry) (w : WorldState) : Type 0 where
  pub leads : Leads (first_world shape) past w
  pub named : (n : ℕ) → (w.nodes n).node ≡ n
  pub limits : (n : ℕ) → (w.nodes n).table.limit ≡ most_regions w.shape.version
  pub incarnations : (n : ℕ) → IsGiven (w.alive n) (w.nodes n).incarnation
  pub holds : (n : ℕ) → Holds past (w.nodes n)
  pub young : (id : CallId) → IsNamed past id → id.incarnation ≤ (w.nodes id.node).incarnation
  pub strangers : (n : ℕ) → has_node w n ≡ false → (w.nodes n).pending ≡ []
  pub one_call : OneCall past
  pub one_reply : OneReply past
  pub told : Told past w.sent
  pub asked : (n : ℕ) → All (IsAskedBy shape past (w.nodes n)) (w.nodes n).pending
  pub ends : (n : ℕ) → EndsOf (w.nodes n)
  pub backed : All (Backed shape past w) w.sent
  pub comes : (file : ℕ) → Comes file AnyNumber (HeldFor shape past file) (Backed shape past w) (w.servers file)
  pub slotted : Slotted shape past (slots_of past)
  pub all : AllSlotted past (slots_of past)

-- a call that is answered stands in the run
pub replied_named : (shape : ShapeFields) (past : List Entry) (w : WorldState) → Good shape past w → (id : CallId) (reply : Reply) (at : ℕ) → IsRepliedAt past id reply at → IsNamed past id
replied_named shape past w g id reply at r =
    let s = g.all id reply at r in
    let stands : Stands past s.0 (Answered s.1 id s.2 s.3 reply) = g.slotted.stands s.0 (Answered s.1 id s.2 s.3 reply) s.4 in
    named_called past id s.2 s.3 stands.1.interval.call_at stands.1.interval.called

-- the facts of a node after an entry that neither names nor answers a call of it
unmentioned : (past : List Entry) (e : Entry) (s : NodeState) → ((id : CallId) → e.call ≡ Some id → id.node ≡ s.node → ⊥) → ((id : CallId) (reply : Reply) → e.reply ≡ Some (id, reply) → id.node ≡ s.node → ⊥) → Holds past s → Holds (past ++ e ∷ []) s
unmentioned past e s no_call no_reply holds = record {
  own = holds.own;
  waiting = All-weaker (IsOpen past s) (IsOpen (past ++ e ∷ []) s) (λ c o. open-push past e s c (λ reply h. no_reply (id_of s c.number) reply h refl) o) s.pending holds.waiting;
  numbers = λ id n node incarnation. elim (named-push past e id n) [ inl old ↦ holds.numbers id old node incarnation | inr new ↦ absurd (no_call id new node) ];
}

told-push : (past : List Entry) (sent : List Message) (e : Entry) → Told past sent → Told (past ++ e ∷ []) (sent ++ e.sends)
told-push past sent e told k d test at none =
    let parts = or_parts (list_any test sent) (list_any test e.sends) (sym (list_any-append test sent e.sends) ∙ none) in
    elim (entry_at-push past e d k at) [
      | inl old ↦ told k d test old parts.0
      | inr new ↦ ap (λ (x : Entry). list_any test x.sends) (sym new.1) ∙ parts.1
    ]

stays_same : (past : List Entry) (s : NodeState) → StaysOpen past s s
stays_same past s =
    let P : OpenCall → Type 0 = λ c. (Contains s.pending c × (id_of s c.number ≡ id_of s c.number)) ⊎ (IsNamed past (id_of s c.number) → ⊥) in
    All-weaker (Contains s.pending) P (λ c there. inl (there, refl)) s.pending (All-contains_itself s.pending)

-- the facts of what servers keep, of which one may have made a step
comes-push : (shape : ShapeFields) (past : List Entry) (e : Entry) (w v : WorldState) (file : ℕ) (t : ServerState) → ((n : ℕ) → StaysOpen past (w.nodes n) (v.nodes n)) → Comes file AnyNumber (HeldFor shape past file) (Backed shape past w) t → Comes file AnyNumber (HeldFor shape (past ++ e ∷ []) file) (Backed shape (past ++ e ∷ []) v) t
comes-push shape past e w v file t stays c = comes-weaker file AnyNumber (HeldFor shape past file) (HeldFor shape (past ++ e ∷ []) file) (Backed shape past w) (Backed shape (past ++ e ∷ []) v) t
    (held-keeps shape past e file)
    (λ m b. backed-keeps shape past e w v stays m b) c

-- a step after which servers alone differ
module _ (shape : ShapeFields) (past : List Entry) (w : WorldState) (servers : ℕ → ServerState) (working : ℕ → Bool) (event : Event) (incarnation : ℕ) (o : Outcome) (no_call : o.call ≡ None) (no_reply : o.reply ≡ None) (undeclared : IsNoDeclaration event) (g : Good shape past w) (step : next w event ≡ Ok (recorded (record w { servers = servers; working = working }) event incarnation o)) (each : (f : ℕ) → Comes f AnyNumber (HeldFor shape past f) (Backed shape past w) (servers f)) (sends : All (Backed shape past w) o.sends) where
  pub servers_good : Good shape (past ++ entry event incarnation o ∷ []) (recorded (record w { servers = servers; working = working }) event incarnation o).0
  servers_good =
      let e = entry event incarnation o in
      let v = (recorded (record w { servers = servers; working = working }) event incarnation o).0 in
      let run = past ++ e ∷ [] in
      let leads = leads_push (first_world shape) w v past e g.leads step in
      let stays : (n : ℕ) → StaysOpen past (w.nodes n) (v.nodes n) = λ n. stays_same past (w.nodes n) in
      let P : Message → Type 0 = Backed shape past w in
      let Q : Message → Type 0 = Backed shape run v in
      let keep : (m : Message) → P m → Q m = λ m b. backed-keeps shape past e w v stays m b in
      let placed = nothing_placed shape past w v e g.slotted g.all g.leads leads undeclared no_reply refl in
      record {
        leads = leads;
        named = g.named;
        limits = g.limits;
        incarnations = g.incarnations;
        holds = λ n. unmentioned past e (w.nodes n) (λ id h same. not_there o.call id no_call h) (λ id reply h same. not_there o.reply (id, reply) no_reply h) (g.holds n);
        young = λ id named. elim (named-push past e id named) [ inl old ↦ g.young id old | inr new ↦ absurd (not_there o.call id no_call new) ];
        strangers = g.strangers;
        one_call = one_call-push past e g.one_call (λ id h n. not_there o.call id no_call h);
        one_reply = one_reply-push past e g.one_reply (λ id reply h. absurd (not_there o.reply (id, reply) no_reply h));
        told = told-push past w.sent e g.told;
        asked = λ n. All-weaker (IsAskedBy shape past (w.nodes n)) (IsAskedBy shape run (w.nodes n)) (λ c a. asked-keeps shape past e c.file (id_of (w.nodes n) c.number) c.mode c.span a) (w.nodes n).pending (g.asked n);
        ends = g.ends;
        backed = All-append Q w.sent o.sends (All-weaker P Q keep w.sent g.backed) (All-weaker P Q keep o.sends sends);
        comes = λ f. comes-push shape past e w v f (v.servers f) stays (each f);
        slotted = placed.slotted;
        all = placed.all;
      }

-- the facts of the world with one server changed
pub put_comes : (shape : ShapeFields) (past : List Entry) (w : WorldState) (file : ℕ) (t : ServerState) → Good shape past w → Comes file AnyNumber (HeldFor shape past file) (Backed shape past w) t → (f : ℕ) → Comes f AnyNumber (HeldFor shape past f) (Backed shape past w) ((with_server w file t).servers f)
put_comes shape past w file t g comes f = at_number f file (λ b. Comes f AnyNumber (HeldFor shape past f) (Backed shape past w) (if b then t else w.servers f))
    (λ same. subst (λ (k : ℕ). Comes k AnyNumber (HeldFor shape past k) (Backed shape past w) t) (sym same) comes)
    (λ other. g.comes f)

-- a step of a server
module _ (shape : ShapeFields) (past : List Entry) (w : WorldState) (file : ℕ) (t : ServerState) (event : Event) (o : Outcome) (no_call : o.call ≡ None) (no_reply : o.reply ≡ None) (undeclared : IsNoDeclaration event) (g : Good shape past w) (step : next w event ≡ Ok (recorded (with_server w file t) event 0 o)) (comes : Comes file AnyNumber (HeldFor shape past file) (Backed shape past w) t) (sends : All (Backed shape past w) o.sends) where
  pub server_good : Good shape (past ++ entry event 0 o ∷ []) (recorded (with_server w file t) event 0 o).0
  server_good = servers_good shape past w (with_server w file t).servers w.working event 0 o no_call no_reply undeclared g step (put_comes shape past w file t g comes) sends

-- a step of a node
module _ (shape : ShapeFields) (past : List Entry) (w : WorldState) (n : ℕ) (u : NodeState) (event : Event) (incarnation : ℕ) (o : Outcome) (g : Good shape past w) (step : next w event ≡ Ok (recorded (with_node w n u) event incarnation o)) (moves : Moves past (w.nodes n) u (entry event incarnation o)) (strange : has_node w n ≡ false → (u.pending ≡ []) × IsSilent (w.nodes n) u o.reply) where
  abbrev pub before : NodeState
  before = w.nodes n

  abbrev pub made : Entry
  made = entry event incarnation o

  abbrev pub run : List Entry
  run = past ++ made ∷ []

  abbrev pub later : WorldState
  later = (recorded (with_node w n u) event incarnation o).0

  -- a fact of this node and of each other node is one of each
  at_each : (P : NodeState → ℕ → Type 0) → P u n → ((m : ℕ) → (m ≡ n → ⊥) → P (w.nodes m) m) → (m : ℕ) → P (later.nodes m) m
  at_each P here there m = at_number m n (λ b. P (if b then u else w.nodes m) m) (λ same. subst (P u) (sym same) here) (there m)

  other_call : (m : ℕ) → (m ≡ n → ⊥) → (id : CallId) → made.call ≡ Some id → id.node ≡ (w.nodes m).node → ⊥
  other_call m other id h same = other (sym (g.named m) ∙ sym same ∙ (moves.fresh id h).0 ∙ g.named n)

  -- the call that is answered is of this node, and was not answered before
  pub record IsFirstReply (id : CallId) : Type 0 where
    pub node : id.node ≡ before.node
    pub fresh : Unanswered past id

  first_reply : (id : CallId) (reply : Reply) → made.reply ≡ Some (id, reply) → IsFirstReply id
  first_reply id reply h = elim moves.ends [
    | inl x ↦
        let is = (same_answer made.reply id (id_of before x.0.number) reply x.0.reply h x.0.is_reply).0 in
        record { node = ap (λ (c : CallId). c.node) is; fresh = subst (Unanswered past) (sym is) x.0.fresh }
    | inr rest ↦ elim rest [
      | inl d ↦
          let is = (same_answer made.reply id d.call reply d.reply h d.is_reply).0 ∙ sym d.named in
          let its = All-contains (IsOpen past before) before.pending d.answering (g.holds n).waiting d.there in
          record { node = ap (λ (c : CallId). c.node) is; fresh = subst (Unanswered past) (sym is) its.unanswered }
      | inr silent ↦ absurd (not_there made.reply (id, reply) silent.no_reply h)
    ]
  ]

  other_reply : (m : ℕ) → (m ≡ n → ⊥) → (id : CallId) (reply : Reply) → made.reply ≡ Some (id, reply) → id.node ≡ (w.nodes m).node → ⊥
  other_reply m other id reply h same = other (sym (g.named m) ∙ sym same ∙ (first_reply id reply h).node ∙ g.named n)

  pub all_named : (m : ℕ) → (later.nodes m).node ≡ m
  all_named = at_each (λ x m. x.node ≡ m) (moves.node ∙ g.named n) (λ m other. g.named m)

  all_hold : (m : ℕ) → Holds run (later.nodes m)
  all_hold = at_each (λ x m. Holds run x) moves.holds (λ m other. unmentioned past made (w.nodes m) (other_call m other) (other_reply m other) (g.holds m))

  -- the union stays where the table does
  pub union_stays : u.table ≡ before.table → union later ≡ union w
  union_stays same = union_same w later refl
      (at_each (λ x m. x.incarnation ≡ (w.nodes m).incarnation) moves.incarnation (λ m other. refl))
      (at_each (λ x m. x.table ≡ (w.nodes m).table) same (λ m other. refl))

  after : later.nodes n ≡ u
  after = rw (eq-eqb n n refl) refl

  pub others_stay : (m : ℕ) → (m ≡ n → ⊥) → later.nodes m ≡ w.nodes m
  others_stay m other = at_number m n (λ b. (if b then u else w.nodes m) ≡ w.nodes m) (λ same. absurd (other same)) (λ apart. refl)

  differs : DiffersAt w later n
  differs = record { shape = refl; incarnation = ap (λ (x : NodeState). x.incarnation) after ∙ moves.incarnation; others = others_stay }

  pub leads_on : Leads (first_world shape) run later
  leads_on = leads_push (first_world shape) w later past made g.leads step

  same_name : (number : ℕ) → id_of before number ≡ id_of u number
  same_name number = sym (same_id before u number moves.node moves.incarnation)

  -- open calls were open before, or are new
  pub stays : (m : ℕ) → StaysOpen past (w.nodes m) (later.nodes m)
  stays = at_each (λ x m. StaysOpen past (w.nodes m) x) here (λ m other. stays_same past (w.nodes m))
    where
      P : OpenCall → Type 0
      P c = Contains before.pending c ⊎ (made.call ≡ Some (id_of u c.number))

      Q : OpenCall → Type 0
      Q c = (Contains before.pending c × (id_of before c.number ≡ id_of u c.number)) ⊎ (IsNamed past (id_of u c.number) → ⊥)

      here : StaysOpen past before u
      here = All-weaker P Q (λ c stay. elim stay [ inl old ↦ inl (old, same_name c.number) | inr new ↦ inr (moves.fresh (id_of u c.number) new).1 ]) u.pending moves.stay

  -- a new call asks for what its name was called with
  new_asked : (c : OpenCall) → has_node w n ≡ true → IsOpen run u c → (IsNamed past (id_of u c.number) → ⊥) → IsAskedBy shape run u c
  new_asked c there its new =
      let id = id_of u c.number in
      let called = its.called in
      let late : length run ≤ called.at = elim (called_at-push past made id c.pid its.op called.at called.there) [
        | inl old ↦ absurd (new (named_called past id c.pid its.op called.at old))
        | inr last ↦ let is = last.0 in let long = length-append past (made ∷ []) in omega arith
      ] in
      let P : NodeState → Type 0 = λ x. IsAbout x.table (process x c.pid) its.op c.mode (target_of c) in
      let Q : NodeState → Type 0 = λ x. IsAbout (union later) (process x c.pid) its.op c.mode (target_of c) in
      record {
        at = called.at;
        pid = c.pid;
        op = its.op;
        called = called.there;
        world = later;
        after = after_all shape run called.at later late leads_on;
        about = target_of c;
        asks = subst Q after (about_lifts later n c.pid its.op c.mode (target_of c) there (all_named n) (subst P (sym after) its.ready.passes));
        file_is = refl;
        span_is = refl;
      }

  all_asked : (m : ℕ) → All (IsAskedBy shape run (later.nodes m)) (later.nodes m).pending
  all_asked = at_each (λ x m. All (IsAskedBy shape run x) x.pending) here (λ m other. All-weaker (IsAskedBy shape past (w.nodes m)) (IsAskedBy shape run (w.nodes m)) (λ c a. asked-keeps shape past made c.file (id_of (w.nodes m) c.number) c.mode c.span a) (w.nodes m).pending (g.asked m))
    where
      one : (c : OpenCall) → has_node w n ≡ true → IsOpen run u c → Contains before.pending c ⊎ (made.call ≡ Some (id_of u c.number)) → IsAskedBy shape run u c
      one c there its (inl old) =
          let a = All-contains (IsAskedBy shape past before) before.pending c (g.asked n) old in
          subst (λ (id : CallId). IsAsked shape run c.file id c.mode c.span) (same_name c.number) (asked-keeps shape past made c.file (id_of before c.number) c.mode c.span a)
      one c there its (inr new) = new_asked c there its (moves.fresh (id_of u c.number) new).1

      here : All (IsAskedBy shape run u) u.pending
      here = elim (cases_Bool (has_node w n)) [
        | inl there ↦ λ k d lt. one (get_or u.pending k d) there (moves.holds.waiting k d lt) (moves.stay k d lt)
        | inr stranger ↦ All-same (IsAskedBy shape run u) u.pending [] (strange stranger).0 (All-nil (IsAskedBy shape run u))
      ]

  -- there is a reason for each request of the node
  pub asks : AsksFor (Backed shape run later) u
  asks c wanted there same likes around =
      let P : NodeState → Type 0 = λ x. All (IsAskedBy shape run x) x.pending in
      let a = All-contains (IsAskedBy shape run u) u.pending c (subst P after (all_asked n)) there in
      let its = All-contains (IsOpen run u) u.pending c moves.holds.waiting there in (
        subst (IsAsked shape run c.file (id_of u c.number) c.mode) (sym same) a,
        record { at = its.called.at; pid = c.pid; op = its.op; called = its.called.there; waits = for_blocking c.lock_command its.op its.ready.is_for },
        (let last = asked_ends shape run c.file (id_of u c.number) c.mode c.span a in omega arith),
        subst (λ (s : Range). IsAround s wanted.desired) (sym same) (around (asked_ends shape run c.file (id_of u c.number) c.mode c.span a)),
      )

  -- the union makes the step of the node's table
  union_steps : (pid : ℕ) (op : Op) (reply : Reply) → has_node w n ≡ true → IsFreeElsewhere w n pid op reply → Step before.table (process before pid) op reply u.table → Step (union w) (process before pid) op reply (union later)
  union_steps pid op reply there free local =
      let P : Table → Type 0 = λ t. Step before.table (process before pid) op reply t in
      step_lifts w later n pid op reply there (g.named n) (g.limits n) (g.holds n).own differs free (subst P (ap (λ (x : NodeState). x.table) (sym after)) local)

  -- the slots: a reply has the item of its call
  module _ (free_elsewhere : (x : IsExplained past (w.nodes n) u (entry event incarnation o)) → has_node w n ≡ true → IsFreeElsewhere w n x.pid x.op x.reply) (denied : (d : IsDenied (w.nodes n) u (entry event incarnation o)) → Denies shape past w d.file d.call d.holder d.number d.lock) (sends : All (Backed shape run later) o.sends) (undeclared : IsNoDeclaration event) (ends_on : EndsOf u) where
    abbrev Slots_placed : Type 0
    Slots_placed = Placed shape past w later made g.slotted g.all g.leads leads_on

    explained_placed : (x : IsExplained past before u made) → IsNoDenial made.event → Slots_placed
    explained_placed x undenied = elim (cases_Bool (has_node w n)) [
      | inl there ↦ answer_placed shape past w later made g.slotted g.all g.leads leads_on (id_of before x.number) x.pid x.op x.reply x.is_reply undenied undeclared x.called (x.is_process, union_steps x.pid x.op x.reply there (free_elsewhere x there) x.step)
      | inr stranger ↦ absurd (not_there made.reply (id_of before x.number, x.reply) (strange stranger).1.no_reply x.is_reply)
    ]

    denied_placed : IsDenied before u made → Slots_placed
    denied_placed d =
        let c = d.answering in
        let its = All-contains (IsOpen past before) before.pending c (g.holds n).waiting d.there in
        let denial = denied d in
        let ev = denial.evidence in
        let t = w.nodes d.call.node in
        let node : d.call.node ≡ n = ap (λ (id : CallId). id.node) (sym d.named) ∙ g.named n in
        let A : NodeState → Type 0 = λ x. All (MayRefuse ev.world d.call ev.asked.pid ev.asked.op d.lock x) x.pending in
        let allowed = subst A (ap w.nodes node) denial.allows in
        let step_there = All-contains (MayRefuse ev.world d.call ev.asked.pid ev.asked.op d.lock before) before.pending c allowed d.there d.named d.reply d.refuses in
        denial_placed shape past w later made g.slotted g.all g.leads leads_on d.call c.pid its.op d.reply d.is_reply d.file d.number d.holder d.lock ev d.is_deny
        (subst (λ (id : CallId). Called past id c.pid its.op) d.named its.called)
        (subst (Unanswered past) d.named its.unanswered)
        g.one_call (refusal_names c.lock_command d.lock d.reply d.refuses) (sym (union_stays d.table))
        (subst (λ (id : CallId). IsProcess (caller id c.pid)) d.named its.is_process)
        step_there

    placed : Slots_placed
    placed = elim moves.ends [
      | inl x ↦ explained_placed x.0 x.1
      | inr rest ↦ elim rest [
        | inl d ↦ denied_placed d
        | inr silent ↦ nothing_placed shape past w later made g.slotted g.all g.leads leads_on undeclared silent.no_reply (sym (union_stays silent.table))
      ]
    ]

    pub node_good : Good shape run later
    node_good =
        let P : Message → Type 0 = Backed shape past w in
        let Q : Message → Type 0 = Backed shape run later in
        let keep : (m : Message) → P m → Q m = λ m b. backed-keeps shape past made w later stays m b in
        record {
          leads = leads_on;
          named = all_named;
          limits = at_each (λ x m. x.table.limit ≡ most_regions w.shape.version) (moves_limit past before u made moves ∙ g.limits n) (λ m other. g.limits m);
          incarnations = at_each (λ x m. IsGiven (w.alive m) x.incarnation) (subst (IsGiven (w.alive n)) (sym moves.incarnation) (g.incarnations n)) (λ m other. g.incarnations m);
          young = λ id named. subst (λ (k : ℕ). id.incarnation ≤ k) (sym (at_each (λ x m. x.incarnation ≡ (w.nodes m).incarnation) moves.incarnation (λ m other. refl) id.node))
              (elim (named-push past made id named) [
                | inl old ↦ g.young id old
                | inr new ↦
                    let is = moves.of_incarnation id new in
                    let node = (moves.fresh id new).0 ∙ g.named n in
                    let same : (w.nodes id.node).incarnation ≡ (w.nodes n).incarnation = ap (λ (k : ℕ). (w.nodes k).incarnation) node in
                    omega arith
              ]);
          holds = all_hold;
          strangers = at_each (λ x m. has_node w m ≡ false → x.pending ≡ []) (λ h. (strange h).0) (λ m other. g.strangers m);
          one_call = one_call-push past made g.one_call (λ id h. (moves.fresh id h).1);
          one_reply = one_reply-push past made g.one_reply (λ id reply h. (first_reply id reply h).fresh);
          told = told-push past w.sent made g.told;
          asked = all_asked;
          ends = at_each (λ x m. EndsOf x) ends_on (λ m other. g.ends m);
          backed = All-append Q w.sent o.sends (All-weaker P Q keep w.sent g.backed) sends;
          comes = λ f. comes-push shape past made w later f (w.servers f) stays (g.comes f);
          slotted = placed.slotted;
          all = placed.all;
        }

-- an entry that names no call, answers none and sends nothing: each node is as it was, or begins
module _ (shape : ShapeFields) (past : List Entry) (w v : WorldState) (event : Event) (incarnation : ℕ) (g : Good shape past w) where
  abbrev quiet_entry : Entry
  quiet_entry = (silent v event incarnation).1

  abbrev quiet_world : WorldState
  quiet_world = (silent v event incarnation).0

  abbrev quiet_run : List Entry
  quiet_run = past ++ quiet_entry ∷ []

  no_call_now : (id : CallId) → quiet_entry.call ≡ Some id → ⊥
  no_call_now id h = not_there quiet_entry.call id refl h

  no_reply_now : (id : CallId) (reply : Reply) → quiet_entry.reply ≡ Some (id, reply) → ⊥
  no_reply_now id reply h = not_there quiet_entry.reply (id, reply) refl h

  -- a node that begins in an incarnation of which no call was named
  begins_holds : (n i : ℕ) → ((id : CallId) → IsNamed past id → id.node ≡ n → id.incarnation ≡ i → ⊥) → Holds quiet_run (first_node w.shape n i)
  begins_holds n i unnamed = record {
    own = own_empty (most_regions w.shape.version) n i;
    waiting = All-nil (IsOpen quiet_run (first_node w.shape n i));
    numbers = λ id named node is. elim (named-push past quiet_entry id named) [ inl old ↦ absurd (unnamed id old node is) | inr new ↦ absurd (no_call_now id new) ];
  }

  stays_held : (s : NodeState) → Holds past s → Holds quiet_run s
  stays_held s h = unmentioned past quiet_entry s (λ id c same. no_call_now id c) (λ id reply c same. no_reply_now id reply c) h

  stays_asked : (s : NodeState) → All (IsAskedBy shape past s) s.pending → All (IsAskedBy shape quiet_run s) s.pending
  stays_asked s a = All-weaker (IsAskedBy shape past s) (IsAskedBy shape quiet_run s) (λ c x. asked-keeps shape past quiet_entry c.file (id_of s c.number) c.mode c.span x) s.pending a

  none_asked : (n i : ℕ) → All (IsAskedBy shape quiet_run (first_node w.shape n i)) []
  none_asked n i = All-nil (IsAskedBy shape quiet_run (first_node w.shape n i))

  none_stays : (s : NodeState) (n i : ℕ) → StaysOpen past s (first_node w.shape n i)
  none_stays s n i = All-nil (λ (c : OpenCall). (Contains s.pending c × (id_of s c.number ≡ id_of (first_node w.shape n i) c.number)) ⊎ (IsNamed past (id_of (first_node w.shape n i) c.number) → ⊥))

-- a node is declared failed
module _ (shape : ShapeFields) (past : List Entry) (w : WorldState) (n : ℕ) (there : has_node w n ≡ true) (g : Good shape past w) (step : next w (Member (Declare n)) ≡ Ok (silent (declared w n) (Member (Declare n)) (w.nodes n).incarnation)) where
  abbrev declares : Event
  declares = Member (Declare n)

  abbrev now : ℕ
  now = (w.nodes n).incarnation

  abbrev new : NodeState
  new = first_node w.shape n (now + 1)

  abbrev after_it : WorldState
  after_it = quiet_world shape past w (declared w n) declares now g

  abbrev told_run : List Entry
  told_run = quiet_run shape past w (declared w n) declares now g

  abbrev declaration : Entry
  declaration = quiet_entry shape past w (declared w n) declares now g

  each_node : (P : NodeState → ℕ → Type 0) → P new n → ((m : ℕ) → P (w.nodes m) m) → (m : ℕ) → P (after_it.nodes m) m
  each_node P here others m = at_number m n (λ b. P (if b then new else w.nodes m) m) (λ same. subst (P new) (sym same) here) (λ other. others m)

  unnamed : (id : CallId) → IsNamed past id → id.node ≡ n → id.incarnation ≡ now + 1 → ⊥
  unnamed id named node is =
      let young : id.incarnation ≤ now = subst (λ (k : ℕ). id.incarnation ≤ (w.nodes k).incarnation) node (g.young id named) in
      absurd (omega arith)

  its_leads : Leads (first_world shape) told_run after_it
  its_leads = leads_push (first_world shape) w after_it past declaration g.leads step

  open_before : (m : ℕ) → StaysOpen past (w.nodes m) (after_it.nodes m)
  open_before m = at_number m n (λ b. StaysOpen past (w.nodes m) (if b then new else w.nodes m)) (λ same. none_stays shape past w (declared w n) declares now g (w.nodes m) n (now + 1)) (λ other. stays_same past (w.nodes m))

  anchored : IsAnchored (w.nodes n).table n now
  anchored = subst (λ (k : ℕ). IsAnchored (w.nodes n).table k now) (g.named n) (g.holds n).own.anchored

  pub declared_good : Good shape told_run after_it
  declared_good =
      let P : Message → Type 0 = Backed shape past w in
      let Q : Message → Type 0 = Backed shape told_run after_it in
      let keep : (m : Message) → P m → Q m = λ m b. backed-keeps shape past declaration w after_it open_before m b in
      let placed = gone_placed shape past w after_it declaration g.slotted g.all g.leads its_leads n now refl refl refl (union_gone w n there anchored) in
      record {
        leads = its_leads;
        named = each_node (λ x m. x.node ≡ m) refl g.named;
        limits = each_node (λ x m. x.table.limit ≡ most_regions w.shape.version) refl g.limits;
        incarnations = λ m. at_number m n (λ b. IsGiven (if b then false else w.alive m) (if b then new else w.nodes m).incarnation) (λ same. (omega arith, λ h. absurd (cc))) (λ other. g.incarnations m);
        holds = each_node (λ x m. Holds told_run x) (begins_holds shape past w (declared w n) declares now g n (now + 1) unnamed) (λ m. stays_held shape past w (declared w n) declares now g (w.nodes m) (g.holds m));
        young = λ id named. elim (named-push past declaration id named) [
          | inl old ↦
              let before = g.young id old in
              at_number id.node n (λ b. id.incarnation ≤ (if b then new else w.nodes id.node).incarnation)
              (λ same. let is = ap (λ (k : ℕ). (w.nodes k).incarnation) same in omega arith) (λ other. before)
          | inr new_one ↦ absurd (no_call_now shape past w (declared w n) declares now g id new_one)
        ];
        strangers = each_node (λ x m. has_node w m ≡ false → x.pending ≡ []) (λ h. refl) g.strangers;
        one_call = one_call-push past declaration g.one_call (λ id h named. no_call_now shape past w (declared w n) declares now g id h);
        one_reply = one_reply-push past declaration g.one_reply (λ id reply h. absurd (no_reply_now shape past w (declared w n) declares now g id reply h));
        told = told-push past w.sent declaration g.told;
        asked = each_node (λ x m. All (IsAskedBy shape told_run x) x.pending) (none_asked shape past w (declared w n) declares now g n (now + 1)) (λ m. stays_asked shape past w (declared w n) declares now g (w.nodes m) (g.asked m));
        ends = each_node (λ x m. EndsOf x) (λ f b past_end. refl) g.ends;
        backed = All-append Q w.sent [] (All-weaker P Q keep w.sent g.backed) (All-nil Q);
        comes = λ f. comes-push shape past declaration w after_it f (w.servers f) open_before (g.comes f);
        slotted = placed.slotted;
        all = placed.all;
      }

-- a node restarts
module _ (shape : ShapeFields) (past : List Entry) (w : WorldState) (n : ℕ) (few : (w.nodes n).incarnation ≤ most_incarnations) (g : Good shape past w) (step : next w (Member (Restart n)) ≡ Ok (silent (restarted w n) (Member (Restart n)) (w.nodes n).incarnation)) where
  abbrev restarts : Event
  restarts = Member (Restart n)

  abbrev begun_world : WorldState
  begun_world = quiet_world shape past w (restarted w n) restarts (w.nodes n).incarnation g

  abbrev begun_run : List Entry
  begun_run = quiet_run shape past w (restarted w n) restarts (w.nodes n).incarnation g

  abbrev restart : Entry
  restart = quiet_entry shape past w (restarted w n) restarts (w.nodes n).incarnation g

  pub restarted_good : Good shape begun_run begun_world
  restarted_good =
      let i = (w.nodes n).incarnation in
      let P : Message → Type 0 = Backed shape past w in
      let Q : Message → Type 0 = Backed shape begun_run begun_world in
      let open_before : (m : ℕ) → StaysOpen past (w.nodes m) (w.nodes m) = λ m. stays_same past (w.nodes m) in
      let keep : (m : Message) → P m → Q m = λ m b. backed-keeps shape past restart w begun_world open_before m b in
      let leads = leads_push (first_world shape) w begun_world past restart g.leads step in
      let placed = nothing_placed shape past w begun_world restart g.slotted g.all g.leads leads tt refl refl in
      record {
        leads = leads;
        named = g.named;
        limits = g.limits;
        incarnations = λ m. at_number m n (λ b. IsGiven (if b then true else w.alive m) (w.nodes m).incarnation)
            (λ same. ((g.incarnations m).0, λ h. subst (λ (k : ℕ). (w.nodes k).incarnation ≤ most_incarnations) (sym same) few))
            (λ other. g.incarnations m);
        holds = λ m. stays_held shape past w (restarted w n) restarts i g (w.nodes m) (g.holds m);
        young = λ id named. elim (named-push past restart id named) [
          | inl old ↦ g.young id old
          | inr new ↦ absurd (no_call_now shape past w (restarted w n) restarts i g id new)
        ];
        strangers = g.strangers;
        one_call = one_call-push past restart g.one_call (λ id h named. no_call_now shape past w (restarted w n) restarts i g id h);
        one_reply = one_reply-push past restart g.one_reply (λ id reply h. absurd (no_reply_now shape past w (restarted w n) restarts i g id reply h));
        told = told-push past w.sent restart g.told;
        asked = λ m. stays_asked shape past w (restarted w n) restarts i g (w.nodes m) (g.asked m);
        ends = g.ends;
        backed = All-append Q w.sent [] (All-weaker P Q keep w.sent g.backed) (All-nil Q);
        comes = λ f. comes-push shape past restart w begun_world f (w.servers f) open_before (g.comes f);
        slotted = placed.slotted;
        all = placed.all;
      }
