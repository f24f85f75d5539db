-- The facts of a node after each run, and how its steps keep them.
use Rattle.std.proofs.Common.{◌≡◌, ℕ, suc, ◌≤◌, Bool, true, false, if◌then◌else◌, ◌⊎◌, refl, sym, ap, subst, arith, List, [], ◌∷◌, ◌++◌, find, All, Contains, inl, inr, Some}
use Rattle.std.proofs.lemmas.List.Elements.{All-weaker, All-same, All-push, All-contains, All-contains_itself}
use Rattle.model.specs.declared.call.CallId.{CallId}
use Rattle.model.specs.declared.host.Host.{Host}
use Rattle.model.specs.declared.lock_info.LockInfo.{LockInfo}
use Rattle.model.specs.declared.mode.Mode.{Mode}
use Rattle.model.specs.declared.op.Op.{Op}
use Rattle.model.specs.declared.process.Process.{Process}
use Rattle.model.specs.declared.reply.Reply.{Reply}
use Rattle.model.specs.rule.Limits.{IsProcess}
use Rattle.model.specs.rule.Table.{Table, LockTarget}
use Rattle.model.specs.rule.Step.{Step}
use Rattle.messages.specs.declared.message.Message.TheVariants.{Deny}
use Rattle.messages.specs.declared.event.Event.{Event}
use Rattle.messages.specs.declared.event.Event.TheVariants.{Deliver, Member}
use Rattle.messages.specs.declared.event.MemberEvent.TheVariants.{Declare}
use Rattle.messages.specs.declared.entry.Entry.{Entry}
use Rattle.node_core.specs.declared.open_call.OpenCall.{OpenCall}
use Rattle.node_core.specs.rule.State.{NodeState, process, id_of, target_of}
use Rattle.node_core.specs.rule.Try.{refusal_of}
use Rattle.cluster_core.proofs.history.Entries.{not_there, same_answer, IsNamed, Unanswered, unanswered-push}
use Rattle.cluster_core.proofs.history.Fitting.{Called, called-keeps}
use Rattle.cluster_core.specs.rule.Evidence.{IsAbout}
use Rattle.model.specs.rule.Anchors.{IsOwn}
use Rattle.model.proofs.LimitLaws.{step_limit}
use Rattle.model.proofs.NodeTables.{GoesOn, same_goes_on, target_goes_on}
use Rattle.cluster_core.proofs.steps.Tries.{about_maps, IsReady, IsServed, Continues, Stays, IsSilent}
use Rattle.cluster_core.proofs.common.Lists.{All-both}

-- an open call: it passes its tests, stands in the run, and is not answered there
pub record IsOpen (past : List Entry) (s : NodeState) (c : OpenCall) : Type 0 where
  pub op : Op
  pub ready : IsReady s.table (process s c.pid) op c
  pub is_process : IsProcess (process s c.pid)
  pub called : Called past (id_of s c.number) c.pid op
  pub unanswered : Unanswered past (id_of s c.number)

-- the facts of a node after a run
pub record Holds (past : List Entry) (s : NodeState) : Type 0 where
  pub own : IsOwn s.table s.node s.incarnation
  pub waiting : All (IsOpen past s) s.pending
  pub numbers : (id : CallId) → IsNamed past id → id.node ≡ s.node → id.incarnation ≡ s.incarnation → id.number ≤ s.calls

pub same_id : (s u : NodeState) (number : ℕ) → u.node ≡ s.node → u.incarnation ≡ s.incarnation → id_of u number ≡ id_of s number
same_id s u number node incarnation = λ i. record { node = node i; incarnation = incarnation i; number = number }

pub same_process : (s u : NodeState) (pid : ℕ) → u.node ≡ s.node → u.incarnation ≡ s.incarnation → process u pid ≡ process s pid
same_process s u pid node incarnation = λ i. record { node = node i; incarnation = incarnation i; pid = pid }

-- an open call stays open while the run goes on and does not answer it
pub open-push : (past : List Entry) (e : Entry) (s : NodeState) (c : OpenCall) → ((reply : Reply) → e.reply ≡ Some (id_of s c.number, reply) → ⊥) → IsOpen past s c → IsOpen (past ++ e ∷ []) s c
open-push past e s c other o = record {
  op = o.op;
  ready = o.ready;
  is_process = o.is_process;
  called = called-keeps past (e ∷ []) (id_of s c.number) c.pid o.op o.called;
  unanswered = unanswered-push past e (id_of s c.number) o.unanswered other;
}

-- the target of a call stays its target while its process goes on
about_goes_on : (t u : Table) (node incarnation pid : ℕ) (op : Op) (mode : Mode) (c : LockTarget) → GoesOn (t.on node incarnation) (u.on node incarnation) pid → IsAbout t (record { node = node; incarnation = incarnation; pid = pid }) op mode c → IsAbout u (record { node = node; incarnation = incarnation; pid = pid }) op mode c
about_goes_on t u node incarnation pid op mode c g a = about_maps t u (record { node = node; incarnation = incarnation; pid = pid }) op mode c (λ need fd kind start len h. target_goes_on t u node incarnation pid need fd kind start len c g h) a

-- an open call stays ready while its node goes on
pub ready-continues : (s u : NodeState) (pid : ℕ) (op : Op) (c : OpenCall) → u.node ≡ s.node → u.incarnation ≡ s.incarnation → GoesOn (s.table.on s.node s.incarnation) (u.table.on s.node s.incarnation) pid → IsReady s.table (process s pid) op c → IsReady u.table (process u pid) op c
ready-continues s u pid op c node incarnation going r =
    let P : Process → Type 0 = λ p. IsReady u.table p op c in
    subst P (sym (same_process s u pid node incarnation)) (record {
      is_for = r.is_for;
      passes = about_goes_on s.table u.table s.node s.incarnation pid op c.mode (target_of c) going r.passes;
    })

pub open-continues : (past : List Entry) (s u : NodeState) (c : OpenCall) → Continues s u → GoesOn (s.table.on s.node s.incarnation) (u.table.on s.node s.incarnation) c.pid → IsOpen past s c → IsOpen past u c
open-continues past s u c g going o =
    let same = sym (same_id s u c.number g.node g.incarnation) in
    record {
      op = o.op;
      ready = ready-continues s u c.pid o.op c g.node g.incarnation going o.ready;
      is_process = subst (λ (p : Process). IsProcess p) (sym (same_process s u c.pid g.node g.incarnation)) o.is_process;
      called = subst (λ (id : CallId). Called past id c.pid o.op) same o.called;
      unanswered = subst (λ (id : CallId). Unanswered past id) same o.unanswered;
    }

-- where the table stays, all processes go on
pub still_goes_on : (s u : NodeState) (pid : ℕ) → u.table ≡ s.table → GoesOn (s.table.on s.node s.incarnation) (u.table.on s.node s.incarnation) pid
still_goes_on s u pid same = same_goes_on (s.table.on s.node s.incarnation) (u.table.on s.node s.incarnation) pid (ap (λ (t : Table). t.on s.node s.incarnation) same)

-- the open calls after an entry that answers none of them
pub all_wait : (past : List Entry) (e : Entry) (s u : NodeState) (calls : List OpenCall) → Continues s u → IsSilent s u e.reply → All (IsOpen past s) calls → All (IsOpen (past ++ e ∷ []) u) calls
all_wait past e s u calls g silent waiting = All-weaker (IsOpen past s) (IsOpen (past ++ e ∷ []) u) each calls waiting
  where
    each : (c : OpenCall) → IsOpen past s c → IsOpen (past ++ e ∷ []) u c
    each c o = open-continues (past ++ e ∷ []) s u c g (still_goes_on s u c.pid silent.table) (open-push past e s c (λ reply h. not_there e.reply (id_of s c.number, reply) silent.no_reply h) o)

-- the open calls that are left after an entry that answers another
pub others_wait : (past : List Entry) (e : Entry) (s u : NodeState) (number : ℕ) (reply : Reply) → Continues s u → e.reply ≡ Some (id_of s number, reply) → All (Stays s.pending number) u.pending → All (IsOpen past s) s.pending → All (IsOpen (past ++ e ∷ []) u) u.pending
others_wait past e s u number reply g is left waiting =
    All-both (Stays s.pending number) (λ (c : OpenCall). GoesOn (s.table.on s.node s.incarnation) (u.table.on s.node s.incarnation) c.pid) (IsOpen (past ++ e ∷ []) u) each u.pending left g.goes_on
  where
    other : (c : OpenCall) → (c.number ≡ number → ⊥) → (r : Reply) → e.reply ≡ Some (id_of s c.number, r) → ⊥
    other c apart r said = apart (ap (λ (id : CallId). id.number) (same_answer e.reply (id_of s c.number) (id_of s number) r reply said is).0)

    each : (c : OpenCall) → Stays s.pending number c → GoesOn (s.table.on s.node s.incarnation) (u.table.on s.node s.incarnation) c.pid → IsOpen (past ++ e ∷ []) u c
    each c stays going = open-continues (past ++ e ∷ []) s u c g going (open-push past e s c (other c stays.1) (All-contains (IsOpen past s) s.pending c waiting stays.0))

-- an open call that is found is one of the open calls, and passes the test
pub found_open : (test : OpenCall → Bool) (calls : List OpenCall) (c : OpenCall) → find test calls ≡ Some c → Contains calls c × (test c ≡ true)
found_open test [] c h = absurd (cc)
found_open test (d ∷ ds) c h =
    elim (test d) as (λ b. test d ≡ b → (if b then Some d else find test ds) ≡ Some c → Contains (d ∷ ds) c × (test c ≡ true)) [
      | true ↦ λ t f.
          let same : d ≡ c = cc in
          subst (λ (x : OpenCall). Contains (d ∷ ds) x × (test x ≡ true)) same ((0, omega arith, refl), t)
      | false ↦ λ t f.
          let later = found_open test ds c f in
          let place = later.0 in
          let below = place.1 in
          ((suc place.0, omega arith, place.2), later.1)
    ] refl h

-- each open call was open before, or is the one that the entry names
abbrev pub StayOpen : NodeState → NodeState → Entry → Type 0
StayOpen s u e = All (λ c. Contains s.pending c ⊎ (e.call ≡ Some (id_of u c.number))) u.pending

-- where the open calls stay, each was open before
pub stay_same : (s u : NodeState) (e : Entry) → u.pending ≡ s.pending → StayOpen s u e
stay_same s u e same = All-weaker (Contains s.pending) (λ c. Contains s.pending c ⊎ (e.call ≡ Some (id_of u c.number))) (λ c there. inl there) u.pending (All-same (Contains s.pending) u.pending s.pending same (All-contains_itself s.pending))

pub stay_closed : (s u : NodeState) (e : Entry) (number : ℕ) → All (Stays s.pending number) u.pending → StayOpen s u e
stay_closed s u e number left = All-weaker (Stays s.pending number) (λ c. Contains s.pending c ⊎ (e.call ≡ Some (id_of u c.number))) (λ c stays. inl stays.0) u.pending left

pub stay_opened : (s u : NodeState) (e : Entry) (c : OpenCall) → u.pending ≡ s.pending ++ c ∷ [] → e.call ≡ Some (id_of u c.number) → StayOpen s u e
stay_opened s u e c same named =
    let P : OpenCall → Type 0 = λ d. Contains s.pending d ⊎ (e.call ≡ Some (id_of u d.number)) in
    All-same P u.pending (s.pending ++ c ∷ []) same (All-push P s.pending c (All-weaker (Contains s.pending) P (λ d there. inl there) s.pending (All-contains_itself s.pending)) (inr named))

-- what an entry says of the node's calls: it answers one by a step of the node's table and under its token, or leaves the table
pub record IsExplained (past : List Entry) (s u : NodeState) (e : Entry) : Type 0 where
  pub number : ℕ
  pub pid : ℕ
  pub op : Op
  pub reply : Reply
  pub is_reply : e.reply ≡ Some (id_of s number, reply)
  pub is_process : IsProcess (process s pid)
  pub called : Called (past ++ e ∷ []) (id_of s number) pid op
  pub fresh : Unanswered past (id_of s number)
  pub step : Step s.table (process s pid) op reply u.table
  pub served : IsServed s.table (process s pid) op reply u

-- the entry answers an open call that a server denied, with the lock that it names, and leaves the table
pub record IsDenied (s u : NodeState) (e : Entry) : Type 0 where
  pub file : ℕ
  pub call : CallId
  pub holder : Host
  pub number : ℕ
  pub lock : LockInfo
  pub is_deny : e.event ≡ Deliver (Deny file call holder number lock)
  pub answering : OpenCall
  pub there : Contains s.pending answering
  pub named : id_of s answering.number ≡ call
  pub reply : Reply
  pub refuses : refusal_of answering.lock_command lock ≡ Some reply
  pub is_reply : e.reply ≡ Some (call, reply)
  pub table : u.table ≡ s.table

-- the event delivers no denial
abbrev pub IsNoDenial : Event → Type 0
IsNoDenial (Deliver (Deny file call holder number lock)) = ⊥
IsNoDenial _ = Unit {0}

-- the event declares no node failed
abbrev pub IsNoDeclaration : Event → Type 0
IsNoDeclaration (Member (Declare node)) = ⊥
IsNoDeclaration _ = Unit {0}

-- the entry answers a call of this node in one of these ways
abbrev pub Ends : List Entry → NodeState → NodeState → Entry → Type 0
Ends past s u e = (IsExplained past s u e × IsNoDenial e.event) ⊎ (IsDenied s u e ⊎ IsSilent s u e.reply)

-- a step of a node with its entry
pub record Moves (past : List Entry) (s u : NodeState) (e : Entry) : Type 0 where
  pub holds : Holds (past ++ e ∷ []) u
  pub node : u.node ≡ s.node
  pub incarnation : u.incarnation ≡ s.incarnation
  pub fresh : (id : CallId) → e.call ≡ Some id → (id.node ≡ s.node) × (IsNamed past id → ⊥)
  pub of_incarnation : (id : CallId) → e.call ≡ Some id → id.incarnation ≡ s.incarnation
  pub stay : StayOpen s u e
  pub ends : Ends past s u e

-- a step of a node keeps the limit of its table
pub moves_limit : (past : List Entry) (s u : NodeState) (e : Entry) → Moves past s u e → u.table.limit ≡ s.table.limit
moves_limit past s u e moves = elim moves.ends [
  | inl x ↦ step_limit s.table u.table (process s x.0.pid) x.0.op x.0.reply x.0.step
  | inr rest ↦ elim rest [ inl d ↦ ap (λ (t : Table). t.limit) d.table | inr silent ↦ ap (λ (t : Table). t.limit) silent.table ]
]

-- the facts of a node with a new open call
pub opened : (past : List Entry) (e : Entry) (s : NodeState) (number pid : ℕ) (op : Op) (c : OpenCall) → c.number ≡ number → c.pid ≡ pid → IsReady s.table (process s pid) op c → IsProcess (process s pid) → Called (past ++ e ∷ []) (id_of s number) pid op → Unanswered (past ++ e ∷ []) (id_of s number) → IsOpen (past ++ e ∷ []) s c
opened past e s number pid op c number_is pid_is ready is_process called unanswered = record {
  op = op;
  ready = subst (λ (k : ℕ). IsReady s.table (process s k) op c) (sym pid_is) ready;
  is_process = subst (λ (k : ℕ). IsProcess (process s k)) (sym pid_is) is_process;
  called = subst (λ (k : ℕ). Called (past ++ e ∷ []) (id_of s c.number) k op) (sym pid_is) (subst (λ (k : ℕ). Called (past ++ e ∷ []) (id_of s k) pid op) (sym number_is) called);
  unanswered = subst (λ (k : ℕ). Unanswered (past ++ e ∷ []) (id_of s k)) (sym number_is) unanswered;
}
