-- The reason for each message, which stays one.
use Rattle.std.proofs.Common.{◌≡◌, ℕ, ◌≤◌, true, ◌==◌, ◌⊎◌, inl, inr, sym, ◌∙◌, ap, subst, arith, List, [], ◌∷◌, ◌++◌, length, take, All, Contains, refl, Some}
use Rattle.std.proofs.lemmas.Bool.{and_parts, eqb-true, false≢true}
use Rattle.std.proofs.lemmas.List.Elements.{All-contains, All-weaker}
use Rattle.intervals.specs.rule.Bytes.{Range, greatest}
use Rattle.model.specs.declared.call.CallId.{CallId}
use Rattle.model.specs.declared.host.Host.{Host}
use Rattle.model.specs.declared.lock_info.LockInfo.{LockInfo}
use Rattle.model.specs.declared.mode.Mode.{Mode}
use Rattle.model.specs.declared.op.Op.{Op}
use Rattle.model.specs.declared.op.Op.TheVariants.{Exit, Lock}
use Rattle.model.specs.declared.op.LockCommand.{LockCommand}
use Rattle.model.specs.declared.op.LockCommand.TheVariants.{Set, Wait, Query}
use Rattle.model.specs.declared.process.Process.{Process}
use Rattle.model.specs.declared.reply.Reply.{Reply}
use Rattle.model.specs.rule.Table.{Table, LockTarget}
use Rattle.model.specs.rule.Step.{Step}
use Rattle.messages.specs.rule.Shapes.{ShapeFields}
use Rattle.messages.specs.rule.Messages.{same_blocking}
use Rattle.messages.specs.declared.message.Blocking.{Blocking}
use Rattle.messages.specs.declared.message.Blocking.TheVariants.{No, Yes}
use Rattle.messages.proofs.SameMessages.{call_exact}
use Rattle.messages.specs.declared.message.Message.{Message}
use Rattle.messages.specs.declared.message.Message.TheVariants.{Request, Grant, Revoke, Taken, Released, Conflict, Deny, Freed, Hello, Report}
use Rattle.messages.specs.declared.event.Event.{Event}
use Rattle.messages.specs.declared.event.Event.TheVariants.{AtNode}
use Rattle.messages.specs.declared.event.NodeInput.TheVariants.{Call}
use Rattle.messages.specs.declared.entry.Entry.{Entry}
use Rattle.node_core.specs.declared.open_call.OpenCall.{OpenCall}
use Rattle.node_core.specs.rule.State.{NodeState, id_of}
use Rattle.node_core.specs.rule.Try.{blocking_of, refusal_of}
use Rattle.token_server.specs.declared.token_queue.token_request.TokenRequest.{TokenRequest}
use Rattle.token_server.specs.rule.Requests.{is_of_call}
use Rattle.cluster_core.specs.rule.World.{WorldState, first_world}
use Rattle.cluster_core.specs.rule.Union.{union}
use Rattle.cluster_core.specs.rule.Histories.{caller, EntryAt, IsCalledAt, OneCall}
use Rattle.cluster_core.specs.rule.Evidence.{IsAbout, IsAsked, IsServedBy, IsWorldAfter, IsFirstDone, HasEvidence, may_wait, is_wait}
use Rattle.model.proofs.Targets.{IsSpan, target_span}
use Rattle.cluster_core.proofs.history.Entries.{IsNamed, named_called, entry_at-within, called_at-keeps}
use Rattle.cluster_core.proofs.steps.Tries.{IsFor, about_finds, about_one}
use Rattle.cluster_core.proofs.steps.Sends.{IsAround}
use Rattle.cluster_core.proofs.history.Joined.{is_of_host, target_of_host}
use Rattle.cluster_core.proofs.history.Prefixes.{leads_one, after-keeps}
use Rattle.cluster_core.proofs.history.Slots.{entry_at-one, revoked-keeps}

-- the target of a call: bytes of a file, and an owner of the caller's node
pub about_span : (t : Table) (p : Process) (op : Op) (mode : Mode) (c : LockTarget) → IsAbout t p op mode c → IsSpan c.span
about_span t p op mode c a =
    let f = about_finds t p op mode c a in
    target_span t p f.need f.fd f.kind f.start f.len c f.found

pub about_host : (t : Table) (p : Process) (op : Op) (mode : Mode) (c : LockTarget) → IsAbout t p op mode c → is_of_host p.node p.incarnation c.owner ≡ true
about_host t p op mode c a =
    let f = about_finds t p op mode c a in
    target_of_host t p f.need f.fd f.kind f.start f.len c f.found

pub about_node : (t : Table) (p : Process) (op : Op) (mode : Mode) (c : LockTarget) → IsAbout t p op mode c → c.owner.node ≡ p.node
about_node t p op mode c a = eqb-true c.owner.node p.node (and_parts (c.owner.node == p.node) (c.owner.incarnation == p.incarnation) (about_host t p op mode c a)).0

-- no call asks for bytes after the last of a file
pub asked_ends : (shape : ShapeFields) (es : List Entry) (file : ℕ) (call : CallId) (mode : Mode) (span : Range) → IsAsked shape es file call mode span → span.hi ≤ greatest
asked_ends shape es file call mode span a = subst (λ (s : Range). s.hi ≤ greatest) a.span_is (about_span (union a.world) (caller call a.pid) a.op mode a.about a.asks).ends

-- each call asks for some bytes
pub asked_order : (shape : ShapeFields) (es : List Entry) (file : ℕ) (call : CallId) (mode : Mode) (span : Range) → IsAsked shape es file call mode span → span.lo ≤ span.hi
asked_order shape es file call mode span a = subst (λ (s : Range). s.lo ≤ s.hi) a.span_is (about_span (union a.world) (caller call a.pid) a.op mode a.about a.asks).ordered

-- a call is made at one entry
pub record SameCall (at to pid qid : ℕ) (op oq : Op) : Type 0 where
  pub at_is : at ≡ to
  pub pid_is : pid ≡ qid
  pub op_is : op ≡ oq

-- the process that an event names, and what it asks for
abbrev pid_in : Event → ℕ
pid_in (AtNode node (Call pid op)) = pid
pid_in _ = 0

abbrev op_in : Event → Op
op_in (AtNode node (Call pid op)) = op
op_in _ = Exit

pub called_one : (es : List Entry) (id : CallId) (pid qid : ℕ) (op oq : Op) (at to : ℕ) → OneCall es → IsCalledAt es id pid op at → IsCalledAt es id qid oq to → SameCall at to pid qid op oq
called_one es id pid qid op oq at to one a b =
    let same = one id pid qid op oq at to a b in
    let entries : a.calling ≡ b.calling = entry_at-one es to a.calling b.calling (subst (λ (k : ℕ). EntryAt es k a.calling) same a.there) b.there in
    let events : AtNode id.node (Call pid op) ≡ AtNode id.node (Call qid oq) = sym a.is_call ∙ (ap (λ (e : Entry). e.event) entries ∙ b.is_call) in
    record { at_is = same; pid_is = ap pid_in events; op_is = ap op_in events }

-- a call asks for one thing
pub record SameAsked (file other : ℕ) (mode another : Mode) (span also : Range) : Type 0 where
  pub file_is : file ≡ other
  pub mode_is : mode ≡ another
  pub span_is : span ≡ also

pub asked_one : (shape : ShapeFields) (es : List Entry) (call : CallId) (file other : ℕ) (mode another : Mode) (span also : Range) → OneCall es → IsAsked shape es file call mode span → IsAsked shape es other call another also → SameAsked file other mode another span also
asked_one shape es call file other mode another span also one a b =
    let c = called_one es call a.pid b.pid a.op b.op a.at b.at one a.called b.called in
    let world : a.world ≡ b.world = leads_one (first_world shape) a.world b.world (take b.at es) (subst (λ (k : ℕ). IsWorldAfter shape es k a.world) c.at_is a.after) b.after in
    let P : WorldState → Type 0 = λ w. IsAbout (union w) (caller call a.pid) a.op mode a.about in
    let Q : ℕ → Type 0 = λ k. IsAbout (union b.world) (caller call k) a.op mode a.about in
    let R : Op → Type 0 = λ o. IsAbout (union b.world) (caller call b.pid) o mode a.about in
    let same = about_one (union b.world) (caller call b.pid) b.op mode another a.about b.about (subst R c.op_is (subst Q c.pid_is (subst P world a.asks))) b.asks in
    record {
      file_is = sym a.file_is ∙ (ap (λ (t : LockTarget). t.file) same.1 ∙ b.file_is);
      mode_is = same.0;
      span_is = sym a.span_is ∙ (ap (λ (t : LockTarget). t.span) same.1 ∙ b.span_is);
    }

-- a call of the run asks in the longer run for what it asked before
abbrev pub asked-keeps : (shape : ShapeFields) (es : List Entry) (e : Entry) (file : ℕ) (call : CallId) (mode : Mode) (span : Range) → IsAsked shape es file call mode span → IsAsked shape (es ++ e ∷ []) file call mode span
asked-keeps shape es e file call mode span a = record {
  at = a.at;
  pid = a.pid;
  op = a.op;
  called = called_at-keeps es (e ∷ []) call a.pid a.op a.at a.called;
  world = a.world;
  after = after-keeps shape es (e ∷ []) a.at a.world (entry_at-within es a.at a.called.calling a.called.there) a.after;
  about = a.about;
  asks = a.asks;
  file_is = a.file_is;
  span_is = a.span_is;
}

pub first_done-keeps : (shape : ShapeFields) (es : List Entry) (e : Entry) (file : ℕ) (holder : Host) (number at : ℕ) → at ≤ length es → IsFirstDone shape es file holder number at → IsFirstDone shape (es ++ e ∷ []) file holder number at
first_done-keeps shape es e file holder number at within f = record {
  place = f.place;
  at_is = f.at_is;
  before = f.before;
  up_to = after-keeps shape es (e ∷ []) f.place f.before (let is = f.at_is in omega arith) f.up_to;
  there = f.there;
  holder_is = f.holder_is;
  is_next = f.is_next;
}

abbrev pub evidence-keeps : (shape : ShapeFields) (es : List Entry) (e : Entry) (file : ℕ) (call : CallId) (holder : Host) (number : ℕ) (lock : LockInfo) → HasEvidence shape es file call holder number lock → HasEvidence shape (es ++ e ∷ []) file call holder number lock
evidence-keeps shape es e file call holder number lock h = record {
  mode = h.mode;
  wanted = h.wanted;
  asked = asked-keeps shape es e file call h.mode h.wanted.required h.asked;
  at = h.at;
  later = h.later;
  revoked = revoked-keeps es e file holder number h.at h.revoked;
  first_done = first_done-keeps shape es e file holder number h.at (entry_at-within es h.at h.revoked.revoking h.revoked.there) h.first_done;
  does = h.does;
  answer = h.answer;
  no_reply = h.no_reply;
  world = h.world;
  after = after-keeps shape es (e ∷ []) h.at h.world (entry_at-within es h.at h.revoked.revoking h.revoked.there) h.after;
  of_node = h.of_node;
  of_incarnation = h.of_incarnation;
  blocks = h.blocks;
}

-- an open call asks for what its name was called with
abbrev pub IsAskedBy : ShapeFields → List Entry → NodeState → OpenCall → Type 0
IsAskedBy shape past s c = IsAsked shape past c.file (id_of s c.number) c.mode c.span

-- if the open call is this one, the one table of the world may refuse it for the lock that is named
abbrev pub MayRefuse : WorldState → CallId → ℕ → Op → LockInfo → NodeState → OpenCall → Type 0
MayRefuse w call pid op lock s c = id_of s c.number ≡ call → (reply : Reply) → refusal_of c.lock_command lock ≡ Some reply → Step (union w) (caller call pid) op reply (union w)

-- the call is one of the run, which waits if its requests may
pub record IsOfBlocking (past : List Entry) (call : CallId) (blocking : Blocking) : Type 0 where
  pub at : ℕ
  pub pid : ℕ
  pub op : Op
  pub called : IsCalledAt past call pid op at
  pub waits : is_wait op ≡ same_blocking blocking Yes

pub for_blocking : (i : LockCommand) (op : Op) → IsFor i op → is_wait op ≡ same_blocking (blocking_of i) Yes
for_blocking i (Lock call) f = ap may_wait f ∙ by i
  where
    by : (i : LockCommand) → may_wait i ≡ same_blocking (blocking_of i) Yes
    by Set = refl
    by Wait = refl
    by Query = refl
for_blocking i _ f = absurd f

blocking-keeps : (past : List Entry) (e : Entry) (call : CallId) (blocking : Blocking) → IsOfBlocking past call blocking → IsOfBlocking (past ++ e ∷ []) call blocking
blocking-keeps past e call blocking u = record { at = u.at; pid = u.pid; op = u.op; called = called_at-keeps past (e ∷ []) call u.pid u.op u.at u.called; waits = u.waits }

-- a blocking that is `No`
is_no : (u : Blocking) → same_blocking u No ≡ true → u ≡ No
is_no No h = refl
is_no Yes h = absurd (false≢true h)

pub not_blocking : (past : List Entry) (call : CallId) (r : TokenRequest) → is_of_call call r ≡ true → same_blocking r.blocking No ≡ true → IsOfBlocking past r.call r.blocking → IsOfBlocking past call No
not_blocking past call r its now h =
    subst (IsOfBlocking past call) (is_no r.blocking now) (subst (λ (id : CallId). IsOfBlocking past id r.blocking) (call_exact r.call call its) h)

-- a conflict has its evidence, and while the call is open the one table may have refused it there
pub record Denies (shape : ShapeFields) (past : List Entry) (w : WorldState) (file : ℕ) (call : CallId) (holder : Host) (number : ℕ) (lock : LockInfo) : Type 0 where
  pub evidence : HasEvidence shape past file call holder number lock
  pub allows : All (MayRefuse evidence.world call evidence.asked.pid evidence.asked.op lock (w.nodes call.node)) (w.nodes call.node).pending

-- the reason for a message
abbrev pub Backed : ShapeFields → List Entry → WorldState → Message → Type 0
Backed shape past w (Request file call blocking mode wanted) = IsAsked shape past file call mode wanted.required × IsOfBlocking past call blocking × (wanted.desired.hi ≤ greatest) × IsAround wanted.required wanted.desired
Backed shape past w (Revoke file number holder call mode wanted) = IsAsked shape past file call mode wanted.required × (holder.node ≡ call.node → ⊥)
Backed shape past w (Conflict file number holder call lock) = Denies shape past w file call holder number lock
Backed shape past w (Deny file call holder number lock) = Denies shape past w file call holder number lock × IsOfBlocking past call No
Backed shape past w (Grant file number call mode span) = (span.hi ≤ greatest) × IsServedBy shape past file call mode span
Backed shape past w (Taken file number call) = Unit {0}
Backed shape past w (Released file number holder call span) = Unit {0}
Backed shape past w (Freed file holder) = Unit {0}
Backed shape past w (Hello file number holder) = Unit {0}
Backed shape past w (Report file number holder runs) = Unit {0}

-- the reason for a request that a server keeps
abbrev pub HeldFor : ShapeFields → List Entry → ℕ → TokenRequest → Type 0
HeldFor shape past file r = IsAsked shape past file r.call r.mode r.wanted.required × IsOfBlocking past r.call r.blocking × (r.wanted.desired.hi ≤ greatest) × IsAround r.wanted.required r.wanted.desired

pub held-keeps : (shape : ShapeFields) (past : List Entry) (e : Entry) (file : ℕ) (r : TokenRequest) → HeldFor shape past file r → HeldFor shape (past ++ e ∷ []) file r
held-keeps shape past e file r h = (asked-keeps shape past e file r.call r.mode r.wanted.required h.0, blocking-keeps past e r.call r.blocking h.1, h.2, h.3)

-- each open call was open before under its name, or is new
abbrev pub StaysOpen : List Entry → NodeState → NodeState → Type 0
StaysOpen past s u = All (λ c. (Contains s.pending c × (id_of s c.number ≡ id_of u c.number)) ⊎ (IsNamed past (id_of u c.number) → ⊥)) u.pending

module _ (shape : ShapeFields) (past : List Entry) (e : Entry) (w v : WorldState) (stays : (n : ℕ) → StaysOpen past (w.nodes n) (v.nodes n)) where
  pub denies-keeps : (file : ℕ) (call : CallId) (holder : Host) (number : ℕ) (lock : LockInfo) → Denies shape past w file call holder number lock → Denies shape (past ++ e ∷ []) v file call holder number lock
  denies-keeps file call holder number lock d =
      let h = d.evidence in
      let s = w.nodes call.node in
      let u = v.nodes call.node in
      let A : OpenCall → Type 0 = MayRefuse h.world call h.asked.pid h.asked.op lock s in
      let B : OpenCall → Type 0 = MayRefuse h.world call h.asked.pid h.asked.op lock u in
      let S : OpenCall → Type 0 = λ c. (Contains s.pending c × (id_of s c.number ≡ id_of u c.number)) ⊎ (IsNamed past (id_of u c.number) → ⊥) in
      record {
        evidence = evidence-keeps shape past e file call holder number lock h;
        allows = All-weaker S B (λ c stay named. elim stay [
          | inl old ↦ All-contains A s.pending c d.allows old.0 (old.1 ∙ named)
          | inr new ↦ absurd (new (subst (IsNamed past) (sym named) (named_called past call h.asked.pid h.asked.op h.asked.at h.asked.called)))
        ]) u.pending (stays call.node);
      }

  pub backed-keeps : (m : Message) → Backed shape past w m → Backed shape (past ++ e ∷ []) v m
  backed-keeps (Request file call blocking mode wanted) b = (asked-keeps shape past e file call mode wanted.required b.0, blocking-keeps past e call blocking b.1, b.2, b.3)
  backed-keeps (Revoke file number holder call mode wanted) b = (asked-keeps shape past e file call mode wanted.required b.0, b.1)
  backed-keeps (Conflict file number holder call lock) b = denies-keeps file call holder number lock b
  backed-keeps (Deny file call holder number lock) b = (denies-keeps file call holder number lock b.0, blocking-keeps past e call No b.1)
  backed-keeps (Grant file number call mode span) b = (b.0, record { required = b.1.required; asked = asked-keeps shape past e file call mode b.1.required b.1.asked; starts = b.1.starts; ends = b.1.ends })
  backed-keeps (Taken file number call) b = b
  backed-keeps (Released file number holder call span) b = b
  backed-keeps (Freed file holder) b = b
  backed-keeps (Hello file number holder) b = b
  backed-keeps (Report file number holder runs) b = b
