-- A step of a node that is no call and answers one: which open call it closes, and under which token.
use Rattle.std.specs.Prelude.{◌==◌, ◌&&◌, nat_le, not, if◌then◌else◌, filter, length, get_or}
use Rattle.std.proofs.Common.{◌≡◌, ℕ, zero, suc, ◌+◌, ◌<◌, ◌≤◌, Bool, true, false, inl, inr, refl, sym, ◌∙◌, ap, subst, arith, List, [], ◌∷◌, ◌++◌, Contains, Option, Some, None, Ok}
use Rattle.std.proofs.lemmas.Option.{none-some}
use Rattle.std.proofs.lemmas.List.Sums.{length-filter, count_by-le-length}
use Rattle.intervals.specs.rule.Bytes.{Range, put}
use Rattle.model.specs.declared.call.CallId.{CallId}
use Rattle.model.specs.declared.lock_info.LockInfo.{LockInfo}
use Rattle.model.specs.declared.mode.Mode.{Mode}
use Rattle.model.specs.declared.op.LockCommand.{LockCommand}
use Rattle.model.specs.declared.op.LockCommand.TheVariants as lock_command
use Rattle.model.specs.declared.reply.Reply.{Reply}
use Rattle.model.specs.declared.reply.Reply.TheVariants.{Done, NoLocks, Free}
use Rattle.model.specs.rule.Locks.{lowest_blocker}
use Rattle.model.specs.rule.Owners.{same_owner}
use Rattle.model.specs.rule.Table.{Table, LockTarget, locked, regions_with, lock_within}
use Rattle.token_set.specs.rule.Tokens.{covers, raised}
use Rattle.messages.specs.declared.message.Message.{Message}
use Rattle.messages.specs.declared.message.Message.TheVariants.{Request, Grant, Revoke, Taken, Released, Conflict, Deny, Freed, Hello, Report}
use Rattle.messages.specs.declared.event.NodeInput.TheVariants.{Call, Interrupt, Retry}
use Rattle.messages.specs.declared.outcome.Outcome.{Outcome}
use Rattle.node_core.specs.declared.event.NodeEvent.{NodeEvent}
use Rattle.node_core.specs.declared.event.NodeEvent.TheVariants.{Input, Deliver}
use Rattle.node_core.specs.declared.open_call.OpenCall.{OpenCall}
use Rattle.node_core.specs.rule.State.{FileState, NodeState, Effect, with_file, without_call, host, quiet, outcome, open_call, open_call_of, target_of}
use Rattle.node_core.specs.rule.Try.{settled, may_free, with_freed, locked_by, refusal_of, answered_if, answered_here, requested, tried_against, tried, tried_if}
use Rattle.node_core.specs.rule.Commands.{in_epoch, in_order, remembered, after_command, granted, revoked, denied, delivered}
use Rattle.node_core.specs.rule.Node.{node_rule}
use Rattle.cluster_core.proofs.common.Choices.{if_either, at_number}
use Rattle.cluster_core.proofs.history.Nodes.{found_open}
use Rattle.cluster_core.proofs.steps.NodeSteps.{deliver_done, retry_done, in_order_either, told_either}

-- fewer elements pass a test that an element fails
pub fewer : {A : Type 0} (p : A → Bool) (xs : List A) (x : A) → p x ≡ false → Contains xs x → length (filter p xs) + 1 ≤ length xs
fewer p [] x fails at = absurd (let lt = at.1 in omega arith)
fewer {A} p (y ∷ ys) x fails at = by at.0 at.1 at.2 (fewer p ys x fails)
  where
    few : length (filter p ys) ≤ length ys
    few = let count = length-filter p ys in let le = count_by-le-length p ys in omega arith

    by : (k : ℕ) → k < length (y ∷ ys) → get_or (y ∷ ys) k x ≡ x → (Contains ys x → length (filter p ys) + 1 ≤ length ys) → length (filter p (y ∷ ys)) + 1 ≤ length (y ∷ ys)
    by zero lt is others =
        let here : p y ≡ false = ap p is ∙ fails in
        let le = few in
        subst (λ (b : Bool). length (if b then y ∷ filter p ys else filter p ys) + 1 ≤ length (y ∷ ys)) (sym here) (omega arith)
    by (suc k) lt is others =
        let rest = others (k, omega arith, is) in
        if_either (λ (zs : List A). length zs + 1 ≤ length (y ∷ ys)) (p y) (y ∷ filter p ys) (filter p ys) (omega arith) (omega arith)

-- one open call is closed: if it is a wait, no lock of the node was in its way, and the token covers it; the locks of other files stay
pub record Closes (s u : NodeState) : Type 0 where
  pub call : OpenCall
  pub at : Contains s.pending call
  pub left : u.pending ≡ filter (λ (c : OpenCall). not (c.number == call.number)) s.pending
  pub free : call.lock_command ≡ lock_command.Wait → lowest_blocker (s.table.locks call.file) call.owner call.span call.mode ≡ None
  pub covered : call.lock_command ≡ lock_command.Wait → covers (u.files call.file).token call.span call.mode ≡ true
  pub elsewhere : (file : ℕ) → (file ≡ call.file → ⊥) → u.table.locks file ≡ s.table.locks file

-- an effect that answers a call closes one
abbrev IsClosing : NodeState → Effect → Type 0
IsClosing s e = (reply : CallId × Reply) → e.reply ≡ Some reply → Closes s e.state

none_answered : (s : NodeState) (e : Effect) → e.reply ≡ None → IsClosing s e
none_answered s e none reply is = absurd (none-some reply (sym none ∙ is))

-- a refusal of an open call
refused-closes : (s : NodeState) (c : OpenCall) (lock : LockInfo) → Contains s.pending c → IsClosing s (answered_if s c.number (refusal_of c.lock_command lock))
refused-closes s c lock at = by c.lock_command refl
  where
    closed : (c.lock_command ≡ lock_command.Wait → ⊥) → Closes s (without_call s c.number)
    closed other = record { call = c; at = at; left = refl; free = λ is. absurd (other is); covered = λ is. absurd (other is); elsewhere = λ file apart. refl }

    by : (i : LockCommand) → c.lock_command ≡ i → IsClosing s (answered_if s c.number (refusal_of i lock))
    by lock_command.Set is reply said = closed (λ wait. absurd (cc))
    by lock_command.Query is reply said = closed (λ wait. absurd (cc))
    by lock_command.Wait is reply said = absurd (none-some reply said)

-- the token stays where a Freed is sent
freed-closes : (s : NodeState) (file : ℕ) (e : Effect) → Closes s e.state → Closes s (with_freed file e).state
freed-closes s file e c =
    let told : FileState = record (e.state.files file) { owes_freed = false } in
    let after : NodeState = with_file e.state file told in
    if_either (λ (x : Effect). Closes s x.state) (e.state.files file).owes_freed (record { state = after; reply = e.reply; sends = e.sends ++ Freed file (host e.state) ∷ [] }) e
    (record {
      call = c.call;
      at = c.at;
      left = c.left;
      free = c.free;
      covered = λ wait. at_number c.call.file file (λ b. covers (if b then told else e.state.files c.call.file).token c.call.span c.call.mode ≡ true)
          (λ same. subst (λ (f : ℕ). covers (e.state.files f).token c.call.span c.call.mode ≡ true) same (c.covered wait))
          (λ other. c.covered wait);
      elsewhere = c.elsewhere;
    })
    c

-- a lock of one file leaves the others
within_elsewhere : (t : Table) (about : LockTarget) (mode : Option Mode) (file : ℕ) → (file ≡ about.file → ⊥) → (lock_within t about mode).0.locks file ≡ t.locks file
within_elsewhere t about mode file apart =
    if_either (λ (answer : Table × Reply). answer.0.locks file ≡ t.locks file) (nat_le (regions_with t about mode) t.limit) (locked t about mode, Done) (t, NoLocks)
    (at_number about.file file (λ b. (λ o. if b && same_owner about.owner o then put (t.locks about.file about.owner) about.span mode else t.locks file o) ≡ t.locks file) (λ same. absurd (apart (sym same))) (λ other. refl))
    refl

module _ (s : NodeState) (c : OpenCall) (at : Contains s.pending c) (free : lowest_blocker (s.table.locks c.file) c.owner c.span c.mode ≡ None) (covered : covers (s.files c.file).token c.span c.mode ≡ true) where
  settled-closes : (answer : Table × Reply) → ((file : ℕ) → (file ≡ c.file → ⊥) → answer.0.locks file ≡ s.table.locks file) → Closes s (settled s c.number answer).state
  settled-closes answer elsewhere = record { call = c; at = at; left = refl; free = λ wait. free; covered = λ wait. covered; elsewhere = elsewhere }

  locked-closes : IsClosing s (locked_by s c.number (target_of c) (Some c.mode))
  locked-closes reply said =
      let answer = lock_within s.table (target_of c) (Some c.mode) in
      let e = settled s c.number answer in
      let one : Closes s e.state = settled-closes answer (within_elsewhere s.table (target_of c) (Some c.mode)) in
      if_either (λ (x : Effect). Closes s x.state) (may_free (Some c.mode) answer.1) (with_freed c.file e) e (freed-closes s c.file e one) one

  here-closes : (i : LockCommand) → IsClosing s (answered_here s c i)
  here-closes lock_command.Set = locked-closes
  here-closes lock_command.Wait = locked-closes
  here-closes lock_command.Query = λ reply said. settled-closes (s.table, Free) (λ file apart. refl)

-- an open call that no lock of the node blocks
unblocked-closes : (s : NodeState) (c : OpenCall) → Contains s.pending c → lowest_blocker (s.table.locks c.file) c.owner c.span c.mode ≡ None → (b : Bool) → covers (s.files c.file).token c.span c.mode ≡ b → IsClosing s (if b then answered_here s c c.lock_command else requested s c)
unblocked-closes s c at free true covered = here-closes s c at free covered c.lock_command
unblocked-closes s c at free false covered = none_answered s (requested s c) refl

-- to try an open call
tried-closes : (s : NodeState) (c : OpenCall) → Contains s.pending c → IsClosing s (tried s c)
tried-closes s c at = by (lowest_blocker (s.table.locks c.file) c.owner c.span c.mode) refl
  where
    by : (o : Option LockInfo) → lowest_blocker (s.table.locks c.file) c.owner c.span c.mode ≡ o → IsClosing s (tried_against s c o)
    by (Some lock) is = refused-closes s c lock at
    by None is = unblocked-closes s c at is (covers (s.files c.file).token c.span c.mode) refl

tried_if-closes : (s : NodeState) (o : Option OpenCall) → ((c : OpenCall) → o ≡ Some c → Contains s.pending c) → IsClosing s (tried_if s o)
tried_if-closes s None at = none_answered s (quiet s) refl
tried_if-closes s (Some c) at = tried-closes s c (at c refl)

-- a node with other tokens closes what a node with these closes
closes_so : (s t u : NodeState) → t.table ≡ s.table → t.pending ≡ s.pending → Closes t u → Closes s u
closes_so s t u table pending c = record {
  call = c.call;
  at = subst (λ (cs : List OpenCall). Contains cs c.call) pending c.at;
  left = c.left ∙ ap (λ (cs : List OpenCall). filter (λ (d : OpenCall). not (d.number == c.call.number)) cs) pending;
  free = λ wait. subst (λ (x : Table). lowest_blocker (x.locks c.call.file) c.call.owner c.call.span c.call.mode ≡ None) table (c.free wait);
  covered = c.covered;
  elsewhere = λ file apart. c.elsewhere file apart ∙ ap (λ (x : Table). x.locks file) table;
}

-- a command, which is done, or answered again
ordered-closes : (s : NodeState) (file number : ℕ) (e : Effect) → IsClosing s e → IsClosing s (in_order s file number e)
ordered-closes s file number e closing = in_order_either (IsClosing s) s file number e (λ next. closing) (again (s.files file).answer) (none_answered s (quiet s) refl)
  where
    again : (o : Option Message) → IsClosing s (remembered s o)
    again None = none_answered s (quiet s) refl
    again (Some m) = λ reply said. absurd (none-some reply said)

granted-closes : (s : NodeState) (file number : ℕ) (call : CallId) (mode : Mode) (span : Range) → IsClosing s (granted s file number call mode span)
granted-closes s file number call mode span reply said =
    let next = after_command s file (raised (s.files file).token span mode) number (Taken file number call) (s.files file).owes_freed in
    closes_so s next (granted s file number call mode span).state refl refl
    (tried_if-closes next (open_call next call.number) (λ c is. (found_open (λ d. d.number == call.number) next.pending c is).0) reply said)

delivered-closes : (s : NodeState) (m : Message) → IsClosing s (delivered s m)
delivered-closes s (Grant file number call mode span) = λ reply said.
    let t = in_epoch s file number in
    closes_so s t (delivered s (Grant file number call mode span)).state refl refl (ordered-closes t file number (granted t file number call mode span) (granted-closes t file number call mode span) reply said)
delivered-closes s (Revoke file number holder call mode wanted) = λ reply said.
    let t = in_epoch s file number in
    closes_so s t (delivered s (Revoke file number holder call mode wanted)).state refl refl
    (ordered-closes t file number (revoked t file number call mode wanted) (none_answered t (revoked t file number call mode wanted) refl) reply said)
delivered-closes s (Hello file number holder) = λ reply said.
    let t = in_epoch s file number in
    closes_so s t (delivered s (Hello file number holder)).state refl refl
    (told_either (IsClosing t) t file number (λ is reply said. absurd (none-some reply said)) (none_answered t (quiet t) refl) reply said)
delivered-closes s (Deny file call holder number lock) = by (open_call s call.number) (λ c is. (found_open (λ d. d.number == call.number) s.pending c is).0)
  where
    by : (o : Option OpenCall) → ((c : OpenCall) → o ≡ Some c → Contains s.pending c) → IsClosing s (denied s lock o)
    by None at = none_answered s (quiet s) refl
    by (Some c) at = refused-closes s c lock (at c refl)
delivered-closes s (Request file call blocking mode wanted) = none_answered s (quiet s) refl
delivered-closes s (Taken file number call) = none_answered s (quiet s) refl
delivered-closes s (Released file number holder call span) = none_answered s (quiet s) refl
delivered-closes s (Conflict file number holder call lock) = none_answered s (quiet s) refl
delivered-closes s (Freed file holder) = none_answered s (quiet s) refl
delivered-closes s (Report file number holder runs) = none_answered s (quiet s) refl

-- the event is a delivery or a retry
abbrev pub IsQuietStep : NodeEvent → Type 0
IsQuietStep (Deliver m) = Unit {0}
IsQuietStep (Input (Retry pid)) = Unit {0}
IsQuietStep _ = ⊥

-- what such an effect comes to
made-closes : (s : NodeState) (e : Effect) (done : NodeState × Outcome) (reply : CallId × Reply) → IsClosing s e → outcome None e ≡ done → done.1.reply ≡ Some reply → Closes s done.0
made-closes s e done reply closing is said = subst (Closes s) (ap (λ (p : NodeState × Outcome). p.0) is) (closing reply (ap (λ (p : NodeState × Outcome). p.1.reply) is ∙ said))

pub step-closes : (s : NodeState) (step : NodeEvent) (done : NodeState × Outcome) (reply : CallId × Reply) → IsQuietStep step → node_rule s step ≡ Ok done → done.1.reply ≡ Some reply → Closes s done.0
step-closes s (Deliver m) done reply quiet_step is said = elim (deliver_done s m done is) [
  | inl took ↦ made-closes s (delivered s m) done reply (delivered-closes s m) took.1 said
  | inr passed ↦ made-closes s (quiet s) done reply (none_answered s (quiet s) refl) passed said
]
step-closes s (Input (Retry pid)) done reply quiet_step is said =
    made-closes s (tried_if s (open_call_of s pid)) done reply (tried_if-closes s (open_call_of s pid) (λ c found. (found_open (λ d. d.pid == pid) s.pending c found).0)) (retry_done s pid done is) said
step-closes s (Input (Interrupt pid)) done reply quiet_step is said = absurd quiet_step
step-closes s (Input (Call pid op)) done reply quiet_step is said = absurd quiet_step
