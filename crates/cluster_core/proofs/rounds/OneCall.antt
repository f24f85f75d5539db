-- A process has at most one open call, and no two open calls of a node have one number.
use Rattle.std.specs.Prelude.{◌==◌, not, if◌then◌else◌, is_some, find, filter, get_or}
use Rattle.std.proofs.Common.{◌≡◌, ℕ, zero, suc, ◌+◌, ◌<◌, ◌≤◌, Bool, true, false, inl, inr, refl, sym, ◌∙◌, ap, subst, arith, List, [], ◌∷◌, ◌++◌, length, All, AllPairs, Contains, Option, Some, None, Result, Ok, Err}
use Rattle.std.proofs.lemmas.Bool.{eq-eqb}
use Rattle.std.proofs.lemmas.List.Elements.{All-nil, All-cons, All-filter, All-push, All-weaker}
use Rattle.std.proofs.lemmas.List.Kept.{AllPairs-filter}
use Rattle.model.specs.declared.lock_info.LockInfo.{LockInfo}
use Rattle.model.specs.declared.mode.Mode.{Mode}
use Rattle.model.specs.declared.op.Op.{Op}
use Rattle.model.specs.declared.op.Op.TheVariants as op
use Rattle.model.specs.declared.op.LockCommand.{LockCommand}
use Rattle.model.specs.declared.op.LockCommand.TheVariants as lock_command
use Rattle.model.specs.declared.reply.Reply.{Reply}
use Rattle.model.specs.declared.reply.Reply.TheVariants.{Free}
use Rattle.model.specs.rule.Locks.{lowest_blocker}
use Rattle.model.specs.rule.Descriptors.{is_of_file, has_open, after}
use Rattle.model.specs.rule.Table.{Table, LockTarget, around, beside, descriptor, target, call_target, lock_within, after_close, after_exit}
use Rattle.token_set.specs.rule.Tokens.{covers, raised}
use Rattle.messages.specs.declared.message.Message.{Message}
use Rattle.messages.specs.declared.message.Message.TheVariants.{Request, Grant, Revoke, Taken, Released, Conflict, Deny, Freed, Hello, Report}
use Rattle.messages.specs.declared.event.Event.{Event}
use Rattle.messages.specs.declared.event.NodeInput.TheVariants.{Call, Interrupt, Retry}
use Rattle.messages.specs.declared.entry.Entry.{Entry}
use Rattle.messages.specs.declared.outcome.Outcome.{Outcome}
use Rattle.node_core.specs.declared.event.NodeEvent.{NodeEvent}
use Rattle.node_core.specs.declared.event.NodeEvent.TheVariants.{Input, Deliver}
use Rattle.node_core.specs.declared.open_call.OpenCall.{OpenCall}
use Rattle.node_core.specs.rule.State.{NodeState, Effect, first_node, with_file, without_call_of, open_call, open_call_of, process, host, answered, target_of}
use Rattle.node_core.specs.rule.Try.{settled, may_free, with_freed, locked_by, refusal_of, answered_if, answered_here, requested, tried_against, tried, tried_if}
use Rattle.node_core.specs.rule.Calls.{lock_call, unlock_call, called, shut_by, is_busy}
use Rattle.node_core.specs.rule.Commands.{in_epoch, in_order, remembered, after_command, granted, revoked, denied, delivered}
use Rattle.node_core.specs.rule.Interrupts.{interruption_of, interrupted}
use Rattle.node_core.specs.rule.Node.{node_rule}
use Rattle.cluster_core.specs.rule.World.{WorldState}
use Rattle.cluster_core.specs.rule.Next.{next}
use Rattle.cluster_core.specs.rule.Rests.{Differ, IsOneEach, EachProcessHasOneCall}
use Rattle.cluster_core.proofs.common.Choices.{if_either, at_number}
use Rattle.cluster_core.proofs.common.Lists.{All-both, all_pairs-append}
use Rattle.cluster_core.proofs.steps.NodeSteps.{call_done, call_free, deliver_done, interrupt_done, retry_done, remembered_state, in_order_either, told_either, shut_keeps}
use Rattle.cluster_core.proofs.steps.Steps.{next_step}
use Rattle.cluster_core.proofs.rounds.Kept.{kept_in_run}

-- after the effect each process has at most one open call still
abbrev Keeps : NodeState → Effect → Type 0
Keeps s e = IsOneEach s → IsOneEach e.state

-- fewer calls are open
fewer : (s : NodeState) (p : OpenCall → Bool) → IsOneEach s → IsOneEach (record s { pending = filter p s.pending })
fewer s p o = record { apart = AllPairs-filter Differ p s.pending o.apart; counted = All-filter p (λ (c : OpenCall). c.number ≤ s.calls) s.pending o.counted }

answered-keeps : (s : NodeState) (number : ℕ) (reply : Reply) → Keeps s (answered s number reply)
answered-keeps s number reply o = fewer s (λ c. not (c.number == number)) o

settled-keeps : (s : NodeState) (number : ℕ) (answer : Table × Reply) → Keeps s (settled s number answer)
settled-keeps s number answer o = fewer (record s { table = answer.0 }) (λ c. not (c.number == number)) (record { apart = o.apart; counted = o.counted })

with_freed-keeps : (s : NodeState) (file : ℕ) (e : Effect) → Keeps s e → Keeps s (with_freed file e)
with_freed-keeps s file e keeps =
    let tell : Effect = record { state = with_file e.state file (record (e.state.files file) { owes_freed = false }); reply = e.reply; sends = e.sends ++ Freed file (host e.state) ∷ [] } in
    if_either (Keeps s) (e.state.files file).owes_freed tell e (λ o. let kept = keeps o in record { apart = kept.apart; counted = kept.counted }) keeps

locked_by-keeps : (s : NodeState) (number : ℕ) (about : LockTarget) (mode : Option Mode) → Keeps s (locked_by s number about mode)
locked_by-keeps s number about mode =
    let answer = lock_within s.table about mode in
    let e = settled s number answer in
    if_either (Keeps s) (may_free mode answer.1) (with_freed about.file e) e (with_freed-keeps s about.file e (settled-keeps s number answer)) (settled-keeps s number answer)

answered_here-keeps : (s : NodeState) (c : OpenCall) (i : LockCommand) → Keeps s (answered_here s c i)
answered_here-keeps s c lock_command.Set = locked_by-keeps s c.number (target_of c) (Some c.mode)
answered_here-keeps s c lock_command.Wait = locked_by-keeps s c.number (target_of c) (Some c.mode)
answered_here-keeps s c lock_command.Query = answered-keeps s c.number Free

answered_if-keeps : (s : NodeState) (number : ℕ) (o : Option Reply) → Keeps s (answered_if s number o)
answered_if-keeps s number None = λ o. o
answered_if-keeps s number (Some reply) = answered-keeps s number reply

tried_against-keeps : (s : NodeState) (c : OpenCall) (o : Option LockInfo) → Keeps s (tried_against s c o)
tried_against-keeps s c (Some lock) = answered_if-keeps s c.number (refusal_of c.lock_command lock)
tried_against-keeps s c None = if_either (Keeps s) (covers (s.files c.file).token c.span c.mode) (answered_here s c c.lock_command) (requested s c) (answered_here-keeps s c c.lock_command) (λ o. o)

tried-keeps : (s : NodeState) (c : OpenCall) → Keeps s (tried s c)
tried-keeps s c = tried_against-keeps s c (lowest_blocker (s.table.locks c.file) c.owner c.span c.mode)

tried_if-keeps : (s : NodeState) (o : Option OpenCall) → Keeps s (tried_if s o)
tried_if-keeps s None = λ o. o
tried_if-keeps s (Some c) = tried-keeps s c

-- no call of the process is open
none_of : (cs : List OpenCall) (pid : ℕ) → find (λ d. d.pid == pid) cs ≡ None → All (λ (c : OpenCall). c.pid ≡ pid → ⊥) cs
none_of [] pid none = All-nil (λ (c : OpenCall). c.pid ≡ pid → ⊥)
none_of (x ∷ xs) pid none = by (none_of xs pid) (x.pid == pid) refl none
  where
    by : (find (λ (d : OpenCall). d.pid == pid) xs ≡ None → All (λ (c : OpenCall). c.pid ≡ pid → ⊥) xs) → (b : Bool) → (x.pid == pid) ≡ b → (if b then Some x else find (λ (d : OpenCall). d.pid == pid) xs) ≡ None → All (λ (c : OpenCall). c.pid ≡ pid → ⊥) (x ∷ xs)
    by rest true is h = absurd (cc)
    by rest false is h = All-cons (λ (c : OpenCall). c.pid ≡ pid → ⊥) x xs (λ same. let here : (x.pid == pid) ≡ true = eq-eqb x.pid pid same in absurd (cc)) (rest h)

no_call : (o : Option OpenCall) → is_some o ≡ false → o ≡ None
no_call None h = refl
no_call (Some c) h = absurd (cc)

-- a new call of a process that has none, with a new number
pushed : (s : NodeState) (c : OpenCall) → IsOneEach s → open_call_of s c.pid ≡ None → s.calls < c.number → IsOneEach (record s { calls = c.number; pending = s.pending ++ c ∷ [] })
pushed s c o none fresh = record {
  apart = all_pairs-append Differ s.pending (c ∷ []) o.apart (λ i j d lt within. absurd (omega arith))
      (All-both (λ (x : OpenCall). x.pid ≡ c.pid → ⊥) (λ (x : OpenCall). x.number ≤ s.calls) (λ (x : OpenCall). All (Differ x) (c ∷ []))
      (λ x other few. All-cons (Differ x) c [] (other, λ same. omega arith) (All-nil (Differ x))) s.pending (none_of s.pending c.pid none) o.counted);
  counted = All-push (λ (x : OpenCall). x.number ≤ c.number) s.pending c (All-weaker (λ (x : OpenCall). x.number ≤ s.calls) (λ (x : OpenCall). x.number ≤ c.number) (λ x few. omega arith) s.pending o.counted) (omega arith);
}

counted_more : (s : NodeState) → IsOneEach s → IsOneEach (record s { calls = s.calls + 1 })
counted_more s o = record { apart = o.apart; counted = All-weaker (λ (x : OpenCall). x.number ≤ s.calls) (λ (x : OpenCall). x.number ≤ s.calls + 1) (λ x few. omega arith) s.pending o.counted }

shut-keeps : (s : NodeState) (number : ℕ) (passes : ℕ → Bool) (answer : Table × Reply) → Keeps s (shut_by s number passes answer)
shut-keeps s number passes answer = shut_keeps (Keeps s) (with_freed-keeps s) s number passes answer (settled-keeps s number answer)

-- a lock call of a process that has no open call
lock_call-keeps : (s : NodeState) (pid : ℕ) (i : LockCommand) (mode : Mode) (found : Result LockTarget Reply) → open_call_of s pid ≡ None → IsOneEach s → IsOneEach (lock_call (record s { calls = s.calls + 1 }) (s.calls + 1) pid i mode found).state
lock_call-keeps s pid i mode (Err refusal) none o = answered-keeps (record s { calls = s.calls + 1 }) (s.calls + 1) refusal (counted_more s o)
lock_call-keeps s pid i mode (Ok about) none o =
    let c : OpenCall = record { number = s.calls + 1; pid = pid; lock_command = i; file = about.file; owner = about.owner; mode = mode; span = about.span } in
    tried-keeps (record s { calls = s.calls + 1; pending = s.pending ++ c ∷ [] }) c (pushed s c o none (omega arith))

unlock_call-keeps : (s : NodeState) (number : ℕ) (found : Result LockTarget Reply) → Keeps s (unlock_call s number found)
unlock_call-keeps s number (Err refusal) = answered-keeps s number refusal
unlock_call-keeps s number (Ok about) = locked_by-keeps s number about None

called-keeps : (s : NodeState) (pid : ℕ) (call : Op) → is_busy s pid call ≡ false → IsOneEach s → IsOneEach (called (record s { calls = s.calls + 1 }) (s.calls + 1) pid call).state
called-keeps s pid (op.Process call) free o =
    let t : NodeState = record s { calls = s.calls + 1 } in
    settled-keeps t (s.calls + 1) (beside t.table (process t pid) (after (around t.table (process t pid)) pid call)) (counted_more s o)
called-keeps s pid (op.Close fd) free o =
    let t : NodeState = record s { calls = s.calls + 1 } in
    shut-keeps t (s.calls + 1) (λ file. is_of_file file (descriptor t.table (process t pid) fd)) (after_close t.table (process t pid) fd) (counted_more s o)
called-keeps s pid op.Exit free o =
    let t : NodeState = record s { calls = s.calls + 1 } in
    shut-keeps (without_call_of t pid) (s.calls + 1) (has_open (around t.table (process t pid)) pid) (after_exit t.table (process t pid)) (fewer t (λ c. not (c.pid == pid)) (counted_more s o))
called-keeps s pid (op.Lock call) free o =
    let t : NodeState = record s { calls = s.calls + 1 } in
    lock_call-keeps s pid call.command call.mode (call_target t.table (process t pid) call) (no_call (open_call_of s pid) free) o
called-keeps s pid (op.Unlock fd kind start len) free o =
    let t : NodeState = record s { calls = s.calls + 1 } in
    unlock_call-keeps t (s.calls + 1) (target t.table (process t pid) None fd kind start len) (counted_more s o)

-- the same open calls
as_it_is : (s t : NodeState) → t.pending ≡ s.pending → t.calls ≡ s.calls → IsOneEach s → IsOneEach t
as_it_is s t pending calls o = record {
  apart = subst (AllPairs Differ) (sym pending) o.apart;
  counted = subst (λ (k : ℕ). All (λ (c : OpenCall). c.number ≤ k) t.pending) (sym calls) (subst (All (λ (c : OpenCall). c.number ≤ s.calls)) (sym pending) o.counted);
}

ordered-keeps : (s : NodeState) (file number : ℕ) (e : Effect) → Keeps s e → Keeps s (in_order s file number e)
ordered-keeps s file number e keeps =
    let same = remembered_state s (s.files file).answer in
    in_order_either (Keeps s) s file number e (λ next. keeps)
    (as_it_is s (remembered s (s.files file).answer).state (ap (λ (x : NodeState). x.pending) same) (ap (λ (x : NodeState). x.calls) same)) (λ o. o)

delivered-keeps : (s : NodeState) (m : Message) → Keeps s (delivered s m)
delivered-keeps s (Grant file number call mode span) o =
    let t = in_epoch s file number in
    let next = after_command t file (raised (t.files file).token span mode) number (Taken file number call) (t.files file).owes_freed in
    ordered-keeps t file number (granted t file number call mode span)
    (λ held. tried_if-keeps next (open_call next call.number) (as_it_is t next refl refl held)) (as_it_is s t refl refl o)
delivered-keeps s (Revoke file number holder call mode wanted) o =
    let t = in_epoch s file number in
    let e = revoked t file number call mode wanted in
    ordered-keeps t file number e (as_it_is t e.state refl refl) (as_it_is s t refl refl o)
delivered-keeps s (Hello file number holder) o =
    let t = in_epoch s file number in
    told_either (λ e. IsOneEach e.state) t file number (λ is. as_it_is s t refl refl o) (as_it_is s t refl refl o)
delivered-keeps s (Deny file call holder number lock) o = by (open_call s call.number) o
  where
    by : (c : Option OpenCall) → Keeps s (denied s lock c)
    by None = λ held. held
    by (Some c) = answered_if-keeps s c.number (refusal_of c.lock_command lock)
delivered-keeps s (Request file call blocking mode wanted) o = o
delivered-keeps s (Taken file number call) o = o
delivered-keeps s (Released file number holder call span) o = o
delivered-keeps s (Conflict file number holder call lock) o = o
delivered-keeps s (Freed file holder) o = o
delivered-keeps s (Report file number holder runs) o = o

interrupted-keeps : (s : NodeState) (o : Option OpenCall) → Keeps s (interrupted s o)
interrupted-keeps s None = λ o. o
interrupted-keeps s (Some c) = answered_if-keeps s c.number (interruption_of c.lock_command)

abbrev Done : NodeState × Outcome → Type 0
Done d = IsOneEach d.0

rule-keeps : (s : NodeState) (event : NodeEvent) (done : NodeState × Outcome) → node_rule s event ≡ Ok done → IsOneEach s → IsOneEach done.0
rule-keeps s (Input (Call pid call)) done h o = subst Done (call_done s pid call done h) (called-keeps s pid call (call_free s pid call done h).1 o)
rule-keeps s (Deliver m) done h o = elim (deliver_done s m done h) [ inl took ↦ subst Done took.1 (delivered-keeps s m o) | inr passed ↦ subst Done passed o ]
rule-keeps s (Input (Interrupt pid)) done h o = subst Done (interrupt_done s pid done h) (interrupted-keeps s (open_call_of s pid) o)
rule-keeps s (Input (Retry pid)) done h o = subst Done (retry_done s pid done h) (tried_if-keeps s (open_call_of s pid) o)

abbrev AllOne : WorldState → Type 0
AllOne w = (n : ℕ) → IsOneEach (w.nodes n)

-- a node without open calls
empty_one : (s : NodeState) → s.pending ≡ [] → IsOneEach s
empty_one s none = record {
  apart = subst (AllPairs Differ) (sym none) (λ i j d lt within. absurd (omega arith));
  counted = subst (All (λ (c : OpenCall). c.number ≤ s.calls)) (sym none) (All-nil (λ (c : OpenCall). c.number ≤ s.calls));
}

next-one : (w : WorldState) → AllOne w → (event : Event) (q : WorldState × Entry) → next w event ≡ Ok q → AllOne q.0
next-one w all event q h =
    next_step w (λ p. AllOne p.0) event q
    (λ n step done is k. at_number k n (λ b. IsOneEach (if b then done.0 else w.nodes k)) (λ same. rule-keeps (w.nodes n) step done is (all n)) (λ other. all k))
    (λ file step done is. all)
    (λ n is alive k.
    let begun : NodeState = first_node w.shape n ((w.nodes n).incarnation + 1) in
    at_number k n (λ b. IsOneEach (if b then begun else w.nodes k)) (λ same. empty_one begun refl) (λ other. all k))
    (λ n is dead few. all) (λ file is works. all) (λ file is stopped few. all) h

pub one_each : EachProcessHasOneCall
one_each shape es w is leads = kept_in_run shape is AllOne (λ past v good present all. next-one v all) es w leads (λ n. empty_one (first_node shape n 1) refl)

-- an open call is found by what tells it apart from all others
find_own : (f : OpenCall → ℕ) (cs : List OpenCall) (c : OpenCall) → AllPairs (λ (x y : OpenCall). f x ≡ f y → ⊥) cs → Contains cs c → find (λ d. f d == f c) cs ≡ Some c
find_own f [] c apart at = absurd (let lt = at.1 in omega arith)
find_own f (x ∷ xs) c apart at = by (find_own f xs c (λ i j d less within. apart (suc i) (suc j) d (omega arith) (omega arith))) at.0 at.1 at.2
  where
    by : (Contains xs c → find (λ d. f d == f c) xs ≡ Some c) → (k : ℕ) → k < length (x ∷ xs) → get_or (x ∷ xs) k c ≡ c → find (λ d. f d == f c) (x ∷ xs) ≡ Some c
    by rest zero lt is = ap (λ (b : Bool). if b then Some x else find (λ d. f d == f c) xs) (eq-eqb (f x) (f c) (ap f is)) ∙ ap (λ (y : OpenCall). Some y) is
    by rest (suc k) lt is = at_number (f x) (f c) (λ b. (if b then Some x else find (λ d. f d == f c) xs) ≡ Some c)
        (λ same. absurd (apart 0 (suc k) c (omega arith) lt (same ∙ ap f (sym is))))
        (λ other. rest (k, omega arith, is))

-- an open call is the one of its process, and the one of its number
pub open_own : (s : NodeState) (c : OpenCall) → IsOneEach s → Contains s.pending c → (open_call_of s c.pid ≡ Some c) × (open_call s c.number ≡ Some c)
open_own s c o at = (
  find_own (λ d. d.pid) s.pending c (λ i j d lt within. (o.apart i j d lt within).0) at,
  find_own (λ d. d.number) s.pending c (λ i j d lt within. (o.apart i j d lt within).1) at,
)
