-- The tests of messages and of events decide equality.
use Rattle.std.specs.Prelude.{true, ℕ, ◌&&◌, ◌==◌}
use Rattle.std.proofs.Common.{◌≡◌, Bool, Decides, rules, arith, refl, sym, ap, subst}
use Rattle.std.proofs.lemmas.Bool.{false≢true}
use Rattle.std.proofs.lemmas.Bool.Decides.{Decides-and, Decides-at, Decides-eqb, Decides-like}
use Rattle.intervals.specs.rule.Bytes.{Range}
use Rattle.std.proofs.lemmas.Grind.{common_steps}
use Rattle.model.specs.declared.call.CallId.{CallId}
use Rattle.model.specs.declared.host.Host.{Host}
use Rattle.model.specs.declared.mode.Mode.{Mode}
use Rattle.model.specs.declared.mode.Mode.TheVariants.{Read, Write}
use Rattle.model.specs.declared.lock_info.LockInfo.{LockInfo}
use Rattle.model.specs.declared.op.Op.{Op}
use Rattle.model.specs.declared.op.Op.TheVariants.{Process, Close, Exit, Lock, Unlock}
use Rattle.model.specs.declared.op.ProcessCall.{ProcessCall}
use Rattle.model.specs.declared.op.ProcessCall.TheVariants.{Spawn, Fork, Open, Dup}
use Rattle.model.specs.declared.op.LockCall.{LockCall}
use Rattle.model.specs.contracts.op.OpPartialEq.TheImpl as derived_of_ops
use Rattle.model.specs.contracts.op.ProcessCallPartialEq.TheImpl as derived_of_process_calls
use Rattle.model.specs.contracts.op.LockCallPartialEq.TheImpl as derived_of_lock_calls
use Rattle.model.specs.declared.owner.Owner.{Owner}
use Rattle.model.specs.rule.Owners.{same_mode, same_owner}
use Rattle.model.proofs.OwnerLaws.{owner_exact, owner_refl}
pub use Rattle.model.proofs.OwnerLaws.{host_refl}
use Rattle.messages.specs.contracts.message.MessagePartialEq.TheImpl as derived
use Rattle.messages.specs.contracts.event.EventPartialEq.TheImpl as derived_of_events
use Rattle.messages.specs.contracts.event.NodeInputPartialEq.TheImpl as derived_of_node_inputs
use Rattle.messages.specs.contracts.event.ServerInputPartialEq.TheImpl as derived_of_server_inputs
use Rattle.messages.specs.contracts.event.MemberEventPartialEq.TheImpl as derived_of_member_events
use Rattle.messages.specs.rule.TokenRuns.{Wants, same_range}
use Rattle.messages.specs.declared.event.Event.{Event}
use Rattle.messages.specs.declared.event.Event.TheVariants.{AtNode, AtServer, Deliver, Member}
use Rattle.messages.specs.declared.event.NodeInput.{NodeInput}
use Rattle.messages.specs.declared.event.NodeInput.TheVariants.{Call, Interrupt, Retry}
use Rattle.messages.specs.declared.event.ServerInput.{ServerInput}
use Rattle.messages.specs.declared.event.ServerInput.TheVariants.{Resend, Learn}
use Rattle.messages.specs.declared.event.MemberEvent.{MemberEvent}
use Rattle.messages.specs.declared.event.MemberEvent.TheVariants.{Declare, Restart, FailServer, StartServer}
use Rattle.messages.specs.declared.message.Blocking.{Blocking}
use Rattle.messages.specs.declared.message.Blocking.TheVariants.{No, Yes}
use Rattle.messages.specs.declared.message.Message.{Message}
use Rattle.messages.specs.declared.message.Message.TheVariants.{Request, Grant, Revoke, Taken, Released, Conflict, Deny, Freed, Hello, Report}
use Rattle.messages.proofs.RunEquality.{runs_eq}
use Rattle.messages.proofs.SameRuns.{range_exact, range_refl, runs_decide}
use Rattle.messages.specs.rule.Messages.{same_call, same_wants, same_blocking, same_host, same_lock, same_message, SameMessageIsEquality}

-- a test that passes only equal values, and each value with itself, decides equality
exact_Decides : {A : Type 0} (same : A → A → Bool) → ((a b : A) → same a b ≡ true → a ≡ b) → ((a : A) → same a a ≡ true) → (a b : A) → Decides (same a b) (a ≡ b)
exact_Decides {A} same exact itself a b = (exact a b, λ e. subst (λ (x : A). same a x ≡ true) e (itself a))

-- the conjunction of two tests decides the conjunction of their statements
pub both : {P Q : Type 0} {x y : Bool} → Decides x P → Decides y Q → Decides (x && y) (P × Q)
both d k = Decides-and _ _ d k

-- the tests of a message's parts decide equality
mode_Decides : (a b : Mode) → Decides (same_mode a b) (a ≡ b)
mode_Decides Read Read = (λ h. refl, λ e. refl)
mode_Decides Write Write = (λ h. refl, λ e. refl)
mode_Decides _ _ = (λ h. absurd (false≢true h), λ e. cc)

blocking_Decides : (a b : Blocking) → Decides (same_blocking a b) (a ≡ b)
blocking_Decides No No = (λ h. refl, λ e. refl)
blocking_Decides Yes Yes = (λ h. refl, λ e. refl)
blocking_Decides _ _ = (λ h. absurd (false≢true h), λ e. cc)

range_Decides : (a b : Range) → Decides (same_range a b) (a ≡ b)
range_Decides = exact_Decides same_range range_exact range_refl

owner_Decides : (a b : Owner) → Decides (same_owner a b) (a ≡ b)
owner_Decides = exact_Decides same_owner owner_exact owner_refl

host_Decides : (a b : Host) → Decides (same_host a b) (a ≡ b)
host_Decides a b =
    Decides-like _ (λ (nodes, incarnations) i. record { node = nodes i; incarnation = incarnations i }) (λ e. (cc, cc))
    (both (Decides-eqb a.node b.node) (Decides-eqb a.incarnation b.incarnation))

call_Decides : (a b : CallId) → Decides (same_call a b) (a ≡ b)
call_Decides a b =
    Decides-like _ (λ (nodes, (incarnations, numbers)) i. record { node = nodes i; incarnation = incarnations i; number = numbers i }) (λ e. (cc, (cc, cc)))
    (both (Decides-eqb a.node b.node) (both (Decides-eqb a.incarnation b.incarnation) (Decides-eqb a.number b.number)))

wants_Decides : (a b : Wants) → Decides (same_wants a b) (a ≡ b)
wants_Decides a b =
    Decides-like _ (λ (needs, likes) i. record { required = needs i; desired = likes i }) (λ e. (cc, cc))
    (both (range_Decides a.required b.required) (range_Decides a.desired b.desired))

lock_Decides : (a b : LockInfo) → Decides (same_lock a b) (a ≡ b)
lock_Decides a b =
    Decides-like _ (λ (owners, (modes, spans)) i. record { owner = owners i; mode = modes i; span = spans i }) (λ e. (cc, (cc, cc)))
    (both (owner_Decides a.owner b.owner) (both (mode_Decides a.mode b.mode) (range_Decides a.span b.span)))

-- hosts and calls that the tests find alike are equal
pub host_exact : (a b : Host) → same_host a b ≡ true → a ≡ b
host_exact a b = (host_Decides a b).0

pub call_exact : (a b : CallId) → same_call a b ≡ true → a ≡ b
call_exact a b = (call_Decides a b).0

pub call_refl : (a : CallId) → same_call a a ≡ true
call_refl a = (call_Decides a a).1 refl

-- the test of messages decides equality
message_Decides : (a b : Message) → Decides (same_message a b) (a ≡ b)
message_Decides (Request f c u m w) (Request g d v n x) =
    Decides-like _ (λ (files, (calls, (blockings, (modes, wants)))) i. Request (files i) (calls i) (blockings i) (modes i) (wants i)) (λ e. (cc, (cc, (cc, (cc, cc)))))
    (both (Decides-eqb f g) (both (call_Decides c d) (both (blocking_Decides u v) (both (mode_Decides m n) (wants_Decides w x)))))
message_Decides (Grant f k c m s) (Grant g l d n t) =
    Decides-like _ (λ (files, (numbers, (calls, (modes, spans)))) i. Grant (files i) (numbers i) (calls i) (modes i) (spans i)) (λ e. (cc, (cc, (cc, (cc, cc)))))
    (both (Decides-eqb f g) (both (Decides-eqb k l) (both (call_Decides c d) (both (mode_Decides m n) (range_Decides s t)))))
message_Decides (Revoke f k p c m w) (Revoke g l q d n x) =
    Decides-like _ (λ (files, (numbers, (holders, (calls, (modes, wants))))) i. Revoke (files i) (numbers i) (holders i) (calls i) (modes i) (wants i)) (λ e. (cc, (cc, (cc, (cc, (cc, cc))))))
    (both (Decides-eqb f g) (both (Decides-eqb k l) (both (host_Decides p q) (both (call_Decides c d) (both (mode_Decides m n) (wants_Decides w x))))))
message_Decides (Taken f k c) (Taken g l d) =
    Decides-like _ (λ (files, (numbers, calls)) i. Taken (files i) (numbers i) (calls i)) (λ e. (cc, (cc, cc)))
    (both (Decides-eqb f g) (both (Decides-eqb k l) (call_Decides c d)))
message_Decides (Released f k p c s) (Released g l q d t) =
    Decides-like _ (λ (files, (numbers, (holders, (calls, spans)))) i. Released (files i) (numbers i) (holders i) (calls i) (spans i)) (λ e. (cc, (cc, (cc, (cc, cc)))))
    (both (Decides-eqb f g) (both (Decides-eqb k l) (both (host_Decides p q) (both (call_Decides c d) (range_Decides s t)))))
message_Decides (Conflict f k p c a) (Conflict g l q d b) =
    Decides-like _ (λ (files, (numbers, (holders, (calls, locks)))) i. Conflict (files i) (numbers i) (holders i) (calls i) (locks i)) (λ e. (cc, (cc, (cc, (cc, cc)))))
    (both (Decides-eqb f g) (both (Decides-eqb k l) (both (host_Decides p q) (both (call_Decides c d) (lock_Decides a b)))))
message_Decides (Deny f c p k a) (Deny g d q l b) =
    Decides-like _ (λ (files, (calls, (holders, (numbers, locks)))) i. Deny (files i) (calls i) (holders i) (numbers i) (locks i)) (λ e. (cc, (cc, (cc, (cc, cc)))))
    (both (Decides-eqb f g) (both (call_Decides c d) (both (host_Decides p q) (both (Decides-eqb k l) (lock_Decides a b)))))
message_Decides (Freed f p) (Freed g q) =
    Decides-like _ (λ (files, holders) i. Freed (files i) (holders i)) (λ e. (cc, cc))
    (both (Decides-eqb f g) (host_Decides p q))
message_Decides (Hello f k p) (Hello g l q) =
    Decides-like _ (λ (files, (numbers, holders)) i. Hello (files i) (numbers i) (holders i)) (λ e. (cc, (cc, cc)))
    (both (Decides-eqb f g) (both (Decides-eqb k l) (host_Decides p q)))
message_Decides (Report f k p r) (Report g l q s) =
    Decides-like _ (λ (files, (numbers, (holders, runs))) i. Report (files i) (numbers i) (holders i) (runs i)) (λ e. (cc, (cc, (cc, cc))))
    (both (Decides-eqb f g) (both (Decides-eqb k l) (both (host_Decides p q) (runs_decide r s))))
message_Decides _ _ = (λ h. absurd (false≢true h), λ e. cc)

-- messages compared by value are equal
pub same_message-is-equality : SameMessageIsEquality
same_message-is-equality a b = message_Decides a b

-- the derived `==` of messages compares them by value
pub message_eq : (a b : Message) → derived.ghosts.eq a b ≡ same_message a b
message_eq a b = search (rules, runs_eq)

-- the derived `==` of messages decides equality
pub message_eq-Decides : (a b : Message) → Decides (derived.ghosts.eq a b) (a ≡ b)
message_eq-Decides a b =
    let P : Bool → Type 0 = λ r. Decides r (a ≡ b) in
    subst P (sym (message_eq a b)) (same_message-is-equality a b)

-- the derived `==` of calls is equality
process_call_eq-Decides : (a b : ProcessCall) → Decides (derived_of_process_calls.ghosts.eq a b) (a ≡ b)
process_call_eq-Decides Spawn Spawn = (λ h. refl, λ e. refl)
process_call_eq-Decides (Fork child) (Fork other) = grind (arith, common_steps)
process_call_eq-Decides (Open file access) (Open other way) = grind (arith, common_steps)
process_call_eq-Decides (Dup fd) (Dup k) = grind (arith, common_steps)
process_call_eq-Decides _ _ = (λ h. absurd (false≢true h), λ e. cc)

lock_call_eq-Decides : (a b : LockCall) → Decides (derived_of_lock_calls.ghosts.eq a b) (a ≡ b)
lock_call_eq-Decides a b = grind (arith, common_steps)

pub op_eq-Decides : (a b : Op) → Decides (derived_of_ops.ghosts.eq a b) (a ≡ b)
op_eq-Decides (Process a) (Process b) = (λ h. ap Process ((process_call_eq-Decides a b).0 h), λ e. (process_call_eq-Decides a b).1 (cc))
op_eq-Decides (Close fd) (Close k) = grind (arith, common_steps)
op_eq-Decides Exit Exit = (λ h. refl, λ e. refl)
op_eq-Decides (Lock a) (Lock b) = (λ h. ap Lock ((lock_call_eq-Decides a b).0 h), λ e. (lock_call_eq-Decides a b).1 (cc))
op_eq-Decides (Unlock fd kind start len) (Unlock k j s l) = grind (arith, common_steps)
op_eq-Decides _ _ = (λ h. absurd (false≢true h), λ e. cc)

calls : (pid p : ℕ) (op o : Op) → derived_of_node_inputs.ghosts.eq (Call pid op) (Call p o) ≡ ((pid == p) && derived_of_ops.ghosts.eq op o)
calls pid p op o = search rules

-- the derived `==` of what comes to actors is equality
node_input_eq-Decides : (a b : NodeInput) → Decides (derived_of_node_inputs.ghosts.eq a b) (a ≡ b)
node_input_eq-Decides (Call pid op) (Call p o) = Decides-at _ _ (calls pid p op o) (
    Decides-like _ (λ (pids, ops) i. Call (pids i) (ops i)) (λ e. (cc, cc))
    (both (Decides-eqb pid p) (op_eq-Decides op o)))
node_input_eq-Decides (Interrupt pid) (Interrupt p) = grind (arith, common_steps)
node_input_eq-Decides (Retry pid) (Retry p) = grind (arith, common_steps)
node_input_eq-Decides _ _ = (λ h. absurd (false≢true h), λ e. cc)

server_input_eq-Decides : (a b : ServerInput) → Decides (derived_of_server_inputs.ghosts.eq a b) (a ≡ b)
server_input_eq-Decides Resend Resend = (λ h. refl, λ e. refl)
server_input_eq-Decides (Learn node incarnation) (Learn n i) = grind (arith, common_steps)
server_input_eq-Decides _ _ = (λ h. absurd (false≢true h), λ e. cc)

member_event_eq-Decides : (a b : MemberEvent) → Decides (derived_of_member_events.ghosts.eq a b) (a ≡ b)
member_event_eq-Decides (Declare node) (Declare n) = grind (arith, common_steps)
member_event_eq-Decides (Restart node) (Restart n) = grind (arith, common_steps)
member_event_eq-Decides (FailServer file) (FailServer f) = grind (arith, common_steps)
member_event_eq-Decides (StartServer file) (StartServer f) = grind (arith, common_steps)
member_event_eq-Decides _ _ = (λ h. absurd (false≢true h), λ e. cc)

at_nodes : (node n : ℕ) (input other : NodeInput) → derived_of_events.ghosts.eq (AtNode node input) (AtNode n other) ≡ ((node == n) && derived_of_node_inputs.ghosts.eq input other)
at_nodes node n input other = search rules

at_servers : (file f : ℕ) (input other : ServerInput) → derived_of_events.ghosts.eq (AtServer file input) (AtServer f other) ≡ ((file == f) && derived_of_server_inputs.ghosts.eq input other)
at_servers file f input other = search rules

-- the derived `==` of events decides equality
pub event_eq-Decides : (a b : Event) → Decides (derived_of_events.ghosts.eq a b) (a ≡ b)
event_eq-Decides (AtNode node input) (AtNode n other) = Decides-at _ _ (at_nodes node n input other) (
    Decides-like _ (λ (nodes, inputs) i. AtNode (nodes i) (inputs i)) (λ e. (cc, cc))
    (both (Decides-eqb node n) (node_input_eq-Decides input other)))
event_eq-Decides (AtServer file input) (AtServer f other) = Decides-at _ _ (at_servers file f input other) (
    Decides-like _ (λ (files, inputs) i. AtServer (files i) (inputs i)) (λ e. (cc, cc))
    (both (Decides-eqb file f) (server_input_eq-Decides input other)))
event_eq-Decides (Deliver m) (Deliver n) = (λ h. ap Deliver ((message_eq-Decides m n).0 h), λ e. (message_eq-Decides m n).1 (cc))
event_eq-Decides (Member event) (Member other) = (λ h. ap Member ((member_event_eq-Decides event other).0 h), λ e. (member_event_eq-Decides event other).1 (cc))
event_eq-Decides _ _ = (λ h. absurd (false≢true h), λ e. cc)
