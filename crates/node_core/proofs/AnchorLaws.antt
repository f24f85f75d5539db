-- Whatever a node does, no lock of it outlives its descriptors.
use Rattle.std.specs.Prelude.{◌≡◌, ℕ, zero, suc, ◌+◌, ◌==◌, ◌++◌, ◌∷◌, [], ◌&&◌, nat_le, nat_lt, Bool, true, false, not, if◌then◌else◌, List, All, filter, find, is_some, Option, Some, None, Result, Ok, Err, IfOk, IfSome, refl}
use Rattle.std.proofs.Common.{ap, sym, subst, ◌∙◌, get_or, inl, inr}
use Rattle.std.proofs.lemmas.Bool.{and_parts, eq-eqb, both_ways, cases_Bool, not-true}
use Rattle.std.proofs.lemmas.List.Elements.{All-nil, All-cons, All-push, All-filter, All-weaker, filter_passes}
use Rattle.intervals.specs.rule.Segment.{seg}
use Rattle.model.specs.declared.lock_info.LockInfo.{LockInfo}
use Rattle.model.specs.declared.mode.Mode.{Mode}
use Rattle.model.specs.declared.op.Op.{Op}
use Rattle.model.specs.declared.op.Op.TheVariants as op
use Rattle.model.specs.declared.op.LockCall.{LockCall}
use Rattle.model.specs.declared.owner.Kind.{Kind}
use Rattle.model.specs.declared.owner.Kind.TheVariants.{OfProcess, OfDescription}
use Rattle.model.specs.declared.owner.Owner.{Owner}
use Rattle.model.specs.declared.process.Process.{Process}
use Rattle.model.specs.declared.reply.Reply.{Reply}
use Rattle.model.specs.declared.reply.Reply.TheVariants.{Free, NoProcess}
use Rattle.model.specs.rule.Limits.{IsNumber, most_processes}
use Rattle.model.specs.rule.Locks.{no_locks, lowest_blocker}
use Rattle.lock_table.specs.rule.Tables.{held}
use Rattle.descriptors.specs.rule.Rows.{processes}
use Rattle.model.specs.rule.Descriptors.{Processes, no_processes, is_of_file, has_open, after}
use Rattle.model.specs.rule.Table.{Table, LockTarget, empty_table, around, descriptor, is_running, beside, target, need_of, call_target, target_at, owner_of, lock_within, after_unlock, after_close, after_exit}
use Rattle.model.specs.rule.Anchors.{Hangs, IsOwn}
use Rattle.model.proofs.Refusals.{if_then}
use Rattle.model.proofs.Targets.{IsOwner, IsTarget, owner_is, passes_at, target_span}
use Rattle.model.proofs.NodeTables.{GoesOn, Follows, same_goes_on, own_empty, call_follows, unlock_follows, lock_processes, lock_own}
use Rattle.model.proofs.Closings.{close_follows, exit_follows}
use Rattle.token_set.specs.rule.Tokens.{covers}
use Rattle.messages.specs.declared.message.Message.{Message}
use Rattle.messages.specs.declared.message.Message.TheVariants.{Grant, Revoke, Deny, Freed, Hello, Report}
use Rattle.messages.specs.rule.Messages.{runs_of, addressee, host_of, file_of, is_within, greatest_number}
use Rattle.messages.specs.declared.refusal.StepError.{StepError}
use Rattle.messages.specs.declared.refusal.StepError.TheVariants.{Stranger, Busy, Spent}
use Rattle.messages.specs.declared.outcome.Outcome.{Outcome}
use Rattle.messages.specs.declared.event.NodeInput.TheVariants as input
use Rattle.node_core.specs.declared.event.NodeEvent.{NodeEvent}
use Rattle.node_core.specs.declared.event.NodeEvent.TheVariants as event
use Rattle.model.specs.declared.op.LockCommand.{LockCommand}
use Rattle.model.specs.declared.op.LockCommand.TheVariants as lock_command
use Rattle.node_core.specs.declared.open_call.OpenCall.{OpenCall}
use Rattle.node_core.specs.rule.State.{NodeState, Effect, answered, quiet, sent, outcome, with_file, without_call_of, open_call, open_call_of, host, process, target_of}
use Rattle.node_core.specs.rule.Try.{settled, requested, refusal_of, answered_if, may_free, with_freed, with_freed_of, locked_by, answered_here, tried, tried_against, tried_if}
use Rattle.node_core.specs.rule.Calls.{is_pid, is_in_shape, is_busy, lock_call, unlock_call, shut_by, called, after_call, call_rule}
use Rattle.node_core.specs.rule.Commands.{in_epoch, remembered, in_order, granted, revoked, denied, delivered, is_node, deliver_rule}
use Rattle.node_core.specs.rule.Interrupts.{interruption_of, interrupted, interrupt_rule}
use Rattle.node_core.specs.rule.Retries.{retry_rule}
use Rattle.node_core.specs.rule.Node.{node_rule}
use Rattle.node_core.specs.rule.Anchors.{Waits, AreAnchored, IsAnchored}
use Rattle.node_core.specs.rule.Parts.{NodeParts, table_of}
use Rattle.node_core.proofs.NodeLaws.{find-own, if-both, within, possible_call}

-- the lock of an open call would depend on a descriptor that is open
waits-hangs : (t : Table) (n i : ℕ) (c : OpenCall) → Waits t n i c → Hangs (t.on n i) c.file c.owner.kind c.owner.number
waits-hangs t n i c w = subst (λ (o : Owner). Hangs (t.on n i) c.file o.kind o.number) w.owner (by w.kind)
  where
    by : (k : Kind) → Hangs (t.on n i) c.file (owner_of (record { node = n; incarnation = i; pid = c.pid }) k w.opened).kind (owner_of (record { node = n; incarnation = i; pid = c.pid }) k w.opened).number
    by OfProcess = (w.fd, w.opened, w.there, w.file)
    by OfDescription = (c.pid, w.fd, w.opened, w.there, refl, w.file)

-- an open call is about an owner and bytes that the node can have
waits-target : (t : Table) (n i : ℕ) (c : OpenCall) → IsOwn t n i → Waits t n i c → IsTarget n i (target_of c)
waits-target t n i c own w = record {
  owner = subst (IsOwner n i) w.owner (owner_is (record { node = n; incarnation = i; pid = c.pid }) w.kind w.opened w.pid_in (own.descriptions c.pid w.fd w.opened w.there));
  span = record { ordered = w.span.ordered; ends = w.span.ends };
}

-- an open call keeps its descriptor while its process goes on
waits-on : (t u : Table) (n i : ℕ) (c : OpenCall) → GoesOn (t.on n i) (u.on n i) c.pid → Waits t n i c → Waits u n i c
waits-on t u n i c goes w = record {
  pid_in = w.pid_in;
  kind = w.kind;
  fd = w.fd;
  opened = w.opened;
  there = goes.opened w.fd w.opened w.there;
  file = w.file;
  owner = w.owner;
  span = w.span;
}

-- a call that passes its tests waits
found-waits : (t : Table) (n i pid number : ℕ) (call : LockCall) (c : LockTarget) → IsNumber most_processes pid → call_target t (record { node = n; incarnation = i; pid = pid }) call ≡ Ok c → Waits t n i (record { number = number; pid = pid; lock_command = call.command; file = c.file; owner = c.owner; mode = call.mode; span = c.span })
found-waits t n i pid number call c pid_in found =
    let p : Process = record { node = n; incarnation = i; pid = pid } in
    let need = need_of call.command call.mode in
    let runs = if_then (is_running t p) (target_at p need call.kind (descriptor t p call.fd) (seg call.start call.len)) c NoProcess found in
    let passes = passes_at p need call.kind (descriptor t p call.fd) (seg call.start call.len) c runs.1 in
    let span = target_span t p need call.fd call.kind call.start call.len c found in
    record {
      pid_in = pid_in;
      kind = call.kind;
      fd = call.fd;
      opened = passes.what;
      there = passes.there;
      file = ap (λ (x : LockTarget). x.file) passes.is;
      owner = ap (λ (x : LockTarget). x.owner) passes.is;
      span = record { ordered = span.ordered; ends = span.ends };
    }

-- all holds still if fewer calls are open
fewer-anchored : (t : Table) (n i : ℕ) (calls : List OpenCall) (test : OpenCall → Bool) → AreAnchored t n i calls → AreAnchored t n i (filter test calls)
fewer-anchored t n i calls test h = record { own = h.own; waiting = All-filter test (Waits t n i) calls h.waiting }

-- none of the open calls is of the process
abbrev pub AreOthers : List OpenCall → ℕ → Type 0
AreOthers calls pid = All (λ (c : OpenCall). c.pid ≡ pid → ⊥) calls

-- all holds still after a call of another process
follows-anchored : (t u : Table) (n i pid : ℕ) (calls : List OpenCall) → Follows t u n i pid → AreOthers calls pid → All (Waits t n i) calls → AreAnchored u n i calls
follows-anchored t u n i pid calls follows others waiting = record {
  own = follows.own;
  waiting = λ k d lt. waits-on t u n i (get_or calls k d) (follows.others (get_or calls k d).pid (others k d lt)) (waiting k d lt);
}

answered-anchored : (s : NodeState) (number : ℕ) (reply : Reply) → IsAnchored s → IsAnchored (answered s number reply).state
answered-anchored s number reply h = fewer-anchored s.table s.node s.incarnation s.pending (λ c. not (c.number == number)) h

answered_if-anchored : (s : NodeState) (number : ℕ) (x : Option Reply) → IsAnchored s → IsAnchored (answered_if s number x).state
answered_if-anchored s number None h = h
answered_if-anchored s number (Some reply) h = answered-anchored s number reply h

settled-anchored : (s : NodeState) (number pid : ℕ) (answer : Table × Reply) → Follows s.table answer.0 s.node s.incarnation pid → AreOthers s.pending pid → IsAnchored s → IsAnchored (settled s number answer).state
settled-anchored s number pid answer follows others h =
    fewer-anchored answer.0 s.node s.incarnation s.pending (λ c. not (c.number == number)) (follows-anchored s.table answer.0 s.node s.incarnation pid s.pending follows others h.waiting)

-- all holds still after a Freed is sent, or none
freed-anchored : (file : ℕ) (e : Effect) → IsAnchored e.state → IsAnchored (with_freed file e).state
freed-anchored file e h =
    let told : Effect = record { state = with_file e.state file (record (e.state.files file) { owes_freed = false }); reply = e.reply; sends = e.sends ++ Freed file (host e.state) ∷ [] } in
    elim (e.state.files file).owes_freed as (λ b. IsAnchored (if b then told else e).state) [ true ↦ h | false ↦ h ]

freed_of-anchored : (passes : ℕ → Bool) (n : ℕ) (e : Effect) → IsAnchored e.state → IsAnchored (with_freed_of passes n e).state
unfolding with_freed_of
freed_of-anchored passes zero e h = h
freed_of-anchored passes (suc n) e h =
    let before = with_freed_of passes n e in
    let so_far = freed_of-anchored passes n e h in
    elim (passes (suc n)) as (λ b. IsAnchored (if b then with_freed (suc n) before else before).state) [ true ↦ freed-anchored (suc n) before so_far | false ↦ so_far ]

shut-anchored : (s : NodeState) (number : ℕ) (passes : ℕ → Bool) (answer : Table × Reply) → IsAnchored (settled s number answer).state → IsAnchored (shut_by s number passes answer).state
shut-anchored s number passes answer h =
    let e = settled s number answer in
    elim (may_free None answer.1) as (λ b. IsAnchored (if b then with_freed_of passes s.shape.files e else e).state) [ true ↦ freed_of-anchored passes s.shape.files e h | false ↦ h ]

locked-anchored : (s : NodeState) (number : ℕ) (c : LockTarget) (mode : Option Mode) → IsAnchored (settled s number (lock_within s.table c mode)).state → IsAnchored (locked_by s number c mode).state
locked-anchored s number c mode h =
    let answer = lock_within s.table c mode in
    let e = settled s number answer in
    elim (may_free mode answer.1) as (λ b. IsAnchored (if b then with_freed c.file e else e).state) [ true ↦ freed-anchored c.file e h | false ↦ h ]

unlocked-anchored : (s : NodeState) (number : ℕ) (found : Result LockTarget Reply) → IsAnchored (settled s number (after_unlock s.table found)).state → IsAnchored (unlock_call s number found).state
unlocked-anchored s number (Err refusal) h = h
unlocked-anchored s number (Ok c) h = locked-anchored s number c None h

-- all holds still after an open call gets its lock
set-anchored : (s : NodeState) (c : OpenCall) → IsAnchored s → Waits s.table s.node s.incarnation c → IsAnchored (settled s c.number (lock_within s.table (target_of c) (Some c.mode))).state
set-anchored s c h w =
    let n = s.node in
    let i = s.incarnation in
    let u = (lock_within s.table (target_of c) (Some c.mode)).0 in
    let same = ap (λ (on : ℕ → ℕ → Processes). on n i) (lock_processes s.table (target_of c) (Some c.mode)) in
    fewer-anchored u n i s.pending (λ d. not (d.number == c.number)) (record {
      own = lock_own s.table n i (target_of c) (Some c.mode) (waits-target s.table n i c h.own w) (waits-hangs s.table n i c w) h.own;
      waiting = λ k d lt. waits-on s.table u n i (get_or s.pending k d) (same_goes_on (s.table.on n i) (u.on n i) (get_or s.pending k d).pid same) (h.waiting k d lt);
    })

here-anchored : (s : NodeState) (c : OpenCall) (i : LockCommand) → IsAnchored s → Waits s.table s.node s.incarnation c → IsAnchored (answered_here s c i).state
here-anchored s c lock_command.Set h w = locked-anchored s c.number (target_of c) (Some c.mode) (set-anchored s c h w)
here-anchored s c lock_command.Wait h w = locked-anchored s c.number (target_of c) (Some c.mode) (set-anchored s c h w)
here-anchored s c lock_command.Query h w = answered-anchored s c.number Free h

-- all holds still after an open call is tried
tried-anchored : (s : NodeState) (c : OpenCall) → IsAnchored s → Waits s.table s.node s.incarnation c → IsAnchored (tried s c).state
tried-anchored s c h w = elim (lowest_blocker (s.table.locks c.file) c.owner c.span c.mode) as (λ x. IsAnchored (tried_against s c x).state) [
  | Some lock ↦ answered_if-anchored s c.number (refusal_of c.lock_command lock) h
  | None ↦ elim (covers (s.files c.file).token c.span c.mode) as (λ b. IsAnchored (if b then answered_here s c c.lock_command else requested s c).state) [
    | true ↦ here-anchored s c c.lock_command h w
    | false ↦ h
  ]
]

tried_if-anchored : (s : NodeState) (x : Option OpenCall) → IsAnchored s → IfSome x (Waits s.table s.node s.incarnation) → IsAnchored (tried_if s x).state
tried_if-anchored s None h w = h
tried_if-anchored s (Some c) h w = tried-anchored s c h w

lock_call-anchored : (s : NodeState) (number pid : ℕ) (its : LockCommand) (mode : Mode) (found : Result LockTarget Reply) → ((c : LockTarget) → found ≡ Ok c → Waits s.table s.node s.incarnation (record { number = number; pid = pid; lock_command = its; file = c.file; owner = c.owner; mode = mode; span = c.span })) → IsAnchored s → IsAnchored (lock_call s number pid its mode found).state
lock_call-anchored s number pid its mode (Err refusal) waits h = answered-anchored s number refusal h
lock_call-anchored s number pid its mode (Ok t) waits h =
    let c : OpenCall = record { number = number; pid = pid; lock_command = its; file = t.file; owner = t.owner; mode = mode; span = t.span } in
    let w = waits t refl in
    tried-anchored (record s { pending = s.pending ++ c ∷ [] }) c (record { own = h.own; waiting = All-push (Waits s.table s.node s.incarnation) s.pending c h.waiting w }) w

-- none of the open calls is of a process that has no open call
pub idle-others : (calls : List OpenCall) (pid : ℕ) → is_some (find (λ (c : OpenCall). c.pid == pid) calls) ≡ false → AreOthers calls pid
idle-others [] pid h = All-nil (λ (c : OpenCall). c.pid ≡ pid → ⊥)
idle-others (d ∷ ds) pid h =
    let out : Bool → Option OpenCall = λ b. if b then Some d else find (λ (c : OpenCall). c.pid == pid) ds in
    elim (cases_Bool (d.pid == pid)) [
      | inl same ↦ absurd (let found : is_some (out true) ≡ false = ap (λ b. is_some (out b)) (sym same) ∙ h in cc)
      | inr other ↦ All-cons (λ (c : OpenCall). c.pid ≡ pid → ⊥) d ds (λ is. both_ways (d.pid == pid) other (eq-eqb d.pid pid is)) (idle-others ds pid (ap (λ b. is_some (out b)) (sym other) ∙ h))
    ]

-- the process has no open call, or it exits
abbrev MayGo : NodeState → ℕ → Op → Type 0
MayGo s pid op.Exit = Unit {0}
MayGo s pid _ = AreOthers s.pending pid

not_busy : (s : NodeState) (pid : ℕ) (op : Op) → is_busy s pid op ≡ false → MayGo s pid op
not_busy s pid op.Exit h = tt
not_busy s pid _ h = idle-others s.pending pid h

-- a call is taken
called-anchored : (s : NodeState) (number pid : ℕ) (op : Op) → IsNumber most_processes pid → is_in_shape s.shape op ≡ true → MayGo s pid op → IsAnchored s → IsAnchored (called s number pid op).state
called-anchored s number pid (op.Process call) pid_in known others h =
    settled-anchored s number pid (beside s.table (process s pid) (after (around s.table (process s pid)) pid call)) (call_follows s.table s.node s.incarnation pid h.own call pid_in (possible_call s.shape call known)) others h
called-anchored s number pid (op.Close fd) pid_in known others h =
    let answer = after_close s.table (process s pid) fd in
    shut-anchored s number (λ file. is_of_file file (descriptor s.table (process s pid) fd)) answer (settled-anchored s number pid answer (close_follows s.table s.node s.incarnation pid fd h.own) others h)
called-anchored s number pid op.Exit pid_in known others h =
    let d = without_call_of s pid in
    let test : OpenCall → Bool = λ c. not (c.pid == pid) in
    let answer = after_exit s.table (process s pid) in
    let gone = All-weaker (λ c. test c ≡ true) (λ (c : OpenCall). c.pid ≡ pid → ⊥) not_its d.pending (filter_passes test s.pending) in
    let fewer = fewer-anchored s.table s.node s.incarnation s.pending test h in
    shut-anchored d number (has_open (around s.table (process s pid)) pid) answer (settled-anchored d number pid answer (exit_follows s.table s.node s.incarnation pid h.own) gone fewer)
  where
    not_its : (c : OpenCall) → not (c.pid == pid) ≡ true → c.pid ≡ pid → ⊥
    not_its c e same = both_ways (c.pid == pid) (not-true (c.pid == pid) e) (eq-eqb c.pid pid same)
called-anchored s number pid (op.Lock call) pid_in known others h =
    lock_call-anchored s number pid call.command call.mode (call_target s.table (process s pid) call) (λ c found. found-waits s.table s.node s.incarnation pid number call c pid_in found) h
called-anchored s number pid (op.Unlock fd kind start len) pid_in known others h =
    let found = target s.table (process s pid) None fd kind start len in
    unlocked-anchored s number found (settled-anchored s number pid (after_unlock s.table found) (unlock_follows s.table s.node s.incarnation pid fd kind start len pid_in h.own) others h)

-- all holds after the step, if it isn't refused
abbrev Leaves : Result (NodeState × Outcome) StepError → Type 0
Leaves r = IfOk r (λ done. IsAnchored done.0)

call-anchored : (s : NodeState) (pid : ℕ) (op : Op) → IsAnchored s → Leaves (call_rule s pid op)
call-anchored s pid op h =
    let known = is_pid pid && is_in_shape s.shape op in
    let spent : Bool → Result (NodeState × Outcome) StepError = λ b. if b then Ok (after_call s pid op) else Err Spent in
    let busy : Bool → Result (NodeState × Outcome) StepError = λ b. if b then Err Busy else spent (nat_lt s.calls greatest_number) in
    elim known as (λ b. known ≡ b → Leaves (if not b then Err Stranger else busy (is_busy s pid op))) [
      | false ↦ λ none. tt
      | true ↦ λ both.
          let parts = and_parts (is_pid pid) (is_in_shape s.shape op) both in
          elim (is_busy s pid op) as (λ b. is_busy s pid op ≡ b → Leaves (busy b)) [
            | true ↦ λ waits. tt
            | false ↦ λ free. elim (nat_lt s.calls greatest_number) as (λ b. Leaves (spent b)) [
              | true ↦ called-anchored (record s { calls = s.calls + 1 }) (s.calls + 1) pid op (within most_processes pid parts.0) parts.1 (not_busy s pid op free) h
              | false ↦ tt
            ]
          ] refl
    ] refl

-- all holds still after the answer to a command is sent again, or none
remembered-anchored : (s : NodeState) (x : Option Message) → IsAnchored s → IsAnchored (remembered s x).state
remembered-anchored s None h = h
remembered-anchored s (Some m) h = h

in_order-anchored : (s : NodeState) (file number : ℕ) (e : Effect) → IsAnchored s → IsAnchored e.state → IsAnchored (in_order s file number e).state
in_order-anchored s file number e h after =
    let again : Bool → Effect = λ b. if b then remembered s (s.files file).answer else quiet s in
    let repeats = (number == (s.files file).last) && nat_le 1 number in
    let rest = elim repeats as (λ b. IsAnchored (again b).state) [ true ↦ remembered-anchored s (s.files file).answer h | false ↦ h ] in
    elim (number == (s.files file).last + 1) as (λ b. IsAnchored (if b then e else again repeats).state) [ true ↦ after | false ↦ rest ]

denied-anchored : (s : NodeState) (lock : LockInfo) (x : Option OpenCall) → IsAnchored s → IsAnchored (denied s lock x).state
denied-anchored s lock None h = h
denied-anchored s lock (Some c) h = answered_if-anchored s c.number (refusal_of c.lock_command lock) h

-- all holds still after a message is taken
delivered-anchored : (s : NodeState) (m : Message) → IsAnchored s → IsAnchored (delivered s m).state
delivered-anchored s (Grant file number call mode span) h =
    let waiting = find-own (Waits s.table s.node s.incarnation) (λ c. c.number == call.number) s.pending h.waiting in
    let t = in_epoch s file number in
    in_order-anchored t file number (granted t file number call mode span) h (tried_if-anchored _ (open_call s call.number) h waiting)
delivered-anchored s (Revoke file number holder call mode wanted) h =
    let t = in_epoch s file number in
    in_order-anchored t file number (revoked t file number call mode wanted) h h
delivered-anchored s (Hello file number holder) h =
    let t = in_epoch s file number in
    elim (number == (t.files file).last) as (λ b. IsAnchored (if b then sent t (Report file number (host t) (runs_of (t.files file).token)) else quiet t).state) [ true ↦ h | false ↦ h ]
delivered-anchored s (Deny file call holder number lock) h = denied-anchored s lock (open_call s call.number) h
delivered-anchored s _ h = h

message-anchored : (s : NodeState) (m : Message) → IsAnchored s → Leaves (deliver_rule s m)
message-anchored s m h =
    let here : Bool → Result (NodeState × Outcome) StepError = λ b. if b then Ok (outcome None (delivered s m)) else Ok (outcome None (quiet s)) in
    let now = (host_of m).incarnation == s.incarnation in
    let taken = elim now as (λ b. Leaves (here b)) [ true ↦ delivered-anchored s m h | false ↦ h ] in
    elim (is_node s.node (addressee m) && is_within s.shape.files (file_of m)) as (λ b. Leaves (if not b then Err Stranger else here now)) [ true ↦ taken | false ↦ tt ]

interrupted-anchored : (s : NodeState) (x : Option OpenCall) → IsAnchored s → IsAnchored (interrupted s x).state
interrupted-anchored s None h = h
interrupted-anchored s (Some c) h = answered_if-anchored s c.number (interruption_of c.lock_command) h

interrupt-anchored : (s : NodeState) (pid : ℕ) → IsAnchored s → Leaves (interrupt_rule s pid)
interrupt-anchored s pid h =
    elim (is_pid pid) as (λ b. Leaves (if b then Ok (outcome None (interrupted s (open_call_of s pid))) else Err Stranger)) [ true ↦ interrupted-anchored s (open_call_of s pid) h | false ↦ tt ]

retry-anchored : (s : NodeState) (pid : ℕ) → IsAnchored s → Leaves (retry_rule s pid)
retry-anchored s pid h =
    let waiting = find-own (Waits s.table s.node s.incarnation) (λ c. c.pid == pid) s.pending h.waiting in
    elim (is_pid pid) as (λ b. Leaves (if b then Ok (outcome None (tried_if s (open_call_of s pid))) else Err Stranger)) [ true ↦ tried_if-anchored s (open_call_of s pid) h waiting | false ↦ tt ]

-- all holds still after each event
pub rule-anchored : (s : NodeState) (e : NodeEvent) → IsAnchored s → IfOk (node_rule s e) (λ done. IsAnchored done.0)
rule-anchored s (event.Input (input.Call pid op)) h = call-anchored s pid op h
rule-anchored s (event.Deliver m) h = message-anchored s m h
rule-anchored s (event.Input (input.Interrupt pid)) h = interrupt-anchored s pid h
rule-anchored s (event.Input (input.Retry pid)) h = retry-anchored s pid h

-- all holds of a node that begins
pub first_anchored : (p : NodeParts) → processes p.processes ≡ no_processes → held p.locks ≡ no_locks → p.pending ≡ [] → AreAnchored (table_of p) p.node p.incarnation p.pending
first_anchored p none free idle =
    let empty : table_of p ≡ empty_table p.locks.limit = λ i. record { limit = p.locks.limit; on = λ n k. if-both ((n == p.node) && (k == p.incarnation)) (processes p.processes) no_processes none i; locks = free i } in
    subst (λ (t : Table). AreAnchored t p.node p.incarnation p.pending) (sym empty)
    (subst (AreAnchored (empty_table p.locks.limit) p.node p.incarnation) (sym idle) (record { own = own_empty p.locks.limit p.node p.incarnation; waiting = All-nil (Waits (empty_table p.locks.limit) p.node p.incarnation) }))
