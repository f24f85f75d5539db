-- The calls of a node: it answers as its own table may, or leaves a call open.
use Rattle.std.proofs.Common.{◌≡◌, ℕ, Bool, true, false, not, if◌then◌else◌, ◌==◌, ◌⊎◌, inl, inr, refl, sym, ◌∙◌, ap, subst, ℤ, nat_le, List, [], ◌∷◌, ◌++◌, filter, get_or, All, Contains, Option, Some, None, MatchOption, Result, Ok, Err}
use Rattle.std.proofs.lemmas.Bool.{eq-eqb, both_ways, not-true}
use Rattle.std.proofs.lemmas.Option.{none-some, same_Some}
use Rattle.std.proofs.lemmas.List.Elements.{All-filter, All-weaker, All-same, All-contains, All-contains_itself, Contains-push_cases, filter_passes}
use Rattle.model.specs.declared.mode.Mode.{Mode}
use Rattle.model.specs.declared.owner.Kind.{Kind}
use Rattle.model.specs.declared.lock_info.LockInfo.{LockInfo}
use Rattle.model.specs.declared.process.Process.{Process}
use Rattle.model.specs.declared.call.CallId.{CallId}
use Rattle.model.specs.declared.op.Op.{Op}
use Rattle.model.specs.declared.op.Op.TheVariants as op
use Rattle.model.specs.declared.op.LockCommand.{LockCommand}
use Rattle.model.specs.declared.op.LockCommand.TheVariants as lock_command
use Rattle.model.specs.declared.reply.Reply.{Reply}
use Rattle.model.specs.declared.reply.Reply.TheVariants.{Done, Again, NoLocks, Free, Blocked, Interrupted}
use Rattle.model.specs.rule.Limits.{IsNumber, most_processes}
use Rattle.model.specs.rule.Locks.{IsOfNode, IsFree, IsLowestBlocker, Blocks, lowest_blocker}
use Rattle.model.specs.rule.Anchors.{Hangs, IsOwn}
use Rattle.model.proofs.BlockerLaws.{lowest_is_lowest}
use Rattle.model.proofs.Targets.{IsTarget}
use Rattle.model.proofs.Hanging.{target_hangs}
use Rattle.model.proofs.NodeTables.{GoesOn, same_goes_on, Follows, call_follows, unlock_follows, lock_processes, lock_own, target_own}
use Rattle.model.proofs.Closings.{close_follows, exit_follows}
use Rattle.model.specs.rule.Descriptors.{Processes, is_of_file, has_open, after}
use Rattle.model.specs.rule.Table.{Table, LockTarget, around, descriptor, beside, target, need_of, call_target, lock_within, locked, regions_with, after_unlock, after_close, after_exit}
use Rattle.model.specs.rule.Step.{Step, SetStep, WaitStep, QueryStep, LockStep, Is, AfterTests, Unblocked}
use Rattle.token_set.specs.rule.Tokens.{Token, covers}
use Rattle.messages.specs.declared.message.Message.TheVariants.{Freed}
use Rattle.node_core.specs.declared.open_call.OpenCall.{OpenCall}
use Rattle.node_core.specs.rule.State.{NodeState, Effect, answered, without_call, without_call_of, with_file, host, process, id_of, target_of}
use Rattle.node_core.specs.rule.Try.{settled, requested, refusal_of, answered_if, may_free, with_freed, locked_by, answered_here, tried, tried_against}
use Rattle.node_core.specs.rule.Calls.{is_in_shape, is_busy, called, lock_call, unlock_call, shut_by}
use Rattle.node_core.proofs.NodeLaws.{possible_call}
use Rattle.node_core.proofs.AnchorLaws.{idle-others}
use Rattle.cluster_core.specs.rule.Evidence.{IsAbout}
use Rattle.cluster_core.proofs.common.Choices.{at_number}
use Rattle.cluster_core.proofs.common.Refusals.{ok_is}
use Rattle.cluster_core.proofs.common.Lists.{All-both}
use Rattle.cluster_core.proofs.steps.NodeSteps.{shut_keeps, answered_if_either}

-- the command of an open call and its operation
abbrev pub IsFor : LockCommand → Op → Type 0
IsFor command (op.Lock call) = call.command ≡ command
IsFor command _ = ⊥

-- the open call is this call of its process, and passes its tests
pub record IsReady (t : Table) (p : Process) (op : Op) (c : OpenCall) : Type 0 where
  pub is_for : IsFor c.lock_command op
  pub passes : IsAbout t p op c.mode (target_of c)

-- a call has at most one target
pub about_one : (t : Table) (p : Process) (op : Op) (m n : Mode) (c d : LockTarget) → IsAbout t p op m c → IsAbout t p op n d → (m ≡ n) × (c ≡ d)
about_one t p (op.Lock call) m n c d a b = (sym a.0 ∙ b.0, ok_is c d (sym a.1 ∙ b.1))
about_one t p _ m n c d a b = absurd a

-- the process finds the target in the table
pub record Finds (t : Table) (p : Process) (c : LockTarget) : Type 0 where
  pub need : Option Mode
  pub fd : ℕ
  pub kind : Kind
  pub start : ℤ
  pub len : ℤ
  pub found : target t p need fd kind start len ≡ Ok c

pub about_finds : (t : Table) (p : Process) (op : Op) (mode : Mode) (c : LockTarget) → IsAbout t p op mode c → Finds t p c
about_finds t p (op.Lock call) mode c a = record { need = need_of call.command call.mode; fd = call.fd; kind = call.kind; start = call.start; len = call.len; found = a.1 }
about_finds t p _ mode c a = absurd a

-- a call has the same target where its process finds the same
pub about_maps : (t u : Table) (p : Process) (op : Op) (mode : Mode) (c : LockTarget) → ((need : Option Mode) (fd : ℕ) (kind : Kind) (start len : ℤ) → target t p need fd kind start len ≡ Ok c → target u p need fd kind start len ≡ Ok c) → IsAbout t p op mode c → IsAbout u p op mode c
about_maps t u p (op.Lock call) mode c same a = (a.0, same (need_of call.command call.mode) call.fd call.kind call.start call.len a.1)
about_maps t u p _ mode c same a = absurd a

-- a call that passes its tests is answered as its answer says
pub about_step : (t : Table) (p : Process) (op : Op) (i : LockCommand) (mode : Mode) (c : LockTarget) (reply : Reply) (u : Table) → IsFor i op → IsAbout t p op mode c → LockStep t i mode reply u c → Step t p op reply u
about_step t p (op.Lock call) i mode c reply u f a step =
    let P : LockCommand → Type 0 = λ k. LockStep t k mode reply u c in
    let Q : Mode → Type 0 = λ k. LockStep t call.command k reply u c in
    let R : Result LockTarget Reply → Type 0 = λ x. AfterTests t x reply u (LockStep t call.command call.mode reply u) in
    subst R (sym a.1) (subst Q (sym a.0) (subst P (sym f) step))
about_step t p _ i mode c reply u f a step = absurd a

-- a lock that blocks is named, unless the call waits
pub blocked_step : (t : Table) (i : LockCommand) (mode : Mode) (lock : LockInfo) (c : LockTarget) (reply : Reply) → refusal_of i lock ≡ Some reply → Blocks (t.locks c.file) c.owner c.span mode lock → LockStep t i mode reply t c
blocked_step t lock_command.Set mode lock c reply is b = subst (λ (r : Reply). SetStep t mode r t c) (same_Some (Again lock) reply is) (b, refl)
blocked_step t lock_command.Wait mode lock c reply is b = absurd (none-some reply is)
blocked_step t lock_command.Query mode lock c reply is b = subst (λ (r : Reply). QueryStep t mode r t c) (same_Some (Blocked lock) reply is) (b, refl)

-- the reply says that no lock blocks
abbrev pub IsUnhindered : Reply → Type 0
IsUnhindered Done = Unit {0}
IsUnhindered NoLocks = Unit {0}
IsUnhindered Free = Unit {0}
IsUnhindered _ = ⊥

hindered : (i : LockCommand) (lock : LockInfo) (reply : Reply) → refusal_of i lock ≡ Some reply → IsUnhindered reply → ⊥
hindered lock_command.Set lock reply is u = subst IsUnhindered (sym (same_Some (Again lock) reply is)) u
hindered lock_command.Wait lock reply is u = none-some reply is
hindered lock_command.Query lock reply is u = subst IsUnhindered (sym (same_Some (Blocked lock) reply is)) u

-- a node goes on: its name stays, its table stays its own, and processes with an open call go on
pub record Continues (s u : NodeState) : Type 0 where
  pub node : u.node ≡ s.node
  pub incarnation : u.incarnation ≡ s.incarnation
  pub own : IsOwn u.table s.node s.incarnation
  pub goes_on : All (λ (c : OpenCall). GoesOn (s.table.on s.node s.incarnation) (u.table.on s.node s.incarnation) c.pid) u.pending

-- the call was open before, and is not this one
abbrev pub Stays : List OpenCall → ℕ → OpenCall → Type 0
Stays calls number c = Contains calls c × (c.number ≡ number → ⊥)

-- the process has no open call, unless it exits
abbrev pub IsIdle : List OpenCall → ℕ → Op → Type 0
IsIdle calls pid op.Exit = Unit {0}
IsIdle calls pid _ = All (λ (c : OpenCall). c.pid ≡ pid → ⊥) calls

-- if the reply says that no lock blocks, the token covers the bytes
abbrev pub IsServed : Table → Process → Op → Reply → NodeState → Type 0
IsServed t p op reply u = (mode : Mode) (c : LockTarget) → IsUnhindered reply → IsAbout t p op mode c → covers (u.files c.file).token c.span mode ≡ true

-- the call is answered as the node's table and token may answer it, and is open no longer
pub record IsAnswered (s : NodeState) (number pid : ℕ) (op : Op) (u : NodeState) (o : Option (CallId × Reply)) : Type 0 where
  pub reply : Reply
  pub is_reply : o ≡ Some (id_of s number, reply)
  pub step : Step s.table (process s pid) op reply u.table
  pub served : IsServed s.table (process s pid) op reply u
  pub closed : All (Stays s.pending number) u.pending

-- nothing is answered, and the table stays
pub record IsSilent (s u : NodeState) (o : Option (CallId × Reply)) : Type 0 where
  pub no_reply : o ≡ None
  pub table : u.table ≡ s.table

-- the call is open from now on
pub record IsOpened (s : NodeState) (number pid : ℕ) (op : Op) (u : NodeState) (o : Option (CallId × Reply)) : Type 0 where
  pub silent : IsSilent s u o
  pub call : OpenCall
  pub number_is : call.number ≡ number
  pub pid_is : call.pid ≡ pid
  pub ready : IsReady s.table (process s pid) op call
  pub pending : u.pending ≡ s.pending ++ call ∷ []

-- the result of a try of an open call
pub record Tried (s : NodeState) (number pid : ℕ) (op : Op) (u : NodeState) (o : Option (CallId × Reply)) : Type 0 where
  pub continues : Continues s u
  pub calls : u.calls ≡ s.calls
  pub ends : IsAnswered s number pid op u o ⊎ (IsSilent s u o × (u.pending ≡ s.pending))

-- the result of a new call
pub record Taken (s : NodeState) (number pid : ℕ) (op : Op) (u : NodeState) (o : Option (CallId × Reply)) : Type 0 where
  pub continues : Continues s u
  pub calls : u.calls ≡ s.calls
  pub ends : IsAnswered s number pid op u o ⊎ IsOpened s number pid op u o

-- a process is not busy where no open call is its own
pub not_busy : (s : NodeState) (pid : ℕ) (op : Op) → is_busy s pid op ≡ false → IsIdle s.pending pid op
not_busy s pid op.Exit h = tt
not_busy s pid _ h = idle-others s.pending pid h

-- the open calls after one is closed are the others
pub stays_closed : (calls : List OpenCall) (number : ℕ) → All (Stays calls number) (filter (λ c. not (c.number == number)) calls)
stays_closed calls number =
    let test : OpenCall → Bool = λ c. not (c.number == number) in
    All-both (Contains calls) (λ c. test c ≡ true) (Stays calls number)
    (λ c there other. (there, λ same. both_ways (c.number == number) (not-true (c.number == number) other) (eq-eqb c.number number same)))
    (filter test calls) (All-filter test (Contains calls) calls (All-contains_itself calls)) (filter_passes test calls)

-- all processes go on where they are the same
same_processes : (s : NodeState) (t : Table) (calls : List OpenCall) → t.on ≡ s.table.on → All (λ (c : OpenCall). GoesOn (s.table.on s.node s.incarnation) (t.on s.node s.incarnation) c.pid) calls
same_processes s t calls same = λ k d lt. same_goes_on (s.table.on s.node s.incarnation) (t.on s.node s.incarnation) (get_or calls k d).pid (ap (λ (on : ℕ → ℕ → Processes). on s.node s.incarnation) same)

pub same_continues : (s : NodeState) (pending : List OpenCall) → IsOwn s.table s.node s.incarnation → Continues s (record s { pending = pending })
same_continues s pending own = record { node = refl; incarnation = refl; own = own; goes_on = same_processes s s.table pending refl }

-- the call is answered by the table, and tokens stay
pub record Settles (s : NodeState) (number : ℕ) (answer : Table × Reply) (e : Effect) : Type 0 where
  pub node : e.state.node ≡ s.node
  pub incarnation : e.state.incarnation ≡ s.incarnation
  pub calls : e.state.calls ≡ s.calls
  pub table : e.state.table ≡ answer.0
  pub is_reply : e.reply ≡ Some (id_of s number, answer.1)
  pub closed : e.state.pending ≡ (without_call s number).pending
  pub tokens : (file : ℕ) → (e.state.files file).token ≡ (s.files file).token

settled_settles : (s : NodeState) (number : ℕ) (answer : Table × Reply) → Settles s number answer (settled s number answer)
settled_settles s number answer = record { node = refl; incarnation = refl; calls = refl; table = refl; is_reply = refl; closed = refl; tokens = λ file. refl }

-- the step with a Freed at most
freed_settles : (s : NodeState) (number : ℕ) (answer : Table × Reply) (file : ℕ) (e : Effect) → Settles s number answer e → Settles s number answer (with_freed file e)
freed_settles s number answer file e h =
    let told : Effect = record { state = with_file e.state file (record (e.state.files file) { owes_freed = false }); reply = e.reply; sends = e.sends ++ Freed file (host e.state) ∷ [] } in
    elim (e.state.files file).owes_freed as (λ b. Settles s number answer (if b then told else e)) [
      | true ↦ record { node = h.node; incarnation = h.incarnation; calls = h.calls; table = h.table; is_reply = h.is_reply; closed = h.closed; tokens = λ f. token f ∙ h.tokens f }
      | false ↦ h
    ]
  where
    token : (f : ℕ) → (if f == file then record (e.state.files file) { owes_freed = false } else e.state.files f).token ≡ (e.state.files f).token
    token f = at_number f file (λ b. (if b then record (e.state.files file) { owes_freed = false } else e.state.files f).token ≡ (e.state.files f).token) (λ same. ap (λ (k : ℕ). (e.state.files k).token) (sym same)) (λ other. refl)

pub locked_by_settles : (s : NodeState) (number : ℕ) (c : LockTarget) (mode : Option Mode) → Settles s number (lock_within s.table c mode) (locked_by s number c mode)
locked_by_settles s number c mode =
    let answer = lock_within s.table c mode in
    elim (may_free mode answer.1) as (λ b. Settles s number answer (if b then with_freed c.file (settled s number answer) else settled s number answer)) [
      | true ↦ freed_settles s number answer c.file (settled s number answer) (settled_settles s number answer)
      | false ↦ settled_settles s number answer
    ]

unlock_settles : (s : NodeState) (number : ℕ) (found : Result LockTarget Reply) → Settles s number (after_unlock s.table found) (unlock_call s number found)
unlock_settles s number (Err refusal) = record { node = refl; incarnation = refl; calls = refl; table = refl; is_reply = refl; closed = refl; tokens = λ file. refl }
unlock_settles s number (Ok c) = locked_by_settles s number c None

module _ (s : NodeState) (number : ℕ) (answer : Table × Reply) (e : Effect) (h : Settles s number answer e) where
  settles_continues : IsOwn answer.0 s.node s.incarnation → All (λ (c : OpenCall). GoesOn (s.table.on s.node s.incarnation) (answer.0.on s.node s.incarnation) c.pid) (without_call s number).pending → Continues s e.state
  settles_continues own goes_on =
      let P : Table → Type 0 = λ t. IsOwn t s.node s.incarnation in
      let Q : Table → OpenCall → Type 0 = λ t c. GoesOn (s.table.on s.node s.incarnation) (t.on s.node s.incarnation) c.pid in
      record {
        node = h.node;
        incarnation = h.incarnation;
        own = subst P (sym h.table) own;
        goes_on = subst (λ (t : Table). All (Q t) e.state.pending) (sym h.table) (All-same (Q answer.0) e.state.pending (without_call s number).pending h.closed goes_on);
      }

  -- the other processes go on
  others_go_on : (pid : ℕ) → Follows s.table answer.0 s.node s.incarnation pid → All (λ (c : OpenCall). c.pid ≡ pid → ⊥) s.pending → Continues s e.state
  others_go_on pid follows idle =
      let Q : OpenCall → Type 0 = λ c. GoesOn (s.table.on s.node s.incarnation) (answer.0.on s.node s.incarnation) c.pid in
      settles_continues follows.own (All-filter (λ c. not (c.number == number)) Q s.pending (All-weaker (λ (c : OpenCall). c.pid ≡ pid → ⊥) Q (λ c other. follows.others c.pid other) s.pending idle))

  settles_answers : (pid : ℕ) (op : Op) → Step s.table (process s pid) op answer.1 answer.0 → IsServed s.table (process s pid) op answer.1 s → IsAnswered s number pid op e.state e.reply
  settles_answers pid op step served =
      let P : Table → Type 0 = λ t. Step s.table (process s pid) op answer.1 t in
      record {
        reply = answer.1;
        is_reply = h.is_reply;
        step = subst P (sym h.table) step;
        served = λ mode c free about. subst (λ (t : Token). covers t c.span mode ≡ true) (sym (h.tokens c.file)) (served mode c free about);
        closed = All-same (Stays s.pending number) e.state.pending (without_call s number).pending h.closed (stays_closed s.pending number);
      }

  settles_taken : (pid : ℕ) (op : Op) → Step s.table (process s pid) op answer.1 answer.0 → IsServed s.table (process s pid) op answer.1 s → Follows s.table answer.0 s.node s.incarnation pid → All (λ (c : OpenCall). c.pid ≡ pid → ⊥) s.pending → Taken s number pid op e.state e.reply
  settles_taken pid op step served follows idle = record { continues = others_go_on pid follows idle; calls = h.calls; ends = inl (settles_answers pid op step served) }

-- a call whose bytes the token covers is served by the token
served_by : (t : Table) (p : Process) (op : Op) (m : Mode) (c : LockTarget) (reply : Reply) (u : NodeState) → IsAbout t p op m c → covers (u.files c.file).token c.span m ≡ true → IsServed t p op reply u
served_by t p op m c reply u about given mode d free other =
    let same = about_one t p op m mode c d about other in
    subst (λ (x : LockTarget). covers (u.files x.file).token x.span mode ≡ true) same.1 (subst (λ (k : Mode). covers (u.files c.file).token c.span k ≡ true) same.0 given)

-- if no other lock blocks, the table answers by itself, whether the call may wait or not
lock_step : (t : Table) (c : LockTarget) (mode : Mode) → Unblocked t c mode → (let answer = lock_within t c (Some mode) in SetStep t mode answer.1 answer.0 c × WaitStep t mode answer.1 answer.0 c)
lock_step t c mode free =
    let few = nat_le (regions_with t c (Some mode)) t.limit in
    let out : Bool → Table × Reply = λ b. if b then (locked t c (Some mode), Done) else (t, NoLocks) in
    let made : (b : Bool) → few ≡ b → Is (out few) (out b).1 (out b).0 = λ b h. (ap (λ x. (out x).1) (sym h), ap (λ x. (out x).0) (sym h)) in
    elim few as (λ b. few ≡ b → SetStep t mode (out b).1 (out b).0 c × WaitStep t mode (out b).1 (out b).0 c) [
      | true ↦ λ h. ((free, made true h), (free, made true h))
      | false ↦ λ h. ((free, made false h), (free, made false h))
    ] refl

of_owner : (t : Table) (node incarnation file n i : ℕ) → n ≡ node → i ≡ incarnation → IsOwn t node incarnation → IsOfNode (t.locks file) n i
of_owner t node incarnation file n i same_node same_incarnation own =
    subst (λ (k : ℕ). IsOfNode (t.locks file) k i) (sym same_node) (subst (λ (k : ℕ). IsOfNode (t.locks file) node k) (sym same_incarnation) (own.locks file))

-- the target of a call of the node is of the node
pub about_own : (t : Table) (node incarnation pid : ℕ) (op : Op) (mode : Mode) (c : LockTarget) → IsNumber most_processes pid → IsOwn t node incarnation → IsAbout t (record { node = node; incarnation = incarnation; pid = pid }) op mode c → IsTarget node incarnation c
about_own t node incarnation pid op mode c pid_in own a =
    let f = about_finds t (record { node = node; incarnation = incarnation; pid = pid }) op mode c a in
    target_own t node incarnation pid f.need f.fd f.kind f.start f.len c pid_in own f.found

pub about_hangs : (t : Table) (p : Process) (op : Op) (mode : Mode) (c : LockTarget) → IsAbout t p op mode c → Hangs (t.on p.node p.incarnation) c.file c.owner.kind c.owner.number
about_hangs t p op mode c a =
    let f = about_finds t p op mode c a in
    target_hangs t p f.need f.fd f.kind f.start f.len c f.found

-- bytes that the token covers are locked
lock_ends : (s : NodeState) (c : OpenCall) (op : Op) → IsTarget s.node s.incarnation (target_of c) → IsOwn s.table s.node s.incarnation → IsAbout s.table (process s c.pid) op c.mode (target_of c) → covers (s.files c.file).token c.span c.mode ≡ true → (let answer = lock_within s.table (target_of c) (Some c.mode) in Step s.table (process s c.pid) op answer.1 answer.0) → (let e = locked_by s c.number (target_of c) (Some c.mode) in Tried s c.number c.pid op e.state e.reply)
lock_ends s c op is own about given step =
    let p = process s c.pid in
    let answer = lock_within s.table (target_of c) (Some c.mode) in
    let e = locked_by s c.number (target_of c) (Some c.mode) in
    let h = locked_by_settles s c.number (target_of c) (Some c.mode) in
    record {
      continues = settles_continues s c.number answer e h
          (lock_own s.table s.node s.incarnation (target_of c) (Some c.mode) is (about_hangs s.table p op c.mode (target_of c) about) own)
          (same_processes s answer.0 (without_call s c.number).pending (lock_processes s.table (target_of c) (Some c.mode)));
      calls = h.calls;
      ends = inl (settles_answers s c.number answer e h c.pid op step (served_by s.table p op c.mode (target_of c) answer.1 s about given));
    }

-- a call that the token covers is answered by the node's own table
here_ends : (s : NodeState) (c : OpenCall) (op : Op) (i : LockCommand) → IsTarget s.node s.incarnation (target_of c) → IsOwn s.table s.node s.incarnation → IsFor i op → IsAbout s.table (process s c.pid) op c.mode (target_of c) → Unblocked s.table (target_of c) c.mode → covers (s.files c.file).token c.span c.mode ≡ true → Tried s c.number c.pid op (answered_here s c i).state (answered_here s c i).reply
here_ends s c op lock_command.Set is own is_for about free given =
    let answer = lock_within s.table (target_of c) (Some c.mode) in
    lock_ends s c op is own about given (about_step s.table (process s c.pid) op lock_command.Set c.mode (target_of c) answer.1 answer.0 is_for about (lock_step s.table (target_of c) c.mode free).0)
here_ends s c op lock_command.Wait is own is_for about free given =
    let answer = lock_within s.table (target_of c) (Some c.mode) in
    lock_ends s c op is own about given (about_step s.table (process s c.pid) op lock_command.Wait c.mode (target_of c) answer.1 answer.0 is_for about (lock_step s.table (target_of c) c.mode free).1)
here_ends s c op lock_command.Query is own is_for about free given =
    let p = process s c.pid in
    record {
      continues = same_continues s (without_call s c.number).pending own;
      calls = refl;
      ends = inl (record {
        reply = Free;
        is_reply = refl;
        step = about_step s.table p op lock_command.Query c.mode (target_of c) Free s.table is_for about (free, refl);
        served = served_by s.table p op c.mode (target_of c) Free s about given;
        closed = stays_closed s.pending c.number;
      });
    }

-- a call that stays open
stays_open : (s : NodeState) (number pid : ℕ) (op : Op) → IsOwn s.table s.node s.incarnation → Tried s number pid op s None
stays_open s number pid op own = record { continues = same_continues s s.pending own; calls = refl; ends = inr (record { no_reply = refl; table = refl }, refl) }

-- a lock blocks the call: the call is answered so, unless it waits
blocked_ends : (s : NodeState) (c : OpenCall) (op : Op) → IsOwn s.table s.node s.incarnation → IsReady s.table (process s c.pid) op c → (lock : LockInfo) → Blocks (s.table.locks c.file) c.owner c.span c.mode lock → (let e = answered_if s c.number (refusal_of c.lock_command lock) in Tried s c.number c.pid op e.state e.reply)
blocked_ends s c op own ready lock blocks =
    answered_if_either (λ e. Tried s c.number c.pid op e.state e.reply) s c.number (refusal_of c.lock_command lock)
    (λ reply is. record {
      continues = same_continues s (without_call s c.number).pending own;
      calls = refl;
      ends = inl (record {
        reply = reply;
        is_reply = refl;
        step = about_step s.table (process s c.pid) op c.lock_command c.mode (target_of c) reply s.table ready.is_for ready.passes (blocked_step s.table c.lock_command c.mode lock (target_of c) reply is blocks);
        served = λ mode d free about. absurd (hindered c.lock_command lock reply is free);
        closed = stays_closed s.pending c.number;
      });
    })
    (stays_open s c.number c.pid op own)

-- an open call is tried
pub tried_ends : (s : NodeState) (c : OpenCall) (op : Op) → IsNumber most_processes c.pid → IsOwn s.table s.node s.incarnation → IsReady s.table (process s c.pid) op c → Tried s c.number c.pid op (tried s c).state (tried s c).reply
tried_ends s c op pid_in own ready =
    let h = s.table.locks c.file in
    let p = process s c.pid in
    let is = about_own s.table s.node s.incarnation c.pid op c.mode (target_of c) pid_in own ready.passes in
    elim (lowest_blocker h c.owner c.span c.mode) as (λ x. MatchOption x (IsFree h c.owner c.span c.mode) (IsLowestBlocker h c.owner c.span c.mode) → Tried s c.number c.pid op (tried_against s c x).state (tried_against s c x).reply) [
      | Some lock ↦ λ found. blocked_ends s c op own ready lock found.blocks
      | None ↦ λ free.
          let out : Bool → Effect = λ b. if b then answered_here s c c.lock_command else requested s c in
          elim (covers (s.files c.file).token c.span c.mode) as (λ b. covers (s.files c.file).token c.span c.mode ≡ b → Tried s c.number c.pid op (out b).state (out b).reply) [
            | true ↦ λ given. here_ends s c op c.lock_command is own ready.is_for ready.passes free given
            | false ↦ λ other. stays_open s c.number c.pid op own
          ] refl
    ] (lowest_is_lowest h c.owner c.span c.mode (of_owner s.table s.node s.incarnation c.file c.owner.node c.owner.incarnation is.owner.node_is is.owner.incarnation_is own) is.span.ordered is.span.ends)

-- a wait is interrupted
pub interrupted_ends : (s : NodeState) (c : OpenCall) (op : Op) → c.lock_command ≡ lock_command.Wait → IsReady s.table (process s c.pid) op c → (let e = answered s c.number Interrupted in IsAnswered s c.number c.pid op e.state e.reply)
interrupted_ends s c op waits ready = record {
  reply = Interrupted;
  is_reply = refl;
  step = about_step s.table (process s c.pid) op lock_command.Wait c.mode (target_of c) Interrupted s.table (subst (λ (i : LockCommand). IsFor i op) waits ready.is_for) ready.passes refl;
  served = λ mode d free about. absurd free;
  closed = stays_closed s.pending c.number;
}

-- a call that is closed again was not there
closed_again : (pending after : List OpenCall) (c : OpenCall) → All (Stays (pending ++ c ∷ []) c.number) after → All (Stays pending c.number) after
closed_again pending after c = All-weaker (Stays (pending ++ c ∷ []) c.number) (Stays pending c.number) old after
  where
    old : (d : OpenCall) → Stays (pending ++ c ∷ []) c.number d → Stays pending c.number d
    old d stays = elim (Contains-push_cases pending c d stays.0) [
      | inl there ↦ (there, stays.1)
      | inr same ↦ absurd (stays.1 (ap (λ (x : OpenCall). x.number) (sym same)))
    ]

-- a call that fails a test is refused by the one table too, and is about nothing
pub record IsRefused (t : Table) (p : Process) (op : Op) (refusal : Reply) : Type 0 where
  pub step : Step t p op refusal t
  pub about_none : (mode : Mode) (c : LockTarget) → IsAbout t p op mode c → ⊥

-- a call about a lock
lock_taken : (s : NodeState) (number pid : ℕ) (op : Op) (i : LockCommand) (mode : Mode) (found : Result LockTarget Reply) → IsNumber most_processes pid → IsOwn s.table s.node s.incarnation → ((refusal : Reply) → found ≡ Err refusal → IsRefused s.table (process s pid) op refusal) → ((c : LockTarget) → found ≡ Ok c → IsFor i op × IsAbout s.table (process s pid) op mode c) → Taken s number pid op (lock_call s number pid i mode found).state (lock_call s number pid i mode found).reply
lock_taken s number pid op i mode (Err refusal) pid_in own fails passes =
    let refused = fails refusal refl in
    record {
      continues = same_continues s (without_call s number).pending own;
      calls = refl;
      ends = inl (record { reply = refusal; is_reply = refl; step = refused.step; served = λ m c free about. absurd (refused.about_none m c about); closed = stays_closed s.pending number });
    }
lock_taken s number pid op i mode (Ok about) pid_in own fails passes =
    let c : OpenCall = record { number = number; pid = pid; lock_command = i; file = about.file; owner = about.owner; mode = mode; span = about.span } in
    let next = record s { pending = s.pending ++ c ∷ [] } in
    let asks = passes about refl in
    let ready : IsReady s.table (process s pid) op c = record { is_for = asks.0; passes = asks.1 } in
    let t = tried_ends next c op pid_in own (record { is_for = asks.0; passes = asks.1 }) in
    record {
      continues = record { node = t.continues.node; incarnation = t.continues.incarnation; own = t.continues.own; goes_on = t.continues.goes_on };
      calls = t.calls;
      ends = elim t.ends [
        | inl a ↦ inl (record { reply = a.reply; is_reply = a.is_reply; step = a.step; served = a.served; closed = closed_again s.pending (tried next c).state.pending c a.closed })
        | inr q ↦ inr (record { silent = record { no_reply = q.0.no_reply; table = q.0.table }; call = c; number_is = refl; pid_is = refl; ready = ready; pending = q.1 })
      ];
    }

found_err : {A E : Type 0} (x : Result A E) (e : E) (a : A) → x ≡ Err e → x ≡ Ok a → ⊥
found_err {A = A} {E = E} x e a fails passes = let both : ◌≡◌ {A = Result A E} (Err e) (Ok a) = sym fails ∙ passes in absurd (cc)

-- a call that concerns processes and descriptors alone, and leaves all descriptors
beside_taken : (s : NodeState) (number pid : ℕ) (op : Op) (answer : Table × Reply) → Step s.table (process s pid) op answer.1 answer.0 → ((mode : Mode) (c : LockTarget) → IsAbout s.table (process s pid) op mode c → ⊥) → Follows s.table answer.0 s.node s.incarnation pid → All (λ (c : OpenCall). c.pid ≡ pid → ⊥) s.pending → Taken s number pid op (settled s number answer).state (settled s number answer).reply
beside_taken s number pid op answer step about_none follows idle =
    settles_taken s number answer (settled s number answer) (settled_settles s number answer) pid op step (λ mode c free about. absurd (about_none mode c about)) follows idle

-- descriptors are closed
pub shut_settles : (s : NodeState) (number : ℕ) (passes : ℕ → Bool) (answer : Table × Reply) → Settles s number answer (shut_by s number passes answer)
shut_settles s number passes answer = shut_keeps (Settles s number answer) (freed_settles s number answer) s number passes answer (settled_settles s number answer)

-- a call is taken
pub called_ends : (s : NodeState) (number pid : ℕ) (op : Op) → IsNumber most_processes pid → is_in_shape s.shape op ≡ true → IsIdle s.pending pid op → IsOwn s.table s.node s.incarnation → Taken s number pid op (called s number pid op).state (called s number pid op).reply
called_ends s number pid (op.Process call) pid_in known idle own =
    let possible = possible_call s.shape call known in
    beside_taken s number pid (op.Process call) (beside s.table (process s pid) (after (around s.table (process s pid)) pid call)) (possible, (refl, refl)) (λ mode c about. about) (call_follows s.table s.node s.incarnation pid own call pid_in possible) idle
called_ends s number pid (op.Close fd) pid_in known idle own =
    let answer = after_close s.table (process s pid) fd in
    let passes : ℕ → Bool = λ file. is_of_file file (descriptor s.table (process s pid) fd) in
    settles_taken s number answer (shut_by s number passes answer) (shut_settles s number passes answer) pid (op.Close fd) (refl, refl) (λ mode c free about. absurd about) (close_follows s.table s.node s.incarnation pid fd own) idle
called_ends s number pid op.Exit pid_in known idle own =
    let d = without_call_of s pid in
    let test : OpenCall → Bool = λ c. not (c.pid == pid) in
    let answer = after_exit s.table (process s pid) in
    let passes = has_open (around s.table (process s pid)) pid in
    let e = shut_by d number passes answer in
    let h = shut_settles d number passes answer in
    let a = settles_answers d number answer e h pid op.Exit (refl, refl) (λ mode c free about. absurd about) in
    let dropped = All-weaker (λ c. test c ≡ true) (λ (c : OpenCall). c.pid ≡ pid → ⊥) (not_its pid) d.pending (filter_passes test s.pending) in
    let g = others_go_on d number answer e h pid (exit_follows s.table s.node s.incarnation pid own) dropped in
    record {
      continues = record { node = g.node; incarnation = g.incarnation; own = g.own; goes_on = g.goes_on };
      calls = h.calls;
      ends = inl (record { reply = a.reply; is_reply = a.is_reply; step = a.step; served = a.served; closed = All-weaker (Stays d.pending number) (Stays s.pending number) (λ c stays. (was_open s.pending test c stays.0, stays.1)) e.state.pending a.closed });
    }
  where
    not_its : (q : ℕ) (c : OpenCall) → not (c.pid == q) ≡ true → c.pid ≡ q → ⊥
    not_its q c h same = both_ways (c.pid == q) (not-true (c.pid == q) h) (eq-eqb c.pid q same)

    was_open : (calls : List OpenCall) (test : OpenCall → Bool) (c : OpenCall) → Contains (filter test calls) c → Contains calls c
    was_open calls test c there = All-contains (Contains calls) (filter test calls) c (All-filter test (Contains calls) calls (All-contains_itself calls)) there
called_ends s number pid (op.Lock call) pid_in known idle own =
    let found = call_target s.table (process s pid) call in
    let Q : Reply → Result LockTarget Reply → Type 0 = λ reply x. AfterTests s.table x reply s.table (LockStep s.table call.command call.mode reply s.table) in
    lock_taken s number pid (op.Lock call) call.command call.mode found pid_in own
    (λ refusal h. record { step = subst (Q refusal) (sym h) (refl, refl); about_none = λ m c a. found_err found refusal c h a.1 })
    (λ c h. (refl, (refl, h)))
called_ends s number pid (op.Unlock fd kind start len) pid_in known idle own =
    let found = target s.table (process s pid) None fd kind start len in
    settles_taken s number (after_unlock s.table found) (unlock_call s number found) (unlock_settles s number found) pid (op.Unlock fd kind start len) (refl, refl) (λ mode c free about. absurd about) (unlock_follows s.table s.node s.incarnation pid fd kind start len pid_in own) idle
