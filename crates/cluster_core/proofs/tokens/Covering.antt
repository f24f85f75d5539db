-- The locks of a node are covered by its tokens, and each step of the node keeps them so.
use Rattle.std.proofs.Common.{◌≡◌, ℕ, ◌+◌, ◌≤◌, Bool, true, false, if◌then◌else◌, ◌&&◌, ◌||◌, ◌==◌, nat_le, nat_lt, inl, inr, refl, sym, subst, ◌++◌, [], ◌∷◌, Option, Some, None, Result, Ok, Err}
use Rattle.std.proofs.lemmas.Bool.{and_parts, eqb-true, leb-true}
use Rattle.std.proofs.lemmas.Option.{none-some, same_Some}
use Rattle.intervals.specs.rule.Bytes.{Range, put, is_in}
use Rattle.model.specs.declared.mode.Mode.{Mode}
use Rattle.model.specs.declared.mode.Mode.TheVariants.{Read, Write}
use Rattle.model.specs.declared.level.Level.{Level}
use Rattle.model.specs.declared.level.Level.TheVariants.{Shared, Exclusive}
use Rattle.model.specs.declared.lock_info.LockInfo.{LockInfo}
use Rattle.model.specs.declared.owner.Owner.{Owner}
use Rattle.model.specs.declared.process.Process.{Process}
use Rattle.model.specs.declared.call.CallId.{CallId}
use Rattle.model.specs.declared.op.Op.{Op}
use Rattle.model.specs.declared.op.Op.TheVariants as op
use Rattle.model.specs.declared.reply.Reply.{Reply}
use Rattle.model.specs.declared.reply.Reply.TheVariants.{Done, NoLocks}
use Rattle.model.specs.rule.Owners.{same_owner}
use Rattle.model.specs.rule.Locks.{FileLocks, Locks, IsOfNode, bars, with_lock, lowest_blocker}
use Rattle.model.specs.rule.Descriptors.{Processes, is_of_file, has_open, after}
use Rattle.model.specs.rule.Table.{Table, LockTarget, around, descriptor, beside, target, call_target, lock_within, locked, regions_with, after_close, after_exit}
use Rattle.model.proofs.Closings.{AreFewer, fewer_after_close, fewer_after_exit}
use Rattle.token_set.specs.rule.Tokens.{Token, serves, covers, raised, raised_level, gave_up, after_giving_up}
use Rattle.token_set.specs.declared.gave_up.GaveUp.{GaveUp}
use Rattle.token_set.specs.declared.gave_up.GaveUp.TheVariants.{Released, Conflict}
use Rattle.token_set.proofs.TokenLaws.{covers-each}
use Rattle.token_set.proofs.ReleaseLaws.{lowering_keeps_locks}
use Rattle.messages.specs.declared.event.NodeInput.TheVariants.{Call, Interrupt, Retry}
use Rattle.messages.specs.rule.Shapes.{ShapeFields, begin_of}
use Rattle.messages.specs.rule.TokenRuns.{Wants}
use Rattle.messages.specs.declared.message.Message.{Message}
use Rattle.messages.specs.declared.message.Message.TheVariants.{Grant, Revoke, Taken, Deny, Hello}
use Rattle.messages.specs.declared.outcome.Outcome.{Outcome}
use Rattle.node_core.specs.declared.event.NodeEvent.{NodeEvent}
use Rattle.node_core.specs.declared.event.NodeEvent.TheVariants.{Input, Deliver}
use Rattle.model.specs.declared.op.LockCommand.{LockCommand}
use Rattle.model.specs.declared.op.LockCommand.TheVariants as lock_command
use Rattle.node_core.specs.declared.open_call.OpenCall.{OpenCall}
use Rattle.node_core.specs.rule.State.{NodeState, FileState, Effect, first_node, process, host, open_call, open_call_of, without_call_of, target_of}
use Rattle.node_core.specs.rule.Try.{requested, refusal_of, answered_if, locked_by, answered_here, tried, tried_against, tried_if}
use Rattle.node_core.specs.rule.Calls.{called, after_call, lock_call, unlock_call, shut_by}
use Rattle.node_core.specs.rule.Commands.{renewed, in_epoch, in_order, after_command, granted, revoked, answer_to, is_conflict, denied, delivered}
use Rattle.node_core.specs.rule.Interrupts.{interruption_of, interrupted}
use Rattle.node_core.specs.rule.Node.{node_rule}
use Rattle.cluster_core.specs.rule.Safe.{Excludes}
use Rattle.cluster_core.proofs.common.Choices.{if_either, at_number}
use Rattle.cluster_core.proofs.steps.NodeSteps.{call_done, deliver_done, interrupt_done, retry_done, remembered_state, in_order_either, told_either}
use Rattle.cluster_core.proofs.steps.Tries.{locked_by_settles, shut_settles}
use Rattle.cluster_core.proofs.tokens.Clearing.{released_clear}

-- the token serves each byte that is locked
abbrev pub IsCovered : Token → FileLocks → Type 0
IsCovered token locks = (o : Owner) (b : ℕ) (mode : Mode) → locks o b ≡ Some mode → serves (token b) mode ≡ true

-- the tokens of the node serve each byte that one of its owners has locked
abbrev pub Covered : NodeState → Type 0
Covered s = (file : ℕ) → IsCovered (s.files file).token (s.table.locks file)

-- a write lock needs an exclusive byte
served_exclusively : (x : Option Level) → serves x Write ≡ true → x ≡ Some Exclusive
served_exclusively None h = cc
served_exclusively (Some Shared) h = cc
served_exclusively (Some Exclusive) h = refl

-- a byte without a level serves no lock
none_serves : (x : Option Level) (mode : Mode) → x ≡ None → serves x mode ≡ true → ⊥
none_serves None mode none h = cc
none_serves (Some level) mode none h = absurd (none-some level (sym none))

-- a byte that serves the mode for one node bars it by no lock of the other
pub unbarred_byte : (x y : Option Level) (mode : Mode) (held : Option Mode) → (x ≡ Some Exclusive → y ≡ None) → (y ≡ Some Exclusive → x ≡ None) → serves x mode ≡ true → ((m : Mode) → held ≡ Some m → serves y m ≡ true) → bars mode held ≡ false
unbarred_byte x y mode None there here own other = refl
unbarred_byte x y Read (Some Read) there here own other = refl
unbarred_byte x y Write (Some m) there here own other = absurd (none_serves y m (there (served_exclusively x own)) (other m refl))
unbarred_byte x y Read (Some Write) there here own other = absurd (none_serves x Read (here (served_exclusively y (other Write refl))) own)

-- of two nodes whose tokens exclude each other, the one that may lock a span is barred by no lock of the other
pub unbarred_apart : (s t : Token) (locks : FileLocks) (span : Range) (mode : Mode) → Excludes s t → Excludes t s → IsCovered t locks → covers s span mode ≡ true → (o : Owner) (b : ℕ) → span.lo ≤ b → b ≤ span.hi → bars mode (locks o b) ≡ false
unbarred_apart s t locks span mode there here covered own o b above below =
    unbarred_byte (s b) (t b) mode (locks o b) (there b) (here b) (covers-each s span mode b own above below) (λ m held. covered o b m held)

-- a byte that is raised serves what it served
raised_level-serves : (x : Option Level) (by mode : Mode) → serves x mode ≡ true → serves (raised_level x by) mode ≡ true
raised_level-serves x Write mode h = refl
raised_level-serves None Read mode h = absurd (cc)
raised_level-serves (Some level) Read mode h = h

-- a token that is raised serves what it served
pub raised-serves : (t : Token) (span : Range) (by mode : Mode) (b : ℕ) → serves (t b) mode ≡ true → serves (raised t span by b) mode ≡ true
raised-serves t span by mode b h = elim (is_in span b) as (λ x. serves (if x then raised_level (t b) by else t b) mode ≡ true) [ true ↦ raised_level-serves (t b) by mode h | false ↦ h ]

-- a byte of the span is between its ends
in_span : (s : Range) (b : ℕ) → is_in s b ≡ true → (s.lo ≤ b) × (b ≤ s.hi)
in_span s b h = let parts = and_parts (nat_le s.lo b) (nat_le b s.hi) h in (leb-true s.lo b parts.0, leb-true b s.hi parts.1)

-- a lock call asks for bytes that the token covers, or frees bytes
abbrev pub IsGiven : Token → Range → Option Mode → Type 0
IsGiven token span None = Unit {0}
IsGiven token span (Some mode) = covers token span mode ≡ true

put_served : (token : Token) (bytes : ℕ → Option Mode) (span : Range) (given : Option Mode) (b : ℕ) (mode : Mode) → IsGiven token span given → ((m : Mode) → bytes b ≡ Some m → serves (token b) m ≡ true) → put bytes span given b ≡ Some mode → serves (token b) mode ≡ true
put_served token bytes span None b mode given old h = elim (is_in span b) as (λ x. (if x then None else bytes b) ≡ Some mode → serves (token b) mode ≡ true) [ true ↦ λ none. absurd (none-some mode none) | false ↦ λ same. old mode same ] h
put_served token bytes span (Some m) b mode given old h =
    elim (is_in span b) as (λ x. is_in span b ≡ x → (if x then Some m else bytes b) ≡ Some mode → serves (token b) mode ≡ true) [
      | true ↦ λ here new.
          let ends = in_span span b here in
          subst (λ (k : Mode). serves (token b) k ≡ true) (same_Some m mode new) (covers-each token span m b given ends.0 ends.1)
      | false ↦ λ other same. old mode same
    ] refl h

-- the tokens of a node and its locks, of all files
module _ (files : ℕ → FileState) where
  abbrev pub AllCovered : Locks → Type 0
  AllCovered locks = (file : ℕ) → IsCovered (files file).token (locks file)

  with_lock_covered : (locks : Locks) (file : ℕ) (owner : Owner) (span : Range) (mode : Option Mode) → IsGiven (files file).token span mode → AllCovered locks → AllCovered (with_lock locks file owner span mode)
  with_lock_covered locks file owner span mode given old f o b m h =
      elim ((file == f) && same_owner owner o) as (λ x. ((file == f) && same_owner owner o) ≡ x → (if x then put (locks file owner) span mode else locks f o) b ≡ Some m → serves ((files f).token b) m ≡ true) [
        | true ↦ λ this new.
            let is : file ≡ f = eqb-true file f (and_parts (file == f) (same_owner owner o) this).0 in
            subst (λ (k : ℕ). serves ((files k).token b) m ≡ true) is (put_served (files file).token (locks file owner) span mode b m given (λ k held. old file owner b k held) new)
        | false ↦ λ other same. old f o b m same
      ] refl h

  -- bytes are locked or freed, within the regions that an owner may have
  pub lock_within_covered : (t : Table) (c : LockTarget) (mode : Option Mode) → IsGiven (files c.file).token c.span mode → AllCovered t.locks → AllCovered (lock_within t c mode).0.locks
  lock_within_covered t c mode given old =
      let out : Bool → Table × Reply = λ x. if x then (locked t c mode, Done) else (t, NoLocks) in
      elim (nat_le (regions_with t c mode) t.limit) as (λ x. AllCovered (out x).0.locks) [ true ↦ with_lock_covered t.locks c.file c.owner c.span mode given old | false ↦ old ]

  -- calls that concern processes and descriptors alone
  pub beside_covered : (t : Table) (p : Process) (r : Result (Processes × Reply) Reply) → AllCovered t.locks → AllCovered (beside t p r).0.locks
  beside_covered t p (Ok answer) old = old
  beside_covered t p (Err refusal) old = old

-- a node that begins
pub first_covered : (shape : ShapeFields) (node incarnation : ℕ) → Covered (first_node shape node incarnation)
first_covered shape node incarnation file o b mode h = absurd (none-some mode h)

-- bytes are locked, of which the token covers each, or freed
locked_by_covered : (s : NodeState) (number : ℕ) (about : LockTarget) (mode : Option Mode) → IsGiven (s.files about.file).token about.span mode → Covered s → Covered (locked_by s number about mode).state
locked_by_covered s number about mode given old file o b m held =
    let settles = locked_by_settles s number about mode in
    subst (λ (t : Token). serves (t b) m ≡ true) (sym (settles.tokens file))
    (lock_within_covered s.files s.table about mode given old file o b m (subst (λ (t : Table). t.locks file o b ≡ Some m) settles.table held))

answered_here_covered : (s : NodeState) (c : OpenCall) (i : LockCommand) → covers (s.files c.file).token c.span c.mode ≡ true → Covered s → Covered (answered_here s c i).state
answered_here_covered s c lock_command.Set given old = locked_by_covered s c.number (target_of c) (Some c.mode) given old
answered_here_covered s c lock_command.Wait given old = locked_by_covered s c.number (target_of c) (Some c.mode) given old
answered_here_covered s c lock_command.Query given old = old

answered_if_covered : (s : NodeState) (number : ℕ) (o : Option Reply) → Covered s → Covered (answered_if s number o).state
answered_if_covered s number None old = old
answered_if_covered s number (Some reply) old = old

-- a try of an open call, which is set if the token covers it
pub tried_covered : (s : NodeState) (c : OpenCall) → Covered s → Covered (tried s c).state
tried_covered s c old =
    elim (lowest_blocker (s.table.locks c.file) c.owner c.span c.mode) as (λ x. Covered (tried_against s c x).state) [
      | Some lock ↦ answered_if_covered s c.number (refusal_of c.lock_command lock) old
      | None ↦ elim (covers (s.files c.file).token c.span c.mode) as (λ x. covers (s.files c.file).token c.span c.mode ≡ x → Covered (if x then answered_here s c c.lock_command else requested s c).state) [
        | true ↦ λ given. answered_here_covered s c c.lock_command given old
        | false ↦ λ other. old
      ] refl
    ]

pub tried_if_covered : (s : NodeState) (c : Option OpenCall) → Covered s → Covered (tried_if s c).state
tried_if_covered s None old = old
tried_if_covered s (Some c) old = tried_covered s c old

lock_call_covered : (s : NodeState) (number pid : ℕ) (i : LockCommand) (mode : Mode) (found : Result LockTarget Reply) → Covered s → Covered (lock_call s number pid i mode found).state
lock_call_covered s number pid i mode (Err refusal) old = old
lock_call_covered s number pid i mode (Ok about) old =
    let c : OpenCall = record { number = number; pid = pid; lock_command = i; file = about.file; owner = about.owner; mode = mode; span = about.span } in
    tried_covered (record s { pending = s.pending ++ c ∷ [] }) c old

unlock_call_covered : (s : NodeState) (number : ℕ) (found : Result LockTarget Reply) → Covered s → Covered (unlock_call s number found).state
unlock_call_covered s number (Err refusal) old = old
unlock_call_covered s number (Ok about) old = locked_by_covered s number about None tt old

-- descriptors are closed: the locks that are left were there
shut_covered : (s : NodeState) (number : ℕ) (passes : ℕ → Bool) (answer : Table × Reply) → AreFewer s.table.locks answer.0.locks → Covered s → Covered (shut_by s number passes answer).state
shut_covered s number passes answer fewer old file o b m held =
    let settles = shut_settles s number passes answer in
    subst (λ (t : Token). serves (t b) m ≡ true) (sym (settles.tokens file))
    (old file o b m (fewer file o b m (subst (λ (t : Table). t.locks file o b ≡ Some m) settles.table held)))

-- a call is taken
pub called_covered : (s : NodeState) (number pid : ℕ) (op : Op) → Covered s → Covered (called s number pid op).state
called_covered s number pid (op.Process call) old = beside_covered s.files s.table (process s pid) (after (around s.table (process s pid)) pid call) old
called_covered s number pid (op.Close fd) old = shut_covered s number (λ file. is_of_file file (descriptor s.table (process s pid) fd)) (after_close s.table (process s pid) fd) (fewer_after_close (process s pid) s.table fd) old
called_covered s number pid op.Exit old = shut_covered (without_call_of s pid) number (has_open (around s.table (process s pid)) pid) (after_exit s.table (process s pid)) (fewer_after_exit (process s pid) s.table) old
called_covered s number pid (op.Lock call) old = lock_call_covered s number pid call.command call.mode (call_target s.table (process s pid) call) old
called_covered s number pid (op.Unlock fd kind start len) old = unlock_call_covered s number (target s.table (process s pid) None fd kind start len) old

pub after_call_covered : (s : NodeState) (pid : ℕ) (op : Op) → Covered s → Covered (after_call s pid op).0
after_call_covered s pid op old = called_covered (record s { calls = s.calls + 1 }) (s.calls + 1) pid op old

-- the file has another token, that covers its locks too
after_command_covered : (s : NodeState) (file : ℕ) (token : Token) (number : ℕ) (answer : Message) (asked : Bool) → IsCovered token (s.table.locks file) → Covered s → Covered (after_command s file token number answer asked)
after_command_covered s file token number answer asked new old f o b m held =
    let done : FileState = record { token = token; last = number; answer = Some answer; owes_freed = asked } in
    at_number f file (λ x. serves ((if x then done else s.files f).token b) m ≡ true)
    (λ same. new o b m (subst (λ (k : ℕ). s.table.locks k o b ≡ Some m) same held))
    (λ other. old f o b m held)

-- a grant raises the token
pub after_grant_covered : (s : NodeState) (file number : ℕ) (call : CallId) (mode : Mode) (span : Range) → Covered s → Covered (after_command s file (raised (s.files file).token span mode) number (Taken file number call) (s.files file).owes_freed)
after_grant_covered s file number call mode span old =
    after_command_covered s file (raised (s.files file).token span mode) number (Taken file number call) (s.files file).owes_freed
    (λ o b m held. raised-serves (s.files file).token span mode m b (old file o b m held)) old

pub granted_covered : (s : NodeState) (file number : ℕ) (call : CallId) (mode : Mode) (span : Range) → Covered s → Covered (granted s file number call mode span).state
granted_covered s file number call mode span old =
    let next = after_command s file (raised (s.files file).token span mode) number (Taken file number call) (s.files file).owes_freed in
    tried_if_covered next (open_call next call.number) (after_grant_covered s file number call mode span old)

-- all locks of the node are of owners that it can have
abbrev pub OwnLocks : NodeState → Type 0
OwnLocks s = (file : ℕ) → IsOfNode (s.table.locks file) s.node s.incarnation

-- a revoke lowers the token where no lock blocks
given_up_covered : (s : NodeState) (file : ℕ) (mode : Mode) (wanted : Wants) (gives : GaveUp) → gave_up (s.table.locks file) s.node s.incarnation mode wanted.required wanted.desired ≡ gives → OwnLocks s → Covered s → IsCovered (after_giving_up (s.files file).token mode gives) (s.table.locks file)
given_up_covered s file mode wanted (Released span) is own old =
    lowering_keeps_locks (s.table.locks file) (s.files file).token span mode (released_clear (s.table.locks file) s.node s.incarnation (own file) mode wanted.required wanted.desired span is) (old file)
given_up_covered s file mode wanted (Conflict lock) is own old = old file

pub revoked_covered : (s : NodeState) (file number : ℕ) (call : CallId) (mode : Mode) (wanted : Wants) → OwnLocks s → Covered s → Covered (revoked s file number call mode wanted).state
revoked_covered s file number call mode wanted own old =
    let gives = gave_up (s.table.locks file) s.node s.incarnation mode wanted.required wanted.desired in
    after_command_covered s file (after_giving_up (s.files file).token mode gives) number (answer_to file number (host s) call gives) (is_conflict gives || (s.files file).owes_freed) (given_up_covered s file mode wanted gives refl own old) old

pub in_order_covered : (s : NodeState) (file number : ℕ) (effect : Effect) → Covered s → Covered effect.state → Covered (in_order s file number effect).state
in_order_covered s file number effect old new =
    in_order_either (λ e. Covered e.state) s file number effect (λ next. new) (subst Covered (sym (remembered_state s (s.files file).answer)) old) old

denied_covered : (s : NodeState) (lock : LockInfo) (c : Option OpenCall) → Covered s → Covered (denied s lock c).state
denied_covered s lock None old = old
denied_covered s lock (Some c) old = answered_if_covered s c.number (refusal_of c.lock_command lock) old

interrupted_covered : (s : NodeState) (c : Option OpenCall) → Covered s → Covered (interrupted s c).state
interrupted_covered s None old = old
interrupted_covered s (Some c) old = answered_if_covered s c.number (interruption_of c.lock_command) old

-- hearing of an epoch changes no token
entered_covered : (s : NodeState) (file number : ℕ) → Covered s → Covered (in_epoch s file number)
entered_covered s file number old f o b mode there =
    let first = begin_of number in
    let x = s.files file in
    let same : (renewed x number).token ≡ x.token = if_either (λ (y : FileState). y.token ≡ x.token) (nat_lt x.last first) (record x { last = first; answer = None }) x refl refl in
    at_number f file (λ c. serves ((if c then renewed x number else s.files f).token b) mode ≡ true)
    (λ is. subst (λ (u : Token). serves (u b) mode ≡ true) (sym same) (subst (λ (k : ℕ). serves ((s.files k).token b) mode ≡ true) is (old f o b mode there)))
    (λ other. old f o b mode there)

-- a message is taken
pub delivered_covered : (s : NodeState) (m : Message) → OwnLocks s → Covered s → Covered (delivered s m).state
delivered_covered s (Grant file number call mode span) own old =
    let t = in_epoch s file number in
    let before = entered_covered s file number old in
    in_order_covered t file number (granted t file number call mode span) before (granted_covered t file number call mode span before)
delivered_covered s (Revoke file number holder call mode wanted) own old =
    let t = in_epoch s file number in
    let before = entered_covered s file number old in
    in_order_covered t file number (revoked t file number call mode wanted) before (revoked_covered t file number call mode wanted own before)
delivered_covered s (Hello file number holder) own old =
    let t = in_epoch s file number in
    let before = entered_covered s file number old in
    told_either (λ e. Covered e.state) t file number (λ is. before) before
delivered_covered s (Deny file call holder number lock) own old = denied_covered s lock (open_call s call.number) old
delivered_covered s m own old = old

-- each step of a node
pub node_rule_covered : (s u : NodeState) (event : NodeEvent) (o : Outcome) → node_rule s event ≡ Ok (u, o) → OwnLocks s → Covered s → Covered u
node_rule_covered s u (Input (Call pid op)) o h own old = subst (λ (x : NodeState × Outcome). Covered x.0) (call_done s pid op (u, o) h) (after_call_covered s pid op old)
node_rule_covered s u (Deliver m) o h own old =
    let P : NodeState × Outcome → Type 0 = λ x. Covered x.0 in
    elim (deliver_done s m (u, o) h) [ inl taken ↦ subst P taken.1 (delivered_covered s m own old) | inr passed ↦ subst P passed old ]
node_rule_covered s u (Input (Interrupt pid)) o h own old = subst (λ (x : NodeState × Outcome). Covered x.0) (interrupt_done s pid (u, o) h) (interrupted_covered s (open_call_of s pid) old)
node_rule_covered s u (Input (Retry pid)) o h own old = subst (λ (x : NodeState × Outcome). Covered x.0) (retry_done s pid (u, o) h) (tried_if_covered s (open_call_of s pid) old)
