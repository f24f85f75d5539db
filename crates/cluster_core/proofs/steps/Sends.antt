-- The messages that a node sends.
use Rattle.std.specs.Prelude.{max, ◌==◌, nat_lt, if◌then◌else◌}
use Rattle.std.proofs.Common.{◌≡◌, ℕ, ◌+◌, ◌≤◌, arith, Bool, true, false, refl, sym, ap, ◌∙◌, List, subst, [], ◌∷◌, ◌++◌, All, Contains, Option, Some, None, Result, Ok, Err}
use Rattle.std.proofs.lemmas.Option.{none-some}
use Rattle.std.proofs.lemmas.List.Elements.{All-nil, All-cons, All-push, Contains-push}
use Rattle.intervals.specs.rule.Bytes.{Range, whole, greatest}
use Rattle.model.specs.declared.call.CallId.{CallId}
use Rattle.model.specs.declared.host.Host.{Host}
use Rattle.model.specs.declared.lock_info.LockInfo.{LockInfo}
use Rattle.model.specs.declared.mode.Mode.{Mode}
use Rattle.model.specs.declared.op.Op.{Op}
use Rattle.model.specs.declared.op.Op.TheVariants as op
use Rattle.model.specs.declared.reply.Reply.{Reply}
use Rattle.model.specs.rule.Locks.{lowest_blocker, lowest_in_way}
use Rattle.model.specs.rule.Descriptors.{is_of_file, has_open}
use Rattle.model.specs.rule.Table.{Table, LockTarget, around, descriptor, target, call_target, lock_within, after_close, after_exit}
use Rattle.model.specs.declared.policy.Policy.{Policy}
use Rattle.model.specs.declared.policy.Policy.TheVariants.{Wide, Exact}
use Rattle.token_set.specs.rule.Tokens.{Token, holds_nothing, covers, desired, raised, given_up_span, answer_of}
use Rattle.messages.specs.rule.TokenRuns.{Wants}
use Rattle.messages.specs.declared.message.Message.{Message}
use Rattle.messages.specs.declared.message.Message.TheVariants.{Request, Grant, Revoke, Taken, Released, Conflict, Deny, Freed, Hello, Report}
use Rattle.messages.specs.declared.token_run.TokenRun.{TokenRun}
use Rattle.messages.specs.rule.Shapes.{begin_of}
use Rattle.messages.specs.rule.Messages.{runs_of}
use Rattle.model.specs.declared.op.LockCommand.{LockCommand}
use Rattle.model.specs.declared.op.LockCommand.TheVariants as lock_command
use Rattle.node_core.specs.declared.open_call.OpenCall.{OpenCall}
use Rattle.node_core.specs.rule.State.{FileState, NodeState, Effect, quiet, with_file, without_call_of, host, process, id_of, target_of, open_call}
use Rattle.node_core.specs.rule.Try.{settled, blocking_of, requested, refusal_of, answered_if, may_free, with_freed, locked_by, answered_here, tried, tried_against, tried_if}
use Rattle.node_core.specs.rule.Calls.{lock_call, unlock_call, called, shut_by}
use Rattle.node_core.specs.rule.Commands.{renewed, in_epoch, remembered, in_order, after_command, granted, answer_to, revoked, denied, delivered}
use Rattle.node_core.specs.rule.Interrupts.{interruption_of, interrupted}
use Rattle.cluster_core.proofs.common.Choices.{if_either}
use Rattle.cluster_core.proofs.steps.NodeSteps.{in_order_either, told_either, shut_keeps}
use Rattle.cluster_core.proofs.history.Nodes.{found_open}

-- the desired span of a node ends with the file, or with the required one
desired_end : (policy : Policy) (t : Token) (span : Range) → (desired policy t span).hi ≤ max greatest span.hi
desired_end Exact t span = omega arith
desired_end Wide t span = if_either (λ (s : Range). s.hi ≤ max greatest span.hi) (holds_nothing t) whole (record { lo = span.lo; hi = greatest }) (omega arith) (omega arith)

-- the desired bytes of a node hold the required ones
pub record IsAround (required desired : Range) : Type 0 where
  pub starts : desired.lo ≤ required.lo
  pub ends : required.hi ≤ desired.hi

around_itself : (span : Range) → IsAround span span
around_itself span = record { starts = omega arith; ends = omega arith }

desired_around : (policy : Policy) (t : Token) (span : Range) → span.hi ≤ greatest → IsAround span (desired policy t span)
desired_around Exact t span within = around_itself span
desired_around Wide t span within = if_either (IsAround span) (holds_nothing t) whole (record { lo = span.lo; hi = greatest }) (record { starts = omega arith; ends = within }) (record { starts = omega arith; ends = within })

-- P holds of the messages that need no reason
pub record IsFreely (P : Message → Type 0) : Type 0 where
  pub taken : (file number : ℕ) (call : CallId) → P (Taken file number call)
  pub released : (file number : ℕ) (holder : Host) (call : CallId) (span : Range) → P (Released file number holder call span)
  pub freed : (file : ℕ) (holder : Host) → P (Freed file holder)
  pub report : (file number : ℕ) (holder : Host) (runs : List TokenRun) → P (Report file number holder runs)

-- P holds of the request for each open call
abbrev pub AsksFor : (Message → Type 0) → NodeState → Type 0
AsksFor P u = (c : OpenCall) (wanted : Wants) → Contains u.pending c → wanted.required ≡ c.span → wanted.desired.hi ≤ max greatest c.span.hi → (c.span.hi ≤ greatest → IsAround c.span wanted.desired) → P (Request c.file (id_of u c.number) (blocking_of c.lock_command) c.mode wanted)

-- P holds of each answer that a node remembers
abbrev pub Remembers : (Message → Type 0) → NodeState → Type 0
Remembers P s = (file : ℕ) (m : Message) → (s.files file).answer ≡ Some m → P m

-- a node that hears of an epoch remembers no more than before
pub entered-remembers : (P : Message → Type 0) (s : NodeState) (file number : ℕ) → Remembers P s → Remembers P (in_epoch s file number)
entered-remembers P s file number old f m h =
    let first = begin_of number in
    let x = s.files file in
    let anew : (y : FileState) → y ≡ renewed x number → y.answer ≡ Some m → P m = λ y is there.
    elim (nat_lt x.last first) as (λ c. (if c then record x { last = first; answer = None } else x).answer ≡ Some m → P m) [ true ↦ λ none. absurd (none-some m none) | false ↦ λ same. old file m same ] (ap (λ (z : FileState). z.answer) (sym is) ∙ there) in
    elim (f == file) as (λ c. (if c then renewed x number else s.files f).answer ≡ Some m → P m) [ true ↦ λ there. anew (renewed x number) refl there | false ↦ λ there. old f m there ] h

module _ (P : Message → Type 0) (free : IsFreely P) where
  -- P holds of the messages of an effect, if it holds of the requests
  abbrev pub SendsOnly : Effect → Type 0
  SendsOnly e = AsksFor P e.state → All P e.sends

  nothing_sent : (e : Effect) → e.sends ≡ [] → SendsOnly e
  nothing_sent e none asks = subst (All P) (sym none) (All-nil P)

  with_freed-sends : (file : ℕ) (e : Effect) → SendsOnly e → SendsOnly (with_freed file e)
  with_freed-sends file e so_far =
      let told : Effect = record { state = with_file e.state file (record (e.state.files file) { owes_freed = false }); reply = e.reply; sends = e.sends ++ Freed file (host e.state) ∷ [] } in
      if_either SendsOnly (e.state.files file).owes_freed told e
      (λ asks. All-push P e.sends (Freed file (host e.state)) (so_far asks) (free.freed file (host e.state)))
      so_far

  locked_by-sends : (s : NodeState) (number : ℕ) (c : LockTarget) (mode : Option Mode) → SendsOnly (locked_by s number c mode)
  locked_by-sends s number c mode =
      let answer = lock_within s.table c mode in
      if_either SendsOnly (may_free mode answer.1) (with_freed c.file (settled s number answer)) (settled s number answer)
      (with_freed-sends c.file (settled s number answer) (nothing_sent (settled s number answer) refl))
      (nothing_sent (settled s number answer) refl)

  answered_here-sends : (s : NodeState) (c : OpenCall) (i : LockCommand) → SendsOnly (answered_here s c i)
  answered_here-sends s c lock_command.Set = locked_by-sends s c.number (target_of c) (Some c.mode)
  answered_here-sends s c lock_command.Wait = locked_by-sends s c.number (target_of c) (Some c.mode)
  answered_here-sends s c lock_command.Query = λ asks. All-nil P

  answered_if-sends : (s : NodeState) (number : ℕ) (o : Option Reply) → SendsOnly (answered_if s number o)
  answered_if-sends s number None = λ asks. All-nil P
  answered_if-sends s number (Some reply) = λ asks. All-nil P

  tried_against-sends : (s : NodeState) (c : OpenCall) (o : Option LockInfo) → Contains s.pending c → SendsOnly (tried_against s c o)
  tried_against-sends s c (Some lock) there = answered_if-sends s c.number (refusal_of c.lock_command lock)
  tried_against-sends s c None there =
      let wanted : Wants = record { required = c.span; desired = desired s.shape.policy (s.files c.file).token c.span } in
      if_either SendsOnly (covers (s.files c.file).token c.span c.mode) (answered_here s c c.lock_command) (requested s c)
      (answered_here-sends s c c.lock_command)
      (λ asks. All-cons P (Request c.file (id_of s c.number) (blocking_of c.lock_command) c.mode wanted) [] (asks c wanted there refl (desired_end s.shape.policy (s.files c.file).token c.span) (desired_around s.shape.policy (s.files c.file).token c.span)) (All-nil P))

  pub tried-sends : (s : NodeState) (c : OpenCall) → Contains s.pending c → SendsOnly (tried s c)
  tried-sends s c there = tried_against-sends s c (lowest_blocker (s.table.locks c.file) c.owner c.span c.mode) there

  pub tried_if-sends : (s : NodeState) (o : Option OpenCall) → ((c : OpenCall) → o ≡ Some c → Contains s.pending c) → SendsOnly (tried_if s o)
  tried_if-sends s None there = λ asks. All-nil P
  tried_if-sends s (Some c) there = tried-sends s c (there c refl)

  lock_call-sends : (s : NodeState) (number pid : ℕ) (i : LockCommand) (mode : Mode) (found : Result LockTarget Reply) → SendsOnly (lock_call s number pid i mode found)
  lock_call-sends s number pid i mode (Err refusal) = λ asks. All-nil P
  lock_call-sends s number pid i mode (Ok about) =
      let c : OpenCall = record { number = number; pid = pid; lock_command = i; file = about.file; owner = about.owner; mode = mode; span = about.span } in
      tried-sends (record s { pending = s.pending ++ c ∷ [] }) c (Contains-push s.pending c)

  unlock_call-sends : (s : NodeState) (number : ℕ) (found : Result LockTarget Reply) → SendsOnly (unlock_call s number found)
  unlock_call-sends s number (Err refusal) = λ asks. All-nil P
  unlock_call-sends s number (Ok c) = locked_by-sends s number c None

  shut-sends : (s : NodeState) (number : ℕ) (passes : ℕ → Bool) (answer : Table × Reply) → SendsOnly (shut_by s number passes answer)
  shut-sends s number passes answer = shut_keeps SendsOnly with_freed-sends s number passes answer (nothing_sent (settled s number answer) refl)

  pub called-sends : (s : NodeState) (number pid : ℕ) (op : Op) → SendsOnly (called s number pid op)
  called-sends s number pid (op.Process call) = λ asks. All-nil P
  called-sends s number pid (op.Close fd) = shut-sends s number (λ file. is_of_file file (descriptor s.table (process s pid) fd)) (after_close s.table (process s pid) fd)
  called-sends s number pid op.Exit = shut-sends (without_call_of s pid) number (has_open (around s.table (process s pid)) pid) (after_exit s.table (process s pid))
  called-sends s number pid (op.Lock call) = lock_call-sends s number pid call.command call.mode (call_target s.table (process s pid) call)
  called-sends s number pid (op.Unlock fd kind start len) = unlock_call-sends s number (target s.table (process s pid) None fd kind start len)

  remembered-sends : (s : NodeState) (file : ℕ) → Remembers P s → SendsOnly (remembered s (s.files file).answer)
  remembered-sends s file old = each (s.files file).answer refl
    where
      each : (o : Option Message) → (s.files file).answer ≡ o → SendsOnly (remembered s o)
      each None is asks = All-nil P
      each (Some m) is asks = All-cons P m [] (old file m is) (All-nil P)

  in_order-sends : (s : NodeState) (file number : ℕ) (e : Effect) → Remembers P s → (number ≡ (s.files file).last + 1 → SendsOnly e) → SendsOnly (in_order s file number e)
  in_order-sends s file number e old next = in_order_either SendsOnly s file number e next (remembered-sends s file old) (nothing_sent (quiet s) refl)

  granted-sends : (s : NodeState) (file number : ℕ) (call : CallId) (mode : Mode) (span : Range) → SendsOnly (granted s file number call mode span)
  granted-sends s file number call mode span asks =
      let next = after_command s file (raised (s.files file).token span mode) number (Taken file number call) (s.files file).owes_freed in
      let test : OpenCall → Bool = λ c. c.number == call.number in
      let e = tried_if next (open_call next call.number) in
      All-cons P (Taken file number call) e.sends (free.taken file number call) (tried_if-sends next (open_call next call.number) (λ c h. (found_open test s.pending c h).0) asks)

  -- P holds of the conflict of a revoke that a lock blocks
  abbrev pub Conflicts : NodeState → Message → Type 0
  Conflicts s (Revoke file number holder call mode wanted) = (lock : LockInfo) → number ≡ (s.files file).last + 1 → lowest_in_way (s.table.locks file) s.node s.incarnation wanted.required mode ≡ Some lock → P (Conflict file number (host s) call lock)
  Conflicts s _ = Unit {0}

  revoked-sends : (s : NodeState) (file number : ℕ) (holder : Host) (call : CallId) (mode : Mode) (wanted : Wants) → Conflicts s (Revoke file number holder call mode wanted) → number ≡ (s.files file).last + 1 → SendsOnly (revoked s file number call mode wanted)
  revoked-sends s file number holder call mode wanted conflict is asks = each (lowest_in_way (s.table.locks file) s.node s.incarnation wanted.required mode) refl
    where
      span : Range
      span = given_up_span (s.table.locks file) s.node s.incarnation mode wanted.required wanted.desired

      each : (o : Option LockInfo) → lowest_in_way (s.table.locks file) s.node s.incarnation wanted.required mode ≡ o → All P (answer_to file number (host s) call (answer_of o span) ∷ [])
      each None none = All-cons P (Released file number (host s) call span) [] (free.released file number (host s) call span) (All-nil P)
      each (Some lock) here = All-cons P (Conflict file number (host s) call lock) [] (conflict lock is here) (All-nil P)

  denied-sends : (s : NodeState) (lock : LockInfo) (o : Option OpenCall) → SendsOnly (denied s lock o)
  denied-sends s lock None = λ asks. All-nil P
  denied-sends s lock (Some c) = answered_if-sends s c.number (refusal_of c.lock_command lock)

  pub interrupted-sends : (s : NodeState) (o : Option OpenCall) → SendsOnly (interrupted s o)
  interrupted-sends s None = λ asks. All-nil P
  interrupted-sends s (Some c) = answered_if-sends s c.number (interruption_of c.lock_command)

  -- P holds of the conflict of a revoke that a lock blocks, after the node heard of its epoch
  abbrev pub EntersConflicts : NodeState → Message → Type 0
  EntersConflicts s (Revoke file number holder call mode wanted) = Conflicts (in_epoch s file number) (Revoke file number holder call mode wanted)
  EntersConflicts s _ = Unit {0}

  pub delivered-sends : (s : NodeState) (m : Message) → Remembers P s → EntersConflicts s m → SendsOnly (delivered s m)
  delivered-sends s (Grant file number call mode span) old conflict =
      let t = in_epoch s file number in
      in_order-sends t file number (granted t file number call mode span) (entered-remembers P s file number old) (λ is. granted-sends t file number call mode span)
  delivered-sends s (Revoke file number holder call mode wanted) old conflict =
      let t = in_epoch s file number in
      in_order-sends t file number (revoked t file number call mode wanted) (entered-remembers P s file number old) (revoked-sends t file number holder call mode wanted conflict)
  delivered-sends s (Hello file number holder) old conflict =
      let t = in_epoch s file number in
      told_either SendsOnly t file number (λ is asks. All-cons P (Report file number (host t) (runs_of (t.files file).token)) [] (free.report file number (host t) (runs_of (t.files file).token)) (All-nil P)) (nothing_sent (quiet t) refl)
  delivered-sends s (Report file number holder runs) old conflict = nothing_sent (quiet s) refl
  delivered-sends s (Deny file call holder number lock) old conflict = denied-sends s lock (open_call s call.number)
  delivered-sends s (Request file call blocking mode wanted) old conflict = nothing_sent (quiet s) refl
  delivered-sends s (Taken file number call) old conflict = nothing_sent (quiet s) refl
  delivered-sends s (Released file number holder call span) old conflict = nothing_sent (quiet s) refl
  delivered-sends s (Conflict file number holder call lock) old conflict = nothing_sent (quiet s) refl
  delivered-sends s (Freed file holder) old conflict = nothing_sent (quiet s) refl
