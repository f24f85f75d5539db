-- After every run each node has the shape of its cluster.
use Rattle.std.specs.Prelude.{if◌then◌else◌}
use Rattle.std.proofs.Common.{◌≡◌, ℕ, ◌+◌, Bool, false, inl, inr, refl, ◌∙◌, ap, subst, List, [], ◌∷◌, ◌++◌, Option, Some, None, Result, Ok, Err}
use Rattle.model.specs.declared.lock_info.LockInfo.{LockInfo}
use Rattle.model.specs.declared.mode.Mode.{Mode}
use Rattle.model.specs.declared.op.Op.{Op}
use Rattle.model.specs.declared.op.Op.TheVariants as op
use Rattle.model.specs.declared.op.LockCommand.{LockCommand}
use Rattle.model.specs.declared.op.LockCommand.TheVariants as lock_command
use Rattle.model.specs.declared.reply.Reply.{Reply}
use Rattle.model.specs.rule.Locks.{lowest_blocker}
use Rattle.model.specs.rule.Descriptors.{is_of_file, has_open}
use Rattle.model.specs.rule.Table.{Table, LockTarget, around, descriptor, target, call_target, lock_within, after_close, after_exit}
use Rattle.token_set.specs.rule.Tokens.{covers, raised}
use Rattle.messages.specs.rule.Shapes.{ShapeFields, IsShape}
use Rattle.messages.specs.declared.message.Message.{Message}
use Rattle.messages.specs.declared.message.Message.TheVariants.{Request, Grant, Revoke, Taken, Released, Conflict, Deny, Freed, Hello, Report}
use Rattle.messages.specs.declared.event.Event.{Event}
use Rattle.messages.specs.declared.event.NodeInput.TheVariants.{Call, Interrupt, Retry}
use Rattle.messages.specs.declared.entry.Entry.{Entry}
use Rattle.messages.specs.declared.outcome.Outcome.{Outcome}
use Rattle.node_core.specs.declared.event.NodeEvent.{NodeEvent}
use Rattle.node_core.specs.declared.event.NodeEvent.TheVariants.{Input, Deliver}
use Rattle.node_core.specs.declared.open_call.OpenCall.{OpenCall}
use Rattle.node_core.specs.rule.State.{NodeState, Effect, first_node, with_file, without_call_of, open_call, open_call_of, process, host, target_of}
use Rattle.node_core.specs.rule.Try.{settled, may_free, with_freed, locked_by, refusal_of, answered_if, answered_here, requested, tried_against, tried, tried_if}
use Rattle.node_core.specs.rule.Calls.{lock_call, unlock_call, called, shut_by}
use Rattle.node_core.specs.rule.Commands.{in_epoch, in_order, after_command, granted, revoked, denied, delivered}
use Rattle.node_core.specs.rule.Node.{node_rule}
use Rattle.cluster_core.specs.rule.World.{WorldState, first_world}
use Rattle.cluster_core.specs.rule.Next.{next}
use Rattle.cluster_core.specs.rule.Runs.{Leads}
use Rattle.cluster_core.proofs.common.Choices.{if_either, at_number}
use Rattle.cluster_core.proofs.rounds.Kept.{kept_in_run}
use Rattle.cluster_core.proofs.steps.NodeSteps.{call_done, deliver_done, interrupt_done, retry_done, interrupted_either, remembered_state, in_order_either, told_either, shut_keeps}
use Rattle.cluster_core.proofs.steps.Steps.{next_step}

-- the effect leaves the node its shape
abbrev Keeps : ShapeFields → Effect → Type 0
Keeps shape e = e.state.shape ≡ shape

freed-keeps : (shape : ShapeFields) (file : ℕ) (e : Effect) → Keeps shape e → Keeps shape (with_freed file e)
freed-keeps shape file e k =
    if_either (Keeps shape) (e.state.files file).owes_freed (record { state = with_file e.state file (record (e.state.files file) { owes_freed = false }); reply = e.reply; sends = e.sends ++ Freed file (host e.state) ∷ [] }) e k k

locked-keeps : (s : NodeState) (number : ℕ) (about : LockTarget) (mode : Option Mode) → Keeps s.shape (locked_by s number about mode)
locked-keeps s number about mode =
    let answer = lock_within s.table about mode in
    let e = settled s number answer in
    if_either (Keeps s.shape) (may_free mode answer.1) (with_freed about.file e) e (freed-keeps s.shape about.file e refl) refl

here-keeps : (s : NodeState) (c : OpenCall) (i : LockCommand) → Keeps s.shape (answered_here s c i)
here-keeps s c lock_command.Set = locked-keeps s c.number (target_of c) (Some c.mode)
here-keeps s c lock_command.Wait = locked-keeps s c.number (target_of c) (Some c.mode)
here-keeps s c lock_command.Query = refl

answered_if-keeps : (s : NodeState) (number : ℕ) (o : Option Reply) → Keeps s.shape (answered_if s number o)
answered_if-keeps s number None = refl
answered_if-keeps s number (Some reply) = refl

tried-keeps : (s : NodeState) (c : OpenCall) → Keeps s.shape (tried s c)
tried-keeps s c = by (lowest_blocker (s.table.locks c.file) c.owner c.span c.mode)
  where
    by : (o : Option LockInfo) → Keeps s.shape (tried_against s c o)
    by (Some lock) = answered_if-keeps s c.number (refusal_of c.lock_command lock)
    by None = if_either (Keeps s.shape) (covers (s.files c.file).token c.span c.mode) (answered_here s c c.lock_command) (requested s c) (here-keeps s c c.lock_command) refl

tried_if-keeps : (s : NodeState) (o : Option OpenCall) → Keeps s.shape (tried_if s o)
tried_if-keeps s None = refl
tried_if-keeps s (Some c) = tried-keeps s c

ordered-keeps : (s : NodeState) (file number : ℕ) (e : Effect) → Keeps s.shape e → Keeps s.shape (in_order s file number e)
ordered-keeps s file number e k = in_order_either (Keeps s.shape) s file number e (λ next. k) (ap (λ (x : NodeState). x.shape) (remembered_state s (s.files file).answer)) refl

delivered-keeps : (s : NodeState) (m : Message) → Keeps s.shape (delivered s m)
delivered-keeps s (Grant file number call mode span) =
    let t = in_epoch s file number in
    let next = after_command t file (raised (t.files file).token span mode) number (Taken file number call) (t.files file).owes_freed in
    ordered-keeps t file number (granted t file number call mode span) (tried_if-keeps next (open_call next call.number))
delivered-keeps s (Revoke file number holder call mode wanted) = let t = in_epoch s file number in ordered-keeps t file number (revoked t file number call mode wanted) refl
delivered-keeps s (Hello file number holder) = told_either (Keeps s.shape) (in_epoch s file number) file number (λ is. refl) refl
delivered-keeps s (Deny file call holder number lock) = by (open_call s call.number)
  where
    by : (o : Option OpenCall) → Keeps s.shape (denied s lock o)
    by None = refl
    by (Some c) = answered_if-keeps s c.number (refusal_of c.lock_command lock)
delivered-keeps s (Request file call blocking mode wanted) = refl
delivered-keeps s (Taken file number call) = refl
delivered-keeps s (Released file number holder call span) = refl
delivered-keeps s (Conflict file number holder call lock) = refl
delivered-keeps s (Freed file holder) = refl
delivered-keeps s (Report file number holder runs) = refl

shut-keeps : (s : NodeState) (number : ℕ) (passes : ℕ → Bool) (answer : Table × Reply) → Keeps s.shape (shut_by s number passes answer)
shut-keeps s number passes answer = shut_keeps (Keeps s.shape) (freed-keeps s.shape) s number passes answer refl

lock_call-keeps : (s : NodeState) (number pid : ℕ) (i : LockCommand) (mode : Mode) (found : Result LockTarget Reply) → Keeps s.shape (lock_call s number pid i mode found)
lock_call-keeps s number pid i mode (Err refusal) = refl
lock_call-keeps s number pid i mode (Ok about) =
    let c : OpenCall = record { number = number; pid = pid; lock_command = i; file = about.file; owner = about.owner; mode = mode; span = about.span } in
    tried-keeps (record s { pending = s.pending ++ c ∷ [] }) c

unlock_call-keeps : (s : NodeState) (number : ℕ) (found : Result LockTarget Reply) → Keeps s.shape (unlock_call s number found)
unlock_call-keeps s number (Err refusal) = refl
unlock_call-keeps s number (Ok about) = locked-keeps s number about None

called-keeps : (s : NodeState) (number pid : ℕ) (call : Op) → Keeps s.shape (called s number pid call)
called-keeps s number pid (op.Process call) = refl
called-keeps s number pid (op.Close fd) = shut-keeps s number (λ file. is_of_file file (descriptor s.table (process s pid) fd)) (after_close s.table (process s pid) fd)
called-keeps s number pid op.Exit = shut-keeps (without_call_of s pid) number (has_open (around s.table (process s pid)) pid) (after_exit s.table (process s pid))
called-keeps s number pid (op.Lock call) = lock_call-keeps s number pid call.command call.mode (call_target s.table (process s pid) call)
called-keeps s number pid (op.Unlock fd kind start len) = unlock_call-keeps s number (target s.table (process s pid) None fd kind start len)

rule-keeps : (s : NodeState) (event : NodeEvent) (done : NodeState × Outcome) → node_rule s event ≡ Ok done → done.0.shape ≡ s.shape
rule-keeps s (Input (Call pid call)) done h =
    subst (λ (p : NodeState × Outcome). p.0.shape ≡ s.shape) (call_done s pid call done h) (called-keeps (record s { calls = s.calls + 1 }) (s.calls + 1) pid call)
rule-keeps s (Deliver m) done h = elim (deliver_done s m done h) [
  | inl took ↦ subst (λ (p : NodeState × Outcome). p.0.shape ≡ s.shape) took.1 (delivered-keeps s m)
  | inr passed ↦ subst (λ (p : NodeState × Outcome). p.0.shape ≡ s.shape) passed refl
]
rule-keeps s (Input (Interrupt pid)) done h =
    subst (λ (p : NodeState × Outcome). p.0.shape ≡ s.shape) (interrupt_done s pid done h) (interrupted_either (Keeps s.shape) s (open_call_of s pid) (λ c is waits. refl) refl)
rule-keeps s (Input (Retry pid)) done h = subst (λ (p : NodeState × Outcome). p.0.shape ≡ s.shape) (retry_done s pid done h) (tried_if-keeps s (open_call_of s pid))

abbrev AllShaped : WorldState → Type 0
AllShaped w = (n : ℕ) → (w.nodes n).shape ≡ w.shape

next-shaped : (w : WorldState) → AllShaped w → (event : Event) (q : WorldState × Entry) → next w event ≡ Ok q → AllShaped q.0
next-shaped w all event q h =
    next_step w (λ p. AllShaped p.0) event q
    (λ n step done is k. at_number k n (λ b. (if b then done.0 else w.nodes k).shape ≡ w.shape) (λ same. rule-keeps (w.nodes n) step done is ∙ all n) (λ other. all k))
    (λ file step done is. all)
    (λ n is alive k. at_number k n (λ b. (if b then first_node w.shape n ((w.nodes n).incarnation + 1) else w.nodes k).shape ≡ w.shape) (λ same. refl) (λ other. all k))
    (λ n is dead few. all) (λ file is works. all) (λ file is stopped few. all) h

pub all_shaped : (shape : ShapeFields) (es : List Entry) (w : WorldState) → IsShape shape → Leads (first_world shape) es w → AllShaped w
all_shaped shape es w is leads = kept_in_run shape is AllShaped (λ past v good present all. next-shaped v all) es w leads (λ n. refl)
