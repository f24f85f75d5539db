-- The steps of a node, by cases.
use Rattle.std.specs.Prelude.{nat_le, nat_lt, not, ◌&&◌, ◌==◌}
use Rattle.std.proofs.Common.{◌≡◌, ℕ, zero, suc, ◌+◌, Bool, true, false, if◌then◌else◌, ◌⊎◌, inl, inr, refl, Option, Some, None, Ok}
use Rattle.std.proofs.lemmas.Bool.{and_parts, eqb-true, not-false}
use Rattle.model.specs.declared.op.Op.{Op}
use Rattle.model.specs.declared.reply.Reply.{Reply}
use Rattle.model.specs.declared.reply.Reply.TheVariants.{Interrupted}
use Rattle.model.specs.rule.Table.{Table}
use Rattle.messages.specs.declared.message.Message.{Message}
use Rattle.messages.specs.declared.message.Message.TheVariants.{Report}
use Rattle.messages.specs.rule.Messages.{runs_of, addressee, host_of, file_of, is_within, greatest_number}
use Rattle.messages.specs.declared.outcome.Outcome.{Outcome}
use Rattle.messages.specs.declared.refusal.StepError.TheVariants.{Busy, Stranger, Spent}
use Rattle.model.specs.declared.op.LockCommand.{LockCommand}
use Rattle.model.specs.declared.op.LockCommand.TheVariants as lock_command
use Rattle.node_core.specs.declared.open_call.OpenCall.{OpenCall}
use Rattle.node_core.specs.rule.State.{NodeState, Effect, host, quiet, sent, answered, outcome, open_call_of}
use Rattle.node_core.specs.rule.Try.{settled, may_free, with_freed, with_freed_of, answered_if, tried_if}
use Rattle.node_core.specs.rule.Calls.{is_pid, is_in_shape, is_busy, shut_by, after_call, call_rule}
use Rattle.node_core.specs.rule.Commands.{remembered, told, in_order, delivered, is_node, deliver_rule}
use Rattle.node_core.specs.rule.Interrupts.{interruption_of, interrupted, interrupt_rule}
use Rattle.node_core.specs.rule.Retries.{retry_rule}
use Rattle.cluster_core.proofs.common.Choices.{if_either, at_number}
use Rattle.cluster_core.proofs.common.Refusals.{if_ok, unless_refused, if_ours}

-- a call that is not refused
pub call_done : (s : NodeState) (pid : ℕ) (op : Op) (done : NodeState × Outcome) → call_rule s pid op ≡ Ok done → after_call s pid op ≡ done
call_done s pid op done h =
    let known = unless_refused (not (is_pid pid && is_in_shape s.shape op)) _ done Stranger h in
    let free = unless_refused (is_busy s pid op) _ done Busy known.1 in
    (if_ok (nat_lt s.calls greatest_number) (after_call s pid op) done Spent free.1).1

-- a call that is not refused names what can be, and its process is not busy
pub call_free : (s : NodeState) (pid : ℕ) (op : Op) (done : NodeState × Outcome) → call_rule s pid op ≡ Ok done → (is_in_shape s.shape op ≡ true) × (is_busy s pid op ≡ false)
call_free s pid op done h =
    let known = unless_refused (not (is_pid pid && is_in_shape s.shape op)) _ done Stranger h in
    ((and_parts (is_pid pid) (is_in_shape s.shape op) (not-false (is_pid pid && is_in_shape s.shape op) known.0)).1, (unless_refused (is_busy s pid op) _ done Busy known.1).0)

-- a property that each Freed keeps, all of them keep
freed_of_each : (P : Effect → Type 0) → ((file : ℕ) (e : Effect) → P e → P (with_freed file e)) → (passes : ℕ → Bool) (n : ℕ) (e : Effect) → P e → P (with_freed_of passes n e)
unfolding with_freed_of
freed_of_each P told passes zero e h = h
freed_of_each P told passes (suc n) e h =
    let before = with_freed_of passes n e in
    let so_far = freed_of_each P told passes n e h in
    if_either P (passes (suc n)) (with_freed (suc n) before) before (told (suc n) before so_far) so_far

-- a property that each Freed keeps, a close or an exit keeps
pub shut_keeps : (P : Effect → Type 0) → ((file : ℕ) (e : Effect) → P e → P (with_freed file e)) → (s : NodeState) (number : ℕ) (passes : ℕ → Bool) (answer : Table × Reply) → P (settled s number answer) → P (shut_by s number passes answer)
shut_keeps P told s number passes answer h =
    let e = settled s number answer in
    if_either P (may_free None answer.1) (with_freed_of passes s.shape.files e) e (freed_of_each P told passes s.shape.files e h) h

-- the message is to the node, in its incarnation
pub record IsTo (s : NodeState) (m : Message) : Type 0 where
  pub node : is_node s.node (addressee m) ≡ true
  pub incarnation : (host_of m).incarnation ≡ s.incarnation

-- a message that is not refused is taken, or does nothing
pub deliver_done : (s : NodeState) (m : Message) (done : NodeState × Outcome) → deliver_rule s m ≡ Ok done → (IsTo s m × (outcome None (delivered s m) ≡ done)) ⊎ (outcome None (quiet s) ≡ done)
deliver_done s m done h =
    let is = if_ours (is_node s.node (addressee m)) (is_within s.shape.files (file_of m)) ((host_of m).incarnation == s.incarnation) (outcome None (delivered s m)) (outcome None (quiet s)) done Stranger h in
    elim is.2 [
      | inl taken ↦ inl (record { node = is.0; incarnation = eqb-true (host_of m).incarnation s.incarnation taken.0 }, taken.1)
      | inr passed ↦ inr passed.1
    ]

pub retry_done : (s : NodeState) (pid : ℕ) (done : NodeState × Outcome) → retry_rule s pid ≡ Ok done → outcome None (tried_if s (open_call_of s pid)) ≡ done
retry_done s pid done h = (if_ok (is_pid pid) (outcome None (tried_if s (open_call_of s pid))) done Stranger h).1

pub interrupt_done : (s : NodeState) (pid : ℕ) (done : NodeState × Outcome) → interrupt_rule s pid ≡ Ok done → outcome None (interrupted s (open_call_of s pid)) ≡ done
interrupt_done s pid done h = (if_ok (is_pid pid) (outcome None (interrupted s (open_call_of s pid))) done Stranger h).1

-- a call that is answered, or stays open
pub answered_if_either : (P : Effect → Type 0) (s : NodeState) (number : ℕ) (o : Option Reply) → ((reply : Reply) → o ≡ Some reply → P (answered s number reply)) → P (quiet s) → P (answered_if s number o)
answered_if_either P s number None answers stays = stays
answered_if_either P s number (Some reply) answers stays = answers reply refl

-- an interrupt: a call that waits is answered, or nothing happens
pub interrupted_either : (P : Effect → Type 0) (s : NodeState) (o : Option OpenCall) → ((c : OpenCall) → o ≡ Some c → c.lock_command ≡ lock_command.Wait → P (answered s c.number Interrupted)) → P (quiet s) → P (interrupted s o)
interrupted_either P s None waits stays = stays
interrupted_either P s (Some c) waits stays = each c.lock_command refl
  where
    each : (i : LockCommand) → c.lock_command ≡ i → P (answered_if s c.number (interruption_of i))
    each lock_command.Wait is = waits c refl is
    each lock_command.Set is = stays
    each lock_command.Query is = stays

-- an answer that is sent again leaves the node as it was
pub remembered_state : (s : NodeState) (answer : Option Message) → (remembered s answer).state ≡ s
remembered_state s None = refl
remembered_state s (Some m) = refl

-- a command: it is done, or the answer to the last one is sent again, or nothing
pub in_order_either : (P : Effect → Type 0) (s : NodeState) (file number : ℕ) (e : Effect) → (number ≡ (s.files file).last + 1 → P e) → P (remembered s (s.files file).answer) → P (quiet s) → P (in_order s file number e)
in_order_either P s file number e next again idle =
    let last = (number == (s.files file).last) && nat_le 1 number in
    let others : Effect = if last then remembered s (s.files file).answer else quiet s in
    at_number number ((s.files file).last + 1) (λ b. P (if b then e else others)) next (λ other. if_either P last (remembered s (s.files file).answer) (quiet s) again idle)

-- a Hello: the node reports its token if it has done no later command, or nothing happens
pub told_either : (P : Effect → Type 0) (s : NodeState) (file number : ℕ) → (number ≡ (s.files file).last → P (sent s (Report file number (host s) (runs_of (s.files file).token)))) → P (quiet s) → P (told s file number)
told_either P s file number tells nothing =
    at_number number (s.files file).last (λ b. P (if b then sent s (Report file number (host s) (runs_of (s.files file).token)) else quiet s)) tells (λ other. nothing)
