-- A step that is no call and answers none leaves locks and open calls as they were.
use Rattle.std.specs.Prelude.{◌≡◌, ℕ, ◌+◌, Bool, true, false, not, cond, ◌&&◌, ◌==◌, nat_le, [], ◌∷◌, ◌++◌, Option, Some, None, Result, Ok, Err}
use Rattle.std.proofs.Common.{refl, ap, subst, ◌∙◌}
use Rattle.intervals.specs.rule.Bytes.{Range}
use Rattle.model.specs.declared.mode.Mode.{Mode}
use Rattle.model.specs.declared.call.CallId.{CallId}
use Rattle.model.specs.declared.lock_info.LockInfo.{LockInfo}
use Rattle.model.specs.declared.reply.Reply.{Reply}
use Rattle.model.specs.rule.Table.{LockTarget, lock_within}
use Rattle.model.specs.rule.Locks.{lowest_blocker}
use Rattle.token_set.specs.rule.Tokens.{covers}
use Rattle.messages.specs.declared.refusal.StepError.{StepError}
use Rattle.messages.specs.declared.refusal.StepError.TheVariants.{Stranger}
use Rattle.messages.specs.declared.message.Message.{Message}
use Rattle.messages.specs.declared.message.Message.TheVariants.{Request, Grant, Revoke, Taken, Released, Conflict, Deny, Freed, Hello, Report}
use Rattle.messages.specs.declared.outcome.Outcome.{Outcome}
use Rattle.messages.specs.rule.Messages.{addressee, host_of, file_of, is_within, runs_of}
use Rattle.messages.specs.declared.event.NodeInput.TheVariants.{Call, Interrupt, Retry}
use Rattle.node_core.specs.declared.event.NodeEvent.TheVariants.{Input, Deliver}
use Rattle.model.specs.declared.op.LockCommand.{LockCommand}
use Rattle.model.specs.declared.op.LockCommand.TheVariants as lock_command
use Rattle.node_core.specs.declared.open_call.OpenCall.{OpenCall}
use Rattle.node_core.specs.rule.State.{NodeState, Effect, with_file, quiet, sent, answered, outcome, open_call, open_call_of, target_of}
use Rattle.node_core.specs.rule.Try.{settled, may_free, with_freed, locked_by, refusal_of, answered_if, answered_here, requested, tried_against, tried, tried_if}
use Rattle.node_core.specs.rule.Calls.{is_pid}
use Rattle.node_core.specs.rule.Commands.{in_epoch, in_order, remembered, after_command, granted, revoked, denied, done_in, delivered, is_node}
use Rattle.node_core.specs.rule.Interrupts.{interruption_of, interrupted}
use Rattle.cluster_core.specs.rule.Rests.{Rests, RestsWithoutReply}

-- an effect that answers none leaves them
abbrev IsQuiet : NodeState → Effect → Type 0
IsQuiet s e = e.reply ≡ None → Rests s e.state

itself : (s : NodeState) → Rests s s
itself s = record { node = refl; incarnation = refl; table = refl; pending = refl }

quiet-quiet : (s : NodeState) → IsQuiet s (quiet s)
quiet-quiet s none = itself s

answered-quiet : (s t : NodeState) (number : ℕ) (reply : Reply) → IsQuiet s (answered t number reply)
answered-quiet s t number reply none = absurd (cc)

-- the server may hear of it
freed-quiet : (s : NodeState) (file : ℕ) (e : Effect) → IsQuiet s e → IsQuiet s (with_freed file e)
freed-quiet s file e q = by (e.state.files file).owes_freed
  where
    tell : Effect
    tell = record {
      state = with_file e.state file (record (e.state.files file) { owes_freed = false });
      reply = e.reply;
      sends = e.sends ++ Freed file (record { node = e.state.node; incarnation = e.state.incarnation }) ∷ [];
    }

    by : (b : Bool) → IsQuiet s (cond b tell e)
    by true none = let r = q none in record { node = r.node; incarnation = r.incarnation; table = r.table; pending = r.pending }
    by false none = q none

if-quiet : (s : NodeState) (b : Bool) (x y : Effect) → IsQuiet s x → IsQuiet s y → IsQuiet s (cond b x y)
if-quiet s true x y a b = a
if-quiet s false x y a b = b

locked-quiet : (s : NodeState) (number : ℕ) (about : LockTarget) (mode : Option Mode) → IsQuiet s (locked_by s number about mode)
locked-quiet s number about mode =
    let answer = lock_within s.table about mode in
    let one : IsQuiet s (settled s number answer) = answered-quiet s (record s { table = answer.0 }) number answer.1 in
    if-quiet s (may_free mode answer.1) (with_freed about.file (settled s number answer)) (settled s number answer) (freed-quiet s about.file (settled s number answer) one) one

here-quiet : (s : NodeState) (c : OpenCall) (i : LockCommand) → IsQuiet s (answered_here s c i)
here-quiet s c lock_command.Set = locked-quiet s c.number (target_of c) (Some c.mode)
here-quiet s c lock_command.Wait = locked-quiet s c.number (target_of c) (Some c.mode)
here-quiet s c lock_command.Query = answered-quiet s s c.number _

answered_if-quiet : (s : NodeState) (number : ℕ) (o : Option Reply) → IsQuiet s (answered_if s number o)
answered_if-quiet s number None = quiet-quiet s
answered_if-quiet s number (Some reply) = answered-quiet s s number reply

-- to try a call
tried-quiet : (s : NodeState) (c : OpenCall) → IsQuiet s (tried s c)
tried-quiet s c = by (lowest_blocker (s.table.locks c.file) c.owner c.span c.mode)
  where
    by : (o : Option LockInfo) → IsQuiet s (tried_against s c o)
    by (Some lock) = answered_if-quiet s c.number (refusal_of c.lock_command lock)
    by None = if-quiet s (covers (s.files c.file).token c.span c.mode) (answered_here s c c.lock_command) (requested s c) (here-quiet s c c.lock_command) (λ none. itself s)

tried_if-quiet : (s : NodeState) (o : Option OpenCall) → IsQuiet s (tried_if s o)
tried_if-quiet s None = quiet-quiet s
tried_if-quiet s (Some c) = tried-quiet s c

-- one that begins as another does
from-same : (s t : NodeState) (e : Effect) → Rests s t → IsQuiet t e → IsQuiet s e
from-same s t e a q none =
    let b = q none in
    record { node = b.node ∙ a.node; incarnation = b.incarnation ∙ a.incarnation; table = b.table ∙ a.table; pending = b.pending ∙ a.pending }

-- a command
remembered-quiet : (s : NodeState) (o : Option Message) → IsQuiet s (remembered s o)
remembered-quiet s None = quiet-quiet s
remembered-quiet s (Some answer) = λ none. itself s

ordered-quiet : (s : NodeState) (file number : ℕ) (e : Effect) → IsQuiet s e → IsQuiet s (in_order s file number e)
ordered-quiet s file number e q =
    if-quiet s (number == (s.files file).last + 1) e _ q
    (if-quiet s ((number == (s.files file).last) && nat_le 1 number) (remembered s (s.files file).answer) (quiet s) (remembered-quiet s (s.files file).answer) (quiet-quiet s))

granted-quiet : (s : NodeState) (file number : ℕ) (call : CallId) (mode : Mode) (span : Range) → IsQuiet s (granted s file number call mode span)
granted-quiet s file number call mode span =
    let next : NodeState = after_command s file _ number (Taken file number call) (s.files file).owes_freed in
    from-same s next (tried_if next (open_call next call.number)) (record { node = refl; incarnation = refl; table = refl; pending = refl }) (tried_if-quiet next (open_call next call.number))

entered-rests : (s : NodeState) (file number : ℕ) → Rests s (in_epoch s file number)
entered-rests s file number = record { node = refl; incarnation = refl; table = refl; pending = refl }

done-quiet : (s : NodeState) (m : Message) → IsQuiet s (done_in s m)
done-quiet s (Grant file number call mode span) = ordered-quiet s file number (granted s file number call mode span) (granted-quiet s file number call mode span)
done-quiet s (Revoke file number holder call mode wanted) = ordered-quiet s file number (revoked s file number call mode wanted) (λ none. record { node = refl; incarnation = refl; table = refl; pending = refl })
done-quiet s (Hello file number holder) = if-quiet s (number == (s.files file).last) (sent s (Report file number _ (runs_of (s.files file).token))) (quiet s) (λ none. itself s) (quiet-quiet s)
done-quiet s (Request file call blocking mode wanted) = quiet-quiet s
done-quiet s (Taken file number call) = quiet-quiet s
done-quiet s (Released file number holder call span) = quiet-quiet s
done-quiet s (Conflict file number holder call lock) = quiet-quiet s
done-quiet s (Deny file call holder number lock) = quiet-quiet s
done-quiet s (Freed file holder) = quiet-quiet s
done-quiet s (Report file number holder runs) = quiet-quiet s

denied-quiet : (s : NodeState) (lock : LockInfo) (o : Option OpenCall) → IsQuiet s (denied s lock o)
denied-quiet s lock None = quiet-quiet s
denied-quiet s lock (Some c) = answered_if-quiet s c.number (refusal_of c.lock_command lock)

delivered-quiet : (s : NodeState) (m : Message) → IsQuiet s (delivered s m)
delivered-quiet s (Grant file number call mode span) = from-same s (in_epoch s file number) (done_in (in_epoch s file number) (Grant file number call mode span)) (entered-rests s file number) (done-quiet (in_epoch s file number) (Grant file number call mode span))
delivered-quiet s (Revoke file number holder call mode wanted) = from-same s (in_epoch s file number) (done_in (in_epoch s file number) (Revoke file number holder call mode wanted)) (entered-rests s file number) (done-quiet (in_epoch s file number) (Revoke file number holder call mode wanted))
delivered-quiet s (Hello file number holder) = from-same s (in_epoch s file number) (done_in (in_epoch s file number) (Hello file number holder)) (entered-rests s file number) (done-quiet (in_epoch s file number) (Hello file number holder))
delivered-quiet s (Deny file call holder number lock) = denied-quiet s lock (open_call s call.number)
delivered-quiet s (Request file call blocking mode wanted) = quiet-quiet s
delivered-quiet s (Taken file number call) = quiet-quiet s
delivered-quiet s (Released file number holder call span) = quiet-quiet s
delivered-quiet s (Conflict file number holder call lock) = quiet-quiet s
delivered-quiet s (Freed file holder) = quiet-quiet s
delivered-quiet s (Report file number holder runs) = quiet-quiet s

interrupted-quiet : (s : NodeState) (o : Option OpenCall) → IsQuiet s (interrupted s o)
interrupted-quiet s None = quiet-quiet s
interrupted-quiet s (Some c) = answered_if-quiet s c.number (interruption_of c.lock_command)

abbrev Made : Type 0
Made = Result (NodeState × Outcome) StepError

-- what such an effect comes to
made-rests : (s u : NodeState) (e : Effect) (out : Outcome) → IsQuiet s e → ◌≡◌ {A = Made} (Ok (outcome None e)) (Ok (u, out)) → out.reply ≡ None → Rests s u
made-rests s u e out q is none =
    let pair : ◌≡◌ {A = NodeState × Outcome} (outcome None e) (u, out) = cc in
    subst (Rests s) (ap (λ (p : NodeState × Outcome). p.0) pair) (q (ap (λ (p : NodeState × Outcome). p.1.reply) pair ∙ none))

pub rests-without-reply : RestsWithoutReply
rests-without-reply s u (Input (Call pid op)) out is no_call none = absurd no_call
rests-without-reply s u (Deliver m) out is no_call none = by (not (is_node s.node (addressee m) && is_within s.shape.files (file_of m))) ((host_of m).incarnation == s.incarnation) is
  where
    by : (stranger live : Bool) → ◌≡◌ {A = Made} (cond stranger (Err Stranger) (cond live (Ok (outcome None (delivered s m))) (Ok (outcome None (quiet s))))) (Ok (u, out)) → Rests s u
    by true live h = absurd (cc)
    by false true h = made-rests s u (delivered s m) out (delivered-quiet s m) h none
    by false false h = made-rests s u (quiet s) out (quiet-quiet s) h none
rests-without-reply s u (Input (Interrupt pid)) out is no_call none = by (is_pid pid) is
  where
    by : (b : Bool) → ◌≡◌ {A = Made} (cond b (Ok (outcome None (interrupted s (open_call_of s pid)))) (Err Stranger)) (Ok (u, out)) → Rests s u
    by true h = made-rests s u (interrupted s (open_call_of s pid)) out (interrupted-quiet s (open_call_of s pid)) h none
    by false h = absurd (cc)
rests-without-reply s u (Input (Retry pid)) out is no_call none = by (is_pid pid) is
  where
    by : (b : Bool) → ◌≡◌ {A = Made} (cond b (Ok (outcome None (tried_if s (open_call_of s pid)))) (Err Stranger)) (Ok (u, out)) → Rests s u
    by true h = made-rests s u (tried_if s (open_call_of s pid)) out (tried_if-quiet s (open_call_of s pid)) h none
    by false h = absurd (cc)
