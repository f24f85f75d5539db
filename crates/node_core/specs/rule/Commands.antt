-- How a node takes a message of a token server.
use Rattle.std.specs.Prelude.{ℕ, ◌+◌, Bool, true, false, not, ◌&&◌, ◌||◌, ◌==◌, nat_le, nat_lt, if◌then◌else◌, ◌∷◌, Option, Some, None, Result, Ok, Err}
use Rattle.intervals.specs.rule.Bytes.{Range}
use Rattle.model.specs.declared.mode.Mode.{Mode}
use Rattle.model.specs.declared.call.CallId.{CallId}
use Rattle.model.specs.declared.host.Host.{Host}
use Rattle.model.specs.declared.lock_info.LockInfo.{LockInfo}
use Rattle.token_set.specs.rule.Tokens.{Token, raised, gave_up, after_giving_up}
use Rattle.token_set.specs.declared.gave_up.GaveUp.{GaveUp}
use Rattle.token_set.specs.declared.gave_up.GaveUp.TheVariants.{Released, Conflict}
use Rattle.node_core.specs.declared.open_call.OpenCall.{OpenCall}
use Rattle.messages.specs.declared.refusal.StepError.{StepError}
use Rattle.messages.specs.declared.refusal.StepError.TheVariants.{Stranger}
use Rattle.messages.specs.declared.message.Message.{Message}
use Rattle.messages.specs.declared.message.Message.TheVariants as message
use Rattle.messages.specs.declared.message.Message.TheVariants.{Grant, Revoke, Taken, Deny, Hello, Report}
use Rattle.messages.specs.rule.TokenRuns.{Wants}
use Rattle.messages.specs.declared.outcome.Outcome.{Outcome}
use Rattle.messages.specs.declared.actor.Actor.{Actor}
use Rattle.messages.specs.declared.actor.Actor.TheVariants.{Node as ANode, Server as AServer}
use Rattle.messages.specs.rule.Shapes.{begin_of}
use Rattle.messages.specs.rule.Messages.{addressee, host_of, file_of, is_within, runs_of}
use Rattle.node_core.specs.rule.State.{FileState, NodeState, Effect, with_file, quiet, sent, host, outcome, open_call}
use Rattle.node_core.specs.rule.Try.{refusal_of, answered_if, tried_if}

-- the file in the epoch of a command: if that is later than the last command's, older commands and the remembered answer don't count any longer
abbrev pub renewed : FileState → ℕ → FileState
renewed f number = if nat_lt f.last (begin_of number) then record f { last = begin_of number; answer = None } else f

abbrev pub in_epoch : NodeState → ℕ → ℕ → NodeState
in_epoch s file number = with_file s file (renewed (s.files file) number)

-- the answer to the last command is sent again
abbrev pub remembered : NodeState → Option Message → Effect
remembered s None = quiet s
remembered s (Some answer) = sent s answer

-- commands are done in order of their numbers, each once; the last one that was done is answered again, any other does nothing
abbrev pub in_order : NodeState → ℕ → ℕ → Effect → Effect
in_order s file number effect =
    if number == (s.files file).last + 1 then effect
    else (if (number == (s.files file).last) && nat_le 1 number then remembered s (s.files file).answer
    else quiet s)

abbrev pub before : Message → Effect → Effect
before first e = record { state = e.state; reply = e.reply; sends = first ∷ e.sends }

-- a command is done: the file has this token, number, answer and owed Freed from now on
abbrev pub after_command : NodeState → ℕ → Token → ℕ → Message → Bool → NodeState
after_command s file token number answer owes_freed = with_file s file (record { token = token; last = number; answer = Some answer; owes_freed = owes_freed })

-- a grant is done: the token is raised, and the call that it is for is tried if it is still open
abbrev pub granted : NodeState → ℕ → ℕ → CallId → Mode → Range → Effect
granted s file number call mode span =
    let next = after_command s file (raised (s.files file).token span mode) number (Taken file number call) (s.files file).owes_freed in
    before (Taken file number call) (tried_if next (open_call next call.number))

-- the answer to a revoke, as a message
abbrev pub answer_to : ℕ → ℕ → Host → CallId → GaveUp → Message
answer_to file number holder call (Released span) = message.Released file number holder call span
answer_to file number holder call (Conflict lock) = message.Conflict file number holder call lock

-- whether the answer names a lock in the way
abbrev pub is_conflict : GaveUp → Bool
is_conflict (Released span) = false
is_conflict (Conflict lock) = true

-- a revoke is done: a lock in the way of the required bytes is named; without one the token is given up around them, as far as no lock is in the way
abbrev pub revoked : NodeState → ℕ → ℕ → CallId → Mode → Wants → Effect
revoked s file number call mode wanted =
    let gives = gave_up (s.table.locks file) s.node s.incarnation mode wanted.required wanted.desired in
    let answer = answer_to file number (host s) call gives in
    sent (after_command s file (after_giving_up (s.files file).token mode gives) number answer (is_conflict gives || (s.files file).owes_freed)) answer

-- a denial: an open call is answered with the lock in its way; a wait stays open
abbrev pub denied : NodeState → LockInfo → Option OpenCall → Effect
denied s lock None = quiet s
denied s lock (Some c) = answered_if s c.number (refusal_of c.lock_command lock)

-- a hello of a rebuilt server: the token is reported, as long as no command of the server's epoch is done
abbrev pub told : NodeState → ℕ → ℕ → Effect
told s file number = if number == (s.files file).last then sent s (Report file number (host s) (runs_of (s.files file).token)) else quiet s

-- the effect of a grant, a revoke or a hello, in the epoch that it is of
abbrev pub done_in : NodeState → Message → Effect
done_in s (Grant file number call mode span) = in_order s file number (granted s file number call mode span)
done_in s (Revoke file number holder call mode wanted) = in_order s file number (revoked s file number call mode wanted)
done_in s (Hello file number holder) = told s file number
done_in s _ = quiet s

abbrev pub delivered : NodeState → Message → Effect
delivered s (Grant file number call mode span) = done_in (in_epoch s file number) (Grant file number call mode span)
delivered s (Revoke file number holder call mode wanted) = done_in (in_epoch s file number) (Revoke file number holder call mode wanted)
delivered s (Hello file number holder) = done_in (in_epoch s file number) (Hello file number holder)
delivered s (Deny file call holder number lock) = denied s lock (open_call s call.number)
delivered s _ = quiet s

abbrev pub is_node : ℕ → Actor → Bool
is_node node (ANode n) = n == node
is_node node (AServer file) = false

-- the rule of messages: a message for another incarnation of the node does nothing
abbrev pub deliver_rule : NodeState → Message → Result (NodeState × Outcome) StepError
deliver_rule s m =
    if not (is_node s.node (addressee m) && is_within s.shape.files (file_of m)) then Err Stranger
    else (if (host_of m).incarnation == s.incarnation then Ok (outcome None (delivered s m))
    else Ok (outcome None (quiet s)))
