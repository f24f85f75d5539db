-- How a node tries an open lock call.
use Rattle.std.specs.Prelude.{ℕ, zero, suc, Bool, true, false, if◌then◌else◌, [], ◌∷◌, ◌++◌, Option, Some, None}
use Rattle.model.specs.declared.mode.Mode.{Mode}
use Rattle.model.specs.declared.mode.Mode.TheVariants.{Read}
use Rattle.model.specs.declared.lock_info.LockInfo.{LockInfo}
use Rattle.model.specs.declared.reply.Reply.{Reply}
use Rattle.model.specs.declared.reply.Reply.TheVariants.{Done, Again, Free, Blocked}
use Rattle.model.specs.rule.Locks.{lowest_blocker}
use Rattle.model.specs.rule.Table.{Table, LockTarget, lock_within}
use Rattle.token_set.specs.rule.Tokens.{covers, desired}
use Rattle.messages.specs.rule.TokenRuns.{Wants}
use Rattle.messages.specs.declared.message.Blocking.{Blocking}
use Rattle.messages.specs.declared.message.Blocking.TheVariants.{No, Yes}
use Rattle.messages.specs.declared.message.Message.TheVariants.{Request, Freed}
use Rattle.model.specs.declared.op.LockCommand.{LockCommand}
use Rattle.model.specs.declared.op.LockCommand.TheVariants.{Set, Wait, Query}
use Rattle.node_core.specs.declared.open_call.OpenCall.{OpenCall}
use Rattle.node_core.specs.rule.State.{NodeState, Effect, quiet, sent, answered, with_file, host, id_of, target_of}

-- the effect of a reply to a call, with the table's change
abbrev pub settled : NodeState → ℕ → Table × Reply → Effect
settled s number answer = answered (record s { table = answer.0 }) number answer.1

-- whether the request of a call waits where a lock blocks it, which only a wait does
abbrev pub blocking_of : LockCommand → Blocking
blocking_of Wait = Yes
blocking_of _ = No

-- the request to the server for a call that the token doesn't cover
abbrev pub requested : NodeState → OpenCall → Effect
requested s c =
    let wanted : Wants = record { required = c.span; desired = desired s.shape.policy (s.files c.file).token c.span } in
    sent s (Request c.file (id_of s c.number) (blocking_of c.lock_command) c.mode wanted)

-- the reply that names a lock in the way; none for a wait
abbrev pub refusal_of : LockCommand → LockInfo → Option Reply
refusal_of Set lock = Some (Again lock)
refusal_of Wait lock = None
refusal_of Query lock = Some (Blocked lock)

-- the effect of a reply to a call, if there is one; else the call stays open
abbrev pub answered_if : NodeState → ℕ → Option Reply → Effect
answered_if s number None = quiet s
answered_if s number (Some reply) = answered s number reply

-- whether a change of locks may end a conflict with other nodes' calls: it was done, and the bytes are free or only read locks from then on
abbrev pub may_free : Option Mode → Reply → Bool
may_free None Done = true
may_free (Some Read) Done = true
may_free _ _ = false

-- a Freed is sent to the server of the file, if one is owed
abbrev pub with_freed : ℕ → Effect → Effect
with_freed file e =
    if (e.state.files file).owes_freed
    then record { state = with_file e.state file (record (e.state.files file) { owes_freed = false }); reply = e.reply; sends = e.sends ++ Freed file (host e.state) ∷ [] }
    else e

-- a Freed is sent for each of the files up to n that passes and is owed one, by rising numbers
unfoldable pub with_freed_of : (ℕ → Bool) → ℕ → Effect → Effect
with_freed_of passes zero e = e
with_freed_of passes (suc n) e =
    let before = with_freed_of passes n e in
    if passes (suc n) then with_freed (suc n) before else before

-- the bytes are set to the mode or freed; a Freed is sent if one is owed and other nodes' calls may be helped
abbrev pub locked_by : NodeState → ℕ → LockTarget → Option Mode → Effect
locked_by s number target mode =
    let answer = lock_within s.table target mode in
    if may_free mode answer.1 then with_freed target.file (settled s number answer) else settled s number answer

-- the reply of the node's own table to a call that no lock blocks
abbrev pub answered_here : NodeState → OpenCall → LockCommand → Effect
answered_here s c Set = locked_by s c.number (target_of c) (Some c.mode)
answered_here s c Wait = locked_by s c.number (target_of c) (Some c.mode)
answered_here s c Query = answered s c.number Free

-- a call that no lock of the node blocks is answered by the node if its token covers it, else requested from the server
abbrev pub unblocked : NodeState → OpenCall → Effect
unblocked s c = if covers (s.files c.file).token c.span c.mode then answered_here s c c.lock_command else requested s c

abbrev pub tried_against : NodeState → OpenCall → Option LockInfo → Effect
tried_against s c (Some lock) = answered_if s c.number (refusal_of c.lock_command lock)
tried_against s c None = unblocked s c

-- a call is tried first against the node's own locks of other owners, then by its token, and then by a request to the server
abbrev pub tried : NodeState → OpenCall → Effect
tried s c = tried_against s c (lowest_blocker (s.table.locks c.file) c.owner c.span c.mode)

abbrev pub tried_if : NodeState → Option OpenCall → Effect
tried_if s None = quiet s
tried_if s (Some c) = tried s c
