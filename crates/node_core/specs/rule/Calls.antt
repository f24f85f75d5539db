-- How a node takes a call of one of its processes.
use Rattle.std.specs.Prelude.{ℕ, ◌+◌, Bool, true, false, not, ◌&&◌, nat_lt, if◌then◌else◌, [], ◌∷◌, ◌++◌, is_some, Some, None, Result, Ok, Err}
use Rattle.model.specs.declared.mode.Mode.{Mode}
use Rattle.model.specs.declared.op.Op.{Op}
use Rattle.model.specs.declared.op.Op.TheVariants.{Process, Close, Exit, Lock, Unlock}
use Rattle.model.specs.declared.op.ProcessCall.TheVariants.{Fork, Open}
use Rattle.model.specs.declared.op.LockCommand.{LockCommand}
use Rattle.model.specs.declared.reply.Reply.{Reply}
use Rattle.model.specs.rule.Limits.{most_processes}
use Rattle.model.specs.rule.Descriptors.{is_of_file, has_open, after}
use Rattle.model.specs.rule.Table.{Table, LockTarget, around, descriptor, beside, target, call_target, after_close, after_exit}
use Rattle.messages.specs.rule.Shapes.{ShapeFields}
use Rattle.messages.specs.declared.refusal.StepError.{StepError}
use Rattle.messages.specs.declared.refusal.StepError.TheVariants.{Busy, Stranger, Spent}
use Rattle.messages.specs.declared.outcome.Outcome.{Outcome}
use Rattle.messages.specs.rule.Messages.{is_within, greatest_number}
use Rattle.node_core.specs.declared.open_call.OpenCall.{OpenCall}
use Rattle.node_core.specs.rule.State.{NodeState, Effect, answered, without_call_of, open_call_of, process, id_of, outcome}
use Rattle.node_core.specs.rule.Try.{settled, may_free, with_freed_of, locked_by, tried}

-- whether the number is one that a process can have
abbrev pub is_pid : ℕ → Bool
is_pid pid = is_within most_processes pid

-- whether the file or the process that the operation names is in range
abbrev pub is_in_shape : ShapeFields → Op → Bool
is_in_shape shape (Process (Fork child)) = is_pid child
is_in_shape shape (Process (Open file access)) = is_within shape.files file
is_in_shape shape _ = true

-- a lock call that passes its first tests is open, and is tried; else it is answered
abbrev pub lock_call : NodeState → ℕ → ℕ → LockCommand → Mode → Result LockTarget Reply → Effect
lock_call s number pid lock_command mode (Err refusal) = answered s number refusal
lock_call s number pid lock_command mode (Ok target) =
    let c : OpenCall = record { number = number; pid = pid; lock_command = lock_command; file = target.file; owner = target.owner; mode = mode; span = target.span } in
    tried (record s { pending = s.pending ++ c ∷ [] }) c

-- the bytes are freed, if the call passes its first tests; then it is answered
abbrev pub unlock_call : NodeState → ℕ → Result LockTarget Reply → Effect
unlock_call s number (Err refusal) = answered s number refusal
unlock_call s number (Ok target) = locked_by s number target None

-- the answer to a call that closes descriptors of the files that pass: if it is done, a Freed is sent for each of these files that is owed one
abbrev pub shut_by : NodeState → ℕ → (ℕ → Bool) → Table × Reply → Effect
shut_by s number passes answer =
    if may_free None answer.1 then with_freed_of passes s.shape.files (settled s number answer) else settled s number answer

-- the effect of the call with that number: all calls but set, wait and query are answered in the same step
abbrev pub called : NodeState → ℕ → ℕ → Op → Effect
called s number pid (Process call) = settled s number (beside s.table (process s pid) (after (around s.table (process s pid)) pid call))
called s number pid (Close fd) = shut_by s number (λ file. is_of_file file (descriptor s.table (process s pid) fd)) (after_close s.table (process s pid) fd)
called s number pid Exit = shut_by (without_call_of s pid) number (has_open (around s.table (process s pid)) pid) (after_exit s.table (process s pid))
called s number pid (Lock call) = lock_call s number pid call.command call.mode (call_target s.table (process s pid) call)
called s number pid (Unlock fd kind start len) = unlock_call s number (target s.table (process s pid) None fd kind start len)

-- the step of a new call, which takes the next number
abbrev pub after_call : NodeState → ℕ → Op → NodeState × Outcome
after_call s pid op = outcome (Some (id_of s (s.calls + 1))) (called (record s { calls = s.calls + 1 }) (s.calls + 1) pid op)

abbrev pub is_exit : Op → Bool
is_exit Exit = true
is_exit _ = false

-- whether the process waits for a reply and may not make this call; it may always exit
abbrev pub is_busy : NodeState → ℕ → Op → Bool
is_busy s pid op = not (is_exit op) && is_some (open_call_of s pid)

-- the rule of calls: each process has one open call at most
abbrev pub call_rule : NodeState → ℕ → Op → Result (NodeState × Outcome) StepError
call_rule s pid op =
    if not (is_pid pid && is_in_shape s.shape op) then Err Stranger
    else (if is_busy s pid op then Err Busy
    else (if nat_lt s.calls greatest_number then Ok (after_call s pid op) else Err Spent))
