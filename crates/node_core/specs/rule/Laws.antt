-- Laws of the rule of a node.
use Rattle.std.specs.Prelude.{◌≡◌, ◌≢◌, ℕ, ◌+◌, ◌≤◌, ◌<◌, true, false, [], ◌∷◌, Some, None, Ok, IsOkAnd}
use Rattle.intervals.specs.rule.Bytes.{Range}
use Rattle.model.specs.declared.mode.Mode.{Mode}
use Rattle.model.specs.declared.call.CallId.{CallId}
use Rattle.model.specs.declared.op.Op.TheVariants.{Lock}
use Rattle.model.specs.declared.op.LockCall.{LockCall}
use Rattle.model.specs.declared.op.LockCommand.TheVariants.{Query}
use Rattle.model.specs.declared.reply.Reply.TheVariants.{Done}
use Rattle.model.specs.rule.Limits.{IsNumber, most_processes}
use Rattle.model.specs.rule.Locks.{IsFree, IsOfNode, IsClear}
use Rattle.model.specs.rule.Table.{LockTarget, call_target, regions_with}
use Rattle.token_set.specs.rule.Tokens.{covers, conflicts, IsRevocable}
use Rattle.messages.specs.rule.Messages.{greatest_number}
use Rattle.messages.specs.rule.TokenRuns.{Wants}
use Rattle.messages.specs.declared.message.Message.TheVariants.{Revoke, Released}
use Rattle.messages.specs.declared.outcome.Outcome.{Outcome}
use Rattle.messages.specs.declared.event.NodeInput.TheVariants.{Call, Interrupt}
use Rattle.node_core.specs.declared.event.NodeEvent.TheVariants.{Input, Deliver}
use Rattle.node_core.specs.rule.State.{NodeState, host, process, id_of, open_call_of}
use Rattle.node_core.specs.rule.Commands.{renewed}
use Rattle.node_core.specs.rule.Node.{node_rule}

-- the process may make a call: its number is in range, it has no open call, and a call number is left
pub record MayCall (s : NodeState) (pid : ℕ) : Type 0 where
  pub pid_in : IsNumber most_processes pid
  pub idle : open_call_of s pid ≡ None
  pub left : s.calls < greatest_number

-- a set or a wait that no lock of another owner of the node blocks, whose bytes the token covers, and that leaves its owner within the limit of regions, is answered Done in its own step
abbrev pub CoveredLockIsDone : Type 0
CoveredLockIsDone =
    (s : NodeState) (pid : ℕ) (call : LockCall) (t : LockTarget)
    → call.command ≢ Query
    → MayCall s pid
    → call_target s.table (process s pid) call ≡ Ok t
    → IsOfNode (s.table.locks t.file) s.node s.incarnation
    → IsFree (s.table.locks t.file) t.owner t.span call.mode
    → covers (s.files t.file).token t.span call.mode ≡ true
    → regions_with s.table t (Some call.mode) ≤ s.table.limit
    → IsOkAnd (node_rule s (Input (Call pid (Lock call)))) (λ r. r.1.reply ≡ Some (id_of s (s.calls + 1), Done))

-- the step leaves processes, locks and tokens as they were, and sends nothing
pub record IsUntouched (s : NodeState) (r : NodeState × Outcome) : Type 0 where
  pub table : r.0.table ≡ s.table
  pub files : r.0.files ≡ s.files
  pub silent : r.1.sends ≡ []

-- an interrupt changes only which calls are open
abbrev pub InterruptChangesNothing : Type 0
InterruptChangesNothing = (s : NodeState) (pid : ℕ) → IsNumber most_processes pid → IsOkAnd (node_rule s (Input (Interrupt pid))) (IsUntouched s)

-- the one answer gives up a span around the required bytes, none of which then conflicts with the mode in the node's token
pub record GivesUp (s : NodeState) (file number : ℕ) (call : CallId) (mode : Mode) (required : Range) (r : NodeState × Outcome) : Type 0 where
  pub span : Range
  pub has_first : span.lo ≤ required.lo
  pub has_last : required.hi ≤ span.hi
  pub answer : r.1.sends ≡ Released file number (host s) call span ∷ []
  pub clear : conflicts (r.0.files file).token required mode ≡ false

-- a revoke that is next in order, and whose mode no lock of the node excludes on the required bytes, is answered by giving them up
abbrev pub ClearRevokeGivesUp : Type 0
ClearRevokeGivesUp =
    (s : NodeState) (file number : ℕ) (call : CallId) (mode : Mode) (wanted : Wants)
    → IsNumber s.shape.files file
    → number ≡ (renewed (s.files file) number).last + 1
    → IsOfNode (s.table.locks file) s.node s.incarnation
    → IsRevocable wanted.required wanted.desired
    → IsClear (s.table.locks file) wanted.required mode
    → IsOkAnd (node_rule s (Deliver (Revoke file number (host s) call mode wanted))) (GivesUp s file number call mode wanted.required)
