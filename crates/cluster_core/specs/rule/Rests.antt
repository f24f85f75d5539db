-- The open calls of a node, the steps that leave its table, and the outcome of a try of an open call.
use Rattle.std.specs.Prelude.{◌≡◌, ◌⊎◌, ℕ, ◌≤◌, true, false, List, [], ◌∷◌, All, AllPairs, is_some, Some, None, Ok}
use Rattle.intervals.specs.rule.Bytes.{Range}
use Rattle.model.specs.declared.lock_info.LockInfo.{LockInfo}
use Rattle.model.specs.declared.mode.Mode.{Mode}
use Rattle.model.specs.declared.call.CallId.{CallId}
use Rattle.model.specs.declared.op.LockCommand.TheVariants.{Wait}
use Rattle.model.specs.rule.Locks.{lowest_blocker}
use Rattle.token_set.specs.rule.Tokens.{covers}
use Rattle.messages.specs.rule.Shapes.{ShapeFields, IsShape}
use Rattle.messages.specs.rule.TokenRuns.{Wants}
use Rattle.messages.specs.declared.message.Message.TheVariants.{Request}
use Rattle.messages.specs.declared.outcome.Outcome.{Outcome}
use Rattle.messages.specs.declared.entry.Entry.{Entry}
use Rattle.messages.specs.declared.event.NodeInput.TheVariants.{Call}
use Rattle.node_core.specs.declared.event.NodeEvent.{NodeEvent}
use Rattle.node_core.specs.declared.event.NodeEvent.TheVariants.{Input}
use Rattle.node_core.specs.declared.open_call.OpenCall.{OpenCall}
use Rattle.node_core.specs.rule.State.{NodeState, Effect, id_of, open_call}
use Rattle.node_core.specs.rule.Try.{blocking_of, tried}
use Rattle.node_core.specs.rule.Commands.{granted}
use Rattle.node_core.specs.rule.Node.{node_rule}
use Rattle.cluster_core.specs.rule.World.{WorldState, first_world}
use Rattle.cluster_core.specs.rule.Runs.{Leads}

-- two open calls are of two processes, and have two numbers
abbrev pub Differ : OpenCall → OpenCall → Type 0
Differ c d = (c.pid ≡ d.pid → ⊥) × (c.number ≡ d.number → ⊥)

-- each two open calls of the node differ so, and their numbers are of calls that it took
pub record IsOneEach (s : NodeState) : Type 0 where
  pub apart : AllPairs Differ s.pending
  pub counted : All (λ (c : OpenCall). c.number ≤ s.calls) s.pending

-- after every run a process has at most one open call, and no two open calls of a node have one number
abbrev pub EachProcessHasOneCall : Type 0
EachProcessHasOneCall = (shape : ShapeFields) (es : List Entry) (w : WorldState) → IsShape shape → Leads (first_world shape) es w → (n : ℕ) → IsOneEach (w.nodes n)

-- the event is no new call
abbrev pub IsNoCall : NodeEvent → Type 0
IsNoCall (Input (Call pid op)) = ⊥
IsNoCall _ = Unit {0}

-- the node has the processes, the locks and the open calls that it had
pub record Rests (s u : NodeState) : Type 0 where
  pub node : u.node ≡ s.node
  pub incarnation : u.incarnation ≡ s.incarnation
  pub table : u.table ≡ s.table
  pub pending : u.pending ≡ s.pending

-- a step that is no call and answers none leaves a node its table and its open calls
abbrev pub RestsWithoutReply : Type 0
RestsWithoutReply = (s u : NodeState) (event : NodeEvent) (out : Outcome) → node_rule s event ≡ Ok (u, out) → IsNoCall event → out.reply ≡ None → Rests s u

-- the call waits, and a lock of its own node blocks it
pub record IsBlockedHere (s : NodeState) (c : OpenCall) : Type 0 where
  pub waits : c.lock_command ≡ Wait
  pub lock : LockInfo
  pub there : lowest_blocker (s.table.locks c.file) c.owner c.span c.mode ≡ Some lock

-- no lock of its own node blocks the call, the token doesn't cover it, and its server is asked
pub record IsRequested (s : NodeState) (c : OpenCall) (e : Effect) : Type 0 where
  pub free : lowest_blocker (s.table.locks c.file) c.owner c.span c.mode ≡ None
  pub uncovered : covers (s.files c.file).token c.span c.mode ≡ false
  pub wanted : Wants
  pub required : wanted.required ≡ c.span
  pub asks : e.sends ≡ Request c.file (id_of s c.number) (blocking_of c.lock_command) c.mode wanted ∷ []

-- a call that is tried is answered, or a lock of its own node blocks it and it waits, or its server is asked
abbrev pub TryAnswersOrAsks : Type 0
TryAnswersOrAsks = (s : NodeState) (c : OpenCall) → (is_some (tried s c).reply ≡ true) ⊎ (IsBlockedHere s c ⊎ IsRequested s c (tried s c))

-- a grant of an open call's mode, of bytes that hold the call's, answers it, or a lock of its own node blocks it and it waits
abbrev pub GrantAnswers : Type 0
GrantAnswers =
    (s : NodeState) (file number : ℕ) (call : CallId) (mode : Mode) (span : Range) (c : OpenCall)
    → open_call s call.number ≡ Some c
    → c.file ≡ file
    → c.mode ≡ mode
    → span.lo ≤ c.span.lo
    → c.span.hi ≤ span.hi
    → (is_some (granted s file number call mode span).reply ≡ true) ⊎ IsBlockedHere s c
