-- The state of a node, and the effects of its steps.
use Rattle.std.specs.Prelude.{ℕ, Bool, false, not, ◌==◌, if◌then◌else◌, List, [], ◌∷◌, filter, find, Option, Some, None}
use Rattle.model.specs.declared.process.Process.{Process}
use Rattle.model.specs.declared.call.CallId.{CallId}
use Rattle.model.specs.declared.host.Host.{Host}
use Rattle.model.specs.declared.reply.Reply.{Reply}
use Rattle.model.specs.rule.Table.{Table, LockTarget, empty_table}
use Rattle.token_set.specs.rule.Tokens.{Token, no_token}
use Rattle.messages.specs.rule.Shapes.{most_regions, ShapeFields}
use Rattle.messages.specs.declared.message.Message.{Message}
use Rattle.messages.specs.declared.outcome.Outcome.{Outcome}
use Rattle.node_core.specs.declared.open_call.OpenCall.{OpenCall}

-- a node's knowledge of a file: token; number of the last command (0, or where a later epoch begins); the answer to it; whether the node owes a Freed
pub record FileState : Type 0 where
  pub token : Token
  pub last : ℕ
  pub answer : Option Message
  pub owes_freed : Bool

-- a node in an incarnation: the number of calls that it took, its processes and their locks, its open calls in order of arrival, its files
pub record NodeState : Type 0 where
  pub shape : ShapeFields
  pub node : ℕ
  pub incarnation : ℕ
  pub calls : ℕ
  pub table : Table
  pub pending : List OpenCall
  pub files : ℕ → FileState

abbrev pub first_file : FileState
first_file = record { token = no_token; last = 0; answer = None; owes_freed = false }

-- the node when it begins
abbrev pub first_node : ShapeFields → ℕ → ℕ → NodeState
first_node shape node incarnation =
    record { shape = shape; node = node; incarnation = incarnation; calls = 0; table = empty_table (most_regions shape.version); pending = []; files = λ file. first_file }

abbrev pub with_file : NodeState → ℕ → FileState → NodeState
with_file s file state = record s { files = λ f. if f == file then state else s.files f }

abbrev pub without_call : NodeState → ℕ → NodeState
without_call s number = record s { pending = filter (λ c. not (c.number == number)) s.pending }

-- the node without an open call of the process
abbrev pub without_call_of : NodeState → ℕ → NodeState
without_call_of s pid = record s { pending = filter (λ c. not (c.pid == pid)) s.pending }

-- the open call with that number, if there is one
abbrev pub open_call : NodeState → ℕ → Option OpenCall
open_call s number = find (λ c. c.number == number) s.pending

-- the open call of the process, if it has one
abbrev pub open_call_of : NodeState → ℕ → Option OpenCall
open_call_of s pid = find (λ c. c.pid == pid) s.pending

abbrev pub process : NodeState → ℕ → Process
process s pid = record { node = s.node; incarnation = s.incarnation; pid = pid }

-- the node and its incarnation
abbrev pub host : NodeState → Host
host s = record { node = s.node; incarnation = s.incarnation }

abbrev pub id_of : NodeState → ℕ → CallId
id_of s number = record { node = s.node; incarnation = s.incarnation; number = number }

-- the file, the owner and the bytes that an open call is about
abbrev pub target_of : OpenCall → LockTarget
target_of c = record { file = c.file; owner = c.owner; span = c.span }

-- the effect of a step: the new state, at most one reply, and messages
pub record Effect : Type 0 where
  pub state : NodeState
  pub reply : Option (CallId × Reply)
  pub sends : List Message

abbrev pub quiet : NodeState → Effect
quiet s = record { state = s; reply = None; sends = [] }

abbrev pub sent : NodeState → Message → Effect
sent s m = record { state = s; reply = None; sends = m ∷ [] }

-- the effect of a reply to a call, which is open no longer
abbrev pub answered : NodeState → ℕ → Reply → Effect
answered s number reply = record { state = without_call s number; reply = Some (id_of s number, reply); sends = [] }

abbrev pub outcome : Option CallId → Effect → NodeState × Outcome
outcome call e = (e.state, record { call = call; reply = e.reply; sends = e.sends })
