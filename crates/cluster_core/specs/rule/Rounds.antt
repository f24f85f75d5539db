-- Rounds: stretches of a run in which nothing fails and nothing is lost, and each open call is tried again.
use Rattle.std.specs.Prelude.{◌≡◌, ℕ, ◌+◌, ◌≤◌, true, false, List, [], ◌∷◌, ◌++◌, All, Contains, Some, None}
use Rattle.model.specs.declared.lock_info.LockInfo.{LockInfo}
use Rattle.model.specs.declared.op.LockCommand.TheVariants.{Wait}
use Rattle.model.specs.rule.Locks.{Blocks}
use Rattle.messages.specs.rule.Shapes.{ShapeFields, IsShape}
use Rattle.messages.specs.rule.Messages.{addressee, host_of, file_of, is_among}
use Rattle.messages.specs.declared.message.Message.{Message}
use Rattle.messages.specs.declared.event.Event.{Event}
use Rattle.messages.specs.declared.event.Event.TheVariants.{AtNode, AtServer, Deliver}
use Rattle.messages.specs.declared.event.NodeInput.TheVariants.{Retry}
use Rattle.messages.specs.declared.event.ServerInput.TheVariants.{Resend, Learn}
use Rattle.messages.specs.declared.entry.Entry.{Entry}
use Rattle.node_core.specs.declared.open_call.OpenCall.{OpenCall}
use Rattle.token_server.specs.rule.Rows.{outstanding_of}
use Rattle.cluster_core.specs.rule.Serving.{IsAtRest}
use Rattle.cluster_core.specs.rule.Rests.{Rests}
use Rattle.cluster_core.specs.rule.World.{WorldState, first_world, has_node, is_alive}
use Rattle.cluster_core.specs.rule.Next.{is_stopped}
use Rattle.cluster_core.specs.rule.Runs.{Leads}
use Rattle.cluster_core.specs.rule.Union.{union}

-- the event is a delivery, a retry, a resend or a Learn: no member fails or begins again, nobody calls, and no wait is interrupted
abbrev pub IsQuiet : Event → Type 0
IsQuiet (Deliver m) = Unit {0}
IsQuiet (AtNode n (Retry pid)) = Unit {0}
IsQuiet (AtServer file input) = Unit {0}
IsQuiet _ = ⊥

-- one of the entries is of the event
pub record Happens (es : List Entry) (event : Event) : Type 0 where
  pub before : List Entry
  pub happened : Entry
  pub after : List Entry
  pub split : es ≡ before ++ happened ∷ after
  pub is : happened.event ≡ event

-- A round about a file: in any order, its server learns the last declared incarnation of each node and resends, and each call about the file that is open at the end of the round is retried; each message about the file that an entry of the round sends, unless its addressee is stopped, is delivered later in the round. A message may be delivered more than once, and messages from before the round may be delivered too. A refused delivery makes no entry: once a server has spent the numbers of an epoch for a node, an answer that would lead to one more command to it is refused for good, and no round exists.
pub record IsRound (file : ℕ) (w : WorldState) (es : List Entry) (v : WorldState) : Type 0 where
  pub leads : Leads w es v
  pub quiet : All (λ e. IsQuiet e.event) es
  pub learns : (n incarnation : ℕ) → has_node v n ≡ true → 1 ≤ incarnation → incarnation + 1 ≡ (v.nodes n).incarnation → Happens es (AtServer file (Learn n incarnation))
  pub resends : Happens es (AtServer file Resend)
  pub retries : (n : ℕ) (c : OpenCall) → is_alive v n ≡ true → Contains (v.nodes n).pending c → c.file ≡ file → Happens es (AtNode n (Retry c.pid))
  pub delivers : (before after : List Entry) (e : Entry) (m : Message) → es ≡ before ++ e ∷ after → is_among e.sends m ≡ true → file_of m ≡ file → is_stopped v (addressee m) ≡ false → Happens after (Deliver m)

-- no entry answers a call
abbrev pub AnswersNone : List Entry → Type 0
AnswersNone es = All (λ e. e.reply ≡ None) es

-- after every run a server that has no outstanding command has no active request and none in its queue
abbrev pub EachServerRests : Type 0
EachServerRests = (shape : ShapeFields) (es : List Entry) (w : WorldState) (file : ℕ) → IsShape shape → Leads (first_world shape) es w → IsAtRest (w.servers file) → ((w.servers file).active ≡ []) × ((w.servers file).queue ≡ [])

-- all nodes have the processes, the locks and the open calls that they had, the same nodes are alive, and the same servers work
pub record AllRest (w v : WorldState) : Type 0 where
  pub shape : v.shape ≡ w.shape
  pub alive : v.alive ≡ w.alive
  pub working : v.working ≡ w.working
  pub nodes : (n : ℕ) → Rests (w.nodes n) (v.nodes n)

-- where nothing fails, nobody calls and no call is answered, all nodes rest, and the table of all nodes stays
abbrev pub RestsWithoutAnswers : Type 0
RestsWithoutAnswers = (w v : WorldState) (es : List Entry) → Leads w es v → All (λ e. IsQuiet e.event) es → AnswersNone es → AllRest w v × (union v ≡ union w)

-- the command is outstanding at the server of the file, to the live incarnation of the node
pub record IsOutstanding (w : WorldState) (file n : ℕ) (m : Message) : Type 0 where
  pub outstanding : outstanding_of ((w.servers file).rows n) ≡ Some m
  pub live : (host_of m).incarnation ≡ (w.nodes n).incarnation

-- In a stretch of a run in which nothing fails and nobody calls, a command that was sent before it and is outstanding at its end was outstanding before it. So a command that was answered is never outstanding again
abbrev pub AnsweredStaysAnswered : Type 0
AnsweredStaysAnswered =
    (shape : ShapeFields) (past es : List Entry) (w v : WorldState) (file n : ℕ) (m : Message)
    → IsShape shape
    → Leads (first_world shape) past w
    → Leads w es v
    → All (λ e. IsQuiet e.event) es
    → is_among w.sent m ≡ true
    → IsOutstanding v file n m
    → IsOutstanding w file n m

-- after any run, if the server of a file works, a round about the file leaves it no outstanding command, no active request and none in its queue
abbrev pub EachRoundRests : Type 0
EachRoundRests =
    (shape : ShapeFields) (past es : List Entry) (w v : WorldState) (file : ℕ)
    → IsShape shape
    → Leads (first_world shape) past w
    → w.working file ≡ true
    → IsRound file w es v
    → IsAtRest (v.servers file) × ((v.servers file).active ≡ []) × ((v.servers file).queue ≡ [])

-- the call waits, and a lock of another owner in the table of all nodes blocks it
pub record IsBlockedWait (w : WorldState) (c : OpenCall) : Type 0 where
  pub waits : c.lock_command ≡ Wait
  pub lock : LockInfo
  pub blocks : Blocks ((union w).locks c.file) c.owner c.span c.mode lock

-- No call is stuck: after any run, if the server of a file works and two rounds about the file follow each other, of which the second answers no call, each call about the file that is open then is a wait, and a lock blocks it
abbrev pub NoCallIsStuck : Type 0
NoCallIsStuck =
    (shape : ShapeFields) (past es fs : List Entry) (w v u : WorldState) (file : ℕ)
    → IsShape shape
    → Leads (first_world shape) past w
    → w.working file ≡ true
    → IsRound file w es v
    → IsRound file v fs u
    → AnswersNone fs
    → (n : ℕ) (c : OpenCall)
    → is_alive u n ≡ true
    → Contains (u.nodes n).pending c
    → c.file ≡ file
    → IsBlockedWait u c
