-- How long a round is: a bound by the nodes, the requests of the server and the open calls.
use Rattle.std.specs.Prelude.{◌≡◌, ℕ, ◌≤◌, ◌+◌, ◌*◌, true, List, [], ◌∷◌, length}
use Rattle.intervals.specs.rule.Bytes.{Range}
use Rattle.model.specs.declared.call.CallId.{CallId}
use Rattle.model.specs.declared.host.Host.{Host}
use Rattle.model.specs.declared.mode.Mode.{Mode}
use Rattle.messages.specs.rule.Shapes.{ShapeFields, IsShape}
use Rattle.messages.specs.rule.TokenRuns.{Wants}
use Rattle.messages.specs.rule.Messages.{is_among}
use Rattle.messages.specs.declared.message.Message.{Message}
use Rattle.messages.specs.declared.message.Message.TheVariants.{Revoke, Released}
use Rattle.messages.specs.declared.entry.Entry.{Entry}
use Rattle.token_server.specs.rule.State.{requests}
use Rattle.cluster_core.specs.rule.World.{WorldState, first_world}
use Rattle.cluster_core.specs.rule.Runs.{Leads}
use Rattle.progress.specs.rule.Rounds.{number_of_open_calls}

-- the number of requests that the server of the file keeps: those that it serves, those in its queue, and those that wait for a lock to go
abbrev pub number_of_requests : WorldState → ℕ → ℕ
number_of_requests w file = length (requests (w.servers file))

-- The most entries of a round, by the numbers of nodes, of requests at the server, and of open calls. A command, its answer and a denial are three deliveries. A request, also one that the retry of an open call brings, leads to two commands at most for each node and for its grant, until those that wait are queued again: as the server learns of a node, as it resends, and by a Freed, which a node sends with the answer to an open call alone
abbrev pub round_bound : ℕ → ℕ → ℕ → ℕ
round_bound nodes requests calls = (nodes + calls + 2) * ((requests + calls + 1) * (6 * (nodes + 1)))

-- the most entries of so many rounds in all, by the numbers of nodes, of requests at the server before the first, and of calls that are open then, with the older messages that come in a round: each round may bring as many requests more
abbrev pub rounds_bound : ℕ → ℕ → ℕ → ℕ → ℕ
rounds_bound rounds nodes requests calls = rounds * round_bound nodes (requests + rounds * calls) calls

-- the number of entries of all rounds
abbrev pub entries_of : List (List Entry) → ℕ
entries_of [] = 0
entries_of (es ∷ rounds) = length es + entries_of rounds

-- the most entries of a round about the file that begins in the world, in which so many older messages come: each counts as an open call
abbrev pub most_entries : WorldState → ℕ → ℕ → ℕ
most_entries w file older = round_bound w.shape.nodes (number_of_requests w file) (number_of_open_calls w + older)

-- the Revoke that the Released answers was sent, and the span has all bytes that it required
pub record HasRequired (sent : List Message) (file number : ℕ) (holder : Host) (call : CallId) (span : Range) : Type 0 where
  pub mode : Mode
  pub wanted : Wants
  pub revoked : is_among sent (Revoke file number holder call mode wanted) ≡ true
  pub starts : span.lo ≤ wanted.required.lo
  pub ends : wanted.required.hi ≤ span.hi

-- after every run a span that was released has all bytes that its Revoke required
abbrev pub EveryReleaseHasWhatIsRequired : Type 0
EveryReleaseHasWhatIsRequired =
    (shape : ShapeFields) (es : List Entry) (w : WorldState) (file number : ℕ) (holder : Host) (call : CallId) (span : Range)
    → IsShape shape
    → Leads (first_world shape) es w
    → is_among w.sent (Released file number holder call span) ≡ true
    → HasRequired w.sent file number holder call span
