-- The text of what is told of a world. Each line has one thing, and can be read alone.
use Rattle.std.specs.Prelude.{◌≡◌, ℕ, ◌-◌, ◌+◌, ◌%◌, ◌==◌, if◌then◌else◌, Bool, List, [], ◌++◌, codes, decimal, flat_map, Option, Some, None}
use Rattle.intervals.specs.rule.Bytes.{Range}
use Rattle.model.specs.declared.level.Level.{Level}
use Rattle.model.specs.declared.op.LockCommand.{LockCommand}
use Rattle.model.specs.declared.op.LockCommand.TheVariants.{Set, Wait, Query}
use Rattle.texts.specs.rule.Words.{level_text}
use Rattle.messages.specs.declared.message.Message.{Message}
use Rattle.messages.specs.declared.message.Message.TheVariants.{Request}
use Rattle.messages.specs.declared.version.Version.{Version}
use Rattle.message_text.specs.rule.Texts.{host_text, lock_text, message_text}
use Rattle.node_core.specs.declared.open_call.OpenCall.{OpenCall}
use Rattle.token_server.specs.declared.shown_row.ShownRow.{ShownRow}
use Rattle.token_server.specs.declared.token_queue.active_request.ActiveRequest.{ActiveRequest}
use Rattle.token_server.specs.declared.token_queue.token_request.TokenRequest.{TokenRequest}
use Rattle.cluster_core.specs.declared.held_lock.HeldLock.{HeldLock}
use Rattle.cluster_core.specs.declared.node_token_run.NodeTokenRun.{NodeTokenRun}
use Rattle.states.specs.declared.cluster_state.ToldNode.{ToldNode}
use Rattle.states.specs.declared.cluster_state.ToldEpoch.{ToldEpoch}
use Rattle.states.specs.declared.cluster_state.KnownDead.{KnownDead}
use Rattle.states.specs.declared.cluster_state.ToldServer.{ToldServer}
use Rattle.states.specs.declared.cluster_state.ClusterState.{ClusterState}

-- of a node: that it is alive, and the incarnations that were declared failed
abbrev pub live_line : ℕ → Option ℕ → List ℕ
live_line node None = []
live_line node (Some incarnation) = codes "node " ++ decimal node ++ codes " live " ++ host_text node incarnation ++ codes "\n"

abbrev pub failed_line : ℕ → ℕ → List ℕ
failed_line node dead = if dead == 0 then [] else codes "node " ++ decimal node ++ codes " failed " ++ host_text node dead ++ codes "\n"

abbrev pub node_lines : ToldNode → List ℕ
node_lines t = live_line t.node t.live ++ failed_line t.node t.dead

-- of the epochs of a server: the one in which it works, and those that failed
abbrev pub works_line : ToldEpoch → List ℕ
works_line e = if e.works then codes "server " ++ decimal e.file ++ codes " works in epoch " ++ decimal e.epoch ++ codes "\n" else []

abbrev pub failed_epoch : ToldEpoch → ℕ
failed_epoch e = if e.works then e.epoch - 1 else e.epoch

abbrev pub epoch_lines : ToldEpoch → List ℕ
epoch_lines e = works_line e ++ (if failed_epoch e == 0 then [] else codes "server " ++ decimal e.file ++ codes " failed in epoch " ++ decimal (failed_epoch e) ++ codes "\n")

-- of a run of a token, and of a lock
abbrev pub token_line : NodeTokenRun → List ℕ
token_line t = codes "token " ++ host_text t.node t.incarnation ++ codes " file " ++ decimal t.file ++ codes " " ++ level_text t.level ++ codes " " ++ decimal t.span.lo ++ codes " " ++ decimal t.span.hi ++ codes "\n"

abbrev pub held_line : HeldLock → List ℕ
held_line h = codes "lock file " ++ decimal h.file ++ codes " " ++ lock_text h.lock ++ codes "\n"

-- of an open call: its name, its process, and the lock that it asks for or about
abbrev pub command_word : LockCommand → List ℕ
command_word Set = codes "set"
command_word Wait = codes "wait"
command_word Query = codes "query"

abbrev pub asked_text : OpenCall → List ℕ
asked_text c = command_word c.lock_command ++ codes " " ++ lock_text (record { owner = c.owner; mode = c.mode; span = c.span }) ++ codes "\n"

abbrev pub open_line : ℕ → ℕ → OpenCall → List ℕ
open_line node incarnation c = codes "open " ++ host_text node incarnation ++ codes "." ++ decimal c.number ++ codes " process " ++ decimal c.pid ++ codes " file " ++ decimal c.file ++ codes " " ++ asked_text c

abbrev pub open_lines_of : ℕ → Option ℕ → List OpenCall → List ℕ
open_lines_of node None calls = []
open_lines_of node (Some incarnation) calls = flat_map (open_line node incarnation) calls

abbrev pub open_lines : ToldNode → List ℕ
open_lines t = open_lines_of t.node t.live t.calls.items

-- a request to the server of a file, as a message
abbrev pub request_of : ℕ → TokenRequest → Message
request_of file r = Request file r.call r.blocking r.mode r.wanted

abbrev pub request_line : Version → ℕ → TokenRequest → List ℕ
request_line version file r = message_text version (request_of file r) ++ codes "\n"

-- of a request that is served, queued, or put off
abbrev pub serves_text : ℕ → List ℕ
serves_text file = codes "server " ++ decimal file ++ codes " serves, "

abbrev pub waits_text : ℕ → List ℕ
waits_text at = codes "waits for node " ++ decimal at ++ codes " to answer: "

abbrev pub served_line : Version → ℕ → ActiveRequest → List ℕ
served_line version file h = serves_text file ++ (waits_text h.at ++ request_line version file h.request)

abbrev pub served_lines : Version → ℕ → List ActiveRequest → List ℕ
served_lines version file served = flat_map (served_line version file) served

abbrev pub put_line : Version → ℕ → List ℕ → TokenRequest → List ℕ
put_line version file word r = codes "server " ++ decimal file ++ codes " " ++ word ++ codes ": " ++ request_line version file r

abbrev pub put_lines : Version → ℕ → List ℕ → List TokenRequest → List ℕ
put_lines version file word requests = flat_map (put_line version file word) requests

-- of a row: how many commands the node was given in this epoch, its token, and the command that has no answer
abbrev pub row_name : ℕ → ShownRow → List ℕ
row_name file row = codes "server " ++ decimal file ++ codes " row " ++ host_text row.node row.incarnation

abbrev pub row_token_line : ℕ → ShownRow → Range × Level → List ℕ
row_token_line file row run = row_name file row ++ codes " token " ++ level_text run.1 ++ codes " " ++ decimal run.0.lo ++ codes " " ++ decimal run.0.hi ++ codes "\n"

abbrev pub command_line : Version → ℕ → ShownRow → Option Message → List ℕ
command_line version file row None = []
command_line version file row (Some command) = row_name file row ++ codes " is to answer: " ++ message_text version command ++ codes "\n"

abbrev pub row_lines : Version → ℕ → ShownRow → List ℕ
row_lines version file row = row_name file row ++ codes " commands " ++ decimal (row.number % 4294967296) ++ codes "\n" ++ flat_map (row_token_line file row) row.token.items ++ command_line version file row row.command

-- of the nodes whose reports a server awaits, and of the incarnations that it knows to be dead
abbrev pub awaited_line : ℕ → ℕ → List ℕ
awaited_line file node = codes "server " ++ decimal file ++ codes " waits for the report of node " ++ decimal node ++ codes "\n"

abbrev pub dead_line : ℕ → KnownDead → List ℕ
dead_line file known = codes "server " ++ decimal file ++ codes " knows dead " ++ host_text known.node known.incarnation ++ codes "\n"

-- of a server
abbrev pub server_lines : Version → ToldServer → List ℕ
server_lines version s =
    served_lines version s.file s.served.items ++ put_lines version s.file (codes "queued") s.queued.items ++ put_lines version s.file (codes "waiting") s.waiting.items ++ flat_map (row_lines version s.file) s.rows.items
    ++ flat_map (awaited_line s.file) s.awaited.items ++ flat_map (dead_line s.file) s.dead.items

-- of a cluster, behind so many entries
abbrev pub state_text : Version → ℕ → ClusterState → List ℕ
state_text version position t =
    codes "state after entry " ++ decimal position ++ codes "\n" ++ flat_map node_lines t.nodes.items ++ flat_map epoch_lines t.epochs.items ++ flat_map token_line t.tokens.items ++ flat_map held_line t.locks.items
    ++ flat_map open_lines t.nodes.items ++ flat_map (server_lines version) t.servers.items

abbrev pub IsStateText : Version → ℕ → ClusterState → List ℕ → Type 0
IsStateText version position t text = text ≡ state_text version position t
