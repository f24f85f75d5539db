-- What is told of a world, its open calls, and the locks that block them.
use Rattle.std.specs.Prelude.{◌≡◌, ℕ, zero, suc, Bool, true, false, if◌then◌else◌, List, [], ◌++◌, ◌-◌, ◌<◌, nat_lt, ◌&&◌, All, filter, map, is_some, Some, None}
use Rattle.model.specs.declared.lock_info.LockInfo.{LockInfo}
use Rattle.model.specs.declared.op.LockCommand.{LockCommand}
use Rattle.model.specs.declared.op.LockCommand.TheVariants.{Wait}
use Rattle.model.specs.rule.Limits.{most_nodes}
use Rattle.model.specs.rule.Locks.{Blocks}
use Rattle.lock_table.specs.rule.Tables.{IsBefore}
use Rattle.node_core.specs.declared.open_call.OpenCall.{OpenCall}
use Rattle.cluster_core.specs.rule.World.{WorldState, has_file, is_alive, has_node}
use Rattle.cluster_core.specs.rule.Union.{union}
use Rattle.cluster_core.specs.rule.Listings.{Lists, IsTokenListing, IsLockListing}
use Rattle.states.specs.declared.open_call.OpenState.{OpenState}
use Rattle.std.specs.List.{range_with_len}
use Rattle.intervals.specs.rule.Bytes.{IsRun}
use Rattle.messages.specs.rule.Shapes.{most_files}
use Rattle.token_server.specs.declared.token_queue.active_request.ActiveRequest.{ActiveRequest}
use Rattle.token_server.specs.rule.Actives.{requests_of}
use Rattle.token_server.specs.rule.Rows.{Row, is_awaited}
use Rattle.token_server.specs.declared.shown_row.ShownRow.{ShownRow}
use Rattle.token_server.specs.rule.State.{ServerState}
use Rattle.token_server.specs.rule.Obstacles.{obstacle}
use Rattle.states.specs.declared.cluster_state.ToldNode.{ToldNode}
use Rattle.states.specs.declared.cluster_state.ToldEpoch.{ToldEpoch}
use Rattle.states.specs.declared.cluster_state.KnownDead.{KnownDead}
use Rattle.states.specs.declared.cluster_state.ToldServer.{ToldServer}
use Rattle.states.specs.declared.cluster_state.ClusterState.{ClusterState}

-- the open calls of the node with that number, in the order in which it took them, if it is alive
abbrev pub open_on : WorldState → ℕ → List OpenCall
open_on w n = if is_alive w n then (w.nodes n).pending else []

-- those of the nodes up to this one, by rising node
unfoldable pub open_up_to : WorldState → ℕ → List OpenCall
open_up_to w zero = []
open_up_to w (suc n) = open_up_to w n ++ open_on w (suc n)

-- those of all nodes
abbrev pub open_in : WorldState → List OpenCall
open_in w = open_up_to w most_nodes

abbrev pub is_wait : LockCommand → Bool
is_wait Wait = true
is_wait _ = false

-- a region of a live node's owner, in a file of the cluster, that blocks the call
pub record IsBlocker (w : WorldState) (c : OpenCall) (lock : LockInfo) : Type 0 where
  pub file_in : has_file w c.file ≡ true
  pub blocks : Blocks ((union w).locks c.file) c.owner c.span c.mode lock

-- what is told of an open call: each lock that blocks it, once, by first byte and then by owner
abbrev pub IsOpenState : WorldState → OpenState → Type 0
IsOpenState w o = Lists (IsBlocker w o.asked) IsBefore o.locks.items

-- the numbers from 1 to n that pass the test, rising
abbrev pub numbers_where : (ℕ → Bool) → ℕ → List ℕ
numbers_where passes n = filter passes (range_with_len 1 n)

-- the file is one of the cluster, and its token server works
abbrev pub works : WorldState → ℕ → Bool
works w file = has_file w file && w.working file

-- the nodes, the files, and the files whose servers work, by rising number
abbrev pub told_nodes : WorldState → List ℕ
told_nodes w = numbers_where (has_node w) most_nodes

abbrev pub told_files : WorldState → List ℕ
told_files w = numbers_where (has_file w) most_files

abbrev pub told_servers : WorldState → List ℕ
told_servers w = numbers_where (works w) most_files

-- of a node: the incarnation in which it is alive, the greatest that was declared failed (0 for none), and the open calls
pub record IsToldNode (w : WorldState) (t : ToldNode) : Type 0 where
  pub live : t.live ≡ (if is_alive w t.node then Some (w.nodes t.node).incarnation else None)
  pub dead : t.dead ≡ (w.nodes t.node).incarnation - 1
  pub calls : t.calls.items ≡ (if is_alive w t.node then (w.nodes t.node).pending else [])

-- of a file: the epoch of its token server, and whether that works, or else was declared failed in it
abbrev pub told_epoch : WorldState → ℕ → ToldEpoch
told_epoch w file = record { file = file; epoch = (w.servers file).epoch; works = w.working file }

-- all active requests, each with the node whose answer it waits for
pub record AreServed (s : ServerState) (held : List ActiveRequest) : Type 0 where
  pub requests : requests_of held ≡ s.active
  pub at : All (λ h. obstacle s h.request ≡ h.at) held

-- a row as it is shown has what the server's row of its node has; its token is the longest runs of bytes at one level, each once, rising
pub record IsShown (s : ServerState) (shown : ShownRow) : Type 0 where
  pub row : Row
  pub there : s.rows shown.node ≡ Some row
  pub incarnation : shown.incarnation ≡ row.incarnation
  pub token : Lists (λ r. IsRun row.token r.0 r.1) (λ r q. r.0.lo < q.0.lo) shown.token.items
  pub number : shown.number ≡ row.number
  pub command : shown.command ≡ row.outstanding

-- all rows, by rising node
pub record AreRows (s : ServerState) (rows : List ShownRow) : Type 0 where
  pub nodes : map (λ r. r.node) rows ≡ numbers_where (λ n. is_some (s.rows n)) s.shape.nodes
  pub each : All (IsShown s) rows

-- the server knows an incarnation of the node to be dead, and the greatest that it knows so
abbrev pub knows_dead : ServerState → ℕ → Bool
knows_dead s node = nat_lt 0 (s.dead node)

abbrev pub known_dead : ServerState → ℕ → KnownDead
known_dead s node = record { node = node; incarnation = s.dead node }

-- of a token server: its requests, its rows, the nodes whose reports it awaits, and the incarnations that it knows to be dead
pub record IsToldServer (s : ServerState) (t : ToldServer) : Type 0 where
  pub served : AreServed s t.served.items
  pub queued : t.queued.items ≡ s.queue
  pub waiting : t.waiting.items ≡ s.waiting
  pub rows : AreRows s t.rows.items
  pub awaited : t.awaited.items ≡ numbers_where (λ n. is_awaited (s.rows n)) s.shape.nodes
  pub dead : t.dead.items ≡ map (known_dead s) (numbers_where (knows_dead s) most_nodes)

-- of a world: its nodes and the epochs of its servers, the listings of tokens and locks, and its working servers
pub record IsStateOf (w : WorldState) (t : ClusterState) : Type 0 where
  pub nodes : map (λ n. n.node) t.nodes.items ≡ told_nodes w
  pub each_node : All (IsToldNode w) t.nodes.items
  pub epochs : t.epochs.items ≡ map (told_epoch w) (told_files w)
  pub tokens : IsTokenListing w t.tokens.items
  pub locks : IsLockListing w t.locks.items
  pub servers : map (λ s. s.file) t.servers.items ≡ told_servers w
  pub each_server : All (λ s. IsToldServer (w.servers s.file) s) t.servers.items
