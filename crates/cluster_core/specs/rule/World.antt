-- The world: the state of the whole cluster.
use Rattle.std.specs.Prelude.{ℕ, Bool, true, ◌&&◌, ◌==◌, if◌then◌else◌, nat_le, nat_lt, List, []}
use Rattle.messages.specs.rule.Shapes.{ShapeFields}
use Rattle.messages.specs.declared.message.Message.{Message}
use Rattle.messages.specs.rule.Messages.{is_within}
pub use Rattle.messages.specs.rule.Members.{most_incarnations}
use Rattle.node_core.specs.rule.State.{NodeState, first_node}
use Rattle.token_server.specs.rule.State.{ServerState, first_server}

-- Every actor's state, which nodes are alive and servers work, the messages sent, and the number of entries. A node that is not alive is as it will begin again
pub record WorldState : Type 0 where
  pub shape : ShapeFields
  pub nodes : ℕ → NodeState
  pub alive : ℕ → Bool
  pub servers : ℕ → ServerState
  pub working : ℕ → Bool
  pub sent : List Message
  pub length : ℕ

abbrev pub first_world : ShapeFields → WorldState
first_world shape = record {
  shape = shape;
  nodes = λ node. first_node shape node 1;
  alive = λ node. true;
  servers = λ file. first_server shape file;
  working = λ file. true;
  sent = [];
  length = 0;
}

-- the greatest number of entries of a journal
abbrev pub journal_limit : ℕ
journal_limit = 1048576

abbrev pub has_node : WorldState → ℕ → Bool
has_node w node = is_within w.shape.nodes node

abbrev pub has_file : WorldState → ℕ → Bool
has_file w file = is_within w.shape.files file

-- this incarnation of the node is live, or begins next
abbrev pub is_live : WorldState → ℕ → ℕ → Bool
is_live w node incarnation = has_node w node && (incarnation == (w.nodes node).incarnation)

-- the cluster has the node, and the node is alive
abbrev pub is_alive : WorldState → ℕ → Bool
is_alive w node = has_node w node && w.alive node

-- this incarnation of the node was declared failed
abbrev pub was_declared : WorldState → ℕ → ℕ → Bool
was_declared w node incarnation = nat_le 1 incarnation && nat_lt incarnation (w.nodes node).incarnation

-- this epoch of the file's token server was declared failed: one before the epoch in which it works, or up to the epoch in which it failed
abbrev pub has_failed : WorldState → ℕ → ℕ → Bool
has_failed w file epoch = nat_le 1 epoch && (if w.working file then nat_lt epoch (w.servers file).epoch else nat_le epoch (w.servers file).epoch)
