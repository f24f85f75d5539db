-- A world as the code keeps it, and the state that it stands for.
use Rattle.std.specs.Prelude.{◌≡◌, ℕ, Bool, true, false, ◌+◌, ◌≤◌, List, length}
use Rattle.messages.specs.rule.Shapes.{ShapeFields}
use Rattle.messages.specs.declared.message.Message.{Message}
use Rattle.messages.specs.rule.Members.{MembersParts, alive_in, incarnation_in, incarnation_of}
pub use Rattle.messages.specs.rule.Members.{numbered, IsRest}
use Rattle.node_core.specs.rule.Parts.{NodeParts, node_state}
use Rattle.node_core.specs.rule.State.{NodeState, first_node}
use Rattle.token_server.specs.rule.Parts.{ServerParts, server_state}
use Rattle.token_server.specs.rule.State.{first_server}
use Rattle.cluster_core.specs.rule.World.{WorldState, journal_limit}

pub record WorldParts : Type 0 where
  pub shape : ShapeFields
  pub nodes : List NodeParts
  pub members : MembersParts
  pub servers : List ServerParts
  pub sent : List Message
  pub length : ℕ

-- a node that is not alive is in the state in which it will begin again
abbrev pub seated : ShapeFields → ℕ → Bool → NodeState → NodeState
seated shape n true s = s
seated shape n false s = first_node shape n (s.incarnation + 1)

-- the states of the nodes as the code lists them
abbrev pub listed : WorldParts → ℕ → NodeState
listed p = numbered node_state (λ n. first_node p.shape n 1) 1 p.nodes

abbrev pub alive_at : WorldParts → ℕ → Bool
alive_at p = alive_in p.members.nodes

abbrev pub works_at : WorldParts → ℕ → Bool
works_at p = alive_in p.members.servers

abbrev pub world_state : WorldParts → WorldState
world_state p = record {
  shape = p.shape;
  nodes = λ n. seated p.shape n (alive_at p n) (listed p n);
  alive = alive_at p;
  servers = numbered server_state (first_server p.shape) 1 p.servers;
  working = works_at p;
  sent = p.sent;
  length = p.length;
}

-- One node per number, one server per file; incarnations and epochs are the members'; at most `journal_limit` entries.
pub record IsWorld (p : WorldParts) : Type 0 where
  pub nodes_there : length p.nodes ≡ p.shape.nodes
  pub members_there : length p.members.nodes ≡ p.shape.nodes
  pub servers_there : length p.servers ≡ p.shape.files
  pub epochs_there : length p.members.servers ≡ p.shape.files
  pub own_number : (n : ℕ) → ((world_state p).nodes n).node ≡ n
  pub own_incarnation : (n : ℕ) → ((world_state p).nodes n).incarnation ≡ incarnation_in p.members.nodes n
  pub own_epoch : (f : ℕ) → incarnation_in p.members.servers f ≡ incarnation_of (works_at p f) ((world_state p).servers f).epoch
  pub within : p.length ≤ journal_limit
