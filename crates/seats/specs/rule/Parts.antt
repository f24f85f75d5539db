-- What the code keeps of a seat, and the state that it stands for.
use Rattle.std.specs.Prelude.{◌≡◌, ℕ, List, Option, length}
use Rattle.std.specs.Option.{option_map}
use Rattle.model.specs.rule.Limits.{IsNumber}
use Rattle.messages.specs.rule.Shapes.{ShapeFields}
use Rattle.messages.specs.rule.Members.{MembersParts, members_state}
use Rattle.node_core.specs.rule.Parts.{NodeParts, node_state}
use Rattle.token_server.specs.rule.Parts.{ServerParts, server_state}
use Rattle.messages.specs.declared.pace.Pace.{Pace}
use Rattle.seats.specs.declared.wait.Wait.{Wait}
use Rattle.seats.specs.rule.NodeSeats.{NodeSeatState}
use Rattle.seats.specs.rule.ServerSeats.{ServerSeatState}

pub record NodeSeatParts : Type 0 where
  pub shape : ShapeFields
  pub members : MembersParts
  pub node : ℕ
  pub left : ℕ
  pub state : Option NodeParts
  pub waits : List Wait

abbrev pub node_seat : NodeSeatParts → NodeSeatState
node_seat p = record {
  shape = p.shape;
  nodes = members_state p.members.nodes;
  servers = members_state p.members.servers;
  node = p.node;
  left = p.left;
  state = option_map node_state p.state;
  waits = p.waits;
}

pub record ServerSeatParts : Type 0 where
  pub shape : ShapeFields
  pub members : MembersParts
  pub file : ℕ
  pub left : ℕ
  pub state : Option ServerParts
  pub pace : Pace

abbrev pub server_seat : ServerSeatParts → ServerSeatState
server_seat p = record {
  shape = p.shape;
  nodes = members_state p.members.nodes;
  servers = members_state p.members.servers;
  file = p.file;
  left = p.left;
  state = option_map server_state p.state;
  pace = p.pace;
}

-- the server's file is one of the shape, and so are the nodes
pub record IsServerSeat (p : ServerSeatParts) : Type 0 where
  pub file_in : IsNumber p.shape.files p.file
  pub nodes_there : length p.members.nodes ≡ p.shape.nodes
