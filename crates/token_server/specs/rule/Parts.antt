-- What the code keeps of a token server, and the state that it stands for.
use Rattle.std.specs.Prelude.{ℕ, List}
use Rattle.messages.specs.rule.Shapes.{ShapeFields}
use Rattle.token_server.specs.rule.Requests.{LineParts}
use Rattle.token_server.specs.rule.Actives.{ActiveParts, requests_of}
use Rattle.token_server.specs.declared.known_nodes.known_node.KnownNode.{KnownNode}
use Rattle.token_server.specs.rule.State.{ServerState}
use Rattle.token_server.specs.rule.RowParts.{rows_of, deaths_of}

-- one file's server: epoch, what is known of each node from node 1 on, active requests with the nodes whose rows they wait for, the queue, and those that wait
pub record ServerParts : Type 0 where
  pub shape : ShapeFields
  pub file : ℕ
  pub epoch : ℕ
  pub known_nodes : List KnownNode
  pub active : ActiveParts
  pub queue : LineParts
  pub waiting : LineParts

-- the state that the parts stand for
abbrev pub server_state : ServerParts → ServerState
server_state p = record { shape = p.shape; file = p.file; epoch = p.epoch; rows = rows_of p.known_nodes; dead = deaths_of p.known_nodes; queue = p.queue.requests; active = requests_of p.active.held; waiting = p.waiting.requests }
