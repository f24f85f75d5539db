-- The state of a token server.
use Rattle.std.specs.Prelude.{ℕ, ◌-◌, Bool, not, ◌&&◌, ◌==◌, max, if◌then◌else◌, List, [], ◌++◌, filter, Option, Some, None}
use Rattle.intervals.specs.rule.Search.{some_passes}
use Rattle.messages.specs.rule.Shapes.{ShapeFields, before_epoch}
use Rattle.messages.specs.rule.Messages.{is_within}
use Rattle.token_server.specs.declared.token_queue.token_request.TokenRequest.{TokenRequest}
use Rattle.token_server.specs.rule.Requests.{is_up_to}
use Rattle.token_server.specs.rule.Rows.{Row, awaited_row, is_awaited, row_above}

-- one file's server: epoch (1 until rebuilt), rows of nodes that asked, their greatest dead incarnations (0 at first), the queue, active and waiting requests
pub record ServerState : Type 0 where
  pub shape : ShapeFields
  pub file : ℕ
  pub epoch : ℕ
  pub rows : ℕ → Option Row
  pub dead : ℕ → ℕ
  pub queue : List TokenRequest
  pub active : List TokenRequest
  pub waiting : List TokenRequest

abbrev pub first_server : ShapeFields → ℕ → ServerState
first_server shape file = record { shape = shape; file = file; epoch = 1; rows = λ node. None; dead = λ node. 0; queue = []; active = []; waiting = [] }

-- the base of the server's epoch: the number after which its commands begin
abbrev pub begin : ServerState → ℕ
begin s = before_epoch s.epoch

-- A rebuilt server, in a later epoch: all incarnations but the live ones are known to be dead, and each live node was sent a Hello
abbrev pub rebuilt : ShapeFields → ℕ → ℕ → (ℕ → Bool) → (ℕ → ℕ) → ServerState
rebuilt shape file epoch is_live incarnation = record {
  shape = shape;
  file = file;
  epoch = epoch;
  rows = λ node. if is_within shape.nodes node && is_live node then Some (awaited_row file (before_epoch epoch) node (incarnation node)) else None;
  dead = λ node. incarnation node - 1;
  queue = [];
  active = [];
  waiting = [];
}

-- some node was asked for its token and has not reported it
abbrev pub awaits : ServerState → Bool
awaits s = some_passes (λ node. is_awaited (s.rows node)) 1 s.shape.nodes

abbrev pub with_row : ServerState → ℕ → Option Row → ServerState
with_row s node row = record s { rows = λ n. if n == node then row else s.rows n }

-- incarnations of the node up to this one are known to be dead: their row and their requests go
abbrev pub forgotten : ServerState → ℕ → ℕ → ServerState
forgotten s node incarnation = record s {
  rows = λ n. if n == node then row_above incarnation (s.rows n) else s.rows n;
  dead = λ n. if n == node then max (s.dead n) incarnation else s.dead n;
  queue = filter (λ r. not (is_up_to node incarnation r)) s.queue;
  active = filter (λ r. not (is_up_to node incarnation r)) s.active;
  waiting = filter (λ r. not (is_up_to node incarnation r)) s.waiting;
}

-- all requests of the server: active, queued and waiting
abbrev pub requests : ServerState → List TokenRequest
requests s = s.active ++ (s.queue ++ s.waiting)

-- the waiting requests go to the end of the queue, in their order
abbrev pub requeued : ServerState → ServerState
requeued s = record s { queue = s.queue ++ s.waiting; waiting = [] }
