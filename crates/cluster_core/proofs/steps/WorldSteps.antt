-- A world after the step of one of its actors.
use Rattle.std.specs.Prelude.{slice_set, slice_index_or, ◌==◌, ◌-◌, IfOk}
use Rattle.std.proofs.Common.{◌≡◌, ℕ, ◌+◌, ◌<◌, ◌≤◌, Bool, true, if◌then◌else◌, refl, sym, ◌∙◌, ap, subst, arith, List, [], ◌++◌, length}
use Rattle.std.specs.declared.option.Option.{Option}
use Rattle.std.specs.declared.option.Option.TheVariants.{None, Some}
use Rattle.std.specs.declared.result.Result.{Result}
use Rattle.std.specs.declared.result.Result.TheVariants.{Ok, Err}
use Rattle.std.proofs.lemmas.List.{get_or_default, length-set}
use Rattle.model.specs.declared.call.CallId.{CallId}
use Rattle.std.proofs.lemmas.Bool.{eqb-true}
use Rattle.messages.specs.rule.Messages.{addressee, is_within}
use Rattle.messages.specs.rule.Entries.{NamesItsCall, NamesItsIncarnation}
use Rattle.messages.specs.declared.message.Message.{Message}
use Rattle.messages.specs.declared.event.Event.{Event}
use Rattle.messages.specs.declared.event.Event.TheVariants.{AtNode, AtServer, Deliver, Member}
use Rattle.messages.specs.declared.event.NodeInput.TheVariants.{Call, Interrupt, Retry}
use Rattle.messages.specs.declared.outcome.Outcome.{Outcome}
use Rattle.messages.specs.declared.entry.Entry.{Entry}
use Rattle.messages.specs.declared.refusal.StepError.{StepError}
use Rattle.node_core.specs.declared.event.NodeEvent.{NodeEvent}
use Rattle.node_core.specs.declared.event.NodeEvent.TheVariants as node
use Rattle.node_core.specs.rule.Commands.{is_node}
use Rattle.node_core.specs.rule.Parts.{NodeParts, node_state}
use Rattle.node_core.specs.declared.change.NodeChange.{NodeChange}
use Rattle.node_core.specs.code.Plans.{Fits, planned}
use Rattle.node_core.specs.rule.State.{NodeState, first_node}
use Rattle.node_core.specs.rule.Node.{node_rule}
use Rattle.token_server.specs.rule.Parts.{ServerParts, server_state}
use Rattle.token_server.specs.declared.event.ServerEvent.{ServerEvent}
use Rattle.token_server.specs.declared.change.ServerChange.{ServerChange}
use Rattle.token_server.specs.code.Edits.{Fits as ServerFits, planned as after_edit}
use Rattle.token_server.specs.rule.State.{ServerState, first_server}
use Rattle.token_server.specs.rule.Server.{server_rule}
use Rattle.cluster_core.specs.rule.World.{first_world, journal_limit}
use Rattle.cluster_core.specs.rule.Next.{with_node, with_server, recorded, entry, named_incarnation, after_node, after_server}
use Rattle.cluster_core.specs.rule.Parts.{WorldParts, IsWorld, IsRest, numbered, seated, listed, alive_at, works_at, world_state}
use Rattle.cluster_core.specs.rule.Actors.{node_event, server_event}
use Rattle.cluster_core.proofs.common.Choices.{at_number, one_event}
use Rattle.messages.specs.rule.Members.{MembersState, first_members, incarnation_in, incarnation_of, members_state}
use Rattle.cluster_core.proofs.common.Numbered.{within_is, put_at, read_number}
use Rattle.cluster_core.proofs.steps.NodeNumbers.{NamesBy, node_rule-steps}
use Rattle.cluster_core.proofs.steps.ServerSteps.{server_rule-sending, server_rule-epoch}

-- what is read at a place of a list is one, whatever is read behind its end
pub one_there : {X : Type 0} (xs : List X) (i : ℕ) (x y : X) → i < length xs → x ≡ slice_index_or xs i x → y ≡ slice_index_or xs i y → x ≡ y
one_there xs i x y lt here there = here ∙ get_or_default xs i x y lt ∙ sym there

-- the world with another node, more messages, and one more entry
abbrev pub with_node_parts : WorldParts → ℕ → NodeParts → List Message → WorldParts
with_node_parts p n next sends = record p { nodes = slice_set p.nodes (n - 1) next; sent = p.sent ++ sends; length = p.length + 1 }

abbrev pub with_server_parts : WorldParts → ℕ → ServerParts → List Message → WorldParts
with_server_parts p file next sends = record p { servers = slice_set p.servers (file - 1) next; sent = p.sent ++ sends; length = p.length + 1 }

-- the node that is listed is the one in the world, since it is alive
seat_put : (p : WorldParts) (n : ℕ) (next : NodeParts) (sends : List Message) → 1 ≤ n → n ≤ length p.nodes → alive_at p n ≡ true → (m : ℕ) → seated p.shape m (alive_at p m) (listed (with_node_parts p n next sends) m) ≡ (if m == n then node_state next else (world_state p).nodes m)
seat_put p n next sends least most alive m =
    ap (seated p.shape m (alive_at p m)) (put_at node_state (λ k. first_node p.shape k 1) p.nodes n next least most m)
    ∙ at_number m n (λ b. seated p.shape m (alive_at p m) (if b then node_state next else listed p m) ≡ (if b then node_state next else (world_state p).nodes m))
    (λ same. ap (λ (b : Bool). seated p.shape m b (node_state next)) (ap (alive_at p) same ∙ alive))
    (λ other. refl)

pub node_put : (p : WorldParts) (n : ℕ) (next : NodeParts) (event : Event) (incarnation : ℕ) (o : Outcome) → 1 ≤ n → n ≤ length p.nodes → alive_at p n ≡ true → (recorded (with_node (world_state p) n (node_state next)) event incarnation o).0 ≡ world_state (with_node_parts p n next o.sends)
node_put p n next event incarnation o least most alive =
    sym (λ i. record {
      shape = p.shape;
      nodes = λ m. seat_put p n next o.sends least most alive m i;
      alive = alive_at p;
      servers = numbered server_state (first_server p.shape) 1 p.servers;
      working = works_at p;
      sent = p.sent ++ o.sends;
      length = p.length + 1;
    })

pub server_put : (p : WorldParts) (file : ℕ) (next : ServerParts) (event : Event) (o : Outcome) → 1 ≤ file → file ≤ length p.servers → (recorded (with_server (world_state p) file (server_state next)) event 0 o).0 ≡ world_state (with_server_parts p file next o.sends)
server_put p file next event o least most =
    sym (λ i. record {
      shape = p.shape;
      nodes = (world_state p).nodes;
      alive = alive_at p;
      servers = λ m. put_at server_state (first_server p.shape) p.servers file next least most m i;
      working = works_at p;
      sent = p.sent ++ o.sends;
      length = p.length + 1;
    })

-- after a node's step the parts are a world
node_world : (p : WorldParts) (n : ℕ) (step : NodeEvent) (next : NodeParts) (o : Outcome) → 1 ≤ n → n ≤ p.shape.nodes → p.length < journal_limit → IsWorld p → alive_at p n ≡ true → node_rule ((world_state p).nodes n) step ≡ Ok (node_state next, o) → IsWorld (with_node_parts p n next o.sends)
node_world p n step next o least most room world alive done =
    let steps = node_rule-steps ((world_state p).nodes n) step (node_state next, o) done in
    let there : n ≤ length p.nodes = omega (arith, world.nodes_there) in
    record {
      nodes_there = length-set p.nodes (n - 1) next ∙ world.nodes_there;
      members_there = world.members_there;
      servers_there = world.servers_there;
      epochs_there = world.epochs_there;
      own_number = λ m.
          ap (λ (s : NodeState). s.node) (seat_put p n next o.sends least there alive m)
          ∙ at_number m n (λ b. (if b then node_state next else (world_state p).nodes m).node ≡ m) (λ same. steps.node ∙ world.own_number n ∙ sym same) (λ other. world.own_number m);
      own_incarnation = λ m.
          ap (λ (s : NodeState). s.incarnation) (seat_put p n next o.sends least there alive m)
          ∙ at_number m n (λ b. (if b then node_state next else (world_state p).nodes m).incarnation ≡ incarnation_in p.members.nodes m) (λ same. steps.incarnation ∙ world.own_incarnation n ∙ ap (incarnation_in p.members.nodes) (sym same)) (λ other. world.own_incarnation m);
      own_epoch = world.own_epoch;
      within = omega arith;
    }

-- after a token server's step the parts are a world: the server keeps its epoch
server_world : (p : WorldParts) (file : ℕ) (step : ServerEvent) (next : ServerParts) (o : Outcome) → is_within p.shape.files file ≡ true → p.length < journal_limit → IsWorld p → server_rule ((world_state p).servers file) step ≡ Ok (server_state next, o) → IsWorld (with_server_parts p file next o.sends)
server_world p file step next o number room world done =
    let bounds = within_is p.shape.files file number in
    let least : 1 ≤ file = bounds.0 in
    let most : file ≤ length p.servers = omega (arith, bounds.1, world.servers_there) in
    record {
      nodes_there = world.nodes_there;
      members_there = world.members_there;
      servers_there = length-set p.servers (file - 1) next ∙ world.servers_there;
      epochs_there = world.epochs_there;
      own_number = world.own_number;
      own_incarnation = world.own_incarnation;
      own_epoch = λ f.
          world.own_epoch f
          ∙ ap (incarnation_of (works_at p f))
          (sym (ap (λ (s : ServerState). s.epoch) (put_at server_state (first_server p.shape) p.servers file next least most f)
          ∙ at_number f file (λ b. (if b then server_state next else (world_state p).servers f).epoch ≡ ((world_state p).servers f).epoch) (λ same. server_rule-epoch ((world_state p).servers file) step (server_state next, o) done ∙ ap (λ (g : ℕ). ((world_state p).servers g).epoch) (sym same)) (λ other. refl)));
      within = omega arith;
    }

names : (event : Event) (n : ℕ) (step : NodeEvent) (number : ℕ) (call : Option CallId) → node_event n event ≡ Some step → number ≡ n → NamesBy number step call → NamesItsCall event call
names (AtNode k (Call pid op)) n step number None takes own by =
    let one = one_event (k == n) (node.Input (Call pid op)) step takes in
    absurd (subst (λ (e : NodeEvent). NamesBy number e None) one.1 by)
names (AtNode k (Call pid op)) n step number (Some id) takes own by =
    let one = one_event (k == n) (node.Input (Call pid op)) step takes in
    subst (λ (e : NodeEvent). NamesBy number e (Some id)) one.1 by ∙ (own ∙ sym (eqb-true k n one.0))
names (AtNode k (Interrupt pid)) n step number call takes own by = subst (λ (e : NodeEvent). NamesBy number e call) (one_event (k == n) (node.Input (Interrupt pid)) step takes).1 by
names (AtNode k (Retry pid)) n step number call takes own by = subst (λ (e : NodeEvent). NamesBy number e call) (one_event (k == n) (node.Input (Retry pid)) step takes).1 by
names (AtServer file input) n step number call takes own by = absurd (cc)
names (Deliver m) n step number call takes own by = subst (λ (e : NodeEvent). NamesBy number e call) (one_event (is_node n (addressee m)) (node.Deliver m) step takes).1 by
names (Member event) n step number call takes own by = absurd (cc)

-- the entry of a node's step names the call by its node
node_names : (p : WorldParts) (event : Event) (n : ℕ) (step : NodeEvent) (next : NodeState) (o : Outcome) → IsWorld p → node_event n event ≡ Some step → node_rule ((world_state p).nodes n) step ≡ Ok (next, o) → NamesItsCall event o.call
node_names p event n step next o world takes done =
    names event n step ((world_state p).nodes n).node o.call takes (world.own_number n) (node_rule-steps ((world_state p).nodes n) step (next, o) done).named

-- the entry of a server's step names no call and no incarnation
pub server_names : (event : Event) (file : ℕ) (step : ServerEvent) (s next : ServerState) (o : Outcome) → server_event file event ≡ Some step → server_rule s step ≡ Ok (next, o) → NamesItsCall event o.call × NamesItsIncarnation event 0
server_names (AtNode n input) file step s next o takes done = absurd (cc)
server_names (AtServer f input) file step s next o takes done = ((server_rule-sending s step (next, o) done).0, refl)
server_names (Deliver m) file step s next o takes done = ((server_rule-sending s step (next, o) done).0, refl)
server_names (Member event) file step s next o takes done = absurd (cc)

-- the node and the token server at the places of their numbers
pub read_node : (p : WorldParts) (n : ℕ) (x : NodeParts) → IsWorld p → is_within p.shape.nodes n ≡ true → alive_at p n ≡ true → x ≡ slice_index_or p.nodes (n - 1) x → (world_state p).nodes n ≡ node_state x
read_node p n x world number alive is =
    let bounds = within_is p.shape.nodes n number in
    let least : 1 ≤ n = bounds.0 in
    let most : n ≤ length p.nodes = omega (arith, bounds.1, world.nodes_there) in
    ap (λ (b : Bool). seated p.shape n b (listed p n)) alive ∙ read_number node_state (λ k. first_node p.shape k 1) p.nodes n x least most is

pub read_server : (p : WorldParts) (file : ℕ) (x : ServerParts) → IsWorld p → is_within p.shape.files file ≡ true → x ≡ slice_index_or p.servers (file - 1) x → (world_state p).servers file ≡ server_state x
read_server p file x world number is =
    let bounds = within_is p.shape.files file number in
    let least : 1 ≤ file = bounds.0 in
    let most : file ≤ length p.servers = omega (arith, bounds.1, world.servers_there) in
    read_number server_state (first_server p.shape) p.servers file x least most is

-- a planned change is of the node at its place
pub plan_found : (r : Result NodeChange StepError) (x : NodeParts) (There : NodeParts → Type 0) (s : NodeState) (step : NodeEvent) → There x → s ≡ node_state x → IfOk r (λ change. Fits x change.edit) → IfOk r (λ change. node_rule (node_state x) step ≡ Ok (planned x change.edit, change.outcome)) → IfOk r (λ change. (y : NodeParts) × There y × Fits y change.edit × (node_rule s step ≡ Ok (planned y change.edit, change.outcome)))
plan_found (Ok change) x There s step is here fits done = (x, is, fits, subst (λ (t : NodeState). node_rule t step ≡ Ok (planned x change.edit, change.outcome)) (sym here) done)
plan_found (Err e) x There s step is here fits done = tt

pub server_found : (r : Result ServerChange StepError) (x : ServerParts) (There : ServerParts → Type 0) (s : ServerState) (step : ServerEvent) → There x → s ≡ server_state x → IfOk r (λ change. ServerFits x change.edit) → IfOk r (λ change. server_rule (server_state x) step ≡ Ok (after_edit x change.edit, change.outcome)) → IfOk r (λ change. (y : ServerParts) × There y × ServerFits y change.edit × (server_rule s step ≡ Ok (after_edit y change.edit, change.outcome)))
server_found (Ok change) x There s step is here fits done = (x, is, fits, subst (λ (t : ServerState). server_rule t step ≡ Ok (after_edit x change.edit, change.outcome)) (sym here) done)
server_found (Err e) x There s step is here fits done = tt

-- the new world and the entry are those of the rules
node_done : (p : WorldParts) (event : Event) (n : ℕ) (step : NodeEvent) (next : NodeParts) (o : Outcome) (fresh : WorldParts) (e : Entry) → IsWorld p → is_within p.shape.nodes n ≡ true → alive_at p n ≡ true → node_rule ((world_state p).nodes n) step ≡ Ok (node_state next, o) → fresh ≡ with_node_parts p n next o.sends → e ≡ entry event (named_incarnation ((world_state p).nodes n) event) o → after_node (world_state p) event n (node_rule ((world_state p).nodes n) step) ≡ Ok (world_state fresh, e)
node_done p event n step next o fresh e world number alive done fresh_is e_is =
    let bounds = within_is p.shape.nodes n number in
    let least : 1 ≤ n = bounds.0 in
    let most : n ≤ length p.nodes = omega (arith, bounds.1, world.nodes_there) in
    let after : (recorded (with_node (world_state p) n (node_state next)) event (named_incarnation ((world_state p).nodes n) event) o).0 ≡ world_state fresh = node_put p n next event (named_incarnation ((world_state p).nodes n) event) o least most alive ∙ ap world_state (sym fresh_is) in
    ap (λ (r : Result (NodeState × Outcome) StepError). after_node (world_state p) event n r) done ∙ (λ i. Ok (after i, sym e_is i))

server_done : (p : WorldParts) (event : Event) (file : ℕ) (step : ServerEvent) (next : ServerParts) (o : Outcome) (fresh : WorldParts) (e : Entry) → IsWorld p → is_within p.shape.files file ≡ true → server_rule ((world_state p).servers file) step ≡ Ok (server_state next, o) → fresh ≡ with_server_parts p file next o.sends → e ≡ entry event 0 o → after_server (world_state p) event file (server_rule ((world_state p).servers file) step) ≡ Ok (world_state fresh, e)
server_done p event file step next o fresh e world number done fresh_is e_is =
    let bounds = within_is p.shape.files file number in
    let least : 1 ≤ file = bounds.0 in
    let most : file ≤ length p.servers = omega (arith, bounds.1, world.servers_there) in
    let after : (recorded (with_server (world_state p) file (server_state next)) event 0 o).0 ≡ world_state fresh = server_put p file next event o least most ∙ ap world_state (sym fresh_is) in
    ap (λ (r : Result (ServerState × Outcome) StepError). after_server (world_state p) event file r) done ∙ (λ i. Ok (after i, sym e_is i))

-- the parts of a world, with another node or server and more messages
module _ (p now : WorldParts) (view : p ≡ now) (world : IsWorld p) (o : Outcome) (sent ms : List Message) (sent_is : sent ≡ p.sent ++ ms) (ms_are : ms ≡ o.sends) where
  more : sent ≡ p.sent ++ o.sends
  more = sent_is ∙ ap (λ (xs : List Message). p.sent ++ xs) ms_are

  module _ (n : ℕ) (step : NodeEvent) (next : NodeParts) (nodes : List NodeParts) (nodes_are : nodes ≡ slice_set p.nodes (n - 1) next) (number : is_within now.shape.nodes n ≡ true) (alive : alive_at now n ≡ true) (done : node_rule ((world_state now).nodes n) step ≡ Ok (node_state next, o)) where
    abbrev with_nodes : WorldParts
    with_nodes = record { shape = p.shape; nodes = nodes; members = p.members; servers = p.servers; sent = sent; length = p.length + 1 }

    nodes_made : with_nodes ≡ with_node_parts p n next o.sends
    nodes_made = λ i. record { shape = p.shape; nodes = nodes_are i; members = p.members; servers = p.servers; sent = more i; length = p.length + 1 }

    done_before : node_rule ((world_state p).nodes n) step ≡ Ok (node_state next, o)
    done_before = subst (λ (q : WorldParts). node_rule ((world_state q).nodes n) step ≡ Ok (node_state next, o)) (sym view) done

    within_before : is_within p.shape.nodes n ≡ true
    within_before = subst (λ (q : WorldParts). is_within q.shape.nodes n ≡ true) (sym view) number

    alive_before : alive_at p n ≡ true
    alive_before = subst (λ (q : WorldParts). alive_at q n ≡ true) (sym view) alive

    pub node_settled : now.length < journal_limit → IsWorld (record { shape = p.shape; nodes = nodes; members = p.members; servers = p.servers; sent = sent; length = p.length + 1 })
    node_settled room =
        let bounds = within_is p.shape.nodes n within_before in
        let space = subst (λ (q : WorldParts). q.length < journal_limit) (sym view) room in
        subst IsWorld (sym nodes_made) (node_world p n step next o bounds.0 bounds.1 space world alive_before done_before)

    pub node_named : (event : Event) → node_event n event ≡ Some step → NamesItsCall event o.call
    node_named event takes = node_names p event n step (node_state next) o world takes done_before

    pub node_returns : (event : Event) (incarnation : ℕ) (e : Entry) → incarnation ≡ named_incarnation ((world_state now).nodes n) event → e ≡ entry event incarnation o → after_node (world_state now) event n (node_rule ((world_state now).nodes n) step) ≡ Ok (world_state (record { shape = p.shape; nodes = nodes; members = p.members; servers = p.servers; sent = sent; length = p.length + 1 }), e)
    node_returns event incarnation e incarnation_is e_is =
        let named = e_is ∙ ap (λ k. entry event k o) (incarnation_is ∙ ap (λ q. named_incarnation ((world_state q).nodes n) event) (sym view)) in
        subst (λ (q : WorldParts). after_node (world_state q) event n (node_rule ((world_state q).nodes n) step) ≡ Ok (world_state with_nodes, e)) view
        (node_done p event n step next o with_nodes e world within_before alive_before done_before nodes_made named)

  module _ (file : ℕ) (step : ServerEvent) (next : ServerParts) (servers : List ServerParts) (servers_are : servers ≡ slice_set p.servers (file - 1) next) where
    abbrev with_servers : WorldParts
    with_servers = record { shape = p.shape; nodes = p.nodes; members = p.members; servers = servers; sent = sent; length = p.length + 1 }

    servers_made : with_servers ≡ with_server_parts p file next o.sends
    servers_made = λ i. record { shape = p.shape; nodes = p.nodes; members = p.members; servers = servers_are i; sent = more i; length = p.length + 1 }

    pub server_settled : now.length < journal_limit → is_within now.shape.files file ≡ true → server_rule ((world_state now).servers file) step ≡ Ok (server_state next, o) → IsWorld (record { shape = p.shape; nodes = p.nodes; members = p.members; servers = servers; sent = sent; length = p.length + 1 })
    server_settled room number done =
        let space = subst (λ (q : WorldParts). q.length < journal_limit) (sym view) room in
        let within = subst (λ (q : WorldParts). is_within q.shape.files file ≡ true) (sym view) number in
        let before = subst (λ (q : WorldParts). server_rule ((world_state q).servers file) step ≡ Ok (server_state next, o)) (sym view) done in
        subst IsWorld (sym servers_made) (server_world p file step next o within space world before)

    pub server_returns : (event : Event) (e : Entry) → is_within now.shape.files file ≡ true → server_rule ((world_state now).servers file) step ≡ Ok (server_state next, o) → e ≡ entry event 0 o → after_server (world_state now) event file (server_rule ((world_state now).servers file) step) ≡ Ok (world_state (record { shape = p.shape; nodes = p.nodes; members = p.members; servers = servers; sent = sent; length = p.length + 1 }), e)
    server_returns event e number done e_is =
        let within = subst (λ (q : WorldParts). is_within q.shape.files file ≡ true) (sym view) number in
        let before = subst (λ (q : WorldParts). server_rule ((world_state q).servers file) step ≡ Ok (server_state next, o)) (sym view) done in
        subst (λ (q : WorldParts). after_server (world_state q) event file (server_rule ((world_state q).servers file) step) ≡ Ok (world_state with_servers, e)) view
        (server_done p event file step next o with_servers e world within before servers_made e_is)

-- parts whose nodes and servers are as they begin are a world
pub first_is_world : (p : WorldParts) → length p.nodes ≡ p.shape.nodes → members_state p.members.nodes ≡ first_members p.shape.nodes → members_state p.members.servers ≡ first_members p.shape.files → length p.servers ≡ p.shape.files → IsRest node_state (λ n. first_node p.shape n 1) p.nodes → IsRest server_state (first_server p.shape) p.servers → p.length ≤ journal_limit → IsWorld p
first_is_world p nodes members epochs servers first first_servers within = record {
  nodes_there = nodes;
  members_there = ap (λ (s : MembersState). s.nodes) members;
  servers_there = servers;
  epochs_there = ap (λ (s : MembersState). s.nodes) epochs;
  own_number = λ n. seat_begun n ∙ ap (λ (s : NodeState). s.node) (first n);
  own_incarnation = λ n.
      ap (λ (s : MembersState). (seated p.shape n (s.alive n) (listed p n)).incarnation) members
      ∙ (ap (λ (s : NodeState). s.incarnation) (first n) ∙ ap (λ (s : MembersState). s.incarnation n) (sym members));
  own_epoch = λ f.
      ap (λ (s : MembersState). s.incarnation f) epochs
      ∙ sym (ap (λ (s : MembersState). incarnation_of (s.alive f) ((world_state p).servers f).epoch) epochs ∙ ap (λ (s : ServerState). s.epoch) (first_servers f));
  within = within;
}
  where
    seat_begun : (n : ℕ) → (seated p.shape n (alive_at p n) (listed p n)).node ≡ (listed p n).node
    seat_begun n = ap (λ (s : MembersState). (seated p.shape n (s.alive n) (listed p n)).node) members

pub first_is_first : (p : WorldParts) → IsRest node_state (λ n. first_node p.shape n 1) p.nodes → members_state p.members.nodes ≡ first_members p.shape.nodes → members_state p.members.servers ≡ first_members p.shape.files → IsRest server_state (first_server p.shape) p.servers → p.sent ≡ [] → p.length ≡ 0 → world_state p ≡ first_world p.shape
first_is_first p nodes members epochs servers sent none = λ i. record {
  shape = p.shape;
  nodes = λ n. seated p.shape n ((members i).alive n) (nodes n i);
  alive = (members i).alive;
  servers = λ file. servers file i;
  working = (epochs i).alive;
  sent = sent i;
  length = none i;
}
