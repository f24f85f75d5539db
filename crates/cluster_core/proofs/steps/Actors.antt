-- What an actor's step at an event makes of a world.
use Rattle.std.proofs.Common.{◌≡◌, ℕ, Bool, true, false, not, if◌then◌else◌, refl, sym, ◌∙◌, ap, eq-eqb, Option, Some, None, Result, Ok, Err}
use Rattle.std.proofs.lemmas.Bool.{eqb-true}
use Rattle.std.specs.Prelude.{◌==◌}
use Rattle.messages.specs.rule.Messages.{addressee}
use Rattle.messages.specs.declared.actor.Actor.{Actor}
use Rattle.messages.specs.declared.actor.Actor.TheVariants.{Node as ANode, Server as AServer}
use Rattle.messages.specs.declared.message.Message.{Message}
use Rattle.messages.specs.declared.event.Event.{Event}
use Rattle.messages.specs.declared.event.Event.TheVariants.{AtNode, AtServer, Deliver, Member}
use Rattle.messages.specs.declared.event.NodeInput.{NodeInput}
use Rattle.messages.specs.declared.event.ServerInput.{ServerInput}
use Rattle.messages.specs.declared.event.MemberEvent.TheVariants.{Restart, StartServer}
use Rattle.messages.specs.declared.entry.Entry.{Entry}
use Rattle.messages.specs.declared.outcome.Outcome.{Outcome}
use Rattle.messages.specs.declared.refusal.Refused.{Refused}
use Rattle.messages.specs.declared.refusal.Refused.TheVariants.{Stranger, Fenced}
use Rattle.node_core.specs.declared.event.NodeEvent.{NodeEvent}
use Rattle.node_core.specs.declared.event.NodeEvent.TheVariants as node
use Rattle.node_core.specs.rule.State.{NodeState}
use Rattle.node_core.specs.rule.Commands.{is_node}
use Rattle.node_core.specs.rule.Node.{node_rule}
use Rattle.token_server.specs.declared.event.ServerEvent.{ServerEvent}
use Rattle.token_server.specs.declared.event.ServerEvent.TheVariants as server
use Rattle.token_server.specs.rule.State.{ServerState}
use Rattle.token_server.specs.rule.Server.{server_rule, is_server}
use Rattle.cluster_core.specs.rule.World.{WorldState, has_node, has_file}
use Rattle.cluster_core.specs.rule.Next.{is_known, is_stopped, is_fenced, after_node, after_server, delivered, taken, next, next_server, kept_next}
use Rattle.cluster_core.proofs.common.Choices.{one_event}
use Rattle.cluster_core.proofs.steps.Steps.{next_taken, kept_taken, restart_step, start_step}
use Rattle.cluster_core.specs.rule.Actors.{node_event, server_event, node_at, server_at, node_step, server_step, made_by_node, made_by_server}

-- a node that takes an event takes it in the world
record NodeTakes (w : WorldState) (event : Event) (n : ℕ) (step : NodeEvent) : Type 0 where
  fenced : is_fenced w event ≡ not (w.alive n)
  takes : taken w event ≡ after_node w event n (node_rule (w.nodes n) step)

to_node : (w : WorldState) (m : Message) (n : ℕ) (step : NodeEvent) (to : Actor) → is_node n to ≡ true → step ≡ node.Deliver m → (is_stopped w to ≡ not (w.alive n)) × (delivered w m to ≡ after_node w (Deliver m) n (node_rule (w.nodes n) step))
to_node w m n step (ANode k) ours is =
    let same : k ≡ n = eqb-true k n ours in
    (ap (λ (j : ℕ). not (w.alive j)) same, λ i. after_node w (Deliver m) (same i) (node_rule (w.nodes (same i)) (sym is i)))
to_node w m n step (AServer file) ours is = absurd (cc)

node_takes : (w : WorldState) (event : Event) (n : ℕ) (step : NodeEvent) → node_event n event ≡ Some step → NodeTakes w event n step
node_takes w (AtNode k input) n step e =
    let one = one_event (k == n) (node.Input input) step e in
    let same : k ≡ n = eqb-true k n one.0 in
    record { fenced = ap (λ (j : ℕ). not (w.alive j)) same; takes = λ i. after_node w (AtNode k input) (same i) (node_rule (w.nodes (same i)) (sym one.1 i)) }
node_takes w (AtServer file input) n step e = absurd (cc)
node_takes w (Deliver m) n step e =
    let one = one_event (is_node n (addressee m)) (node.Deliver m) step e in
    let to = to_node w m n step (addressee m) one.0 one.1 in
    record { fenced = to.0; takes = to.1 }
node_takes w (Member event) n step e = absurd (cc)

-- a token server that takes an event takes it in the world
record ServerTakes (w : WorldState) (event : Event) (f : ℕ) (step : ServerEvent) : Type 0 where
  fenced : is_fenced w event ≡ not (w.working f)
  takes : taken w event ≡ after_server w event f (server_rule (w.servers f) step)

to_server : (w : WorldState) (m : Message) (f : ℕ) (step : ServerEvent) (to : Actor) → is_server f to ≡ true → step ≡ server.Deliver m → (is_stopped w to ≡ not (w.working f)) × (delivered w m to ≡ after_server w (Deliver m) f (server_rule (w.servers f) step))
to_server w m f step (ANode n) ours is = absurd (cc)
to_server w m f step (AServer g) ours is =
    let same : g ≡ f = eqb-true g f ours in
    (ap (λ (j : ℕ). not (w.working j)) same, λ i. after_server w (Deliver m) (same i) (server_rule (w.servers (same i)) (sym is i)))

server_takes : (w : WorldState) (event : Event) (f : ℕ) (step : ServerEvent) → server_event f event ≡ Some step → ServerTakes w event f step
server_takes w (AtNode n input) f step e = absurd (cc)
server_takes w (AtServer g input) f step e =
    let one = one_event (g == f) (server.Input input) step e in
    let same : g ≡ f = eqb-true g f one.0 in
    record { fenced = ap (λ (j : ℕ). not (w.working j)) same; takes = λ i. after_server w (AtServer g input) (same i) (server_rule (w.servers (same i)) (sym one.1 i)) }
server_takes w (Deliver m) f step e =
    let one = one_event (is_server f (addressee m)) (server.Deliver m) step e in
    let to = to_server w m f step (addressee m) one.0 one.1 in
    record { fenced = to.0; takes = to.1 }
server_takes w (Member event) f step e = absurd (cc)

-- an actor takes what comes to it
pub own_node_input : (n : ℕ) (input : NodeInput) → node_event n (AtNode n input) ≡ Some (node.Input input)
own_node_input n input = ap (λ (b : Bool). if b then Some (node.Input input) else None) (eq-eqb n n refl)

pub own_server_input : (f : ℕ) (input : ServerInput) → server_event f (AtServer f input) ≡ Some (server.Input input)
own_server_input f input = ap (λ (b : Bool). if b then Some (server.Input input) else None) (eq-eqb f f refl)

pub own_node_delivery : (n : ℕ) (m : Message) → addressee m ≡ ANode n → node_event n (Deliver m) ≡ Some (node.Deliver m)
own_node_delivery n m to = ap (λ (a : Actor). if is_node n a then Some (node.Deliver m) else None) to ∙ ap (λ (b : Bool). if b then Some (node.Deliver m) else None) (eq-eqb n n refl)

pub own_server_delivery : (f : ℕ) (m : Message) → addressee m ≡ AServer f → server_event f (Deliver m) ≡ Some (server.Deliver m)
own_server_delivery f m to = ap (λ (a : Actor). if is_server f a then Some (server.Deliver m) else None) to ∙ ap (λ (b : Bool). if b then Some (server.Deliver m) else None) (eq-eqb f f refl)

-- a step that is done is of an event that the actor takes
pub node_done_by : (s : NodeState) (event : Option NodeEvent) (done : NodeState × Outcome) → node_at s event ≡ Ok done → (step : NodeEvent) × (event ≡ Some step) × (node_rule s step ≡ Ok done)
node_done_by s None done e = absurd (cc)
node_done_by s (Some step) done e = (step, refl, e)

pub server_done_by : (s : ServerState) (event : Option ServerEvent) (done : ServerState × Outcome) → server_at s event ≡ Ok done → (step : ServerEvent) × (event ≡ Some step) × (server_rule s step ≡ Ok done)
server_done_by s None done e = absurd (cc)
server_done_by s (Some step) done e = (step, refl, e)

-- the node, which is alive, makes this state and outcome of the event
pub record NodeSteps (w : WorldState) (event : Event) (n : ℕ) (s : NodeState) (o : Outcome) : Type 0 where
  pub number : has_node w n ≡ true
  pub alive : w.alive n ≡ true
  pub done : node_step n (w.nodes n) event ≡ Ok (s, o)

-- the server, which works, makes this state and outcome of the event
pub record ServerSteps (w : WorldState) (event : Event) (f : ℕ) (s : ServerState) (o : Outcome) : Type 0 where
  pub number : has_file w f ≡ true
  pub working : w.working f ≡ true
  pub done : server_step f (w.servers f) event ≡ Ok (s, o)

-- the step of an actor that may make it is the next one of the world
goes : (w : WorldState) (event : Event) (r : Result (WorldState × Entry) Refused) → is_known w event ≡ true → is_fenced w event ≡ false → taken w event ≡ r → next w event ≡ r
goes w event r known free is = λ i. if not (known i) then Err Stranger else (if free i then Err Fenced else is i)

pub node_next : (w : WorldState) (event : Event) (n : ℕ) (s : NodeState) (o : Outcome) → is_known w event ≡ true → NodeSteps w event n s o → next w event ≡ Ok (made_by_node w event n s o)
node_next w event n s o known steps =
    let by = node_done_by (w.nodes n) (node_event n event) (s, o) steps.done in
    let takes = node_takes w event n by.0 by.1 in
    goes w event _ known (takes.fenced ∙ ap not steps.alive) (takes.takes ∙ ap (after_node w event n) by.2)

pub server_next : (w : WorldState) (event : Event) (f : ℕ) (s : ServerState) (o : Outcome) → is_known w event ≡ true → ServerSteps w event f s o → next w event ≡ Ok (made_by_server w event f s o)
server_next w event f s o known steps =
    let by = server_done_by (w.servers f) (server_event f event) (s, o) steps.done in
    let takes = server_takes w event f by.0 by.1 in
    goes w event _ known (takes.fenced ∙ ap not steps.working) (takes.takes ∙ ap (after_server w event f) by.2)

-- a restart keeps the state of the node
pub restart_keeps : (w : WorldState) (n : ℕ) (q : WorldState × Entry) → kept_next w (Member (Restart n)) ≡ Ok q → q.0.nodes n ≡ w.nodes n
restart_keeps w n q h = restart_step w (λ p. p.0.nodes n ≡ w.nodes n) n q (λ m is dead few. refl) (next_taken w (Member (Restart n)) q (kept_taken w (Member (Restart n)) q h).1).1

-- a start gives the token server that was to begin
pub start_gives : (w : WorldState) (f : ℕ) (q : WorldState × Entry) → kept_next w (Member (StartServer f)) ≡ Ok q → q.0.servers f ≡ next_server w f
start_gives w f q h =
    start_step w (λ p. p.0.servers f ≡ next_server w f) f q (λ g is stopped few.
    let same : f ≡ g = cc in
    ap (λ (b : Bool). if b then next_server w g else w.servers f) (eq-eqb f g same) ∙ ap (next_server w) (sym same)) (next_taken w (Member (StartServer f)) q (kept_taken w (Member (StartServer f)) q h).1).1
