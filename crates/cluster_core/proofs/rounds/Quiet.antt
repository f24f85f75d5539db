-- Where nothing fails, nobody calls and nothing is answered, no table changes.
use Rattle.std.specs.Prelude.{◌≡◌, ℕ, ◌&&◌, ◌==◌, if◌then◌else◌, List, [], ◌∷◌, All, None, Ok}
use Rattle.std.proofs.Common.{refl, sym, ap, subst, ◌∙◌}
use Rattle.std.proofs.lemmas.List.Elements.{All-head, All-tail}
use Rattle.intervals.specs.rule.Bytes.{nothing}
use Rattle.model.specs.rule.Descriptors.{no_processes}
use Rattle.model.specs.rule.Table.{Table}
use Rattle.messages.specs.rule.Shapes.{ShapeFields, most_regions}
use Rattle.messages.specs.rule.Messages.{addressee, is_within}
use Rattle.messages.specs.declared.actor.Actor.{Actor}
use Rattle.messages.specs.declared.actor.Actor.TheVariants.{Node as ANode, Server as AServer}
use Rattle.messages.specs.declared.message.Message.{Message}
use Rattle.messages.specs.declared.event.Event.{Event}
use Rattle.messages.specs.declared.event.Event.TheVariants.{AtNode, AtServer, Deliver, Member}
use Rattle.messages.specs.declared.event.NodeInput.TheVariants.{Call, Interrupt, Retry}
use Rattle.messages.specs.declared.entry.Entry.{Entry}
use Rattle.messages.specs.declared.outcome.Outcome.{Outcome}
use Rattle.node_core.specs.declared.event.NodeEvent.{NodeEvent}
use Rattle.node_core.specs.declared.event.NodeEvent.TheVariants as node
use Rattle.node_core.specs.rule.State.{NodeState}
use Rattle.node_core.specs.rule.Node.{node_rule}
use Rattle.cluster_core.specs.rule.Rests.{IsNoCall, Rests}
use Rattle.cluster_core.proofs.rounds.NodeRests.{rests-without-reply}
use Rattle.token_server.specs.declared.event.ServerEvent.{ServerEvent}
use Rattle.token_server.specs.declared.event.ServerEvent.TheVariants as server
use Rattle.token_server.specs.rule.State.{ServerState}
use Rattle.token_server.specs.rule.Server.{server_rule}
use Rattle.cluster_core.specs.rule.World.{WorldState}
use Rattle.cluster_core.specs.rule.Next.{recorded, with_node, with_server, after_server, delivered, taken, next}
use Rattle.cluster_core.specs.rule.Runs.{Leads}
use Rattle.cluster_core.specs.rule.Union.{union}
use Rattle.cluster_core.specs.rule.Rounds.{IsQuiet, AnswersNone, AllRest, RestsWithoutAnswers}
use Rattle.cluster_core.proofs.common.Choices.{at_number}
use Rattle.cluster_core.proofs.steps.NodeNumbers.{node_rule-steps}
use Rattle.cluster_core.proofs.steps.Steps.{next_taken, node_step, server_step}

same-node : (s : NodeState) → Rests s s
same-node s = record { node = refl; incarnation = refl; table = refl; pending = refl }

all-same : (w : WorldState) → AllRest w w
all-same w = record { shape = refl; alive = refl; working = refl; nodes = λ n. same-node (w.nodes n) }

-- one stretch, and then another
both-rest : (w u v : WorldState) → AllRest w u → AllRest u v → AllRest w v
both-rest w u v a b = record {
  shape = b.shape ∙ a.shape;
  alive = b.alive ∙ a.alive;
  working = b.working ∙ a.working;
  nodes = λ n. record {
    node = (b.nodes n).node ∙ (a.nodes n).node;
    incarnation = (b.nodes n).incarnation ∙ (a.nodes n).incarnation;
    table = (b.nodes n).table ∙ (a.nodes n).table;
    pending = (b.nodes n).pending ∙ (a.nodes n).pending;
  };
}

module _ (w : WorldState) where
  -- a step that answers none leaves all at rest
  abbrev Rest : WorldState × Entry → Type 0
  Rest q = q.1.reply ≡ None → AllRest w q.0

  node-rest : (event : Event) (incarnation n : ℕ) (step : NodeEvent) (done : NodeState × Outcome) → IsNoCall step → node_rule (w.nodes n) step ≡ Ok done → Rest (recorded (with_node w n done.0) event incarnation done.1)
  node-rest event incarnation n step done no_call is none =
      let own : Rests (w.nodes n) done.0 = rests-without-reply (w.nodes n) done.0 step done.1 is no_call none in
      record {
        shape = refl;
        alive = refl;
        working = refl;
        nodes = λ k. at_number k n (λ b. Rests (w.nodes k) (if b then done.0 else w.nodes k)) (λ same. subst (λ (m : ℕ). Rests (w.nodes m) done.0) (sym same) own) (λ other. same-node (w.nodes k));
      }

  server-rest : (event : Event) (file : ℕ) (done : ServerState × Outcome) → Rest (recorded (with_server w file done.0) event 0 done.1)
  server-rest event file done none = record { shape = refl; alive = refl; working = refl; nodes = λ k. same-node (w.nodes k) }

  message-rest : (m : Message) (to : Actor) (q : WorldState × Entry) → delivered w m to ≡ Ok q → Rest q
  message-rest m (ANode n) q h = node_step w Rest (Deliver m) n (node_rule (w.nodes n) (node.Deliver m)) q (λ done is. node-rest (Deliver m) 0 n (node.Deliver m) done tt is) h
  message-rest m (AServer file) q h = server_step w Rest (Deliver m) file (server_rule (w.servers file) (server.Deliver m)) q (λ done is. server-rest (Deliver m) file done) h

  taken-rest : (event : Event) (q : WorldState × Entry) → IsQuiet event → taken w event ≡ Ok q → Rest q
  taken-rest (Deliver m) q quiet h = message-rest m (addressee m) q h
  taken-rest (AtNode n (Retry pid)) q quiet h =
      node_step w Rest (AtNode n (Retry pid)) n (node_rule (w.nodes n) (node.Input (Retry pid))) q (λ done is. node-rest (AtNode n (Retry pid)) (w.nodes n).incarnation n (node.Input (Retry pid)) done tt is) h
  taken-rest (AtServer file input) q quiet h =
      server_step w Rest (AtServer file input) file (server_rule (w.servers file) (server.Input input)) q (λ done is. server-rest (AtServer file input) file done) h
  taken-rest (AtNode n (Call pid op)) q quiet h = absurd quiet
  taken-rest (AtNode n (Interrupt pid)) q quiet h = absurd quiet
  taken-rest (Member event) q quiet h = absurd quiet

pub quiet-rest : (es : List Entry) (w v : WorldState) → Leads w es v → All (λ e. IsQuiet e.event) es → AnswersNone es → AllRest w v
quiet-rest [] w v leads quiet none = subst (AllRest w) leads (all-same w)
quiet-rest (e ∷ es) w v leads quiet none =
    let step = next_taken w e.event (leads.0, e) leads.1 in
    let one : AllRest w leads.0 = taken-rest w e.event (leads.0, e) (All-head (λ (x : Entry). IsQuiet x.event) e es quiet) step.1 (All-head (λ (x : Entry). x.reply ≡ None) e es none) in
    both-rest w leads.0 v one (quiet-rest es leads.0 v leads.2 (All-tail (λ (x : Entry). IsQuiet x.event) e es quiet) (All-tail (λ (x : Entry). x.reply ≡ None) e es none))

-- the same nodes are alive, in their incarnations, and the same servers work
pub record SameMembers (w v : WorldState) : Type 0 where
  pub shape : v.shape ≡ w.shape
  pub alive : v.alive ≡ w.alive
  pub working : v.working ≡ w.working
  pub incarnation : (n : ℕ) → (v.nodes n).incarnation ≡ (w.nodes n).incarnation

-- a quiet step leaves the members
module _ (w : WorldState) where
  abbrev Same : WorldState × Entry → Type 0
  Same q = SameMembers w q.0

  node-same : (event : Event) (incarnation k : ℕ) (step : NodeEvent) (done : NodeState × Outcome) → node_rule (w.nodes k) step ≡ Ok done → Same (recorded (with_node w k done.0) event incarnation done.1)
  node-same event incarnation k step done is = record {
    shape = refl;
    alive = refl;
    working = refl;
    incarnation = λ n. at_number n k (λ b. (if b then done.0 else w.nodes n).incarnation ≡ (w.nodes n).incarnation)
        (λ same. (node_rule-steps (w.nodes k) step done is).incarnation ∙ sym (ap (λ (j : ℕ). (w.nodes j).incarnation) same))
        (λ other. refl);
  }

  server-same : (event : Event) (file : ℕ) (done : ServerState × Outcome) → Same (recorded (with_server w file done.0) event 0 done.1)
  server-same event file done = record { shape = refl; alive = refl; working = refl; incarnation = λ n. refl }

  message-same : (m : Message) (to : Actor) (q : WorldState × Entry) → delivered w m to ≡ Ok q → Same q
  message-same m (ANode k) q h = node_step w Same (Deliver m) k (node_rule (w.nodes k) (node.Deliver m)) q (λ done is. node-same (Deliver m) 0 k (node.Deliver m) done is) h
  message-same m (AServer file) q h = server_step w Same (Deliver m) file (server_rule (w.servers file) (server.Deliver m)) q (λ done is. server-same (Deliver m) file done) h

  taken-same : (event : Event) (q : WorldState × Entry) → IsQuiet event → taken w event ≡ Ok q → Same q
  taken-same (Deliver m) q quiet h = message-same m (addressee m) q h
  taken-same (AtNode k (Retry pid)) q quiet h =
      node_step w Same (AtNode k (Retry pid)) k (node_rule (w.nodes k) (node.Input (Retry pid))) q (λ done is. node-same (AtNode k (Retry pid)) (w.nodes k).incarnation k (node.Input (Retry pid)) done is) h
  taken-same (AtServer file input) q quiet h =
      server_step w Same (AtServer file input) file (server_rule (w.servers file) (server.Input input)) q (λ done is. server-same (AtServer file input) file done) h
  taken-same (AtNode k (Call pid op)) q quiet h = absurd quiet
  taken-same (AtNode k (Interrupt pid)) q quiet h = absurd quiet
  taken-same (Member event) q quiet h = absurd quiet

pub quiet-members : (w : WorldState) (e : Entry) (v : WorldState) → next w e.event ≡ Ok (v, e) → IsQuiet e.event → SameMembers w v
quiet-members w e v h quiet = taken-same w e.event (v, e) quiet (next_taken w e.event (v, e) h).1

-- the server of a file makes a step at a quiet event, or stays
module _ (file : ℕ) (R : ServerState → ServerState → Type 0) (stays : (s : ServerState) → R s s) (steps : (s : ServerState) (step : ServerEvent) (new : ServerState) (out : Outcome) → server_rule s step ≡ Ok (new, out) → R s new) (w : WorldState) where
  abbrev On : WorldState × Entry → Type 0
  On q = R (w.servers file) (q.0.servers file)

  server-on : (event : Event) (f : ℕ) (step : ServerEvent) (q : WorldState × Entry) → after_server w event f (server_rule (w.servers f) step) ≡ Ok q → On q
  server-on event f step q h = server_step w On event f (server_rule (w.servers f) step) q
      (λ done is. at_number file f (λ b. R (w.servers file) (if b then done.0 else w.servers file))
      (λ same. subst (λ (k : ℕ). R (w.servers k) done.0) (sym same) (steps (w.servers f) step done.0 done.1 is))
      (λ other. stays (w.servers file))) h

  message-on : (m : Message) (to : Actor) (q : WorldState × Entry) → delivered w m to ≡ Ok q → On q
  message-on m (ANode k) q h = node_step w On (Deliver m) k (node_rule (w.nodes k) (node.Deliver m)) q (λ done is. stays (w.servers file)) h
  message-on m (AServer f) q h = server-on (Deliver m) f (server.Deliver m) q h

  taken-on : (event : Event) (q : WorldState × Entry) → IsQuiet event → taken w event ≡ Ok q → On q
  taken-on (Deliver m) q quiet h = message-on m (addressee m) q h
  taken-on (AtNode k (Retry pid)) q quiet h = node_step w On (AtNode k (Retry pid)) k (node_rule (w.nodes k) (node.Input (Retry pid))) q (λ done is. stays (w.servers file)) h
  taken-on (AtServer f input) q quiet h = server-on (AtServer f input) f (server.Input input) q h
  taken-on (AtNode k (Call pid op)) q quiet h = absurd quiet
  taken-on (AtNode k (Interrupt pid)) q quiet h = absurd quiet
  taken-on (Member event) q quiet h = absurd quiet

  pub quiet-server : (e : Entry) (v : WorldState) → next w e.event ≡ Ok (v, e) → IsQuiet e.event → R (w.servers file) (v.servers file)
  quiet-server e v h quiet = taken-on e.event (v, e) quiet (next_taken w e.event (v, e) h).1

-- the table of nodes of these incarnations with these tables
abbrev joined : ShapeFields → (ℕ → ℕ) → (ℕ → Table) → Table
joined shape incarnation tables = record {
  limit = most_regions shape.version;
  on = λ node i. if is_within shape.nodes node && (i == incarnation node) then (tables node).on node i else no_processes;
  locks = λ file owner. if is_within shape.nodes owner.node && (owner.incarnation == incarnation owner.node) then (tables owner.node).locks file owner else nothing;
}

pub union-rests : (w v : WorldState) → AllRest w v → union v ≡ union w
union-rests w v rest = λ i. joined (rest.shape i) (λ n. (rest.nodes n).incarnation i) (λ n. (rest.nodes n).table i)

pub rests-without-answers : RestsWithoutAnswers
rests-without-answers w v es leads quiet none =
    let rest = quiet-rest es w v leads quiet none in
    (rest, union-rests w v rest)
