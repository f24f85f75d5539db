-- A quiet step of the cluster that answers a call: it closes one open call of one node.
use Rattle.std.specs.Prelude.{◌==◌, filter, not}
use Rattle.std.proofs.Common.{◌≡◌, ℕ, Bool, true, if◌then◌else◌, refl, sym, ◌∙◌, ap, subst, List, Contains, Some, Ok}
use Rattle.std.proofs.lemmas.Bool.{and_parts, eq-eqb}
use Rattle.std.proofs.lemmas.Option.{none-some}
use Rattle.std.proofs.lemmas.List.Elements.{All-contains, All-contains_itself, All-filter}
use Rattle.model.specs.declared.call.CallId.{CallId}
use Rattle.model.specs.declared.reply.Reply.{Reply}
use Rattle.messages.specs.rule.Messages.{addressee, is_among}
use Rattle.messages.specs.declared.actor.Actor.{Actor}
use Rattle.messages.specs.declared.actor.Actor.TheVariants.{Node as ANode, Server as AServer}
use Rattle.messages.specs.declared.message.Message.{Message}
use Rattle.messages.specs.declared.event.Event.{Event}
use Rattle.messages.specs.declared.event.Event.TheVariants.{AtNode, AtServer, Deliver, Member}
use Rattle.messages.specs.declared.event.NodeInput.TheVariants.{Call, Interrupt, Retry}
use Rattle.messages.specs.declared.entry.Entry.{Entry}
use Rattle.messages.specs.declared.outcome.Outcome.{Outcome}
use Rattle.node_core.specs.declared.event.NodeEvent.{NodeEvent}
use Rattle.node_core.specs.declared.event.NodeEvent.TheVariants as node
use Rattle.node_core.specs.declared.open_call.OpenCall.{OpenCall}
use Rattle.node_core.specs.rule.State.{NodeState}
use Rattle.node_core.specs.rule.Node.{node_rule}
use Rattle.token_server.specs.declared.event.ServerEvent.{ServerEvent}
use Rattle.token_server.specs.declared.event.ServerEvent.TheVariants as server
use Rattle.token_server.specs.rule.State.{ServerState}
use Rattle.token_server.specs.rule.Server.{server_rule}
use Rattle.cluster_core.specs.rule.World.{WorldState, has_node}
use Rattle.cluster_core.specs.rule.Next.{has_actor, fits_shape, is_known, recorded, with_node, with_server, delivered, taken, next}
use Rattle.cluster_core.specs.rule.Rounds.{IsQuiet}
use Rattle.cluster_core.proofs.common.Choices.{at_number}
use Rattle.cluster_core.proofs.history.Lifting.{DiffersAt}
use Rattle.cluster_core.proofs.steps.NodeNumbers.{node_rule-steps}
use Rattle.cluster_core.proofs.steps.ServerSteps.{server_rule-sending}
use Rattle.cluster_core.proofs.steps.Steps.{next_taken, node_step, server_step}
use Rattle.progress.proofs.Closing.{Closes, IsQuietStep, step-closes}

-- the step of one node closes one of its open calls, and the other nodes stay
pub record Answers (w v : WorldState) : Type 0 where
  pub number : ℕ
  pub there : has_node w number ≡ true
  pub differs : DiffersAt w v number
  pub closes : Closes (w.nodes number) (v.nodes number)

-- a call that is still open was open before
was_open : (s u : NodeState) (c : Closes s u) (d : OpenCall) → Contains u.pending d → Contains s.pending d
was_open s u c d at =
    let test : OpenCall → Bool = λ x. not (x.number == c.call.number) in
    let left : Contains (filter test s.pending) d = subst (λ (cs : List OpenCall). Contains cs d) c.left at in
    All-contains (Contains s.pending) (filter test s.pending) d (All-filter test (Contains s.pending) s.pending (All-contains_itself s.pending)) left

pub open_before : (w v : WorldState) (a : Answers w v) (m : ℕ) (c : OpenCall) → Contains (v.nodes m).pending c → Contains (w.nodes m).pending c
open_before w v a m c at = at_number m a.number (λ b. Contains (w.nodes m).pending c)
    (λ same. subst (λ (j : ℕ). Contains (w.nodes j).pending c) (sym same) (was_open (w.nodes a.number) (v.nodes a.number) a.closes c (subst (λ (j : ℕ). Contains (v.nodes j).pending c) same at)))
    (λ other. subst (λ (s : NodeState). Contains s.pending c) (a.differs.others m other) at)

module _ (w : WorldState) where
  -- a step that answers a call closes one
  abbrev IsAnswering : WorldState × Entry → Type 0
  IsAnswering q = (reply : CallId × Reply) → q.1.reply ≡ Some reply → Answers w q.0

  node-answers : (event : Event) (incarnation n : ℕ) (step : NodeEvent) (done : NodeState × Outcome) → has_node w n ≡ true → IsQuietStep step → node_rule (w.nodes n) step ≡ Ok done → IsAnswering (recorded (with_node w n done.0) event incarnation done.1)
  node-answers event incarnation n step done there quiet is reply said =
      let here : (with_node w n done.0).nodes n ≡ done.0 = λ i. if eq-eqb n n refl i then done.0 else w.nodes n in
      record {
        number = n;
        there = there;
        differs = record {
          shape = refl;
          incarnation = ap (λ (s : NodeState). s.incarnation) here ∙ (node_rule-steps (w.nodes n) step done is).incarnation;
          others = λ m other. at_number m n (λ b. (if b then done.0 else w.nodes m) ≡ w.nodes m) (λ same. absurd (other same)) (λ apart. refl);
        };
        closes = subst (Closes (w.nodes n)) (sym here) (step-closes (w.nodes n) step done reply quiet is said);
      }

  server-answers : (event : Event) (file : ℕ) (step : ServerEvent) (done : ServerState × Outcome) → server_rule (w.servers file) step ≡ Ok done → IsAnswering (recorded (with_server w file done.0) event 0 done.1)
  server-answers event file step done is reply said = absurd (none-some reply (sym (server_rule-sending (w.servers file) step done is).1 ∙ said))

  message-answers : (m : Message) (to : Actor) (q : WorldState × Entry) → has_actor w to ≡ true → delivered w m to ≡ Ok q → IsAnswering q
  message-answers m (ANode n) q there h = node_step w IsAnswering (Deliver m) n (node_rule (w.nodes n) (node.Deliver m)) q (λ done is. node-answers (Deliver m) 0 n (node.Deliver m) done there tt is) h
  message-answers m (AServer file) q there h = server_step w IsAnswering (Deliver m) file (server_rule (w.servers file) (server.Deliver m)) q (λ done is. server-answers (Deliver m) file (server.Deliver m) done is) h

  taken-answers : (event : Event) (q : WorldState × Entry) → IsQuiet event → is_known w event ≡ true → taken w event ≡ Ok q → IsAnswering q
  taken-answers (Deliver m) q quiet known h = message-answers m (addressee m) q (and_parts (has_actor w (addressee m)) (is_among w.sent m) known).0 h
  taken-answers (AtNode n (Retry pid)) q quiet known h =
      node_step w IsAnswering (AtNode n (Retry pid)) n (node_rule (w.nodes n) (node.Input (Retry pid))) q
      (λ done is. node-answers (AtNode n (Retry pid)) (w.nodes n).incarnation n (node.Input (Retry pid)) done (and_parts (has_node w n) (fits_shape w.shape (Retry pid)) known).0 tt is) h
  taken-answers (AtServer file input) q quiet known h =
      server_step w IsAnswering (AtServer file input) file (server_rule (w.servers file) (server.Input input)) q (λ done is. server-answers (AtServer file input) file (server.Input input) done is) h
  taken-answers (AtNode n (Call pid op)) q quiet known h = absurd quiet
  taken-answers (AtNode n (Interrupt pid)) q quiet known h = absurd quiet
  taken-answers (Member event) q quiet known h = absurd quiet

pub step-answers : (w : WorldState) (e : Entry) (v : WorldState) (reply : CallId × Reply) → next w e.event ≡ Ok (v, e) → IsQuiet e.event → e.reply ≡ Some reply → Answers w v
step-answers w e v reply h quiet said =
    let step = next_taken w e.event (v, e) h in
    taken-answers w e.event (v, e) quiet step.0 step.1 reply said
