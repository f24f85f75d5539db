-- An incarnation that was declared makes no call afterwards, and stays declared.
use Rattle.std.proofs.Common.{◌≡◌, ℕ, ◌+◌, sym, ◌∙◌, ap, subst, Option, Some, Ok}
use Rattle.std.proofs.lemmas.Option.{none-some, same_Some}
use Rattle.model.specs.declared.call.CallId.{CallId}
use Rattle.messages.specs.rule.Messages.{addressee}
use Rattle.messages.specs.declared.actor.Actor.{Actor}
use Rattle.messages.specs.declared.actor.Actor.TheVariants.{Node as ANode, Server as AServer}
use Rattle.messages.specs.declared.message.Message.{Message}
use Rattle.messages.specs.declared.event.Event.{Event}
use Rattle.messages.specs.declared.event.Event.TheVariants.{AtNode, AtServer, Deliver, Member}
use Rattle.messages.specs.declared.event.NodeInput.TheVariants.{Call, Interrupt, Retry}
use Rattle.messages.specs.declared.entry.Entry.{Entry}
use Rattle.node_core.specs.declared.event.NodeEvent.TheVariants as node
use Rattle.node_core.specs.rule.State.{NodeState, id_of}
use Rattle.node_core.specs.rule.Node.{node_rule}
use Rattle.token_server.specs.declared.event.ServerEvent.TheVariants as server
use Rattle.token_server.specs.rule.Server.{server_rule}
use Rattle.cluster_core.specs.rule.World.{WorldState}
use Rattle.cluster_core.specs.rule.Next.{recorded, with_node, delivered, taken}
use Rattle.cluster_core.proofs.history.Entries.{not_there}
use Rattle.cluster_core.proofs.steps.NodeSteps.{call_done}
use Rattle.cluster_core.proofs.steps.NodeNumbers.{node_rule-steps}
use Rattle.cluster_core.proofs.steps.ServerSteps.{server_rule-sending}
use Rattle.cluster_core.proofs.steps.Steps.{node_step, server_step, member_step}

-- a call that an entry names is of the incarnation that its node is in
module _ (w : WorldState) (named : (n : ℕ) → (w.nodes n).node ≡ n) where
  abbrev NamesLive : WorldState × Entry → Type 0
  NamesLive q = (id : CallId) → q.1.call ≡ Some id → id.incarnation ≡ (w.nodes id.node).incarnation

  called_live : (n number : ℕ) (id : CallId) → ◌≡◌ {A = Option CallId} (Some (id_of (w.nodes n) number)) (Some id) → id.incarnation ≡ (w.nodes id.node).incarnation
  called_live n number id h =
      let same = same_Some (id_of (w.nodes n) number) id h in
      let node : id.node ≡ n = ap (λ (x : CallId). x.node) (sym same) ∙ named n in
      ap (λ (x : CallId). x.incarnation) (sym same) ∙ ap (λ (k : ℕ). (w.nodes k).incarnation) (sym node)

  message_names : (m : Message) (to : Actor) (q : WorldState × Entry) → delivered w m to ≡ Ok q → NamesLive q
  message_names m (ANode n) q h = node_step w NamesLive (Deliver m) n (node_rule (w.nodes n) (node.Deliver m)) q (λ done is id c. absurd (not_there done.1.call id (node_rule-steps (w.nodes n) (node.Deliver m) done is).named c)) h
  message_names m (AServer file) q h = server_step w NamesLive (Deliver m) file (server_rule (w.servers file) (server.Deliver m)) q (λ done is id c. absurd (not_there done.1.call id (server_rule-sending (w.servers file) (server.Deliver m) done is).0 c)) h

  taken_names : (event : Event) (q : WorldState × Entry) → taken w event ≡ Ok q → NamesLive q
  taken_names (AtNode n (Call pid op)) q h =
      let s = w.nodes n in
      let event = AtNode n (Call pid op) in
      let P : NodeState × _ → Type 0 = λ d. NamesLive (recorded (with_node w n d.0) event 0 d.1) in
      node_step w NamesLive event n (node_rule s (node.Input (Call pid op))) q (λ done is. subst P (call_done s pid op done is) (called_live n (s.calls + 1))) h
  taken_names (AtNode n (Interrupt pid)) q h =
      let step = node.Input (Interrupt pid) in
      node_step w NamesLive (AtNode n (Interrupt pid)) n (node_rule (w.nodes n) step) q (λ done is id c. absurd (not_there done.1.call id (node_rule-steps (w.nodes n) step done is).named c)) h
  taken_names (AtNode n (Retry pid)) q h =
      let step = node.Input (Retry pid) in
      node_step w NamesLive (AtNode n (Retry pid)) n (node_rule (w.nodes n) step) q (λ done is id c. absurd (not_there done.1.call id (node_rule-steps (w.nodes n) step done is).named c)) h
  taken_names (AtServer file input) q h =
      let step = server.Input input in
      server_step w NamesLive (AtServer file input) file (server_rule (w.servers file) step) q (λ done is id c. absurd (not_there done.1.call id (server_rule-sending (w.servers file) step done is).0 c)) h
  taken_names (Deliver m) q h = message_names m (addressee m) q h
  taken_names (Member event) q h = member_step w NamesLive event q
      (λ n is alive id c. absurd (none-some id c))
      (λ n is dead few id c. absurd (none-some id c))
      (λ f is works id c. absurd (none-some id c))
      (λ f is stopped few id c. absurd (none-some id c)) h
