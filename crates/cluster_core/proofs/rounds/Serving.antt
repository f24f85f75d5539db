-- After every run each server is serving, so one that has no outstanding command has no active request.
use Rattle.std.specs.Prelude.{◌≡◌, ℕ, ◌+◌, ◌==◌, true, if◌then◌else◌, List, All, Ok}
use Rattle.std.proofs.lemmas.Bool.{and_parts}
use Rattle.std.proofs.lemmas.List.Elements.{All-weaker}
use Rattle.messages.specs.rule.Shapes.{ShapeFields, IsShape}
use Rattle.messages.specs.rule.Messages.{addressee, is_among}
use Rattle.messages.specs.declared.actor.Actor.{Actor}
use Rattle.messages.specs.declared.actor.Actor.TheVariants.{Node as ANode, Server as AServer}
use Rattle.messages.specs.declared.message.Message.{Message}
use Rattle.messages.specs.declared.message.Message.TheVariants.{Request, Grant, Revoke, Taken, Released, Conflict, Deny, Freed, Hello, Report}
use Rattle.messages.specs.declared.event.Event.{Event}
use Rattle.messages.specs.declared.event.Event.TheVariants.{AtNode, AtServer, Deliver, Member}
use Rattle.messages.specs.declared.entry.Entry.{Entry}
use Rattle.node_core.specs.declared.event.NodeEvent.TheVariants as node
use Rattle.node_core.specs.rule.Node.{node_rule}
use Rattle.token_server.specs.declared.event.ServerEvent.{ServerEvent}
use Rattle.token_server.specs.declared.event.ServerEvent.TheVariants as server
use Rattle.token_server.specs.rule.State.{ServerState, requests}
use Rattle.token_server.specs.rule.Server.{server_rule}
use Rattle.cluster_core.specs.rule.Serving.{BringsWanted, IsServing, HasRow}
use Rattle.token_server.proofs.CareLaws.{active-each}
use Rattle.cluster_core.proofs.rounds.ServerSteps.{each_server-serving}
use Rattle.cluster_core.proofs.rounds.AtRest.{rests-without-requests}
use Rattle.cluster_core.specs.rule.World.{WorldState, first_world}
use Rattle.cluster_core.specs.rule.Next.{is_known, has_actor, next_server, after_server, delivered, taken, next}
use Rattle.cluster_core.specs.rule.Runs.{Leads}
use Rattle.cluster_core.specs.rule.Rounds.{EachServerRests}
use Rattle.cluster_core.proofs.common.Choices.{at_number}
use Rattle.cluster_core.proofs.steps.NodeTokens.{all_among}
use Rattle.cluster_core.proofs.steps.ServerRows.{IsCurrent}
use Rattle.cluster_core.proofs.steps.Steps.{next_taken, node_step, server_step, member_step}
use Rattle.cluster_core.proofs.history.Witnesses.{asked_order, Backed}
use Rattle.cluster_core.proofs.history.Worlds.{Good}
use Rattle.cluster_core.proofs.runs.Runs.{good_run}
use Rattle.cluster_core.proofs.rounds.Kept.{kept_in_run}

abbrev AllServing : WorldState → Type 0
AllServing w = (file : ℕ) → IsServing (w.servers file)

-- a request that was sent needs some bytes, which are among the desired ones
backed_wanted : (shape : ShapeFields) (past : List Entry) (w : WorldState) (m : Message) → Backed shape past w m → BringsWanted (server.Deliver m)
backed_wanted shape past w (Request file call blocking mode wanted) b = record { ordered = asked_order shape past file call mode wanted.required b.0; starts = b.3.starts; ends = b.3.ends }
backed_wanted shape past w (Grant file number call mode span) b = tt
backed_wanted shape past w (Revoke file number holder call mode wanted) b = tt
backed_wanted shape past w (Taken file number call) b = tt
backed_wanted shape past w (Released file number holder call span) b = tt
backed_wanted shape past w (Conflict file number holder call lock) b = tt
backed_wanted shape past w (Deny file call holder number lock) b = tt
backed_wanted shape past w (Freed file holder) b = tt
backed_wanted shape past w (Hello file number holder) b = tt
backed_wanted shape past w (Report file number holder runs) b = tt

module _ (shape : ShapeFields) (past : List Entry) (w : WorldState) (g : Good shape past w) (all : AllServing w) where
  abbrev Goes : WorldState × Entry → Type 0
  Goes q = AllServing q.0

  put-serving : (file : ℕ) (t : ServerState) → IsServing t → (f : ℕ) → IsServing (if f == file then t else w.servers f)
  put-serving file t serving f = at_number f file (λ b. IsServing (if b then t else w.servers f)) (λ same. serving) (λ other. all f)

  server-serving : (event : Event) (file : ℕ) (step : ServerEvent) (q : WorldState × Entry) → BringsWanted step → after_server w event file (server_rule (w.servers file) step) ≡ Ok q → Goes q
  server-serving event file step q brings h = server_step w Goes event file (server_rule (w.servers file) step) q (λ done is. put-serving file done.0 (each_server-serving.step (w.servers file) step done.0 done.1 is brings (all file))) h

  message-serving : (m : Message) (to : Actor) (q : WorldState × Entry) → is_among w.sent m ≡ true → delivered w m to ≡ Ok q → Goes q
  message-serving m (ANode n) q sent h = node_step w Goes (Deliver m) n (node_rule (w.nodes n) (node.Deliver m)) q (λ done is. all) h
  message-serving m (AServer file) q sent h = server-serving (Deliver m) file (server.Deliver m) q (backed_wanted shape past w m (all_among (Backed shape past w) w.sent m g.backed sent)) h

  taken-serving : (event : Event) (q : WorldState × Entry) → is_known w event ≡ true → taken w event ≡ Ok q → Goes q
  taken-serving (Deliver m) q known h = message-serving m (addressee m) q (and_parts (has_actor w (addressee m)) (is_among w.sent m) known).1 h
  taken-serving (AtNode n input) q known h = node_step w Goes (AtNode n input) n (node_rule (w.nodes n) (node.Input input)) q (λ done is. all) h
  taken-serving (AtServer file input) q known h = server-serving (AtServer file input) file (server.Input input) q tt h
  taken-serving (Member event) q known h =
      member_step w Goes event q (λ k is alive. all) (λ k is dead few. all) (λ f is works. all)
      (λ f is stopped few. put-serving f (next_server w f) (each_server-serving.again w.shape f ((w.servers f).epoch + 1) w.alive (λ n. (w.nodes n).incarnation))) h

  next-serving : (event : Event) (q : WorldState × Entry) → next w event ≡ Ok q → Goes q
  next-serving event q h =
      let x = next_taken w event q h in
      taken-serving event q x.0 x.1

pub serving-run : (shape : ShapeFields) (es : List Entry) (w : WorldState) → IsShape shape → Leads (first_world shape) es w → AllServing w
serving-run shape es w is leads = kept_in_run shape is AllServing (λ past v good present all. next-serving shape past v good all) es w leads (λ file. each_server-serving.first shape file)

pub each_server-rests : EachServerRests
each_server-rests shape es w file is leads rest =
    let present = (good_run shape es w is leads).1 in
    let t = w.servers file in
    let rows : All (HasRow t) t.active = active-each (HasRow t) t (All-weaker (IsCurrent t) (HasRow t) (λ r c. record { within = c.within; row = c.has_row }) (requests t) (present.serves file).held) in
    rests-without-requests t (serving-run shape es w is leads file) rows rest
