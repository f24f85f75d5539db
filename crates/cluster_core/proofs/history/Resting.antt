-- A node that is not alive is empty, so the facts of all nodes are facts of the live ones.
use Rattle.std.proofs.Common.{◌≡◌, ℕ, ◌+◌, Bool, true, false, not, if◌then◌else◌, ◌&&◌, ◌==◌, refl, sym, ◌∙◌, ap, subst, List, [], ◌∷◌, Ok}
use Rattle.std.proofs.lemmas.Bool.{both_ways}
use Rattle.intervals.specs.rule.Bytes.{nothing}
use Rattle.model.specs.rule.Descriptors.{no_processes}
use Rattle.messages.specs.rule.Shapes.{most_regions, ShapeFields}
use Rattle.messages.specs.rule.Messages.{addressee}
use Rattle.messages.specs.declared.actor.Actor.{Actor}
use Rattle.messages.specs.declared.actor.Actor.TheVariants.{Node as ANode, Server as AServer}
use Rattle.messages.specs.declared.message.Message.{Message}
use Rattle.messages.specs.declared.event.Event.{Event}
use Rattle.messages.specs.declared.event.Event.TheVariants.{AtNode, AtServer, Deliver, Member}
use Rattle.messages.specs.declared.entry.Entry.{Entry}
use Rattle.node_core.specs.declared.event.NodeEvent.TheVariants as node
use Rattle.node_core.specs.rule.State.{NodeState, first_node, first_file}
use Rattle.node_core.specs.rule.Node.{node_rule}
use Rattle.token_server.specs.declared.event.ServerEvent.TheVariants as server
use Rattle.token_server.specs.rule.Server.{server_rule}
use Rattle.cluster_core.specs.rule.World.{WorldState, first_world, has_node, is_alive, is_live}
use Rattle.cluster_core.specs.rule.Next.{is_fenced, is_stopped, with_node, delivered, taken, next}
use Rattle.cluster_core.specs.rule.Runs.{Leads}
use Rattle.cluster_core.specs.rule.Union.{union, live_union}
use Rattle.cluster_core.proofs.common.Choices.{at_number}
use Rattle.cluster_core.proofs.steps.Steps.{next_taken, next_unfenced, node_step, server_step, member_step}

-- each node that is not alive is in the state in which it will begin
abbrev pub Rests : WorldState → Type 0
Rests w = (n : ℕ) → w.alive n ≡ false → w.nodes n ≡ first_node w.shape n (w.nodes n).incarnation

module _ (w : WorldState) (rests : Rests w) where
  alive_from : (b : Bool) → not b ≡ false → b ≡ true
  alive_from true h = refl
  alive_from false h = absurd (cc)

  -- a node that is alive takes a step
  node_rests : (n : ℕ) (u : NodeState) → not (w.alive n) ≡ false → Rests (with_node w n u)
  node_rests n u free m dead = at_number m n (λ b. (if b then u else w.nodes m) ≡ first_node w.shape m (if b then u else w.nodes m).incarnation)
      (λ same. absurd (both_ways (w.alive n) (ap w.alive (sym same) ∙ dead) (alive_from (w.alive n) free)))
      (λ other. rests m dead)

  message_rests : (m : Message) (to : Actor) (q : WorldState × Entry) → is_stopped w to ≡ false → delivered w m to ≡ Ok q → Rests q.0
  message_rests m (ANode n) q free h = node_step w (λ x. Rests x.0) (Deliver m) n (node_rule (w.nodes n) (node.Deliver m)) q (λ done is. node_rests n done.0 free) h
  message_rests m (AServer file) q free h = server_step w (λ x. Rests x.0) (Deliver m) file (server_rule (w.servers file) (server.Deliver m)) q (λ done is. rests) h

  taken_rests : (event : Event) (q : WorldState × Entry) → is_fenced w event ≡ false → taken w event ≡ Ok q → Rests q.0
  taken_rests (AtNode n input) q free h = node_step w (λ x. Rests x.0) (AtNode n input) n (node_rule (w.nodes n) (node.Input input)) q (λ done is. node_rests n done.0 free) h
  taken_rests (AtServer file input) q free h = server_step w (λ x. Rests x.0) (AtServer file input) file (server_rule (w.servers file) (server.Input input)) q (λ done is. rests) h
  taken_rests (Deliver m) q free h = message_rests m (addressee m) q free h
  taken_rests (Member event) q free h = member_step w (λ x. Rests x.0) event q
      (λ k is alive m dead.
      let i = (w.nodes k).incarnation in
      let fresh = first_node w.shape k (i + 1) in
      at_number m k (λ b. (if b then false else w.alive m) ≡ false → (if b then fresh else w.nodes m) ≡ first_node w.shape m (if b then fresh else w.nodes m).incarnation)
      (λ same now. ap (λ (j : ℕ). first_node w.shape j (i + 1)) (sym same))
      (λ other now. rests m now) dead)
      (λ k is stopped few m dead.
      at_number m k (λ b. (if b then true else w.alive m) ≡ false → w.nodes m ≡ first_node w.shape m (w.nodes m).incarnation)
      (λ same now. absurd (cc))
      (λ other now. rests m now) dead)
      (λ f is works. rests)
      (λ f is stopped few. rests) h

  pub next_rests : (event : Event) (q : WorldState × Entry) → next w event ≡ Ok q → Rests q.0
  next_rests event q h = taken_rests event q (next_unfenced w event q h) (next_taken w event q h).1

  -- a part that is empty but at nodes that are alive
  part : {A : Type 0} (F : NodeState → A) (none : A) (m k : ℕ) → ((n i : ℕ) → F (first_node w.shape n i) ≡ none) → (if is_alive w m && is_live w m k then F (w.nodes m) else none) ≡ (if is_live w m k then F (w.nodes m) else none)
  part {A} F none m k empty = elim (w.alive m) as (λ a. w.alive m ≡ a → (if (has_node w m && a) && is_live w m k then F (w.nodes m) else none) ≡ (if is_live w m k then F (w.nodes m) else none)) [
    | true ↦ λ h. both (has_node w m) (k == (w.nodes m).incarnation) (F (w.nodes m)) none
    | false ↦ λ h. either (has_node w m) (is_live w m k) (F (w.nodes m)) none (ap F (rests m h) ∙ empty m (w.nodes m).incarnation)
  ] refl
    where
      both : {A : Type 0} (a b : Bool) (x y : A) → (if (a && true) && (a && b) then x else y) ≡ (if a && b then x else y)
      both true b x y = refl
      both false b x y = refl

      either : {A : Type 0} (a b : Bool) (x y : A) → x ≡ y → (if (a && false) && b then x else y) ≡ (if b then x else y)
      either true true x y h = sym h
      either true false x y h = refl
      either false true x y h = sym h
      either false false x y h = refl

  pub union_live : live_union w ≡ union w
  union_live = λ j. record {
    limit = most_regions w.shape.version;
    on = λ m k. part (λ s. s.table.on m k) no_processes m k (λ n i. refl) j;
    locks = λ file o. part (λ s. s.table.locks file o) nothing o.node o.incarnation (λ n i. refl) j;
  }

  -- a node that is not alive has no token and remembers nothing
  pub rests_empty : (n file : ℕ) → w.alive n ≡ false → (w.nodes n).files file ≡ first_file
  rests_empty n file dead = ap (λ (s : NodeState). s.files file) (rests n dead)

-- before the first entry all nodes are alive
rests_first : (shape : ShapeFields) → Rests (first_world shape)
rests_first shape n dead = absurd (cc)

rests_run : (es : List Entry) (w v : WorldState) → Rests w → Leads w es v → Rests v
rests_run [] w v r l = subst Rests l r
rests_run (e ∷ es) w v r l = rests_run es l.0 v (next_rests w r e.event (l.0, e) l.1) l.2

pub rests_after : (shape : ShapeFields) (es : List Entry) (w : WorldState) → Leads (first_world shape) es w → Rests w
rests_after shape es w l = rests_run es (first_world shape) w (rests_first shape) l
