-- A call that is in line at its server in a stretch, and isn't at the end of it, was granted in it or met a lock.
use Rattle.std.specs.Prelude.{if◌then◌else◌}
use Rattle.std.proofs.Common.{◌≡◌, ◌⊎◌, ℕ, inl, inr, refl, sym, ◌∙◌, ap, subst, arith, List, [], ◌∷◌, ◌++◌, Ok}
use Rattle.std.proofs.lemmas.List.Elements.{All-head}
use Rattle.model.specs.declared.call.CallId.{CallId}
use Rattle.messages.specs.rule.Shapes.{ShapeFields, IsShape}
use Rattle.messages.specs.rule.Messages.{addressee}
use Rattle.messages.specs.declared.actor.Actor.{Actor}
use Rattle.messages.specs.declared.actor.Actor.TheVariants.{Node as ANode, Server as AServer}
use Rattle.messages.specs.declared.message.Message.{Message}
use Rattle.messages.specs.declared.event.Event.{Event}
use Rattle.messages.specs.declared.event.Event.TheVariants.{AtNode, AtServer, Deliver, Member}
use Rattle.messages.specs.declared.event.NodeInput.TheVariants.{Call, Interrupt, Retry}
use Rattle.messages.specs.declared.entry.Entry.{Entry}
use Rattle.node_core.specs.declared.event.NodeEvent.TheVariants as node
use Rattle.node_core.specs.rule.Node.{node_rule}
use Rattle.token_server.specs.declared.event.ServerEvent.{ServerEvent}
use Rattle.token_server.specs.declared.event.ServerEvent.TheVariants as server
use Rattle.token_server.specs.rule.State.{ServerState}
use Rattle.token_server.specs.rule.Server.{server_rule}
use Rattle.cluster_core.specs.rule.World.{WorldState}
use Rattle.cluster_core.specs.rule.Next.{after_server, delivered, taken}
use Rattle.cluster_core.specs.rule.Runs.{Leads}
use Rattle.cluster_core.specs.rule.Rounds.{IsQuiet}
use Rattle.cluster_core.specs.rule.Serving.{IsInLine, IsGone, EndsRequest, EventEnds}
use Rattle.cluster_core.proofs.common.Choices.{at_number}
use Rattle.cluster_core.proofs.steps.Steps.{next_taken, node_step, server_step}
use Rattle.cluster_core.proofs.runs.Runs.{good_run}
use Rattle.cluster_core.proofs.rounds.InLine.{in_line-kept}
use Rattle.cluster_core.proofs.rounds.Silent.{Silent, silent_after}
use Rattle.cluster_core.proofs.rounds.Stretches.{members_stay}

-- the event delivers a message to the server that ends the request of the call
pub record Ends (x : WorldState) (file : ℕ) (id : CallId) (event : Event) : Type 0 where
  pub message : Message
  pub event_is : event ≡ Deliver message
  pub to : addressee message ≡ AServer file
  pub ends : EndsRequest (x.servers file) id message

module _ (x : WorldState) (file : ℕ) (id : CallId) (held : IsInLine id (x.servers file)) where
  -- the call is in line still, or gone, or its request was ended
  abbrev Goes : WorldState × Entry → Type 0
  Goes q = (IsInLine id (q.0.servers file) ⊎ IsGone id (q.0.servers file)) ⊎ Ends x file id q.1.event

  at_server : (event : Event) (f : ℕ) (step : ServerEvent) (q : WorldState × Entry) → (file ≡ f → EventEnds (x.servers f) id step → Ends x file id event) → after_server x event f (server_rule (x.servers f) step) ≡ Ok q → Goes q
  at_server event f step q ended h =
      let P : ServerState → Type 0 = λ s. (IsInLine id s ⊎ IsGone id s) ⊎ Ends x file id event in
      server_step x Goes event f (server_rule (x.servers f) step) q
      (λ done is. at_number file f (λ b. P (if b then done.0 else x.servers file))
      (λ same. elim (in_line-kept (x.servers f) step done.0 done.1 id is (subst (λ (k : ℕ). IsInLine id (x.servers k)) same held)) [ inl on ↦ inl on | inr ends ↦ inr (ended same ends) ])
      (λ other. inl (inl held))) h

  at_actor : (m : Message) (to : Actor) (q : WorldState × Entry) → addressee m ≡ to → delivered x m to ≡ Ok q → Goes q
  at_actor m (ANode k) q to h = node_step x Goes (Deliver m) k (node_rule (x.nodes k) (node.Deliver m)) q (λ done is. inl (inl held)) h
  at_actor m (AServer f) q to h =
      at_server (Deliver m) f (server.Deliver m) q
      (λ same ends. record { message = m; event_is = refl; to = to ∙ ap (λ (k : ℕ). AServer k) (sym same); ends = subst (λ (k : ℕ). EndsRequest (x.servers k) id m) (sym same) ends }) h

  taken_goes : (event : Event) (q : WorldState × Entry) → IsQuiet event → taken x event ≡ Ok q → Goes q
  taken_goes (Deliver m) q quiet h = at_actor m (addressee m) q refl h
  taken_goes (AtNode k (Retry pid)) q quiet h = node_step x Goes (AtNode k (Retry pid)) k (node_rule (x.nodes k) (node.Input (Retry pid))) q (λ done is. inl (inl held)) h
  taken_goes (AtServer f input) q quiet h = at_server (AtServer f input) f (server.Input input) q (λ same ends. absurd ends) h
  taken_goes (AtNode k (Call pid op)) q quiet h = absurd quiet
  taken_goes (AtNode k (Interrupt pid)) q quiet h = absurd quiet
  taken_goes (Member event) q quiet h = absurd quiet

-- the entry of a stretch at which the request is ended
pub record Leaving (shape : ShapeFields) (u : WorldState) (es : List Entry) (v : WorldState) (file : ℕ) (id : CallId) : Type 0 where
  pub before : List Entry
  pub entry : Entry
  pub after : List Entry
  pub split : es ≡ before ++ entry ∷ after
  pub world : WorldState
  pub first : Leads u before world
  pub rest : Silent shape world (entry ∷ after) v
  pub ends : Ends world file id entry.event

module _ (shape : ShapeFields) (is : IsShape shape) (v : WorldState) (file : ℕ) (id : CallId) (live : id.incarnation ≡ (v.nodes id.node).incarnation) where
  -- no server knows the live incarnation to be dead
  pub not_gone : (u : WorldState) (es : List Entry) → Silent shape u es v → IsGone id (u.servers file) → ⊥
  not_gone u es x gone =
      let present = (good_run shape x.stretch.run u is x.stretch.before).1 in
      let lives = ((present.serves file).talks id.node).lives in
      let same : (v.nodes id.node).incarnation ≡ (u.nodes id.node).incarnation = (members_stay es u v x.stretch.leads x.stretch.quiet).incarnation id.node in
      omega arith

  pub leaves : (es : List Entry) (u : WorldState) → Silent shape u es v → IsInLine id (u.servers file) → IsInLine id (v.servers file) ⊎ Leaving shape u es v file id
  leaves [] u x held = inl (subst (λ (w : WorldState). IsInLine id (w.servers file)) x.stretch.leads held)
  leaves (e ∷ es) u x held =
      let mid = x.stretch.leads.0 in
      let step = x.stretch.leads.1 in
      let rest = silent_after shape u v e es x in
      let quiet = All-head (λ (z : Entry). IsQuiet z.event) e es x.stretch.quiet in
      elim (taken_goes u file id held e.event (mid, e) quiet (next_taken u e.event (mid, e) step).1) [
        | inl on ↦ elim on [
          | inl still ↦ elim (leaves es mid rest still) [
            | inl last ↦ inl last
            | inr l ↦ inr (record { before = e ∷ l.before; entry = l.entry; after = l.after; split = ap (λ (xs : List Entry). e ∷ xs) l.split; world = l.world; first = (mid, step, l.first); rest = l.rest; ends = l.ends })
          ]
          | inr gone ↦ absurd (not_gone mid es rest gone)
        ]
        | inr ends ↦ inr (record { before = []; entry = e; after = es; split = refl; world = u; first = refl; rest = x; ends = ends })
      ]
