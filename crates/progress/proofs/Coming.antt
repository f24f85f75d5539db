-- What comes of an event of a round is less than what the event weighs.
use Rattle.std.specs.Prelude.{◌==◌, if◌then◌else◌, is_some}
use Rattle.std.proofs.Common.{◌≡◌, ℕ, ◌+◌, ◌*◌, ◌≤◌, true, inl, inr, refl, sym, ◌∙◌, ap, subst, arith, List, Option, None, Ok}
use Rattle.std.proofs.lemmas.Bool.{eq-eqb, eqb-true}
use Rattle.std.proofs.lemmas.List.Elements.{All-contains}
use Rattle.intervals.specs.rule.Bytes.{Range}
use Rattle.model.specs.declared.call.CallId.{CallId}
use Rattle.messages.specs.rule.Shapes.{ShapeFields, IsShape}
use Rattle.messages.specs.rule.Messages.{addressee}
use Rattle.messages.specs.declared.actor.Actor.{Actor}
use Rattle.messages.specs.declared.actor.Actor.TheVariants.{Node as ANode, Server as AServer}
use Rattle.messages.specs.declared.message.Message.{Message}
use Rattle.messages.specs.declared.message.Message.TheVariants.{Request, Grant, Revoke, Taken, Released, Conflict, Deny, Freed, Hello, Report}
use Rattle.messages.specs.declared.event.Event.{Event}
use Rattle.messages.specs.declared.event.Event.TheVariants.{AtNode, AtServer, Deliver, Member}
use Rattle.messages.specs.declared.event.NodeInput.TheVariants.{Call, Interrupt, Retry}
use Rattle.messages.specs.declared.event.ServerInput.{ServerInput}
use Rattle.messages.specs.declared.event.ServerInput.TheVariants.{Resend, Learn}
use Rattle.messages.specs.declared.entry.Entry.{Entry}
use Rattle.messages.specs.declared.outcome.Outcome.{Outcome}
use Rattle.node_core.specs.declared.event.NodeEvent.TheVariants as node
use Rattle.node_core.specs.declared.open_call.OpenCall.{OpenCall}
use Rattle.node_core.specs.rule.State.{NodeState, Effect, quiet, open_call_of, id_of}
use Rattle.node_core.specs.rule.Commands.{delivered as delivered_at}
use Rattle.node_core.specs.rule.Node.{node_rule}
use Rattle.token_server.specs.declared.event.ServerEvent.TheVariants as server
use Rattle.token_server.specs.rule.State.{ServerState, requests}
use Rattle.token_server.specs.rule.Server.{server_rule}
use Rattle.cluster_core.specs.rule.World.{WorldState, first_world}
use Rattle.cluster_core.specs.rule.Next.{delivered as routed, is_true, named_incarnation, recorded, with_node, with_server, taken}
use Rattle.cluster_core.specs.rule.Evidence.{IsAsked}
use Rattle.cluster_core.specs.rule.Runs.{Leads}
use Rattle.cluster_core.proofs.history.Nodes.{found_open}
use Rattle.cluster_core.proofs.history.Witnesses.{IsAskedBy, asked_one}
use Rattle.cluster_core.proofs.runs.Runs.{good_run, every_grant}
use Rattle.cluster_core.proofs.steps.NodeSteps.{IsTo, deliver_done, retry_done}
use Rattle.cluster_core.proofs.steps.Sends.{Remembers}
use Rattle.cluster_core.proofs.steps.Steps.{node_step, server_step}
use Rattle.cluster_core.proofs.tokens.Apart.{remembered_sent}
use Rattle.cluster_core.proofs.tokens.Present.{Was, Present}
use Rattle.cluster_core.proofs.tokens.Talks.{IsAnswerOf}
use Rattle.progress.proofs.Costs.{most_of, for_each, cost}
use Rattle.progress.proofs.Possible.{IsPossible, addressee_file}
use Rattle.progress.proofs.AtServer.{Steps, resend_steps, learn_steps, message_steps}
use Rattle.progress.proofs.Weights.{total, weight_of, event_weight, freed_by, wakes, asked_by, asks, tried_sends, Serves, IsLight, Falling, quiet_falls, delivered_falls}
use Rattle.progress.proofs.Sums.{one_if}

-- each answer is light
answer_light : (nodes file n i k : ℕ) (m : Message) → IsAnswerOf file n i k m → IsLight nodes m
answer_light nodes file n i k (Taken f l c) of = (omega arith, omega arith, omega arith)
answer_light nodes file n i k (Released f l h c span) of = (omega arith, omega arith, omega arith)
answer_light nodes file n i k (Conflict f l h c lock) of = (omega arith, omega arith, omega arith)
answer_light nodes file n i k (Report f l h runs) of = (omega arith, omega arith, omega arith)
answer_light nodes file n i k m of = absurd of

module _ (shape : ShapeFields) (is : IsShape shape) (past : List Entry) (w : WorldState) (before : Leads (first_world shape) past w) (file : ℕ) where
  p : Present w
  p = (good_run shape past w is before).1

  abbrev t : ServerState
  t = w.servers file

  abbrev k : ℕ
  k = w.shape.nodes

  abbrev u : ℕ
  u = 3 * most_of k

  -- what comes of the event is no more than what it brings: requests, and commands for them
  pub record Down (event : Event) (q : WorldState × Entry) : Type 0 where
    pub asking : for_each u (requests (q.0.servers file)) + total (asked_by k) q.1.sends ≤ for_each u (requests t) + asks k event
    pub frees : total freed_by q.1.sends ≤ one_if (is_some q.1.reply)
    pub weighs : (3 * cost k (q.0.servers file) + total (weight_of k) q.1.sends) + 1 ≤ ((3 * cost k t + event_weight k event) + 2 * total freed_by q.1.sends) + wakes event * for_each u (requests t)

  -- a Grant is of what the open call that it names asks for
  serves : (n : ℕ) (m : Message) → Was w m → IsTo (w.nodes n) m → Serves k (w.nodes n) m
  serves n (Grant f number call mode span) sent to = λ c found.
      let s = w.nodes n in
      let good = (good_run shape past w is before).0 in
      let at = found_open (λ (d : OpenCall). d.number == call.number) s.pending c found in
      let number_is : c.number ≡ call.number = eqb-true c.number call.number at.1 in
      let id : id_of s c.number ≡ call = λ i. record { node = sym (eqb-true call.node s.node to.node) i; incarnation = sym to.incarnation i; number = number_is i } in
      let own = All-contains (IsAskedBy shape past s) s.pending c (good.asked n) at.0 in
      let its : IsAsked shape past c.file call c.mode c.span = subst (λ (j : CallId). IsAsked shape past c.file j c.mode c.span) id own in
      let served = every_grant shape past w f number call mode span is before sent in
      let same = asked_one shape past call c.file f c.mode mode c.span served.required good.one_call its served.asked in
      (same.file_is, same.mode_is, subst (λ (r : Range). span.lo ≤ r.lo) (sym same.span_is) served.starts, subst (λ (r : Range). r.hi ≤ span.hi) (sym same.span_is) served.ends)
  serves n (Request f call blocking mode wanted) sent to = tt
  serves n (Revoke f number holder call mode wanted) sent to = tt
  serves n (Taken f number call) sent to = tt
  serves n (Released f number holder call span) sent to = tt
  serves n (Conflict f number holder call lock) sent to = tt
  serves n (Deny f call holder number lock) sent to = tt
  serves n (Freed f holder) sent to = tt
  serves n (Hello f number holder) sent to = tt
  serves n (Report f number holder runs) sent to = tt

  remembers : (n : ℕ) → Remembers (IsLight k) (w.nodes n)
  remembers n f m there = let own = remembered_sent w p f n m there in answer_light k f n (w.nodes n).incarnation ((w.nodes n).files f).last m own.2

  -- a step of the file's server
  server_down : (event : Event) (f : ℕ) (done : ServerState × Outcome) → f ≡ file → Steps shape is past w before file event done → Down event (recorded (with_server w f done.0) event 0 done.1)
  server_down event f done same steps =
      let here : (if file == file then done.0 else t) ≡ done.0 = λ i. if eq-eqb file file refl i then done.0 else t in
      let none = steps.frees in
      subst (λ (g : ℕ). Down event (recorded (with_server w g done.0) event 0 done.1)) (sym same) (record {
        asking = subst (λ (x : ServerState). for_each u (requests x) + total (asked_by k) done.1.sends ≤ for_each u (requests t) + asks k event) (sym here) steps.asking;
        frees = omega arith;
        weighs = subst (λ (x : ServerState). (3 * cost k x + total (weight_of k) done.1.sends) + 1 ≤ ((3 * cost k t + event_weight k event) + 2 * total freed_by done.1.sends) + wakes event * for_each u (requests t)) (sym here) (let less = steps.weighs in omega arith);
      })

  node_down : (m : Message) (n incarnation : ℕ) (state : NodeState) (call : Option CallId) (e : Effect) → Falling k m e → Down (Deliver m) (recorded (with_node w n state) (Deliver m) incarnation (record { call = call; reply = e.reply; sends = e.sends }))
  node_down m n incarnation state call e falling = let a = falling.asking in let b = falling.weighs in record { asking = omega arith; frees = falling.frees; weighs = omega arith }

  message_down : (m : Message) (to : Actor) (q : WorldState × Entry) → addressee m ≡ to → IsPossible file w (Deliver m) → routed w m to ≡ Ok q → Down (Deliver m) q
  message_down m (ANode n) q to possible h =
      let s = w.nodes n in
      node_step w (Down (Deliver m)) (Deliver m) n (node_rule s (node.Deliver m)) q
      (λ done made. elim (deliver_done s m done made) [
        | inl took ↦ subst (λ (x : NodeState × Outcome). Down (Deliver m) (recorded (with_node w n x.0) (Deliver m) (named_incarnation s (Deliver m)) x.1)) took.1 (node_down m n 0 (delivered_at s m).state None (delivered_at s m) (delivered_falls k s m (remembers n) (serves n m possible.0 took.0)))
        | inr passed ↦ subst (λ (x : NodeState × Outcome). Down (Deliver m) (recorded (with_node w n x.0) (Deliver m) (named_incarnation s (Deliver m)) x.1)) passed (node_down m n 0 s None (quiet s) (quiet_falls k m (quiet s) refl))
      ]) h
  message_down m (AServer f) q to possible h =
      let same : f ≡ file = addressee_file m f to ∙ possible.1 in
      server_step w (Down (Deliver m)) (Deliver m) f (server_rule (w.servers f) (server.Deliver m)) q
      (λ done made. server_down (Deliver m) f done same (message_steps shape is past w before file m done possible.0 (to ∙ ap AServer same) (subst (λ (g : ℕ). server_rule (w.servers g) (server.Deliver m) ≡ Ok done) same made))) h

  pub event_down : (event : Event) (q : WorldState × Entry) → IsPossible file w event → taken w event ≡ Ok q → Down event q
  event_down (AtServer f input) q possible h =
      server_step w (Down (AtServer f input)) (AtServer f input) f (server_rule (w.servers f) (server.Input input)) q
      (λ done made. server_down (AtServer f input) f done possible.0 (by input done possible.1 (subst (λ (g : ℕ). server_rule (w.servers g) (server.Input input) ≡ Ok done) possible.0 made))) h
    where
      by : (x : ServerInput) (done : ServerState × Outcome) → is_true w x ≡ true → server_rule t (server.Input x) ≡ Ok done → Steps shape is past w before file (AtServer f x) done
      by Resend done known made = resend_steps shape is past w before file f done made
      by (Learn n i) done known made = learn_steps shape is past w before file f n i done known made
  event_down (AtNode n (Retry pid)) q possible h =
      let s = w.nodes n in
      let sends = tried_sends k s (open_call_of s pid) in
      node_step w (Down (AtNode n (Retry pid))) (AtNode n (Retry pid)) n (node_rule s (node.Input (Retry pid))) q
      (λ done made. subst (λ (x : NodeState × Outcome). Down (AtNode n (Retry pid)) (recorded (with_node w n x.0) (AtNode n (Retry pid)) (named_incarnation s (AtNode n (Retry pid))) x.1)) (retry_done s pid done made)
      (record { asking = (let a = sends.asking in omega arith); frees = sends.frees; weighs = (let b = sends.weighs in omega arith) })) h
  event_down (Deliver m) q possible h = message_down m (addressee m) q refl possible h
  event_down (AtNode n (Call pid op)) q possible h = absurd possible
  event_down (AtNode n (Interrupt pid)) q possible h = absurd possible
  event_down (Member event) q possible h = absurd possible
