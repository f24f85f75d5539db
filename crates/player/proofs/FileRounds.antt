-- A round is, for each file whose server works, a round about that file.
use Rattle.std.specs.Prelude.{◌&&◌, if◌then◌else◌, Bool, slice_index_or}
use Rattle.std.proofs.Common.{◌≡◌, ◌⊎◌, ℕ, zero, suc, ◌+◌, ◌<◌, true, false, inl, inr, refl, sym, ◌∙◌, ap, subst, arith, List, [], ◌∷◌, ◌++◌, length, All, Contains, Some, None, Ok}
use Rattle.std.proofs.lemmas.Bool.{and_parts, false≢true}
use Rattle.std.proofs.lemmas.Option.{none-some}
use Rattle.std.proofs.lemmas.List.Elements.{All-nil, All-cons, All-contains, All-contains_itself, All-head, All-tail, All-weaker}
use Rattle.messages.specs.declared.actor.Actor.{Actor}
use Rattle.messages.specs.declared.actor.Actor.TheVariants.{Node, Server}
use Rattle.messages.specs.declared.entry.Entry.{Entry}
use Rattle.messages.specs.declared.event.Event.{Event}
use Rattle.messages.specs.declared.event.Event.TheVariants.{AtNode, AtServer, Deliver, Member}
use Rattle.messages.specs.declared.event.NodeInput.TheVariants.{Call, Interrupt, Retry}
use Rattle.messages.specs.declared.event.ServerInput.TheVariants.{Resend, Learn}
use Rattle.messages.specs.declared.message.Message.{Message}
use Rattle.messages.specs.declared.outcome.Outcome.{Outcome}
use Rattle.messages.specs.rule.Messages.{addressee, is_among, is_within}
use Rattle.messages.specs.rule.Shapes.{ShapeFields, IsShape}
use Rattle.node_core.specs.declared.event.NodeEvent.TheVariants as node
use Rattle.node_core.specs.declared.open_call.OpenCall.{OpenCall}
use Rattle.node_core.specs.rule.Node.{node_rule}
use Rattle.node_core.specs.rule.State.{NodeState, id_of, outcome, open_call_of}
use Rattle.node_core.specs.rule.Try.{tried_if}
use Rattle.node_core.specs.rule.Commands.{delivered as received}
use Rattle.token_server.specs.declared.event.ServerEvent.TheVariants as server
use Rattle.token_server.specs.rule.Server.{server_rule}
use Rattle.cluster_core.specs.rule.Journals.{events_of}
use Rattle.cluster_core.specs.rule.Next.{delivered, entry, is_stopped, recorded, taken, with_node}
use Rattle.cluster_core.specs.rule.Rounds.{IsQuiet, Happens}
use Rattle.cluster_core.specs.rule.Runs.{Leads}
use Rattle.cluster_core.specs.rule.World.{WorldState, first_world, has_node, is_alive}
use Rattle.cluster_core.proofs.common.Choices.{at_number}
use Rattle.cluster_core.proofs.history.Nodes.{Holds, StayOpen}
use Rattle.cluster_core.proofs.rounds.Stretches.{AllQuiet, members_stay}
use Rattle.cluster_core.proofs.runs.JournalRuns.{leads_push}
use Rattle.cluster_core.proofs.runs.Runs.{good_run}
use Rattle.cluster_core.proofs.steps.Moves.{delivered_receives, retried_receives}
use Rattle.cluster_core.proofs.steps.NodeSteps.{deliver_done, retry_done}
use Rattle.cluster_core.proofs.steps.NodeTokens.{all_among}
use Rattle.cluster_core.proofs.steps.Steps.{next_taken, node_step, server_step}
use Rattle.player.specs.code.Rounds.{RoundsAreAboutFiles}
use Rattle.player.specs.rule.Rounds.{Arrive}

-- an event that is among those of the entries happens there
happens : (es : List Entry) (event : Event) → Contains (events_of es) event → Happens es event
happens [] event at = absurd (let lt = at.1 in omega arith)
happens (e ∷ es) event at = by (happens es event) at.0 at.1 at.2
  where
    by : (Contains (events_of es) event → Happens es event) → (k : ℕ) → k < length (events_of (e ∷ es)) → slice_index_or (events_of (e ∷ es)) k event ≡ event → Happens (e ∷ es) event
    by rest zero lt is = record { before = []; happened = e; after = es; split = refl; is = is }
    by rest (suc k) lt is =
        let h = rest (k, omega (arith, lt), is) in
        record { before = e ∷ h.before; happened = h.happened; after = h.after; split = ap (λ (xs : List Entry). e ∷ xs) h.split; is = h.is }

-- entries whose events are quiet
pub all_quiet : (es : List Entry) → All IsQuiet (events_of es) → AllQuiet es
all_quiet [] quiet = All-nil (λ (e : Entry). IsQuiet e.event)
all_quiet (e ∷ es) quiet = All-cons (λ (x : Entry). IsQuiet x.event) e es (All-head IsQuiet e.event (events_of es) quiet) (all_quiet es (All-tail IsQuiet e.event (events_of es) quiet))

-- the calls that are open in a node after a step were open before it
abbrev Fewer : NodeState → NodeState → Type 0
Fewer s u = All (Contains s.pending) u.pending

no_new_call : (s u : NodeState) (e : Entry) → e.call ≡ None → StayOpen s u e → Fewer s u
no_new_call s u e none stay =
    All-weaker (λ (c : OpenCall). Contains s.pending c ⊎ (e.call ≡ Some (id_of u c.number))) (Contains s.pending)
    (λ c o. elim o [ inl old ↦ old | inr new ↦ absurd (none-some (id_of u c.number) (sym none ∙ new)) ]) u.pending stay

module _ (past : List Entry) (s : NodeState) (holds : Holds past s) where
  retry-fewer : (n pid : ℕ) (done : NodeState × Outcome) → node_rule s (node.Input (Retry pid)) ≡ Ok done → Fewer s done.0
  retry-fewer n pid done h = subst (λ (d : NodeState × Outcome). Fewer s d.0) (retry_done s pid done h) (no_new_call s (tried_if s (open_call_of s pid)).state (entry (AtNode n (Retry pid)) 0 (outcome None (tried_if s (open_call_of s pid))).1) refl (retried_receives past s holds (AtNode n (Retry pid)) 0 pid tt).moves.stay)

  deliver-fewer : (m : Message) (done : NodeState × Outcome) → node_rule s (node.Deliver m) ≡ Ok done → Fewer s done.0
  deliver-fewer m done h = elim (deliver_done s m done h) [
    | inl took ↦ subst (λ (d : NodeState × Outcome). Fewer s d.0) took.1 (no_new_call s (received s m).state (entry (Deliver m) 0 (outcome None (received s m)).1) refl (delivered_receives past s holds m took.0).moves.stay)
    | inr passed ↦ subst (λ (d : NodeState × Outcome). Fewer s d.0) passed (All-contains_itself s.pending)
  ]

module _ (past : List Entry) (w : WorldState) (holds : (n : ℕ) → Holds past (w.nodes n)) where
  -- so are those of each node after a quiet step of the cluster
  abbrev AllFewer : WorldState × Entry → Type 0
  AllFewer q = (n : ℕ) → Fewer (w.nodes n) (q.0.nodes n)

  at_node : (event : Event) (incarnation k : ℕ) (done : NodeState × Outcome) → Fewer (w.nodes k) done.0 → AllFewer (recorded (with_node w k done.0) event incarnation done.1)
  at_node event incarnation k done fewer n =
      at_number n k (λ b. Fewer (w.nodes n) (if b then done.0 else w.nodes n)) (λ same. subst (λ (m : ℕ). Fewer (w.nodes m) done.0) (sym same) fewer) (λ other. All-contains_itself (w.nodes n).pending)

  message-fewer : (m : Message) (to : Actor) (q : WorldState × Entry) → delivered w m to ≡ Ok q → AllFewer q
  message-fewer m (Node k) q h = node_step w AllFewer (Deliver m) k (node_rule (w.nodes k) (node.Deliver m)) q (λ done is. at_node (Deliver m) 0 k done (deliver-fewer past (w.nodes k) (holds k) m done is)) h
  message-fewer m (Server f) q h = server_step w AllFewer (Deliver m) f (server_rule (w.servers f) (server.Deliver m)) q (λ done is n. All-contains_itself (w.nodes n).pending) h

  taken-fewer : (event : Event) (q : WorldState × Entry) → IsQuiet event → taken w event ≡ Ok q → AllFewer q
  taken-fewer (Deliver m) q quiet h = message-fewer m (addressee m) q h
  taken-fewer (AtNode k (Retry pid)) q quiet h =
      node_step w AllFewer (AtNode k (Retry pid)) k (node_rule (w.nodes k) (node.Input (Retry pid))) q (λ done is. at_node (AtNode k (Retry pid)) (w.nodes k).incarnation k done (retry-fewer past (w.nodes k) (holds k) k pid done is)) h
  taken-fewer (AtServer f input) q quiet h = server_step w AllFewer (AtServer f input) f (server_rule (w.servers f) (server.Input input)) q (λ done is n. All-contains_itself (w.nodes n).pending) h
  taken-fewer (AtNode k (Call pid op)) q quiet h = absurd quiet
  taken-fewer (AtNode k (Interrupt pid)) q quiet h = absurd quiet
  taken-fewer (Member event) q quiet h = absurd quiet

-- a call that is open after a stretch in which nobody calls was open before it
open_before : (shape : ShapeFields) → IsShape shape → (past es : List Entry) (w v : WorldState) (n : ℕ) (c : OpenCall) → Leads (first_world shape) past w → Leads w es v → AllQuiet es → Contains (v.nodes n).pending c → Contains (w.nodes n).pending c
open_before shape is past [] w v n c before leads quiet at = subst (λ (x : WorldState). Contains (x.nodes n).pending c) (sym leads) at
open_before shape is past (e ∷ es) w v n c before leads quiet at =
    let facts = (good_run shape past w is before).0 in
    let later = open_before shape is (past ++ e ∷ []) es leads.0 v n c (leads_push (first_world shape) w leads.0 past e before leads.1) leads.2 (All-tail (λ (x : Entry). IsQuiet x.event) e es quiet) at in
    let made = (next_taken w e.event (leads.0, e) leads.1).1 in
    let fewer = taken-fewer past w facts.holds e.event (leads.0, e) (All-head (λ (x : Entry). IsQuiet x.event) e es quiet) made n in
    All-contains (Contains (w.nodes n).pending) (leads.0.nodes n).pending c fewer later

-- what an entry sends is delivered later
delivers_later : (v : WorldState) (es before after : List Entry) (e : Entry) (m : Message) → Arrive v (λ m. ⊥) es → es ≡ before ++ e ∷ after → is_among e.sends m ≡ true → is_stopped v (addressee m) ≡ false → Happens after (Deliver m)
delivers_later v es [] after e m arrive split sends working =
    let Later : Message → Type 0 = λ m. (is_stopped v (addressee m) ≡ true) ⊎ (Contains (events_of after) (Deliver m) ⊎ ⊥) in
    let here : Arrive v (λ m. ⊥) (e ∷ after) = subst (Arrive v (λ m. ⊥)) split arrive in
    elim (all_among Later e.sends m here.0 sends) [
      | inl stopped ↦ absurd (false≢true (sym working ∙ stopped))
      | inr other ↦ elim other [ inl later ↦ happens after (Deliver m) later | inr none ↦ absurd none ]
    ]
delivers_later v es (d ∷ ds) after e m arrive split sends working =
    let here : Arrive v (λ m. ⊥) (d ∷ (ds ++ e ∷ after)) = subst (Arrive v (λ m. ⊥)) split arrive in
    delivers_later v (ds ++ e ∷ after) ds after e m here.1 refl sends working

pub round_about : RoundsAreAboutFiles
round_about shape past es w v file is before round working =
    let quiet = all_quiet es round.run.quiet in
    let same = members_stay es w v round.run.leads quiet in
    let has : (n : ℕ) → has_node v n ≡ true → has_node w n ≡ true = λ n there. ap (λ (s : ShapeFields). is_within s.nodes n) (sym same.shape) ∙ there in
    record {
      leads = round.run.leads;
      quiet = quiet;
      learns = λ n incarnation there least is_last. happens es (AtServer file (Learn n incarnation)) (round.due (AtServer file (Learn n incarnation)) (working, has n there, least, is_last ∙ same.incarnation n));
      resends = happens es (AtServer file Resend) (round.due (AtServer file Resend) working);
      retries = λ n c alive at of_file.
          let parts = and_parts (has_node v n) (v.alive n) alive in
          let alive_then : is_alive w n ≡ true = ap (λ (b : Bool). b && w.alive n) (has n parts.0) ∙ (ap (λ (a : ℕ → Bool). a n) (sym same.alive) ∙ parts.1) in
          happens es (AtNode n (Retry c.pid)) (round.due (AtNode n (Retry c.pid)) (alive_then, c, open_before shape is past es w v n c before round.run.leads quiet at, refl));
      delivers = λ b a e m split sends of_file to. delivers_later v es b a e m round.arrive split sends to;
    }
