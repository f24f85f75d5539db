-- A call that is retried in a round that answers none is blocked by a lock of its own node, or comes in line at its server.
use Rattle.std.proofs.Common.{◌≡◌, ◌⊎◌, ℕ, ◌<◌, Bool, true, inl, inr, refl, sym, ◌∙◌, ap, subst, List, [], ◌∷◌, ◌++◌, Contains, arith, append_assoc, is_some, Option, Some, Ok}
use Rattle.std.specs.Prelude.{not, if◌then◌else◌}
use Rattle.std.proofs.lemmas.Bool.{both_ways}
use Rattle.model.specs.declared.call.CallId.{CallId}
use Rattle.model.specs.declared.reply.Reply.{Reply}
use Rattle.messages.specs.rule.TokenRuns.{Wants}
use Rattle.messages.specs.rule.Shapes.{ShapeFields, IsShape}
use Rattle.messages.specs.rule.Messages.{is_among}
use Rattle.messages.specs.declared.message.Message.{Message}
use Rattle.messages.specs.declared.message.Message.TheVariants.{Request}
use Rattle.messages.specs.declared.event.Event.TheVariants.{AtNode, Deliver}
use Rattle.messages.specs.declared.event.NodeInput.TheVariants.{Retry}
use Rattle.messages.specs.declared.entry.Entry.{Entry}
use Rattle.messages.specs.declared.outcome.Outcome.{Outcome}
use Rattle.node_core.specs.declared.event.NodeEvent.TheVariants as node
use Rattle.node_core.specs.declared.open_call.OpenCall.{OpenCall}
use Rattle.node_core.specs.rule.State.{NodeState, open_call, open_call_of, id_of}
use Rattle.node_core.specs.rule.Try.{blocking_of, tried, tried_if}
use Rattle.node_core.specs.rule.Node.{node_rule}
use Rattle.token_server.specs.declared.event.ServerEvent.TheVariants as server
use Rattle.token_server.specs.rule.State.{ServerState}
use Rattle.token_server.specs.rule.Server.{server_rule}
use Rattle.cluster_core.specs.rule.World.{WorldState, first_world, is_alive}
use Rattle.cluster_core.specs.rule.Next.{next}
use Rattle.cluster_core.specs.rule.Runs.{Leads}
use Rattle.cluster_core.specs.rule.Rounds.{IsRound, AnswersNone, IsBlockedWait}
use Rattle.cluster_core.specs.rule.Serving.{IsInLine, IsGone}
use Rattle.cluster_core.proofs.common.Choices.{at_number}
use Rattle.cluster_core.proofs.history.Nodes.{same_id}
use Rattle.cluster_core.proofs.steps.NodeSteps.{retry_done}
use Rattle.cluster_core.proofs.steps.NodeTokens.{first_among}
use Rattle.cluster_core.proofs.steps.Steps.{next_taken, node_step, server_step}
use Rattle.cluster_core.proofs.tokens.Present.{Present}
use Rattle.cluster_core.proofs.runs.JournalRuns.{leads_push}
use Rattle.cluster_core.proofs.runs.Runs.{good_run}
use Rattle.cluster_core.proofs.rounds.InLine.{request-in_line}
use Rattle.cluster_core.proofs.rounds.Leaving.{not_gone}
use Rattle.cluster_core.proofs.rounds.NodeTries.{try-answers_or_asks}
use Rattle.cluster_core.proofs.rounds.OneCall.{one_each, open_own}
use Rattle.cluster_core.proofs.rounds.RoundRests.{step_as}
use Rattle.cluster_core.proofs.rounds.Silent.{Silent, silent_parts, silent_after, silent_head, silent_rests, open_then, here_after}
use Rattle.cluster_core.proofs.rounds.Stretches.{leads_both, members_stay}

-- a retry is the try of the open call of its process
retry_is : (u : WorldState) (n : ℕ) (c : OpenCall) (q : WorldState × Entry) → open_call_of (u.nodes n) c.pid ≡ Some c → next u (AtNode n (Retry c.pid)) ≡ Ok q → (q.1.reply ≡ (tried (u.nodes n) c).reply) × (q.1.sends ≡ (tried (u.nodes n) c).sends)
retry_is u n c q found h =
    let s = u.nodes n in
    let e = tried s c in
    let own : ((tried_if s (open_call_of s c.pid)).reply ≡ e.reply) × ((tried_if s (open_call_of s c.pid)).sends ≡ e.sends) = subst (λ (o : Option OpenCall). ((tried_if s o).reply ≡ e.reply) × ((tried_if s o).sends ≡ e.sends)) (sym found) (refl, refl) in
    node_step u (λ p. (p.1.reply ≡ e.reply) × (p.1.sends ≡ e.sends)) (AtNode n (Retry c.pid)) n (node_rule s (node.Input (Retry c.pid))) q
    (λ done is. subst (λ (d : NodeState × Outcome). (d.1.reply ≡ e.reply) × (d.1.sends ≡ e.sends)) (retry_done s c.pid done is) own)
    (next_taken u (AtNode n (Retry c.pid)) q h).1

-- a stretch that begins with the call in line
pub record Line (shape : ShapeFields) (w : WorldState) (fs : List Entry) (v : WorldState) (file : ℕ) (id : CallId) : Type 0 where
  pub before : List Entry
  pub after : List Entry
  pub split : fs ≡ before ++ after
  pub world : WorldState
  pub first : Leads w before world
  pub rest : Silent shape world after v
  pub in_line : IsInLine id (world.servers file)

module _ (shape : ShapeFields) (is : IsShape shape) (past fs : List Entry) (w v : WorldState) (file : ℕ) (before : Leads (first_world shape) past w) (works : w.working file ≡ true) (round : IsRound file w fs v) (none : AnswersNone fs) (n : ℕ) (c : OpenCall) (alive : is_alive v n ≡ true) (at : Contains (v.nodes n).pending c) (of_file : c.file ≡ file) where
  abbrev id : CallId
  id = id_of (v.nodes n) c.number

  whole : Silent shape w fs v
  whole = record { stretch = record { run = past; before = before; leads = round.leads; quiet = round.quiet }; none = none }

  present : Present v
  present = (good_run shape (past ++ fs) v is (leads_both (first_world shape) w v past fs before round.leads)).1

  pub live : id.incarnation ≡ (v.nodes id.node).incarnation
  live = ap (λ (k : ℕ). (v.nodes k).incarnation) (sym (present.named n))

  pub working : v.working file ≡ true
  working = ap (λ (f : ℕ → Bool). f file) (members_stay fs w v round.leads round.quiet).working ∙ works

  pub own_then : (u : WorldState) (es : List Entry) → Silent shape u es v → (open_call_of (u.nodes n) c.pid ≡ Some c) × (open_call (u.nodes n) c.number ≡ Some c)
  own_then u es x = open_own (u.nodes n) c (one_each shape x.stretch.run u is x.stretch.before n) (open_then shape is v n c alive at u es x)

  pub id_then : (u : WorldState) (es : List Entry) → Silent shape u es v → id_of (u.nodes n) c.number ≡ id
  id_then u es x =
      let r = (silent_rests shape u v es x).0.nodes n in
      same_id (v.nodes n) (u.nodes n) c.number (sym r.node) (sym r.incarnation)

  abbrev request : Wants → Message
  request wanted = Request file id (blocking_of c.lock_command) c.mode wanted

  -- the request is delivered in the rest of the round, and the call is in line from then on
  comes : (b : List Entry) (e : Entry) (a : List Entry) (u : WorldState) (wanted : Wants) → fs ≡ b ++ e ∷ a → Leads w b u → Silent shape u (e ∷ a) v → is_among e.sends (request wanted) ≡ true → Line shape w fs v file id
  comes b e a u wanted split first x sends =
      let d = round.delivers b a e (request wanted) split sends refl (ap not working) in
      let k = silent_parts shape x.stretch.leads.0 v d.before a d.happened d.after d.split (silent_after shape u v e a x) in
      let mid = k.rest.stretch.leads.0 in
      let step = step_as k.world d.happened mid (Deliver (request wanted)) d.is k.rest.stretch.leads.1 in
      let rest = silent_after shape k.world v d.happened d.after k.rest in
      let here = (good_run shape k.rest.stretch.run k.world is k.rest.stretch.before).1 in
      let same : (v.nodes id.node).incarnation ≡ (k.world.nodes id.node).incarnation = (members_stay (d.happened ∷ d.after) k.world v k.rest.stretch.leads k.rest.stretch.quiet).incarnation id.node in
      let above = ((here.serves file).talks id.node).lives in
      let own = live in
      let lives : (k.world.servers file).dead id.node < id.incarnation = omega arith in
      let P : ServerState → Type 0 = λ s. IsInLine id s ⊎ IsGone id s in
      let came : P (mid.servers file) = server_step k.world (λ p. P (p.0.servers file)) (Deliver (request wanted)) file (server_rule (k.world.servers file) (server.Deliver (request wanted))) (mid, d.happened)
      (λ done made. at_number file file (λ t. P (if t then done.0 else k.world.servers file)) (λ own. request-in_line (k.world.servers file) file id (blocking_of c.lock_command) c.mode wanted done.0 done.1 lives made) (λ other. absurd (other refl)))
      (next_taken k.world (Deliver (request wanted)) (mid, d.happened) step).1 in
      record {
        before = b ++ e ∷ (d.before ++ d.happened ∷ []);
        after = d.after;
        split = split ∙ (ap (λ (xs : List Entry). b ++ e ∷ xs) (d.split ∙ sym (append_assoc d.before (d.happened ∷ []) d.after)) ∙ sym (append_assoc b (e ∷ (d.before ++ d.happened ∷ [])) d.after));
        world = mid;
        first = leads_both w u mid b (e ∷ (d.before ++ d.happened ∷ [])) first (x.stretch.leads.0, x.stretch.leads.1, leads_push x.stretch.leads.0 k.world mid d.before d.happened k.first k.rest.stretch.leads.1);
        rest = rest;
        in_line = elim came [ inl in_line ↦ in_line | inr gone ↦ absurd (not_gone shape is v file id live mid d.after rest gone) ];
      }

  -- the call is blocked by a lock of its own node, or comes in line
  pub comes_in_line : IsBlockedWait v c ⊎ Line shape w fs v file id
  comes_in_line =
      let h = round.retries n c alive at of_file in
      let k = silent_parts shape w v h.before fs h.happened h.after h.split whole in
      let mid = k.rest.stretch.leads.0 in
      let s = k.world.nodes n in
      let step = step_as k.world h.happened mid (AtNode n (Retry c.pid)) h.is k.rest.stretch.leads.1 in
      let tries = retry_is k.world n c (mid, h.happened) (own_then k.world (h.happened ∷ h.after) k.rest).0 step in
      let silent = silent_head shape k.world v h.happened h.after k.rest in
      elim (try-answers_or_asks s c) [
        | inl answers ↦ absurd (both_ways (is_some (tried s c).reply) (ap (λ (o : Option (CallId × Reply)). is_some o) (sym tries.0 ∙ silent)) answers)
        | inr more ↦ elim more [
          | inl blocked ↦ inl (here_after shape is v n c alive at k.world (h.happened ∷ h.after) k.rest blocked)
          | inr asked ↦
              let m = request asked.wanted in
              let same : Request c.file (id_of s c.number) (blocking_of c.lock_command) c.mode asked.wanted ≡ m = λ i. Request (of_file i) (id_then k.world (h.happened ∷ h.after) k.rest i) (blocking_of c.lock_command) c.mode asked.wanted in
              let sends : h.happened.sends ≡ m ∷ [] = tries.1 ∙ (asked.asks ∙ ap (λ (x : Message). x ∷ []) same) in
              inr (comes h.before h.happened h.after k.world asked.wanted h.split k.first k.rest (ap (λ (ms : List Message). is_among ms m) sends ∙ first_among m []))
        ]
      ]
