-- The entry that first tells that a grant was taken is the one at which its node did it.
use Rattle.std.proofs.Common.{◌≡◌, ℕ, ◌+◌, true, false, inl, inr, refl, sym, ◌∙◌, ap, subst, [], ◌∷◌, Option, Some, None, Ok}
use Rattle.std.proofs.lemmas.Bool.{both_ways, or_cases, eqb-true}
use Rattle.intervals.specs.rule.Bytes.{Range}
use Rattle.model.specs.declared.call.CallId.{CallId}
use Rattle.model.specs.declared.mode.Mode.{Mode}
use Rattle.model.specs.declared.reply.Reply.{Reply}
use Rattle.messages.specs.rule.Messages.{addressee, is_among, same_message, runs_of}
use Rattle.messages.proofs.SameMessages.{same_message-is-equality}
use Rattle.messages.specs.declared.actor.Actor.{Actor}
use Rattle.messages.specs.declared.actor.Actor.TheVariants.{Node as ANode, Server as AServer}
use Rattle.messages.specs.declared.message.Message.{Message}
use Rattle.messages.specs.declared.message.Message.TheVariants.{Request, Grant, Revoke, Taken, Released, Conflict, Deny, Freed, Hello, Report}
use Rattle.messages.specs.declared.event.Event.{Event}
use Rattle.messages.specs.declared.event.Event.TheVariants.{AtNode, AtServer, Deliver, Member}
use Rattle.messages.specs.declared.event.NodeInput.{NodeInput}
use Rattle.messages.specs.declared.event.NodeInput.TheVariants.{Call, Interrupt, Retry}
use Rattle.messages.specs.declared.entry.Entry.{Entry}
use Rattle.messages.specs.declared.outcome.Outcome.{Outcome}
use Rattle.token_set.specs.rule.Tokens.{raised, gave_up}
use Rattle.token_set.specs.declared.gave_up.GaveUp.{GaveUp}
use Rattle.token_set.specs.declared.gave_up.GaveUp.TheVariants as gives
use Rattle.model.specs.declared.host.Host.{Host}
use Rattle.node_core.specs.declared.event.NodeEvent.TheVariants as node
use Rattle.node_core.specs.rule.State.{NodeState, Effect, host, open_call, open_call_of}
use Rattle.node_core.specs.rule.Try.{tried_if}
use Rattle.node_core.specs.rule.Commands.{in_epoch, remembered, after_command, granted, answer_to, revoked, delivered}
use Rattle.node_core.specs.rule.Node.{node_rule}
use Rattle.token_server.specs.declared.event.ServerEvent.{ServerEvent}
use Rattle.token_server.specs.declared.event.ServerEvent.TheVariants as server
use Rattle.token_server.specs.rule.State.{ServerState}
use Rattle.token_server.specs.rule.Server.{server_rule}
use Rattle.cluster_core.specs.rule.World.{WorldState}
use Rattle.cluster_core.specs.rule.Next.{delivered as routed, taken, next}
use Rattle.cluster_core.proofs.steps.NodeSteps.{IsTo, call_done, deliver_done, interrupt_done, retry_done, in_order_either, told_either}
use Rattle.cluster_core.proofs.steps.NodeTokens.{all_among, AsksFrom, called_asks, tried_if_asks, denied_asks, interrupted_asks}
use Rattle.cluster_core.proofs.steps.Sends.{Remembers, entered-remembers}
use Rattle.cluster_core.proofs.steps.Steps.{next_taken, node_step, server_step, member_step}
use Rattle.cluster_core.proofs.tokens.Present.{Was, Present}
use Rattle.cluster_core.proofs.tokens.Apart.{remembered_sent}
use Rattle.cluster_core.proofs.rounds.ServerSends.{IsOfServer, server_sends, starts_send}

-- the event delivers the grant of that number for the call, and the node answers as it does it
pub record FirstTaken (w : WorldState) (f k : ℕ) (call : CallId) (event : Event) (reply : Option (CallId × Reply)) : Type 0 where
  pub mode : Mode
  pub span : Range
  pub event_is : event ≡ Deliver (Grant f k call mode span)
  pub reply_is : reply ≡ (granted (in_epoch (w.nodes call.node) f k) f k call mode span).reply

-- an answer to a revoke is not the answer to a grant
no_taken_to : (f k : ℕ) (call : CallId) (file number : ℕ) (own : Host) (c : CallId) (up : GaveUp) → Taken f k call ≡ answer_to file number own c up → ⊥
no_taken_to f k call file number own c (gives.Released span) same = absurd (cc)
no_taken_to f k call file number own c (gives.Conflict lock) same = absurd (cc)

module _ (w : WorldState) (p : Present w) (f k : ℕ) (call : CallId) (new : is_among w.sent (Taken f k call) ≡ false) where
  abbrev answer : Message
  answer = Taken f k call

  -- an entry that sends the answer is the first
  abbrev First : Event → Effect → Type 0
  First event e = is_among e.sends answer ≡ true → FirstTaken w f k call event e.reply

  abbrev Goes : WorldState × Entry → Type 0
  Goes q = is_among q.1.sends answer ≡ true → FirstTaken w f k call q.1.event q.1.reply

  none_sent : is_among [] answer ≡ true → ⊥
  none_sent there = absurd (cc)

  asks_none : (s : NodeState) (e : Effect) → AsksFrom s e → is_among e.sends answer ≡ true → ⊥
  asks_none s e asks there = asks.sends answer there

  -- one message that is another
  one_sent : (x : Message) → (answer ≡ x → ⊥) → is_among (x ∷ []) answer ≡ true → ⊥
  one_sent x other there = elim (or_cases (same_message answer x) false there) [ inl same ↦ other ((same_message-is-equality answer x).0 same) | inr none ↦ absurd (cc) ]

  again_none : (n : ℕ) (t : NodeState) (file : ℕ) → Remembers (Was w) t → is_among (remembered t (t.files file).answer).sends answer ≡ true → ⊥
  again_none n t file old = by (t.files file).answer refl
    where
      by : (o : Option Message) → (t.files file).answer ≡ o → is_among (remembered t o).sends answer ≡ true → ⊥
      by None is there = none_sent there
      by (Some x) is there = one_sent x (λ same. both_ways (is_among w.sent answer) new (subst (Was w) (sym same) (old file x is))) there

  remembers : (n file number : ℕ) → Remembers (Was w) (in_epoch (w.nodes n) file number)
  remembers n file number = entered-remembers (Was w) (w.nodes n) file number (λ g m there. (remembered_sent w p g n m there).0)

  granted_first : (n g l : ℕ) (c : CallId) (mode : Mode) (span : Range) → c.node ≡ n → First (Deliver (Grant g l c mode span)) (granted (in_epoch (w.nodes n) g l) g l c mode span)
  granted_first n g l c mode span at there =
      let t = in_epoch (w.nodes n) g l in
      let later = after_command t g (raised (t.files g).token span mode) l (Taken g l c) (t.files g).owes_freed in
      let rest = tried_if later (open_call later c.number) in
      elim (or_cases (same_message answer (Taken g l c)) (is_among rest.sends answer) there) [
        | inl same ↦
            let is : Taken f k call ≡ Taken g l c = (same_message-is-equality answer (Taken g l c)).0 same in
            let file_is : g ≡ f = cc in
            let number_is : l ≡ k = cc in
            let call_is : c ≡ call = cc in
            let node_is : n ≡ call.node = sym at ∙ ap (λ (x : CallId). x.node) call_is in
            record {
              mode = mode;
              span = span;
              event_is = λ i. Deliver (Grant (file_is i) (number_is i) (call_is i) mode span);
              reply_is = λ i. (granted (in_epoch (w.nodes (node_is i)) (file_is i) (number_is i)) (file_is i) (number_is i) (call_is i) mode span).reply;
            }
        | inr asked ↦ absurd (asks_none later rest (tried_if_asks later (open_call later c.number)) asked)
      ]

  abbrev report : NodeState → ℕ → ℕ → Message
  report t g l = Report g l (host t) (runs_of (t.files g).token)

  not_report : (t : NodeState) (g l : ℕ) → Taken f k call ≡ report t g l → ⊥
  not_report t g l same = absurd (cc)

  delivered_first : (n : ℕ) (m : Message) → IsTo (w.nodes n) m → First (Deliver m) (delivered (w.nodes n) m)
  delivered_first n (Grant g l c mode span) to =
      let t = in_epoch (w.nodes n) g l in
      in_order_either (First (Deliver (Grant g l c mode span))) t g l (granted t g l c mode span)
      (λ next. granted_first n g l c mode span (eqb-true c.node (w.nodes n).node to.node ∙ p.named n))
      (λ there. absurd (again_none n t g (remembers n g l) there)) (λ there. absurd (none_sent there))
  delivered_first n (Revoke g l holder c mode wanted) to =
      let t = in_epoch (w.nodes n) g l in
      let up = gave_up (t.table.locks g) t.node t.incarnation mode wanted.required wanted.desired in
      in_order_either (First (Deliver (Revoke g l holder c mode wanted))) t g l (revoked t g l c mode wanted)
      (λ next there. absurd (one_sent (answer_to g l (host t) c up) (no_taken_to f k call g l (host t) c up) there))
      (λ there. absurd (again_none n t g (remembers n g l) there)) (λ there. absurd (none_sent there))
  delivered_first n (Hello g l holder) to =
      told_either (First (Deliver (Hello g l holder))) (in_epoch (w.nodes n) g l) g l (λ is there. absurd (one_sent (report (in_epoch (w.nodes n) g l) g l) (λ same. not_report (in_epoch (w.nodes n) g l) g l same) there)) (λ there. absurd (none_sent there))
  delivered_first n (Deny g c holder number lock) to = λ there. absurd (asks_none (w.nodes n) (delivered (w.nodes n) (Deny g c holder number lock)) (denied_asks (w.nodes n) lock (open_call (w.nodes n) c.number)) there)
  delivered_first n (Request g c blocking mode wanted) to = λ there. absurd (none_sent there)
  delivered_first n (Taken g number c) to = λ there. absurd (none_sent there)
  delivered_first n (Released g number holder c span) to = λ there. absurd (none_sent there)
  delivered_first n (Conflict g number holder c lock) to = λ there. absurd (none_sent there)
  delivered_first n (Freed g holder) to = λ there. absurd (none_sent there)
  delivered_first n (Report g number holder runs) to = λ there. absurd (none_sent there)

  -- a node sends no such answer at what comes to it beside messages
  input_none : (n : ℕ) (input : NodeInput) (done : NodeState × Outcome) → node_rule (w.nodes n) (node.Input input) ≡ Ok done → is_among done.1.sends answer ≡ true → ⊥
  input_none n (Call pid op) done is =
      let s = w.nodes n in
      let R : NodeState × Outcome → Type 0 = λ d. is_among d.1.sends answer ≡ true → ⊥ in
      let counted : NodeState = record s { calls = s.calls + 1 } in
      subst R (call_done s pid op done is) (asks_none counted _ (called_asks counted (s.calls + 1) pid op))
  input_none n (Interrupt pid) done is =
      let s = w.nodes n in
      let R : NodeState × Outcome → Type 0 = λ d. is_among d.1.sends answer ≡ true → ⊥ in
      subst R (interrupt_done s pid done is) (asks_none s _ (interrupted_asks s (open_call_of s pid)))
  input_none n (Retry pid) done is =
      let s = w.nodes n in
      let R : NodeState × Outcome → Type 0 = λ d. is_among d.1.sends answer ≡ true → ⊥ in
      subst R (retry_done s pid done is) (asks_none s _ (tried_if_asks s (open_call_of s pid)))

  -- a server sends no such answer
  server_none : (file : ℕ) (step : ServerEvent) (done : ServerState × Outcome) → server_rule (w.servers file) step ≡ Ok done → is_among done.1.sends answer ≡ true → ⊥
  server_none file step done is there = all_among IsOfServer done.1.sends answer (server_sends w p file step done is) there

  message_first : (m : Message) (to : Actor) (q : WorldState × Entry) → routed w m to ≡ Ok q → Goes q
  message_first m (ANode n) q h =
      let s = w.nodes n in
      let R : NodeState × Outcome → Type 0 = λ d. is_among d.1.sends answer ≡ true → FirstTaken w f k call (Deliver m) d.1.reply in
      node_step w Goes (Deliver m) n (node_rule s (node.Deliver m)) q
      (λ done is. elim (deliver_done s m done is) [ inl took ↦ subst R took.1 (delivered_first n m took.0) | inr passed ↦ subst R passed (λ there. absurd (none_sent there)) ]) h
  message_first m (AServer file) q h = server_step w Goes (Deliver m) file (server_rule (w.servers file) (server.Deliver m)) q (λ done is there. absurd (server_none file (server.Deliver m) done is there)) h

  taken_first : (event : Event) (q : WorldState × Entry) → taken w event ≡ Ok q → Goes q
  taken_first (AtNode n input) q h = node_step w Goes (AtNode n input) n (node_rule (w.nodes n) (node.Input input)) q (λ done is there. absurd (input_none n input done is there)) h
  taken_first (AtServer file input) q h = server_step w Goes (AtServer file input) file (server_rule (w.servers file) (server.Input input)) q (λ done is there. absurd (server_none file (server.Input input) done is there)) h
  taken_first (Deliver m) q h = message_first m (addressee m) q h
  taken_first (Member event) q h = member_step w Goes event q
      (λ n is alive there. absurd (none_sent there)) (λ n is dead few there. absurd (none_sent there)) (λ file is works there. absurd (none_sent there)) (λ file is stopped few there. absurd (starts_send w p file answer there)) h

  -- the entry that first sends the answer delivers its grant, and replies as the node does then
  pub first_taken : (q : WorldState × Entry) (event : Event) → next w event ≡ Ok q → is_among q.1.sends answer ≡ true → FirstTaken w f k call q.1.event q.1.reply
  first_taken q event h there = taken_first event q (next_taken w event q h).1 there
