-- Each answer that was sent is of the kind of a command that was sent, with its number and its call.
use Rattle.std.proofs.Common.{◌≡◌, ℕ, ◌+◌, true, inl, inr, refl, sym, ◌∙◌, ap, subst, List, ◌++◌, Ok}
use Rattle.std.proofs.lemmas.Bool.{and_parts, eqb-true}
use Rattle.model.specs.declared.host.Host.{Host}
use Rattle.messages.specs.rule.Messages.{addressee, is_among, runs_of}
use Rattle.messages.specs.declared.actor.Actor.{Actor}
use Rattle.messages.specs.declared.actor.Actor.TheVariants.{Node as ANode, Server as AServer}
use Rattle.messages.specs.declared.message.Message.{Message}
use Rattle.messages.specs.declared.message.Message.TheVariants.{Request, Grant, Revoke, Taken, Released, Conflict, Deny, Freed, Hello, Report}
use Rattle.messages.specs.declared.event.Event.{Event}
use Rattle.messages.specs.declared.event.Event.TheVariants.{AtNode, AtServer, Deliver, Member}
use Rattle.messages.specs.declared.event.NodeInput.{NodeInput}
use Rattle.messages.specs.declared.event.NodeInput.TheVariants.{Call, Interrupt, Retry}
use Rattle.messages.specs.declared.entry.Entry.{Entry}
use Rattle.messages.specs.declared.outcome.Outcome.{Outcome}
use Rattle.node_core.specs.declared.event.NodeEvent.TheVariants as node
use Rattle.node_core.specs.rule.State.{NodeState, Effect, host, open_call, open_call_of}
use Rattle.node_core.specs.rule.Commands.{in_epoch, in_order, granted, revoked, delivered}
use Rattle.node_core.specs.rule.Node.{node_rule}
use Rattle.token_server.specs.declared.event.ServerEvent.{ServerEvent}
use Rattle.token_server.specs.declared.event.ServerEvent.TheVariants as server
use Rattle.token_server.specs.rule.State.{ServerState}
use Rattle.token_server.specs.rule.Server.{server_rule}
use Rattle.cluster_core.specs.rule.World.{WorldState}
use Rattle.cluster_core.specs.rule.Next.{is_known, has_actor, delivered as routed, taken, next}
use Rattle.cluster_core.specs.rule.Answers.{HasItsCommand, EveryAnswerHasItsCommand}
use Rattle.cluster_core.proofs.steps.KnownMessages.{sent_before, sent_either}
use Rattle.cluster_core.proofs.steps.NodeSteps.{IsTo, call_done, deliver_done, interrupt_done, retry_done, told_either}
use Rattle.cluster_core.proofs.steps.NodeTokens.{Only, only_none, only_one, all_among, IsAsking, AsksFrom, Receives, called_asks, tried_if_asks, denied_asks, interrupted_asks, grant_receives, revoke_receives}
use Rattle.cluster_core.proofs.steps.Sends.{Remembers, entered-remembers}
use Rattle.cluster_core.proofs.steps.Steps.{next_taken, node_step, server_step, member_step}
use Rattle.cluster_core.proofs.tokens.Talks.{IsCommandTo, IsAnswerOf}
use Rattle.cluster_core.proofs.tokens.TalkMoves.{IsOfKind}
use Rattle.cluster_core.proofs.tokens.Present.{Was, Present}
use Rattle.cluster_core.proofs.tokens.Apart.{remembered_sent}
use Rattle.cluster_core.proofs.rounds.Kept.{kept_in_run}
use Rattle.cluster_core.proofs.rounds.ServerSends.{IsOfServer, server_sends, starts_send}
use Rattle.cluster_core.proofs.rounds.Sent.{next-sent}

same_host : (h k : Host) → h.node ≡ k.node → h.incarnation ≡ k.incarnation → h ≡ k
same_host h k nodes incarnations = λ i. record { node = nodes i; incarnation = incarnations i }

-- requests and Freed are no answers, and neither is what a server sends
asking-kind : (sent : List Message) (n i : ℕ) (m : Message) → IsAsking n i m → HasItsCommand sent m
asking-kind sent n i (Request file call blocking mode wanted) is = tt
asking-kind sent n i (Freed file holder) is = tt
asking-kind sent n i m is = absurd is

server-kind : (sent : List Message) (m : Message) → IsOfServer m → HasItsCommand sent m
server-kind sent (Grant f number call mode span) of = tt
server-kind sent (Revoke f number holder call mode wanted) of = tt
server-kind sent (Deny f call holder number lock) of = tt
server-kind sent (Hello f number holder) of = tt
server-kind sent m of = absurd of

-- an answer of a command's number and kind has that command
answer-kind : (sent : List Message) (file n i k : ℕ) (command answer : Message) → is_among sent command ≡ true → IsCommandTo file n i k command → IsAnswerOf file n i k answer → IsOfKind command answer → HasItsCommand sent answer
answer-kind sent file n i k (Grant f number call mode span) (Taken g l c) there to of kind =
    (mode, span, (λ j. is_among sent (Grant ((of.0 ∙ sym to.0) j) ((of.1 ∙ sym to.1) j) (kind j) mode span)) ∙ there)
answer-kind sent file n i k (Revoke f number holder call mode wanted) (Released g l h c span) there to of kind =
    let same = same_host h holder (of.2 ∙ sym to.2) (of.3 ∙ sym to.3) in
    (mode, wanted, (λ j. is_among sent (Revoke ((of.0 ∙ sym to.0) j) ((of.1 ∙ sym to.1) j) (same j) (kind j) mode wanted)) ∙ there)
answer-kind sent file n i k (Revoke f number holder call mode wanted) (Conflict g l h c lock) there to of kind =
    let same = same_host h holder (of.2 ∙ sym to.2) (of.3 ∙ sym to.3) in
    (mode, wanted, (λ j. is_among sent (Revoke ((of.0 ∙ sym to.0) j) ((of.1 ∙ sym to.1) j) (same j) (kind j) mode wanted)) ∙ there)
answer-kind sent file n i k command answer there to of kind = absurd kind

-- more messages were sent
more-kind : (sent sends : List Message) (m : Message) → HasItsCommand sent m → HasItsCommand (sent ++ sends) m
more-kind sent sends (Taken file number call) h = (h.0, h.1, sent_before sent sends (Grant file number call h.0 h.1) h.2)
more-kind sent sends (Released file number holder call span) h = (h.0, h.1, sent_before sent sends (Revoke file number holder call h.0 h.1) h.2)
more-kind sent sends (Conflict file number holder call lock) h = (h.0, h.1, sent_before sent sends (Revoke file number holder call h.0 h.1) h.2)
more-kind sent sends (Report file number holder runs) h = sent_before sent sends (Hello file number holder) h
more-kind sent sends (Request file call blocking mode wanted) h = tt
more-kind sent sends (Grant file number call mode span) h = tt
more-kind sent sends (Revoke file number holder call mode wanted) h = tt
more-kind sent sends (Deny file call holder number lock) h = tt
more-kind sent sends (Freed file holder) h = tt
more-kind sent sends (Hello file number holder) h = tt

-- all answers of the world have their commands
abbrev AllKinds : WorldState → Type 0
AllKinds w = (m : Message) → Was w m → HasItsCommand w.sent m

module _ (w : WorldState) (p : Present w) (all : AllKinds w) where
  abbrev P : Message → Type 0
  P m = HasItsCommand w.sent m

  -- the answers of the entry have their commands
  abbrev Goes : WorldState × Entry → Type 0
  Goes q = Only P q.1.sends

  remembers : (n : ℕ) → Remembers P (w.nodes n)
  remembers n file m there = all m (remembered_sent w p file n m there).0

  asks-kinds : (s : NodeState) (e : Effect) → AsksFrom s e → Only P e.sends
  asks-kinds s e asks m there = asking-kind w.sent s.node s.incarnation m (asks.sends m there)

  receives-kinds : (s : NodeState) (file number : ℕ) (command : Message) (e : Effect) → Remembers P s → Was w command → IsCommandTo file s.node s.incarnation number command → Receives s file number command e → Only P e.sends
  receives-kinds s file number command e old sent to (inl d) m there = elim (d.sends m there) [
    | inl is ↦ subst P (sym is) (answer-kind w.sent file s.node s.incarnation number command d.answer sent to d.of d.kind)
    | inr asks ↦ asking-kind w.sent s.node s.incarnation m asks
  ]
  receives-kinds s file number command e old sent to (inr (inl r)) m there = subst P (sym (r.sends m there)) (old r.file r.answer r.there)
  receives-kinds s file number command e old sent to (inr (inr asks)) m there = asks-kinds s e asks m there

  delivered-kinds : (n : ℕ) (m : Message) → IsTo (w.nodes n) m → Was w m → Only P (delivered (w.nodes n) m).sends
  delivered-kinds n (Grant file number call mode span) to sent =
      let s = w.nodes n in
      let t = in_epoch s file number in
      let at : call.node ≡ s.node = eqb-true call.node s.node to.node in
      receives-kinds t file number (Grant file number call mode span) (in_order t file number (granted t file number call mode span)) (entered-remembers P s file number (remembers n)) sent
      (refl, refl, at, to.incarnation) (grant_receives t file number call mode span at to.incarnation)
  delivered-kinds n (Revoke file number holder call mode wanted) to sent =
      let s = w.nodes n in
      let t = in_epoch s file number in
      receives-kinds t file number (Revoke file number holder call mode wanted) (in_order t file number (revoked t file number call mode wanted)) (entered-remembers P s file number (remembers n)) sent
      (refl, refl, eqb-true holder.node s.node to.node, to.incarnation) (revoke_receives t file number holder call mode wanted)
  delivered-kinds n (Hello file number holder) to sent =
      let s = w.nodes n in
      let t = in_epoch s file number in
      let same = same_host (host s) holder (sym (eqb-true holder.node s.node to.node)) (sym to.incarnation) in
      told_either (λ e. Only P e.sends) t file number
      (λ is. only_one P (Report file number (host t) (runs_of (t.files file).token)) (ap (λ (h : Host). is_among w.sent (Hello file number h)) same ∙ sent)) (only_none P)
  delivered-kinds n (Deny file call holder number lock) to sent = asks-kinds (w.nodes n) (delivered (w.nodes n) (Deny file call holder number lock)) (denied_asks (w.nodes n) lock (open_call (w.nodes n) call.number))
  delivered-kinds n (Request file call blocking mode wanted) to sent = only_none P
  delivered-kinds n (Taken file number call) to sent = only_none P
  delivered-kinds n (Released file number holder call span) to sent = only_none P
  delivered-kinds n (Conflict file number holder call lock) to sent = only_none P
  delivered-kinds n (Freed file holder) to sent = only_none P
  delivered-kinds n (Report file number holder runs) to sent = only_none P

  server-kinds : (file : ℕ) (step : ServerEvent) (done : ServerState × Outcome) → server_rule (w.servers file) step ≡ Ok done → Only P done.1.sends
  server-kinds file step done is m there = server-kind w.sent m (all_among IsOfServer done.1.sends m (server_sends w p file step done is) there)

  message-kinds : (m : Message) (to : Actor) (q : WorldState × Entry) → Was w m → routed w m to ≡ Ok q → Goes q
  message-kinds m (ANode n) q sent h =
      let s = w.nodes n in
      let R : NodeState × Outcome → Type 0 = λ d. Only P d.1.sends in
      node_step w Goes (Deliver m) n (node_rule s (node.Deliver m)) q
      (λ done is. elim (deliver_done s m done is) [ inl took ↦ subst R took.1 (delivered-kinds n m took.0 sent) | inr passed ↦ subst R passed (only_none P) ]) h
  message-kinds m (AServer file) q sent h = server_step w Goes (Deliver m) file (server_rule (w.servers file) (server.Deliver m)) q (server-kinds file (server.Deliver m)) h

  input-kinds : (n : ℕ) (input : NodeInput) (done : NodeState × Outcome) → node_rule (w.nodes n) (node.Input input) ≡ Ok done → Only P done.1.sends
  input-kinds n (Call pid op) done is =
      let s = w.nodes n in
      let R : NodeState × Outcome → Type 0 = λ d. Only P d.1.sends in
      let counted : NodeState = record s { calls = s.calls + 1 } in
      subst R (call_done s pid op done is) (asks-kinds counted _ (called_asks counted (s.calls + 1) pid op))
  input-kinds n (Interrupt pid) done is =
      let s = w.nodes n in
      let R : NodeState × Outcome → Type 0 = λ d. Only P d.1.sends in
      subst R (interrupt_done s pid done is) (asks-kinds s _ (interrupted_asks s (open_call_of s pid)))
  input-kinds n (Retry pid) done is =
      let s = w.nodes n in
      let R : NodeState × Outcome → Type 0 = λ d. Only P d.1.sends in
      subst R (retry_done s pid done is) (asks-kinds s _ (tried_if_asks s (open_call_of s pid)))

  taken-kinds : (event : Event) (q : WorldState × Entry) → is_known w event ≡ true → taken w event ≡ Ok q → Goes q
  taken-kinds (AtNode n input) q known h = node_step w Goes (AtNode n input) n (node_rule (w.nodes n) (node.Input input)) q (λ done is. input-kinds n input done is) h
  taken-kinds (AtServer file input) q known h = server_step w Goes (AtServer file input) file (server_rule (w.servers file) (server.Input input)) q (server-kinds file (server.Input input)) h
  taken-kinds (Deliver m) q known h = message-kinds m (addressee m) q (and_parts (has_actor w (addressee m)) (is_among w.sent m) known).1 h
  taken-kinds (Member event) q known h = member_step w Goes event q (λ n is alive. only_none P) (λ n is dead few. only_none P) (λ file is works. only_none P) (λ file is stopped few m there. server-kind w.sent m (starts_send w p file m there)) h

  next-kinds : (event : Event) (q : WorldState × Entry) → next w event ≡ Ok q → AllKinds q.0
  next-kinds event q h m there =
      let step = next_taken w event q h in
      let sent = next-sent w event q h in
      let own : HasItsCommand w.sent m = elim (sent_either w.sent q.1.sends m (ap (λ (ms : List Message). is_among ms m) (sym sent) ∙ there)) [ inl old ↦ all m old | inr new ↦ taken-kinds event q step.0 step.1 m new ] in
      subst (λ (ms : List Message). HasItsCommand ms m) (sym sent) (more-kind w.sent q.1.sends m own)

pub every_answer : EveryAnswerHasItsCommand
every_answer shape es w m is leads sent = kept_in_run shape is AllKinds (λ past v good present all. next-kinds v present all) es w leads (λ x there. absurd (cc)) m sent
