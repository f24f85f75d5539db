-- Where no server can be rebuilt, the numbers of all commands are those of the first epoch.
use Rattle.std.specs.Prelude.{if◌then◌else◌}
use Rattle.std.proofs.Common.{◌≡◌, ℕ, ◌+◌, ◌≤◌, true, false, ◌&&◌, inl, inr, refl, sym, ◌∙◌, ap, subst, arith, List, [], ◌∷◌, ◌++◌, All, Option, Some, None, Ok}
use Rattle.std.proofs.lemmas.Bool.{and_parts, both_ways, eqb-true}
use Rattle.std.proofs.lemmas.Option.{none-some, same_Some}
use Rattle.std.proofs.lemmas.List.Elements.{All-nil, All-cons}
use Rattle.model.specs.declared.call.CallId.{CallId}
use Rattle.messages.specs.rule.Shapes.{ShapeFields, may_rebuild}
use Rattle.messages.specs.rule.Messages.{addressee, is_among, greatest_number}
use Rattle.messages.specs.declared.actor.Actor.{Actor}
use Rattle.messages.specs.declared.actor.Actor.TheVariants.{Node as ANode, Server as AServer}
use Rattle.messages.specs.declared.message.Message.{Message}
use Rattle.messages.specs.declared.message.Message.TheVariants.{Request, Grant, Revoke, Taken, Released, Conflict, Deny, Freed, Hello, Report}
use Rattle.messages.specs.declared.event.Event.{Event}
use Rattle.messages.specs.declared.event.Event.TheVariants.{AtNode, AtServer, Deliver, Member}
use Rattle.messages.specs.declared.event.NodeInput.{NodeInput}
use Rattle.messages.specs.declared.event.NodeInput.TheVariants.{Call, Interrupt, Retry}
use Rattle.messages.specs.declared.entry.Entry.{Entry}
use Rattle.messages.specs.declared.outcome.Outcome.{Outcome}
use Rattle.node_core.specs.declared.event.NodeEvent.TheVariants as node
use Rattle.node_core.specs.rule.State.{FileState, NodeState, Effect, first_node, open_call, open_call_of, outcome, quiet}
use Rattle.node_core.specs.rule.Try.{tried_if}
use Rattle.node_core.specs.rule.Calls.{after_call, called}
use Rattle.node_core.specs.rule.Commands.{in_epoch, in_order, granted, revoked, delivered}
use Rattle.node_core.specs.rule.Interrupts.{interrupted}
use Rattle.node_core.specs.rule.Node.{node_rule}
use Rattle.token_server.specs.declared.token_queue.token_request.TokenRequest.{TokenRequest}
use Rattle.token_server.specs.declared.event.ServerEvent.TheVariants as server
use Rattle.token_server.specs.rule.State.{ServerState}
use Rattle.token_server.specs.rule.Server.{server_rule}
use Rattle.cluster_core.specs.rule.World.{WorldState, first_world, has_file}
use Rattle.cluster_core.specs.rule.Next.{is_known, has_actor, recorded, with_node, with_server, declared, restarted, silent, delivered as routed, taken}
use Rattle.cluster_core.specs.rule.Runs.{Leads}
use Rattle.cluster_core.proofs.common.Choices.{at_number}
use Rattle.cluster_core.proofs.steps.KnownMessages.{sent_either}
use Rattle.cluster_core.proofs.steps.NodeSteps.{IsTo, call_done, deliver_done, interrupt_done, retry_done}
use Rattle.cluster_core.proofs.steps.NodeTokens.{Only, only_none, only_all, all_among, IsAsking, AsksFrom, Does, Receives, quiet_asks, called_asks, tried_if_asks, denied_asks, interrupted_asks, grant_receives, revoke_receives}
use Rattle.cluster_core.proofs.steps.Requested.{Comes, Makes, Tells, delivered-steps, input-steps}
use Rattle.cluster_core.proofs.steps.Sends.{Remembers, entered-remembers}
use Rattle.cluster_core.proofs.steps.Steps.{next_taken, node_step, server_step, member_step}
use Rattle.cluster_core.proofs.tokens.Talks.{IsAnswerOf, owing_nothing}
use Rattle.cluster_core.proofs.tokens.TalkMoves.{done_file, is_answer}

-- the number of the message, if it has one, is one of the first epoch, and the message is no Hello
abbrev pub IsEarly : Message → Type 0
IsEarly (Request file call blocking mode wanted) = Unit {0}
IsEarly (Grant file number call mode span) = number ≤ greatest_number
IsEarly (Revoke file number holder call mode wanted) = number ≤ greatest_number
IsEarly (Taken file number call) = number ≤ greatest_number
IsEarly (Released file number holder call span) = number ≤ greatest_number
IsEarly (Conflict file number holder call lock) = number ≤ greatest_number
IsEarly (Deny file call holder number lock) = number ≤ greatest_number
IsEarly (Freed file holder) = Unit {0}
IsEarly (Hello file number holder) = ⊥
IsEarly (Report file number holder runs) = ⊥

asking_early : (n incarnation : ℕ) (m : Message) → IsAsking n incarnation m → IsEarly m
asking_early n incarnation (Request file call blocking mode wanted) is = tt
asking_early n incarnation (Freed file holder) is = tt
asking_early n incarnation m is = absurd is

answer_early : (file n i k : ℕ) (m : Message) → k ≤ greatest_number → is_answer m ≡ true → IsAnswerOf file n i k m → IsEarly m
answer_early file n i k (Taken f number call) few is of = let same = of.1 in omega arith
answer_early file n i k (Released f number holder call span) few is of = let same = of.1 in omega arith
answer_early file n i k (Conflict f number holder call lock) few is of = let same = of.1 in omega arith
answer_early file n i k (Report f number holder runs) few is of = absurd (cc)
answer_early file n i k m few is of = absurd of

-- a node remembers and sends early messages alone
abbrev StaysEarly : Effect → Type 0
StaysEarly e = Remembers IsEarly e.state × Only IsEarly e.sends

asks_early : (s : NodeState) (e : Effect) → AsksFrom s e → Remembers IsEarly s → StaysEarly e
asks_early s e a old = (
  λ f m there. old f m (ap (λ (x : FileState). x.answer) (sym (a.files_are f)) ∙ there),
  λ m there. asking_early s.node s.incarnation m (a.sends m there),
)

does_early : (s : NodeState) (file number : ℕ) (command : Message) (e : Effect) → number ≤ greatest_number → Does s file number command e → Remembers IsEarly s → StaysEarly e
does_early s file number command e few d old =
    let answer = answer_early file s.node s.incarnation number d.answer few d.answers_it d.of in (
      λ f m there. at_number f file (λ b. (if b then done_file (s.files file) number command d.answer else owing_nothing (s.files f)).answer ≡ Some m → IsEarly m)
          (λ same h. subst IsEarly (same_Some d.answer m h) answer)
          (λ other h. old f m h)
          (ap (λ (x : FileState). x.answer) (sym (d.files_are f)) ∙ there),
      λ m there. elim (d.sends m there) [ inl is ↦ subst IsEarly (sym is) answer | inr asks ↦ asking_early s.node s.incarnation m asks ],
    )

receives_early : (s : NodeState) (file number : ℕ) (command : Message) (e : Effect) → number ≤ greatest_number → Receives s file number command e → Remembers IsEarly s → StaysEarly e
receives_early s file number command e few (inl d) old = does_early s file number command e few d old
receives_early s file number command e few (inr (inl r)) old = (
  subst (Remembers IsEarly) (sym r.state) old,
  λ m there. subst IsEarly (sym (r.sends m there)) (old r.file r.answer r.there),
)
receives_early s file number command e few (inr (inr a)) old = asks_early s e a old

delivered_early : (s : NodeState) (m : Message) → IsTo s m → IsEarly m → Remembers IsEarly s → StaysEarly (delivered s m)
delivered_early s (Grant file number call mode span) to few old =
    let t = in_epoch s file number in
    receives_early t file number (Grant file number call mode span) (in_order t file number (granted t file number call mode span)) few
    (grant_receives t file number call mode span (eqb-true call.node s.node to.node) to.incarnation) (entered-remembers IsEarly s file number old)
delivered_early s (Revoke file number holder call mode wanted) to few old =
    let t = in_epoch s file number in
    receives_early t file number (Revoke file number holder call mode wanted) (in_order t file number (revoked t file number call mode wanted)) few
    (revoke_receives t file number holder call mode wanted) (entered-remembers IsEarly s file number old)
delivered_early s (Hello file number holder) to none old = absurd none
delivered_early s (Deny file call holder number lock) to few old = asks_early s (delivered s (Deny file call holder number lock)) (denied_asks s lock (open_call s call.number)) old
delivered_early s m to few old = asks_early s (quiet s) (quiet_asks s) old

-- a server keeps early numbers alone
abbrev IsFew : ℕ → Type 0
IsFew number = number ≤ greatest_number

abbrev AnyRequest : TokenRequest → Type 0
AnyRequest r = Unit {0}

makes_early : (file : ℕ) → Makes file IsFew AnyRequest IsEarly
makes_early file = record { grants = λ number r span few held bound holds. few; revokes = λ number holder r desired few held other. few }

tells_early : (file : ℕ) (m : Message) → IsEarly m → Tells file AnyRequest IsEarly m
tells_early file (Conflict f number holder call lock) few = λ r held own now. few
tells_early file (Request f call blocking mode wanted) few = tt
tells_early file m few = tt

-- all that is remembered, waits for an answer or was sent is early
record Early (w : WorldState) : Type 0 where
  version : may_rebuild w.shape.version ≡ false
  nodes : (n : ℕ) → Remembers IsEarly (w.nodes n)
  servers : (file : ℕ) → Comes file IsFew AnyRequest IsEarly (w.servers file)
  sent : (m : Message) → is_among w.sent m ≡ true → IsEarly m

-- after a step the world is early still, and what the step sends is early
abbrev Goes : WorldState × Entry → Type 0
Goes q = Early q.0 × All IsEarly q.1.sends

module _ (w : WorldState) (g : Early w) where
  sent_early : (sends : List Message) → Only IsEarly sends → (m : Message) → is_among (w.sent ++ sends) m ≡ true → IsEarly m
  sent_early sends only m h = elim (sent_either w.sent sends m h) [ inl old ↦ g.sent m old | inr new ↦ only m new ]

  node_early : (n : ℕ) (event : Event) (incarnation : ℕ) (call : Option CallId) (e : Effect) → StaysEarly e → Goes (recorded (with_node w n e.state) event incarnation (outcome call e).1)
  node_early n event incarnation call e stays = (
    record {
      version = g.version;
      nodes = λ k. at_number k n (λ b. Remembers IsEarly (if b then e.state else w.nodes k)) (λ same. stays.0) (λ other. g.nodes k);
      servers = g.servers;
      sent = sent_early e.sends stays.1;
    },
    only_all IsEarly e.sends stays.1,
  )

  server_early : (file : ℕ) (event : Event) (done : ServerState × Outcome) → Comes file IsFew AnyRequest IsEarly done.0 × All IsEarly done.1.sends → Goes (recorded (with_server w file done.0) event 0 done.1)
  server_early file event done both = (
    record {
      version = g.version;
      nodes = g.nodes;
      servers = λ f. at_number f file (λ b. Comes f IsFew AnyRequest IsEarly (if b then done.0 else w.servers f))
          (λ same. subst (λ (k : ℕ). Comes k IsFew AnyRequest IsEarly done.0) (sym same) both.0)
          (λ other. g.servers f);
      sent = sent_early done.1.sends (λ m there. all_among IsEarly done.1.sends m both.1 there);
    },
    both.1,
  )

  message_early : (m : Message) (to : Actor) (q : WorldState × Entry) → IsEarly m → routed w m to ≡ Ok q → Goes q
  message_early m (ANode n) q few h =
      let s = w.nodes n in
      let P : NodeState × Outcome → Type 0 = λ d. Goes (recorded (with_node w n d.0) (Deliver m) 0 d.1) in
      node_step w Goes (Deliver m) n (node_rule s (node.Deliver m)) q
      (λ done is. elim (deliver_done s m done is) [
        | inl took ↦ subst P took.1 (node_early n (Deliver m) 0 None (delivered s m) (delivered_early s m took.0 few (g.nodes n)))
        | inr passed ↦ subst P passed (node_early n (Deliver m) 0 None (quiet s) (asks_early s (quiet s) (quiet_asks s) (g.nodes n)))
      ]) h
  message_early m (AServer file) q few h =
      let t = w.servers file in
      server_step w Goes (Deliver m) file (server_rule t (server.Deliver m)) q
      (λ done is. server_early file (Deliver m) done (delivered-steps file IsFew AnyRequest IsEarly (makes_early file) t m (tells_early file m few) (g.servers file) done is)) h

  declared_early : (n : ℕ) (event : Event) → Goes (silent (declared w n) event (w.nodes n).incarnation)
  declared_early n event = (
    record {
      version = g.version;
      nodes = λ k. at_number k n (λ b. Remembers IsEarly (if b then first_node w.shape n ((w.nodes n).incarnation + 1) else w.nodes k)) (λ same f m none. absurd (none-some m none)) (λ other. g.nodes k);
      servers = g.servers;
      sent = sent_early [] (only_none IsEarly);
    },
    All-nil IsEarly,
  )

  restarted_early : (n : ℕ) (event : Event) → Goes (silent (restarted w n) event (w.nodes n).incarnation)
  restarted_early n event = (record { version = g.version; nodes = g.nodes; servers = g.servers; sent = sent_early [] (only_none IsEarly) }, All-nil IsEarly)

  -- no server fails
  never : (file : ℕ) → (may_rebuild w.shape.version && has_file w file) ≡ true → ⊥
  never file known = both_ways (may_rebuild w.shape.version) g.version (and_parts (may_rebuild w.shape.version) (has_file w file) known).0

  -- a step of a node at what comes to it
  input_early : (n : ℕ) (input : NodeInput) (done : NodeState × Outcome) → node_rule (w.nodes n) (node.Input input) ≡ Ok done → Goes (recorded (with_node w n done.0) (AtNode n input) 0 done.1)
  input_early n (Call pid op) done is =
      let s = w.nodes n in
      let number = s.calls + 1 in
      let event = AtNode n (Call pid op) in
      let P : NodeState × Outcome → Type 0 = λ d. Goes (recorded (with_node w n d.0) event 0 d.1) in
      let e = called (record s { calls = number }) number pid op in
      subst P (call_done s pid op done is) (node_early n event 0 (after_call s pid op).1.call e (asks_early (record s { calls = number }) e (called_asks (record s { calls = number }) number pid op) (g.nodes n)))
  input_early n (Interrupt pid) done is =
      let s = w.nodes n in
      let event = AtNode n (Interrupt pid) in
      let P : NodeState × Outcome → Type 0 = λ d. Goes (recorded (with_node w n d.0) event 0 d.1) in
      let e = interrupted s (open_call_of s pid) in
      subst P (interrupt_done s pid done is) (node_early n event 0 None e (asks_early s e (interrupted_asks s (open_call_of s pid)) (g.nodes n)))
  input_early n (Retry pid) done is =
      let s = w.nodes n in
      let event = AtNode n (Retry pid) in
      let P : NodeState × Outcome → Type 0 = λ d. Goes (recorded (with_node w n d.0) event 0 d.1) in
      let e = tried_if s (open_call_of s pid) in
      subst P (retry_done s pid done is) (node_early n event 0 None e (asks_early s e (tried_if_asks s (open_call_of s pid)) (g.nodes n)))

  taken_early : (event : Event) (q : WorldState × Entry) → is_known w event ≡ true → taken w event ≡ Ok q → Goes q
  taken_early (AtNode n input) q known h = node_step w Goes (AtNode n input) n (node_rule (w.nodes n) (node.Input input)) q (λ done is. input_early n input done is) h
  taken_early (AtServer file input) q known h =
      let t = w.servers file in
      server_step w Goes (AtServer file input) file (server_rule t (server.Input input)) q
      (λ done is. server_early file (AtServer file input) done (input-steps file IsFew AnyRequest IsEarly (makes_early file) t input (g.servers file) done is)) h
  taken_early (Deliver m) q known h =
      message_early m (addressee m) q (g.sent m (and_parts (has_actor w (addressee m)) (is_among w.sent m) known).1) h
  taken_early (Member event) q known h =
      let P : Event → Type 0 = λ x. is_known w x ≡ true in
      member_step w Goes event q
      (λ n is alive. declared_early n (Member event))
      (λ n is dead few. restarted_early n (Member event))
      (λ file is works. absurd (never file (subst P is known)))
      (λ file is stopped few. absurd (never file (subst P is known))) h

early_first : (shape : ShapeFields) → may_rebuild shape.version ≡ false → Early (first_world shape)
early_first shape version = record {
  version = version;
  nodes = λ n f m none. absurd (none-some m none);
  servers = λ file. record {
    file_is = refl;
    held = All-nil AnyRequest;
    outstanding = λ n row m there h. absurd (none-some row there);
    numbers = λ number few. few;
  };
  sent = only_none IsEarly;
}

early_from : (es : List Entry) (w v : WorldState) → Early w → Leads w es v → All (λ (e : Entry). All IsEarly e.sends) es × Early v
early_from [] w v g leads = (All-nil (λ (e : Entry). All IsEarly e.sends), subst Early leads g)
early_from (e ∷ es) w v g leads =
    let known = next_taken w e.event (leads.0, e) leads.1 in
    let one = taken_early w g e.event (leads.0, e) known.0 known.1 in
    let rest = early_from es leads.0 v one.0 leads.2 in
    (All-cons (λ (x : Entry). All IsEarly x.sends) e es one.1 rest.0, rest.1)

-- each run of a cluster whose servers can't be rebuilt is early
pub early_run : (shape : ShapeFields) (es : List Entry) (w : WorldState) → may_rebuild shape.version ≡ false → Leads (first_world shape) es w → All (λ (e : Entry). All IsEarly e.sends) es × ((m : Message) → is_among w.sent m ≡ true → IsEarly m)
early_run shape es w version leads =
    let done = early_from es (first_world shape) w (early_first shape version) leads in
    (done.0, done.1.sent)
