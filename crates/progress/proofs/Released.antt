-- After every run a span that was released has all bytes that its Revoke required.
use Rattle.std.specs.Prelude.{◌&&◌, ◌-◌, pred, not, if◌then◌else◌, IfSome}
use Rattle.std.specs.List.{range_with_len}
use Rattle.std.proofs.Common.{◌≡◌, ℕ, zero, suc, ◌+◌, ◌≤◌, Bool, true, false, inl, inr, refl, sym, ◌∙◌, ap, subst, arith, List, [], ◌∷◌, ◌++◌, Option, Some, None, Result, Ok, Err}
use Rattle.std.proofs.lemmas.Bool.{and_parts, eqb-true}
use Rattle.std.proofs.lemmas.Option.{none-some, same_Some}
use Rattle.intervals.specs.rule.Bytes.{Range, largest_around}
use Rattle.intervals.specs.rule.Search.{first, all_pass}
use Rattle.intervals.proofs.SearchLaws.{first_is_first}
use Rattle.model.specs.declared.call.CallId.{CallId}
use Rattle.model.specs.declared.host.Host.{Host}
use Rattle.model.specs.declared.lock_info.LockInfo.{LockInfo}
use Rattle.model.specs.declared.mode.Mode.{Mode}
use Rattle.model.specs.rule.Locks.{lowest_in_way}
use Rattle.token_set.specs.rule.Tokens.{is_in_way, given_up_span, answer_of}
use Rattle.messages.specs.rule.Shapes.{ShapeFields, IsShape}
use Rattle.messages.specs.rule.TokenRuns.{Wants}
use Rattle.messages.specs.rule.Messages.{addressee, is_among, is_within, sending, runs_of}
use Rattle.messages.specs.declared.refusal.StepError.{StepError}
use Rattle.messages.specs.declared.refusal.StepError.TheVariants.{Stranger}
use Rattle.messages.specs.declared.actor.Actor.{Actor}
use Rattle.messages.specs.declared.actor.Actor.TheVariants.{Node as ANode, Server as AServer}
use Rattle.messages.specs.declared.message.Message.{Message}
use Rattle.messages.specs.declared.message.Message.TheVariants.{Request, Grant, Revoke, Taken, Released, Conflict, Deny, Freed, Hello, Report}
use Rattle.messages.specs.declared.event.Event.{Event}
use Rattle.messages.specs.declared.event.Event.TheVariants.{AtNode, AtServer, Deliver, Member}
use Rattle.messages.specs.declared.event.NodeInput.{NodeInput}
use Rattle.messages.specs.declared.event.NodeInput.TheVariants.{Call, Interrupt, Retry}
use Rattle.messages.specs.declared.event.ServerInput.TheVariants.{Resend, Learn}
use Rattle.messages.specs.declared.entry.Entry.{Entry}
use Rattle.messages.specs.declared.outcome.Outcome.{Outcome}
use Rattle.node_core.specs.declared.event.NodeEvent.TheVariants as node
use Rattle.node_core.specs.rule.State.{NodeState, Effect, host, open_call, open_call_of}
use Rattle.node_core.specs.rule.Commands.{in_epoch, in_order, remembered, answer_to, granted, revoked, delivered}
use Rattle.node_core.specs.rule.Node.{node_rule}
use Rattle.token_server.specs.declared.event.ServerEvent.{ServerEvent}
use Rattle.token_server.specs.declared.event.ServerEvent.TheVariants as server
use Rattle.token_server.specs.rule.Rows.{Row, awaited_row, outstanding_of}
use Rattle.token_server.specs.rule.State.{ServerState, begin, forgotten, requeued}
use Rattle.token_server.specs.rule.Serve.{serve}
use Rattle.token_server.specs.rule.Resends.{outstanding, sending_first}
use Rattle.token_server.specs.rule.Server.{Change, change, then_serve, server_rule}
use Rattle.cluster_core.specs.rule.World.{WorldState, first_world, has_node}
use Rattle.cluster_core.specs.rule.Next.{is_known, has_actor, delivered as routed, next_server, taken as stepped, next}
use Rattle.cluster_core.specs.rule.Runs.{Leads}
use Rattle.cluster_core.specs.rule.Serving.{IsServing}
use Rattle.cluster_core.proofs.common.Refusals.{ok_is, unless_refused}
use Rattle.cluster_core.proofs.steps.KnownMessages.{sent_before, sent_either}
use Rattle.cluster_core.proofs.steps.NodeSteps.{IsTo, call_done, deliver_done, interrupt_done, retry_done, told_either, in_order_either}
use Rattle.cluster_core.proofs.steps.NodeTokens.{Only, only_none, only_one, only_both, only_mapped, all_among, IsAsking, AsksFrom, Receives, called_asks, tried_if_asks, denied_asks, interrupted_asks, grant_receives}
use Rattle.cluster_core.proofs.steps.Requested.{change_done}
use Rattle.cluster_core.proofs.steps.Sends.{Remembers, entered-remembers}
use Rattle.cluster_core.proofs.steps.ServerRows.{outstanding_sent}
use Rattle.cluster_core.proofs.steps.Steps.{next_taken, node_step, server_step, member_step}
use Rattle.cluster_core.proofs.tokens.TalkMoves.{IsOfKind}
use Rattle.cluster_core.proofs.tokens.Present.{Was, Present}
use Rattle.cluster_core.proofs.tokens.Apart.{remembered_sent}
use Rattle.cluster_core.proofs.rounds.Kept.{kept_in_run}
use Rattle.cluster_core.proofs.rounds.Sent.{next-sent}
use Rattle.progress.proofs.Denying.{IsDenialAtMost, delivered_denies}
use Rattle.progress.proofs.Paying.{StartsRight, serve_pays}
use Rattle.progress.proofs.StillServing.{still_serving}
use Rattle.progress.specs.rule.Bounds.{HasRequired, EveryReleaseHasWhatIsRequired}

-- the message is right: a Revoke starts right, and a Released has what its Revoke required
abbrev IsRight : List Message → Message → Type 0
IsRight sent (Revoke file number holder call mode wanted) = wanted.desired.lo ≤ wanted.required.lo
IsRight sent (Released file number holder call span) = HasRequired sent file number holder call span
IsRight sent _ = Unit {0}

-- the largest span around the required one has it
around_required : (barred : ℕ → Bool) (required within : Range) → within.lo ≤ required.lo → ((largest_around barred required within).lo ≤ required.lo) × (required.hi ≤ (largest_around barred required within).hi)
around_required barred required within starts =
    let low = first_is_first (λ l. all_pass (λ b. not (barred b)) l (required.lo - l)) within.lo (required.lo - within.lo) in
    let high = first_is_first barred (required.hi + 1) (within.hi - required.hi) in
    let reach = low.within in
    (omega arith, back (first barred (required.hi + 1) (within.hi - required.hi)) high.least)
  where
    back : (k : ℕ) → required.hi + 1 ≤ k → required.hi ≤ pred k
    back zero h = absurd (omega arith)
    back (suc k) h = omega arith

-- requests and Freed are right
asking_right : (sent : List Message) (n i : ℕ) (m : Message) → IsAsking n i m → IsRight sent m
asking_right sent n i (Request file call blocking mode wanted) is = tt
asking_right sent n i (Freed file holder) is = tt
asking_right sent n i m is = absurd is

-- so is the answer to a Grant
taken_right : (sent : List Message) (file number : ℕ) (call : CallId) (mode : Mode) (span : Range) (answer : Message) → IsOfKind (Grant file number call mode span) answer → IsRight sent answer
taken_right sent file number call mode span (Taken g l c) kind = tt
taken_right sent file number call mode span m kind = absurd kind

more_right : (sent sends : List Message) (m : Message) → IsRight sent m → IsRight (sent ++ sends) m
more_right sent sends (Released file number holder call span) h = record {
  mode = h.mode;
  wanted = h.wanted;
  revoked = sent_before sent sends (Revoke file number holder call h.mode h.wanted) h.revoked;
  starts = h.starts;
  ends = h.ends;
}
more_right sent sends (Revoke file number holder call mode wanted) h = h
more_right sent sends (Taken file number call) h = tt
more_right sent sends (Conflict file number holder call lock) h = tt
more_right sent sends (Report file number holder runs) h = tt
more_right sent sends (Request file call blocking mode wanted) h = tt
more_right sent sends (Grant file number call mode span) h = tt
more_right sent sends (Deny file call holder number lock) h = tt
more_right sent sends (Freed file holder) h = tt
more_right sent sends (Hello file number holder) h = tt

-- each message of the world is right
abbrev AllRight : WorldState → Type 0
AllRight w = (m : Message) → Was w m → IsRight w.sent m

module _ (shape : ShapeFields) (is : IsShape shape) (past : List Entry) (w : WorldState) (before : Leads (first_world shape) past w) (p : Present w) (all : AllRight w) where
  abbrev P : Message → Type 0
  P m = IsRight w.sent m

  abbrev Goes : WorldState × Entry → Type 0
  Goes q = Only P q.1.sends

  remembers : (n : ℕ) → Remembers P (w.nodes n)
  remembers n file m there = all m (remembered_sent w p file n m there).0

  asks_right : (s : NodeState) (e : Effect) → AsksFrom s e → Only P e.sends
  asks_right s e asks m there = asking_right w.sent s.node s.incarnation m (asks.sends m there)

  -- the answer that a node remembers is right, if there is one
  again_right : (s : NodeState) (file : ℕ) → Remembers P s → (o : Option Message) → (s.files file).answer ≡ o → Only P (remembered s o).sends
  again_right s file old None is = only_none P
  again_right s file old (Some m) is = only_one P m (old file m is)

  granted_right : (s : NodeState) (file number : ℕ) (call : CallId) (mode : Mode) (span : Range) (e : Effect) → Remembers P s → Receives s file number (Grant file number call mode span) e → Only P e.sends
  granted_right s file number call mode span e old (inl d) m there = elim (d.sends m there) [
    | inl is ↦ subst P (sym is) (taken_right w.sent file number call mode span d.answer d.kind)
    | inr asks ↦ asking_right w.sent s.node s.incarnation m asks
  ]
  granted_right s file number call mode span e old (inr (inl r)) m there = subst P (sym (r.sends m there)) (old r.file r.answer r.there)
  granted_right s file number call mode span e old (inr (inr asks)) m there = asks_right s e asks m there

  revoked_right : (n file number : ℕ) (holder : Host) (call : CallId) (mode : Mode) (wanted : Wants) → IsTo (w.nodes n) (Revoke file number holder call mode wanted) → Was w (Revoke file number holder call mode wanted) → Only P (delivered (w.nodes n) (Revoke file number holder call mode wanted)).sends
  revoked_right n file number holder call mode wanted to sent =
      in_order_either (λ e. Only P e.sends) t file number (revoked t file number call mode wanted)
      (λ next. only_one P (answer_to file number (host t) call (answer_of way span)) (by way))
      (again_right t file (entered-remembers P s file number (remembers n)) (t.files file).answer refl) (only_none P)
    where
      s : NodeState
      s = w.nodes n

      t : NodeState
      t = in_epoch s file number

      way : Option LockInfo
      way = lowest_in_way (t.table.locks file) t.node t.incarnation wanted.required mode

      span : Range
      span = given_up_span (t.table.locks file) t.node t.incarnation mode wanted.required wanted.desired

      same : host t ≡ holder
      same = λ i. record { node = sym (eqb-true holder.node s.node to.node) i; incarnation = sym to.incarnation i }

      by : (o : Option LockInfo) → P (answer_to file number (host t) call (answer_of o span))
      by (Some lock) = tt
      by None =
          let around = around_required (is_in_way (t.table.locks file) t.node t.incarnation mode) wanted.required wanted.desired (all (Revoke file number holder call mode wanted) sent) in
          record { mode = mode; wanted = wanted; revoked = ap (λ (h : Host). is_among w.sent (Revoke file number h call mode wanted)) same ∙ sent; starts = around.0; ends = around.1 }

  delivered_right : (n : ℕ) (m : Message) → IsTo (w.nodes n) m → Was w m → Only P (delivered (w.nodes n) m).sends
  delivered_right n (Grant file number call mode span) to sent =
      let s = w.nodes n in
      let t = in_epoch s file number in
      granted_right t file number call mode span (in_order t file number (granted t file number call mode span)) (entered-remembers P s file number (remembers n)) (grant_receives t file number call mode span (eqb-true call.node s.node to.node) to.incarnation)
  delivered_right n (Revoke file number holder call mode wanted) to sent = revoked_right n file number holder call mode wanted to sent
  delivered_right n (Hello file number holder) to sent =
      let t = in_epoch (w.nodes n) file number in
      told_either (λ e. Only P e.sends) t file number (λ is. only_one P (Report file number (host t) (runs_of (t.files file).token)) tt) (only_none P)
  delivered_right n (Deny file call holder number lock) to sent = asks_right (w.nodes n) (delivered (w.nodes n) (Deny file call holder number lock)) (denied_asks (w.nodes n) lock (open_call (w.nodes n) call.number))
  delivered_right n (Request file call blocking mode wanted) to sent = only_none P
  delivered_right n (Taken file number call) to sent = only_none P
  delivered_right n (Released file number holder call span) to sent = only_none P
  delivered_right n (Conflict file number holder call lock) to sent = only_none P
  delivered_right n (Freed file holder) to sent = only_none P
  delivered_right n (Report file number holder runs) to sent = only_none P

  input_right : (n : ℕ) (input : NodeInput) (done : NodeState × Outcome) → node_rule (w.nodes n) (node.Input input) ≡ Ok done → Only P done.1.sends
  input_right n (Call pid op) done is =
      let s = w.nodes n in
      let counted : NodeState = record s { calls = s.calls + 1 } in
      subst (λ (d : NodeState × Outcome). Only P d.1.sends) (call_done s pid op done is) (asks_right counted _ (called_asks counted (s.calls + 1) pid op))
  input_right n (Interrupt pid) done is =
      let s = w.nodes n in
      subst (λ (d : NodeState × Outcome). Only P d.1.sends) (interrupt_done s pid done is) (asks_right s _ (interrupted_asks s (open_call_of s pid)))
  input_right n (Retry pid) done is =
      let s = w.nodes n in
      subst (λ (d : NodeState × Outcome). Only P d.1.sends) (retry_done s pid done is) (asks_right s _ (tried_if_asks s (open_call_of s pid)))

  -- what a server sends again was sent, and new Revokes start right
  module _ (file : ℕ) where
    abbrev s : ServerState
    s = w.servers file

    served_right : (t : ServerState) (first : List Message) (done : ServerState × Outcome) → Only P first → IsServing done.0 → sending_first first (serve t) ≡ Ok done → Only P done.1.sends
    served_right t first done light serving h = by (serve t) refl h
      where
        by : (x : Result (ServerState × List Message) StepError) → serve t ≡ x → sending_first first x ≡ Ok done → Only P done.1.sends
        by (Err e) is h = absurd (cc)
        by (Ok end) is h =
            let pair : (end.0, sending (first ++ end.1)) ≡ done = ok_is (end.0, sending (first ++ end.1)) done h in
            let serves : IsServing end.0 = subst IsServing (sym (ap (λ (p : ServerState × Outcome). p.0) pair)) serving in
            let right = (serve_pays 0 t end.0 end.1 serves is).right in
            subst (λ (p : ServerState × Outcome). Only P p.1.sends) pair (only_both P first end.1 light (λ m there. plain m (all_among StartsRight end.1 m right there)))
          where
            plain : (m : Message) → StartsRight m → P m
            plain (Grant f number call mode span) right = tt
            plain (Revoke f number holder call mode wanted) right = right
            plain m right = absurd right

    denial_right : (ms : List Message) → IsDenialAtMost ms → Only P ms
    denial_right [] denies = only_none P
    denial_right (Deny f call holder number lock ∷ []) denies = only_one P (Deny f call holder number lock) tt
    denial_right (m ∷ ms) denies = absurd denies

    abbrev Light : Option Change → Type 0
    Light o = IfSome o (λ (c : Change). IsDenialAtMost c.1)

    then_right : (o : Option Change) (done : ServerState × Outcome) → Light o → IsServing done.0 → then_serve s (Ok o) ≡ Ok done → Only P done.1.sends
    then_right None done light serving h = subst (λ (p : ServerState × Outcome). Only P p.1.sends) (ok_is (s, sending []) done h) (only_none P)
    then_right (Some c) done light serving h = served_right c.0 c.1 done (denial_right c.1 light) serving h

    server_right : (step : ServerEvent) (done : ServerState × Outcome) → IsServing done.0 → server_rule s step ≡ Ok done → Only P done.1.sends
    server_right (server.Deliver m) done serving is = by (change s m) refl is
      where
        by : (x : Result (Option Change) StepError) → change s m ≡ x → then_serve s x ≡ Ok done → Only P done.1.sends
        by (Err e) made h = absurd (cc)
        by (Ok o) made h = elim (change_done s m o made).1 [
          | inl none ↦ then_right o done (subst Light none tt) serving h
          | inr young ↦ then_right o done (subst Light young.1 (delivered_denies s m)) serving h
        ]
    server_right (server.Input Resend) done serving is = served_right (requeued s) (outstanding s) done (only_mapped P (λ n. outstanding_of (s.rows n)) (range_with_len 1 s.shape.nodes) (λ n m there. all m (found n (s.rows n) refl m there))) serving is
      where
        found : (n : ℕ) (o : Option Row) → s.rows n ≡ o → (m : Message) → outstanding_of o ≡ Some m → Was w m
        found n None there m h = absurd (cc)
        found n (Some row) there m h = outstanding_sent (Was w) w.nodes w.shape file s (p.serves file) n row m there h
    server_right (server.Input (Learn n i)) done serving is = served_right (requeued (forgotten s n i)) [] done (only_none P) serving (unless_refused (not (is_within s.shape.nodes n)) _ done Stranger is).1

  message_right : (m : Message) (to : Actor) (q : WorldState × Entry) → Was w m → routed w m to ≡ Ok q → Goes q
  message_right m (ANode n) q sent h =
      let s = w.nodes n in
      let R : NodeState × Outcome → Type 0 = λ d. Only P d.1.sends in
      node_step w Goes (Deliver m) n (node_rule s (node.Deliver m)) q
      (λ done made. elim (deliver_done s m done made) [ inl took ↦ subst R took.1 (delivered_right n m took.0 sent) | inr passed ↦ subst R passed (only_none P) ]) h
  message_right m (AServer file) q sent h =
      server_step w Goes (Deliver m) file (server_rule (w.servers file) (server.Deliver m)) q
      (λ done made. server_right file (server.Deliver m) done (still_serving shape is past w before file (server.Deliver m) done sent made) made) h

  event_right : (event : Event) (q : WorldState × Entry) → is_known w event ≡ true → stepped w event ≡ Ok q → Goes q
  event_right (AtNode n input) q known h = node_step w Goes (AtNode n input) n (node_rule (w.nodes n) (node.Input input)) q (λ done made. input_right n input done made) h
  event_right (AtServer file input) q known h =
      server_step w Goes (AtServer file input) file (server_rule (w.servers file) (server.Input input)) q
      (λ done made. server_right file (server.Input input) done (still_serving shape is past w before file (server.Input input) done tt made) made) h
  event_right (Deliver m) q known h = message_right m (addressee m) q (and_parts (has_actor w (addressee m)) (is_among w.sent m) known).1 h
  event_right (Member event) q known h = member_step w Goes event q (λ n is alive. only_none P) (λ n is dead few. only_none P) (λ file is works. only_none P) (λ file is stopped few. starts_right file) h
    where
      -- a server that begins again sends Hellos
      starts_right : (file : ℕ) → Only P (outstanding (next_server w file))
      starts_right file = only_mapped P (λ n. outstanding_of (made.rows n)) (range_with_len 1 w.shape.nodes) (λ n m is. asked n (has_node w n && w.alive n) m is)
        where
          made : ServerState
          made = next_server w file

          asked : (n : ℕ) (b : Bool) (m : Message) → outstanding_of (if b then Some (awaited_row file (begin made) n (w.nodes n).incarnation) else None) ≡ Some m → P m
          asked n true m is = subst P (same_Some (Hello file (begin made) (record { node = n; incarnation = (w.nodes n).incarnation })) m is) tt
          asked n false m is = absurd (none-some m is)

  next_right : (event : Event) (q : WorldState × Entry) → next w event ≡ Ok q → AllRight q.0
  next_right event q h m there =
      let step = next_taken w event q h in
      let sent = next-sent w event q h in
      let own : IsRight w.sent m = elim (sent_either w.sent q.1.sends m (ap (λ (ms : List Message). is_among ms m) (sym sent) ∙ there)) [ inl old ↦ all m old | inr new ↦ event_right event q step.0 step.1 m new ] in
      subst (λ (ms : List Message). IsRight ms m) (sym sent) (more_right w.sent q.1.sends m own)

pub every_release : EveryReleaseHasWhatIsRequired
every_release shape es w file number holder call span is leads sent =
    kept_in_run shape is AllRight (λ past v good present all. next_right shape is past v good.leads present all) es w leads (λ m there. absurd (cc)) (Released file number holder call span) sent
