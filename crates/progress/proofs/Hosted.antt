-- After every run each message that was sent is to or of a node of the cluster.
use Rattle.std.specs.Prelude.{◌==◌, ◌&&◌, ◌<◌, nat_le, nat_lt, if◌then◌else◌}
use Rattle.std.specs.List.{range_with_len}
use Rattle.std.proofs.Common.{◌≡◌, ℕ, ◌+◌, Bool, true, false, not, ◌⊎◌, inl, inr, refl, sym, ◌∙◌, ap, subst, List, [], ◌∷◌, ◌++◌, All, Some, None, Result, Ok, Err}
use Rattle.std.proofs.lemmas.Bool.{and_parts, eqb-true, ltb-true}
use Rattle.std.proofs.lemmas.Option.{none-some, same_Some}
use Rattle.std.proofs.lemmas.List.Elements.{All-head, All-tail, All-weaker}
use Rattle.model.specs.declared.host.Host.{Host}
use Rattle.messages.specs.rule.Shapes.{ShapeFields, IsShape}
use Rattle.messages.specs.rule.Messages.{addressee, host_of, is_among, is_within, sending, runs_of}
use Rattle.messages.specs.declared.refusal.StepError.{StepError}
use Rattle.messages.specs.declared.refusal.StepError.TheVariants.{Stranger}
use Rattle.messages.specs.declared.actor.Actor.{Actor}
use Rattle.messages.specs.declared.actor.Actor.TheVariants.{Node as ANode, Server as AServer}
use Rattle.messages.specs.declared.message.Message.{Message}
use Rattle.messages.specs.declared.message.Message.TheVariants.{Request, Grant, Revoke, Taken, Released, Conflict, Deny, Freed, Hello, Report}
use Rattle.messages.specs.declared.event.Event.{Event}
use Rattle.messages.specs.declared.event.Event.TheVariants.{AtNode, AtServer, Deliver, Member}
use Rattle.messages.specs.declared.event.NodeInput.{NodeInput}
use Rattle.messages.specs.declared.event.NodeInput.TheVariants.{Call, Interrupt, Retry}
use Rattle.messages.specs.declared.event.ServerInput.{ServerInput}
use Rattle.messages.specs.declared.event.ServerInput.TheVariants.{Resend, Learn}
use Rattle.messages.specs.declared.entry.Entry.{Entry}
use Rattle.messages.specs.declared.outcome.Outcome.{Outcome}
use Rattle.node_core.specs.declared.event.NodeEvent.TheVariants as node
use Rattle.node_core.specs.rule.State.{NodeState, Effect, host, open_call, open_call_of}
use Rattle.node_core.specs.rule.Commands.{in_epoch, in_order, granted, revoked, delivered}
use Rattle.node_core.specs.rule.Node.{node_rule}
use Rattle.token_server.proofs.CareLaws.{active-each}
use Rattle.token_server.specs.declared.event.ServerEvent.TheVariants as server
use Rattle.token_server.specs.declared.token_queue.token_request.TokenRequest.{TokenRequest}
use Rattle.token_server.specs.rule.Rows.{awaited_row, outstanding_of}
use Rattle.token_server.specs.rule.State.{ServerState, begin, forgotten, requeued}
use Rattle.token_server.specs.rule.Serve.{served, with_more, and_then, each_served, serve}
use Rattle.token_server.specs.rule.Resends.{outstanding, sending_first}
use Rattle.token_server.specs.rule.Server.{server_rule}
use Rattle.cluster_core.specs.rule.World.{WorldState, first_world, has_node, has_file, was_declared}
use Rattle.cluster_core.specs.rule.Next.{has_actor, is_known, next_server, delivered as routed, taken, next}
use Rattle.cluster_core.specs.rule.Runs.{Leads}
use Rattle.cluster_core.proofs.common.Refusals.{ok_is, unless_refused}
use Rattle.cluster_core.proofs.common.Choices.{at_number}
use Rattle.cluster_core.proofs.rounds.Kept.{kept_in_run}
use Rattle.cluster_core.proofs.rounds.Sent.{next-sent}
use Rattle.cluster_core.proofs.steps.KnownMessages.{sent_either}
use Rattle.cluster_core.proofs.steps.NodeSteps.{call_done, deliver_done, interrupt_done, retry_done, told_either, IsTo}
use Rattle.cluster_core.proofs.steps.NodeTokens.{Only, only_none, only_one, only_both, only_mapped, AsksFrom, Receives, asking_host, called_asks, tried_if_asks, denied_asks, interrupted_asks, grant_receives, revoke_receives}
use Rattle.cluster_core.proofs.steps.Sends.{Remembers, entered-remembers}
use Rattle.cluster_core.proofs.steps.ServerRows.{IsCurrent, Serves, AllTold, Keeps, IsDenial, Serving, denial_known, forgets, requeues, outstanding_sent, serve_serves, serves_one, receives}
use Rattle.cluster_core.proofs.steps.Steps.{next_taken, next_step, node_step, server_step, member_step}
use Rattle.cluster_core.proofs.tokens.Apart.{remembered_sent, server_present}
use Rattle.cluster_core.proofs.tokens.Present.{Was, IsBegun, Present}
use Rattle.cluster_core.proofs.tokens.Talks.{answer_host, command_host}

-- the host is of a node of the shape
abbrev IsOfShape : ShapeFields → Host → Type 0
IsOfShape shape h = is_within shape.nodes h.node ≡ true

-- each message that was sent is to or of a node of the shape
abbrev pub AllHosted : WorldState → Type 0
AllHosted w = (m : Message) → Was w m → IsOfShape w.shape (host_of m)

abbrev Hosted : ShapeFields → List Message → Type 0
Hosted shape ms = Only (λ m. IsOfShape shape (host_of m)) ms

-- the world with that server, in which these messages were sent as well
abbrev served_by : WorldState → ℕ → ServerState → List Message → WorldState
served_by w file v sends = record w { servers = λ f. if f == file then v else w.servers f; sent = w.sent ++ sends }

more_hosted : (w v : WorldState) (sends : List Message) → v.shape ≡ w.shape → v.sent ≡ w.sent ++ sends → AllHosted w → Hosted w.shape sends → AllHosted v
more_hosted w v sends shape sent all new m there =
    let own : IsOfShape w.shape (host_of m) = elim (sent_either w.sent sends m (ap (λ (ms : List Message). is_among ms m) (sym sent) ∙ there)) [ inl old ↦ all m old | inr fresh ↦ new m fresh ] in
    subst (λ (s : ShapeFields). IsOfShape s (host_of m)) (sym shape) own

here : (w : WorldState) (file : ℕ) (v : ServerState) (sends : List Message) → (served_by w file v sends).servers file ≡ v
here w file v sends = at_number file file (λ b. (if b then v else w.servers file) ≡ v) (λ same. refl) (λ other. absurd (other refl))

-- what one request after the other sends
each_hosted : (rs : List TokenRequest) (w : WorldState) (p : Present w) (file : ℕ) (s v : ServerState) (sends : List Message) → AllHosted w → w.servers file ≡ s → AllTold s → All (IsCurrent s) rs → each_served rs s ≡ Ok (v, sends) → Hosted w.shape sends
each_hosted [] w p file s v sends all there heard current is = subst (λ (d : ServerState × List Message). Hosted w.shape d.1) (ok_is (s, []) (v, sends) is) (only_none (λ m. IsOfShape w.shape (host_of m)))
each_hosted (r ∷ rest) w p file s v sends all there heard current is = one (served s r) refl is (each_hosted rest)
  where
    serves : Serves (Was w) w.nodes w.shape file s
    serves = subst (Serves (Was w) w.nodes w.shape file) there (p.serves file)

    -- the other requests are served in the world after the first
    Others : Type 0
    Others = (x : WorldState) (q : Present x) (f : ℕ) (u z : ServerState) (ms : List Message) → AllHosted x → x.servers f ≡ u → AllTold u → All (IsCurrent u) rest → each_served rest u ≡ Ok (z, ms) → Hosted x.shape ms

    more : (u : ServerState) (first : List Message) → Present (served_by w file u first) → Hosted w.shape first → Keeps s u → (x : Result (ServerState × List Message) StepError) → each_served rest u ≡ x → with_more first x ≡ Ok (v, sends) → Others → Hosted w.shape sends
    more u first q own keeps (Err e) is h others = absurd (cc)
    more u first q own keeps (Ok done) is h others =
        let later = served_by w file u first in
        let rest_of = others later q file u done.0 done.1 (more_hosted w later first refl refl all own) (here w file u first) (keeps.told heard) (All-weaker (IsCurrent s) (IsCurrent u) keeps.requests rest (All-tail (IsCurrent s) r rest current)) is in
        subst (λ (d : ServerState × List Message). Hosted w.shape d.1) (ok_is (done.0, first ++ done.1) (v, sends) h) (only_both (λ m. IsOfShape w.shape (host_of m)) first done.1 own rest_of)

    one : (x : Result (ServerState × List Message) StepError) → served s r ≡ x → and_then x (each_served rest) ≡ Ok (v, sends) → Others → Hosted w.shape sends
    one (Err e) is h others = absurd (cc)
    one (Ok done) is h others =
        let both = serves_one (Was w) w.nodes w.shape file s serves heard done.0 done.1 r (All-head (IsCurrent s) r rest current) is in
        let q = server_present w p file done.0 done.1 done.1 (λ m new. inr new) (λ m new. new) both.0 in
        let own : Hosted w.shape done.1 = elim both.0 [
          | inl still ↦ subst (Hosted w.shape) (sym still.1) (only_none (λ m. IsOfShape w.shape (host_of m)))
          | inr g ↦
              let name = (g.serves.talks g.node).named g.row g.there in
              let its = command_host file g.node g.row.incarnation (g.row.number + 1) g.command g.to in
              let known : IsOfShape w.shape (host_of g.command) = ap (λ (n : ℕ). is_within w.shape.nodes n) (its.0 ∙ sym name.2.0) ∙ all name.0 name.1 in
              subst (Hosted w.shape) (sym g.sent) (only_one (λ m. IsOfShape w.shape (host_of m)) g.command known)
        ] in
        more done.0 done.1 q own both.1 (each_served rest done.0) refl h others

module _ (w : WorldState) (p : Present w) (all : AllHosted w) where
  abbrev P : Message → Type 0
  P m = IsOfShape w.shape (host_of m)

  abbrev Known : Host → Type 0
  Known h = IsBegun w h × IsOfShape w.shape h

  -- a server sends messages again, or denies calls, and serves
  serving_hosted : (file : ℕ) (v : ServerState) (before fresh : List Message) → Only (λ m. Was w m ⊎ IsDenial Known m) before → Serving (Was w) w.nodes w.shape file v fresh → Hosted w.shape (before ++ fresh)
  serving_hosted file v before fresh old serving = only_both P before fresh first (serves serving)
    where
      first : Hosted w.shape before
      first m there = elim (old m there) [ inl was ↦ all m was | inr denial ↦ (denial_known Known m denial).1 ]

      begun : (m : Message) → is_among before m ≡ true → (Was w m ⊎ IsDenial (IsBegun w) m) ⊎ (is_among [] m ≡ true)
      begun m there = elim (old m there) [ inl was ↦ inl (inl was) | inr denial ↦ inl (inr (only_begun m denial)) ]
        where
          only_begun : (m : Message) → IsDenial Known m → IsDenial (IsBegun w) m
          only_begun (Deny f call holder number lock) is = is.0
          only_begun m is = absurd is

      serves : Serving (Was w) w.nodes w.shape file v fresh → Hosted w.shape fresh
      serves (inl still) = subst (Hosted w.shape) (sym still.1) (only_none P)
      serves (inr go) =
          let u = go.0 in
          let later = served_by w file u before in
          let q = server_present w p file u before [] begun (only_none (λ m. is_among before m ≡ true)) (inl (go.1, refl)) in
          each_hosted u.active later q file u v fresh (more_hosted w later before refl refl all first) (here w file u before) go.2 (active-each (IsCurrent u) u go.1.held) go.3

  -- the messages of the entry are to or of nodes of the shape
  abbrev Goes : WorldState × Entry → Type 0
  Goes q = Hosted w.shape q.1.sends

  resend_hosted : (file : ℕ) (r : Result (ServerState × List Message) StepError) (done : ServerState × Outcome) → serve (requeued (w.servers file)) ≡ r → sending_first (outstanding (w.servers file)) r ≡ Ok done → Hosted w.shape done.1.sends
  resend_hosted file (Err e) done served is = absurd (cc)
  resend_hosted file (Ok made) done served is =
      let t = w.servers file in
      let sent : (n : ℕ) (m : Message) → outstanding_of (t.rows n) ≡ Some m → Was w m = λ n m there. elim (t.rows n) as (λ x. t.rows n ≡ x → outstanding_of x ≡ Some m → Was w m) [
        | None ↦ λ row none. absurd (none-some m none)
        | Some row ↦ λ found waiting. outstanding_sent (Was w) w.nodes w.shape file t (p.serves file) n row m found waiting
      ] refl there in
      let old : Only (λ m. Was w m ⊎ IsDenial Known m) (outstanding t) = only_mapped (λ m. Was w m ⊎ IsDenial Known m) (λ n. outstanding_of (t.rows n)) (range_with_len 1 t.shape.nodes) (λ n m there. inl (sent n m there)) in
      let asked : Serves (Was w) w.nodes w.shape file (requeued t) = requeues (Was w) w.nodes w.shape file t (p.serves file) in
      subst (λ (d : ServerState × Outcome). Hosted w.shape d.1.sends) (ok_is (made.0, sending (outstanding t ++ made.1)) done is)
      (serving_hosted file made.0 (outstanding t) made.1 old (serve_serves (Was w) w.nodes w.shape file (requeued t) asked made.0 made.1 served))

  learn_hosted : (file n i : ℕ) (r : Result (ServerState × List Message) StepError) (done : ServerState × Outcome) → i < (w.nodes n).incarnation → serve (requeued (forgotten (w.servers file) n i)) ≡ r → sending_first [] r ≡ Ok done → Hosted w.shape done.1.sends
  learn_hosted file n i (Err e) done older served is = absurd (cc)
  learn_hosted file n i (Ok made) done older served is =
      let t = w.servers file in
      let young : Serves (Was w) w.nodes w.shape file (forgotten t n i) = forgets (Was w) w.nodes w.shape file t (p.serves file) n i older in
      let asked : Serves (Was w) w.nodes w.shape file (requeued (forgotten t n i)) = requeues (Was w) w.nodes w.shape file (forgotten t n i) young in
      subst (λ (d : ServerState × Outcome). Hosted w.shape d.1.sends) (ok_is (made.0, sending made.1) done is)
      (serving_hosted file made.0 [] made.1 (only_none (λ m. Was w m ⊎ IsDenial Known m)) (serve_serves (Was w) w.nodes w.shape file (requeued (forgotten t n i)) asked made.0 made.1 served))

  remembers : (n : ℕ) → Remembers P (w.nodes n)
  remembers n file m there = all m (remembered_sent w p file n m there).0

  asks-hosted : (s : NodeState) (e : Effect) → is_within w.shape.nodes s.node ≡ true → AsksFrom s e → Only P e.sends
  asks-hosted s e own asks m there = ap (λ (k : ℕ). is_within w.shape.nodes k) (asking_host s.node s.incarnation m (asks.sends m there)).0 ∙ own

  receives-hosted : (s : NodeState) (file number : ℕ) (command : Message) (e : Effect) → is_within w.shape.nodes s.node ≡ true → Remembers P s → Receives s file number command e → Only P e.sends
  receives-hosted s file number command e own old (inl d) m there = elim (d.sends m there) [
    | inl is ↦ subst P (sym is) (ap (λ (k : ℕ). is_within w.shape.nodes k) (answer_host file s.node s.incarnation number d.answer d.of).0 ∙ own)
    | inr asks ↦ ap (λ (k : ℕ). is_within w.shape.nodes k) (asking_host s.node s.incarnation m asks).0 ∙ own
  ]
  receives-hosted s file number command e own old (inr (inl r)) m there = subst P (sym (r.sends m there)) (old r.file r.answer r.there)
  receives-hosted s file number command e own old (inr (inr asks)) m there = asks-hosted s e own asks m there

  module _ (n : ℕ) (within : has_node w n ≡ true) where
    own : is_within w.shape.nodes (w.nodes n).node ≡ true
    own = ap (λ (k : ℕ). is_within w.shape.nodes k) (p.named n) ∙ within

    delivered-hosted : (m : Message) → IsTo (w.nodes n) m → Only P (delivered (w.nodes n) m).sends
    delivered-hosted (Grant file number call mode span) to =
        let s = w.nodes n in
        let t = in_epoch s file number in
        receives-hosted t file number (Grant file number call mode span) (in_order t file number (granted t file number call mode span)) own (entered-remembers P s file number (remembers n))
        (grant_receives t file number call mode span (eqb-true call.node s.node to.node) to.incarnation)
    delivered-hosted (Revoke file number holder call mode wanted) to =
        let s = w.nodes n in
        let t = in_epoch s file number in
        receives-hosted t file number (Revoke file number holder call mode wanted) (in_order t file number (revoked t file number call mode wanted)) own (entered-remembers P s file number (remembers n))
        (revoke_receives t file number holder call mode wanted)
    delivered-hosted (Hello file number holder) to =
        let t = in_epoch (w.nodes n) file number in
        told_either (λ e. Only P e.sends) t file number (λ is. only_one P (Report file number (host t) (runs_of (t.files file).token)) own) (only_none P)
    delivered-hosted (Deny file call holder number lock) to = asks-hosted (w.nodes n) (delivered (w.nodes n) (Deny file call holder number lock)) own (denied_asks (w.nodes n) lock (open_call (w.nodes n) call.number))
    delivered-hosted (Request file call blocking mode wanted) to = only_none P
    delivered-hosted (Taken file number call) to = only_none P
    delivered-hosted (Released file number holder call span) to = only_none P
    delivered-hosted (Conflict file number holder call lock) to = only_none P
    delivered-hosted (Freed file holder) to = only_none P
    delivered-hosted (Report file number holder runs) to = only_none P

    input-hosted : (input : NodeInput) (done : NodeState × Outcome) → node_rule (w.nodes n) (node.Input input) ≡ Ok done → Only P done.1.sends
    input-hosted (Call pid op) done is =
        let s = w.nodes n in
        let counted : NodeState = record s { calls = s.calls + 1 } in
        subst (λ (d : NodeState × Outcome). Only P d.1.sends) (call_done s pid op done is) (asks-hosted counted _ own (called_asks counted (s.calls + 1) pid op))
    input-hosted (Interrupt pid) done is =
        let s = w.nodes n in
        subst (λ (d : NodeState × Outcome). Only P d.1.sends) (interrupt_done s pid done is) (asks-hosted s _ own (interrupted_asks s (open_call_of s pid)))
    input-hosted (Retry pid) done is =
        let s = w.nodes n in
        subst (λ (d : NodeState × Outcome). Only P d.1.sends) (retry_done s pid done is) (asks-hosted s _ own (tried_if_asks s (open_call_of s pid)))

  server_input-hosted : (file : ℕ) (input : ServerInput) (done : ServerState × Outcome) → is_known w (AtServer file input) ≡ true → server_rule (w.servers file) (server.Input input) ≡ Ok done → Hosted w.shape done.1.sends
  server_input-hosted file Resend done known is = resend_hosted file (serve (requeued (w.servers file))) done refl is
  server_input-hosted file (Learn n i) done known is =
      let t = w.servers file in
      let parts = and_parts (has_node w n) (was_declared w n i) (and_parts (has_file w file) (has_node w n && was_declared w n i) known).1 in
      let older : i < (w.nodes n).incarnation = ltb-true i (w.nodes n).incarnation (and_parts (nat_le 1 i) (nat_lt i (w.nodes n).incarnation) parts.1).1 in
      learn_hosted file n i (serve (requeued (forgotten t n i))) done older refl (unless_refused (not (is_within t.shape.nodes n)) _ done Stranger is).1

  message-hosted : (m : Message) (to : Actor) (q : WorldState × Entry) → Was w m → addressee m ≡ to → has_actor w to ≡ true → routed w m to ≡ Ok q → Goes q
  message-hosted m (ANode n) q sent to there h =
      let s = w.nodes n in
      node_step w Goes (Deliver m) n (node_rule s (node.Deliver m)) q
      (λ done is. elim (deliver_done s m done is) [
        | inl took ↦ subst (λ (d : NodeState × Outcome). Only P d.1.sends) took.1 (delivered-hosted n there m took.0)
        | inr passed ↦ subst (λ (d : NodeState × Outcome). Only P d.1.sends) passed (only_none P)
      ]) h
  message-hosted m (AServer file) q sent to there h =
      let t = w.servers file in
      server_step w Goes (Deliver m) file (server_rule t (server.Deliver m)) q
      (λ done is.
      let a = receives (Was w) Known (λ x was. (p.no_future x was, all x was)) w.nodes w.shape file t (p.serves file) done.0 done.1 m sent to (p.no_future m sent).0 is in
      subst (Hosted w.shape) (sym a.sent) (serving_hosted file done.0 a.denied a.fresh (λ x there. inr (a.denials x there)) a.served)) h

  -- what a server asks when it begins again
  starts-hosted : (file : ℕ) → Hosted w.shape (outstanding (next_server w file))
  starts-hosted file = only_mapped P (λ n. outstanding_of (made.rows n)) (range_with_len 1 w.shape.nodes) (λ n m is. asked n (has_node w n && w.alive n) refl m is)
    where
      made : ServerState
      made = next_server w file

      asked : (n : ℕ) (b : Bool) → (has_node w n && w.alive n) ≡ b → (m : Message) → outstanding_of (if b then Some (awaited_row file (begin made) n (w.nodes n).incarnation) else None) ≡ Some m → P m
      asked n true live m is = subst P (same_Some (Hello file (begin made) (record { node = n; incarnation = (w.nodes n).incarnation })) m is) (and_parts (has_node w n) (w.alive n) live).0
      asked n false live m is = absurd (none-some m is)

  taken-hosted : (event : Event) (q : WorldState × Entry) → is_known w event ≡ true → taken w event ≡ Ok q → Goes q
  taken-hosted (AtNode n input) q known h = node_step w Goes (AtNode n input) n (node_rule (w.nodes n) (node.Input input)) q (λ done is. input-hosted n (and_parts (has_node w n) _ known).0 input done is) h
  taken-hosted (AtServer file input) q known h = server_step w Goes (AtServer file input) file (server_rule (w.servers file) (server.Input input)) q (λ done is. server_input-hosted file input done known is) h
  taken-hosted (Deliver m) q known h =
      let parts = and_parts (has_actor w (addressee m)) (is_among w.sent m) known in
      message-hosted m (addressee m) q parts.1 refl parts.0 h
  taken-hosted (Member event) q known h = member_step w Goes event q (λ n is alive. only_none P) (λ n is dead few. only_none P) (λ file is works. only_none P) (λ file is stopped few. starts-hosted file) h

  next-hosted : (event : Event) (q : WorldState × Entry) → next w event ≡ Ok q → AllHosted q.0
  next-hosted event q h =
      let step = next_taken w event q h in
      more_hosted w q.0 q.1.sends (next-shape event q h) (next-sent w event q h) all (taken-hosted event q step.0 step.1)
    where
      next-shape : (event : Event) (q : WorldState × Entry) → next w event ≡ Ok q → q.0.shape ≡ w.shape
      next-shape event q h = next_step w (λ p. p.0.shape ≡ w.shape) event q (λ n step done is. refl) (λ file step done is. refl) (λ k is alive. refl) (λ k is dead few. refl) (λ f is works. refl) (λ f is stopped few. refl) h

pub all_hosted : (shape : ShapeFields) (es : List Entry) (w : WorldState) → IsShape shape → Leads (first_world shape) es w → AllHosted w
all_hosted shape es w is leads = kept_in_run shape is AllHosted (λ past v good present all. next-hosted v present all) es w leads (λ m there. absurd (cc))
