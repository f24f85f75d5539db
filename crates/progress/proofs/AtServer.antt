-- What a step of a file's server in a round comes to: less than what its event weighs, but for the requests that are queued again.
use Rattle.std.specs.Prelude.{nat_le, not, length, IfSome}
use Rattle.std.specs.List.{filter_map, range_with_len, cons_option}
use Rattle.std.proofs.Common.{◌≡◌, ℕ, ◌+◌, ◌*◌, ◌≤◌, true, inl, inr, refl, sym, ap, subst, arith, List, [], ◌∷◌, ◌++◌, All, Option, Some, None, Result, Ok, Err}
use Rattle.std.proofs.lemmas.Bool.{and_parts, leb-true}
use Rattle.std.proofs.lemmas.Option.{none-some}
use Rattle.std.proofs.lemmas.List.Elements.{All-head, All-tail}
use Rattle.std.proofs.lemmas.List.FromFn.{length-range_with_len}
use Rattle.messages.specs.rule.Shapes.{ShapeFields, IsShape}
use Rattle.messages.specs.rule.Messages.{addressee, host_of, is_within, sending}
use Rattle.messages.specs.declared.refusal.StepError.{StepError}
use Rattle.messages.specs.declared.refusal.StepError.TheVariants.{Stranger}
use Rattle.messages.specs.declared.actor.Actor.TheVariants.{Server as AServer}
use Rattle.messages.specs.declared.message.Message.{Message}
use Rattle.messages.specs.declared.message.Message.TheVariants.{Request, Grant, Revoke, Taken, Released, Conflict, Deny, Freed, Hello, Report}
use Rattle.messages.specs.declared.event.Event.{Event}
use Rattle.messages.specs.declared.event.Event.TheVariants.{AtServer, Deliver}
use Rattle.messages.specs.declared.event.ServerInput.TheVariants.{Resend, Learn}
use Rattle.messages.specs.declared.entry.Entry.{Entry}
use Rattle.messages.specs.declared.outcome.Outcome.{Outcome}
use Rattle.token_server.proofs.CareLaws.{All-right, active-each}
use Rattle.token_server.specs.declared.event.ServerEvent.{ServerEvent}
use Rattle.token_server.specs.declared.event.ServerEvent.TheVariants as server
use Rattle.token_server.specs.declared.token_queue.token_request.TokenRequest.{TokenRequest}
use Rattle.token_server.specs.rule.Rows.{Row, outstanding_of}
use Rattle.token_server.specs.rule.State.{ServerState, forgotten, requests, requeued}
use Rattle.token_server.specs.rule.Serve.{serve}
use Rattle.token_server.specs.rule.Resends.{outstanding, sending_first}
use Rattle.token_server.specs.rule.Server.{Change, change, delivered, then_serve, server_rule}
use Rattle.cluster_core.specs.rule.World.{WorldState, first_world, has_node, was_declared}
use Rattle.cluster_core.specs.rule.Next.{is_true}
use Rattle.cluster_core.specs.rule.Runs.{Leads}
use Rattle.cluster_core.specs.rule.Serving.{IsServing}
use Rattle.cluster_core.proofs.common.Refusals.{ok_is, unless_refused}
use Rattle.cluster_core.proofs.rounds.ServerSends.{IsOfServer, server_sends}
use Rattle.cluster_core.proofs.runs.Runs.{good_run}
use Rattle.cluster_core.proofs.steps.NodeTokens.{only_all, only_mapped}
use Rattle.cluster_core.proofs.steps.Requested.{change_done}
use Rattle.cluster_core.proofs.steps.ServerRows.{IsCurrent}
use Rattle.cluster_core.proofs.tokens.Present.{Was, Present}
use Rattle.cluster_core.proofs.tokens.Talks.{IsCommandTo}
use Rattle.progress.proofs.Answered.{delivered_brings}
use Rattle.progress.proofs.Brought.{brings, Brings, comes_by, learned_costs, learned_each, requeued_costs, requeued_each}
use Rattle.progress.proofs.Changing.{IsAged}
use Rattle.progress.proofs.Costs.{most_of, for_each, cost, each_both}
use Rattle.progress.proofs.Denying.{IsDenialAtMost, delivered_denies}
use Rattle.progress.proofs.Fitting.{fits}
use Rattle.progress.proofs.Paying.{serve_pays}
use Rattle.progress.proofs.Possible.{addressee_file}
use Rattle.progress.proofs.StillServing.{still_serving}
use Rattle.progress.proofs.Weights.{total, total_both, weight_of, event_weight, freed_by, wakes, asked_by, asks}
use Rattle.progress.proofs.Sums.{IsAmong}

-- as many commands are outstanding at most as there are nodes
few_mapped : (f : ℕ → Option Message) (ns : List ℕ) → length (filter_map f ns) ≤ length ns
few_mapped f [] = omega arith
few_mapped f (n ∷ ns) = elim (f n) as (λ o. length (cons_option o (filter_map f ns)) ≤ length (n ∷ ns)) [
  | None ↦ let rest = few_mapped f ns in omega arith
  | Some m ↦ let rest = few_mapped f ns in omega arith
]

-- what a server sends weighs no more than three a message, and is neither a Request nor a Freed
record OfServer (nodes : ℕ) (ms : List Message) : Type 0 where
  weighs : total (weight_of nodes) ms ≤ 3 * length ms
  asking : total (asked_by nodes) ms ≤ 0
  frees : total freed_by ms ≤ 0

of_server : (nodes : ℕ) (ms : List Message) → All IsOfServer ms → OfServer nodes ms
of_server nodes [] all = record { weighs = omega arith; asking = omega arith; frees = omega arith }
of_server nodes (m ∷ ms) all = by m (All-head IsOfServer m ms all) (of_server nodes ms (All-tail IsOfServer m ms all))
  where
    by : (x : Message) → IsOfServer x → OfServer nodes ms → OfServer nodes (x ∷ ms)
    by (Grant f number call mode span) of rest = let w = rest.weighs in let q = rest.asking in let r = rest.frees in record { weighs = omega arith; asking = omega arith; frees = omega arith }
    by (Revoke f number holder call mode wanted) of rest = let w = rest.weighs in let q = rest.asking in let r = rest.frees in record { weighs = omega arith; asking = omega arith; frees = omega arith }
    by (Deny f call holder number lock) of rest = let w = rest.weighs in let q = rest.asking in let r = rest.frees in record { weighs = omega arith; asking = omega arith; frees = omega arith }
    by (Hello f number holder) of rest = let w = rest.weighs in let q = rest.asking in let r = rest.frees in record { weighs = omega arith; asking = omega arith; frees = omega arith }
    by m of rest = absurd of

-- three times as much for each
each_scaled : (u : ℕ) (rs : List TokenRequest) → for_each (3 * u) rs ≡ 3 * for_each u rs
each_scaled u [] = omega arith
each_scaled u (r ∷ rs) = let rest = each_scaled u rs in omega arith

module _ (shape : ShapeFields) (is : IsShape shape) (past : List Entry) (w : WorldState) (before : Leads (first_world shape) past w) (file : ℕ) where
  pub p : Present w
  p = (good_run shape past w is before).1

  abbrev t : ServerState
  t = w.servers file

  abbrev k : ℕ
  k = w.shape.nodes

  abbrev u : ℕ
  u = 3 * most_of k

  aged : IsAged t
  aged = record {
    rows = λ n row there. ((p.serves file).talks n).aged row there;
    requests = active-each (IsCurrent t) t (p.serves file).held;
  }

  -- a server that serves goes on, and each new command is paid for
  record Served (first : List Message) (t1 : ServerState) (done : ServerState × Outcome) : Type 0 where
    paid : 3 * cost k done.0 + total (weight_of k) done.1.sends ≤ 3 * cost k t1 + total (weight_of k) first
    fewer : for_each u (requests done.0) ≤ for_each u (requests t1)

  served_goes : (first : List Message) (t1 : ServerState) (done : ServerState × Outcome) → IsServing done.0 → All IsOfServer done.1.sends → sending_first first (serve t1) ≡ Ok done → Served first t1 done
  served_goes first t1 done serving own h = by (serve t1) refl h
    where
      by : (x : Result (ServerState × List Message) StepError) → serve t1 ≡ x → sending_first first x ≡ Ok done → Served first t1 done
      by (Err e) made h = absurd (cc)
      by (Ok end) made h =
          let pair : (end.0, sending (first ++ end.1)) ≡ done = ok_is (end.0, sending (first ++ end.1)) done h in
          let here : IsServing end.0 = subst (λ (d : ServerState × Outcome). IsServing d.0) (sym pair) serving in
          let all : All IsOfServer (first ++ end.1) = subst (λ (d : ServerState × Outcome). All IsOfServer d.1.sends) (sym pair) own in
          let pays = serve_pays k t1 end.0 end.1 here made in
          let light = of_server k end.1 (All-right IsOfServer first end.1 all) in
          let both = total_both (weight_of k) first end.1 in
          let less = pays.paid in
          let three = light.weighs in
          let few = pays.requests_are u in
          subst (Served first t1) pair (record { paid = omega arith; fewer = few })

  own_sends : (step : ServerEvent) (done : ServerState × Outcome) → server_rule t step ≡ Ok done → OfServer k done.1.sends
  own_sends step done made = of_server k done.1.sends (server_sends w p file step done made)

  waiting_scaled : 3 * for_each (most_of k) t.waiting ≤ for_each u (requests t)
  waiting_scaled =
      let scaled = each_scaled (most_of k) t.waiting in
      let all = each_both u t.active (t.queue ++ t.waiting) in
      let more = each_both u t.queue t.waiting in
      omega arith

  -- what a step of the server comes to
  pub record Steps (event : Event) (done : ServerState × Outcome) : Type 0 where
    pub asking : for_each u (requests done.0) + total (asked_by k) done.1.sends ≤ for_each u (requests t) + asks k event
    pub frees : total freed_by done.1.sends ≤ 0
    pub weighs : (3 * cost k done.0 + total (weight_of k) done.1.sends) + 1 ≤ (3 * cost k t + event_weight k event) + wakes event * for_each u (requests t)

  pub resend_steps : (f : ℕ) (done : ServerState × Outcome) → server_rule t (server.Input Resend) ≡ Ok done → Steps (AtServer f Resend) done
  resend_steps f done made =
      let serving = still_serving shape is past w before file (server.Input Resend) done tt made in
      let all = server_sends w p file (server.Input Resend) done made in
      let own = own_sends (server.Input Resend) done made in
      let goes = served_goes (outstanding t) (requeued t) done serving all made in
      let few = few_mapped (λ n. outstanding_of (t.rows n)) (range_with_len 1 t.shape.nodes) in
      let long = length-range_with_len 1 t.shape.nodes in
      let nodes : t.shape.nodes ≡ k = ap (λ (x : ShapeFields). x.nodes) (p.serves file).shape_is in
      let light = again_light in
      let more = requeued_costs k t in
      let same = requeued_each u t in
      let waits = waiting_scaled in
      let paid = goes.paid in
      let fewer = goes.fewer in
      let asks_none = own.asking in
      record { asking = omega arith; frees = own.frees; weighs = omega arith }
    where
      again : All IsOfServer (outstanding t)
      again = only_all IsOfServer (outstanding t) (only_mapped IsOfServer (λ n. outstanding_of (t.rows n)) (range_with_len 1 t.shape.nodes) (λ n m there. found n (t.rows n) refl m there))
        where
          command : (n i l : ℕ) (m : Message) → IsCommandTo file n i l m → IsOfServer m
          command n i l (Grant f number call mode span) to = tt
          command n i l (Revoke f number holder call mode wanted) to = tt
          command n i l (Hello f number holder) to = tt
          command n i l m to = absurd to

          found : (n : ℕ) (o : Option Row) → t.rows n ≡ o → (m : Message) → outstanding_of o ≡ Some m → IsOfServer m
          found n None there m h = absurd (none-some m h)
          found n (Some row) there m h = command n row.incarnation row.number m (((p.serves file).talks n).waits row m there h).1

      again_light : total (weight_of k) (outstanding t) ≤ 3 * length (outstanding t)
      again_light = (of_server k (outstanding t) again).weighs

  pub learn_steps : (f n i : ℕ) (done : ServerState × Outcome) → is_true w (Learn n i) ≡ true → server_rule t (server.Input (Learn n i)) ≡ Ok done → Steps (AtServer f (Learn n i)) done
  learn_steps f n i done known made =
      let parts = and_parts (has_node w n) (was_declared w n i) known in
      let bounds = and_parts (nat_le 1 n) (nat_le n k) parts.0 in
      let within : IsAmong k n = (leb-true 1 n bounds.0, leb-true n k bounds.1) in
      let serving = still_serving shape is past w before file (server.Input (Learn n i)) done tt made in
      let all = server_sends w p file (server.Input (Learn n i)) done made in
      let own = own_sends (server.Input (Learn n i)) done made in
      let goes = served_goes [] (requeued (forgotten t n i)) done serving all (unless_refused (not (is_within t.shape.nodes n)) _ done Stranger made).1 in
      let more = learned_costs k t n i within aged in
      let same = learned_each u t n i in
      let waits = waiting_scaled in
      let paid = goes.paid in
      let fewer = goes.fewer in
      let asks_none = own.asking in
      record { asking = omega arith; frees = own.frees; weighs = omega arith }

  -- what a message brings is less than its weight, but for those that wait
  brought : (m : Message) (f : ℕ) → addressee m ≡ AServer f → (3 * brings k t m + 2 ≤ weight_of k m + freed_by m * for_each u (requests t)) × (comes_by u m ≤ asked_by k m)
  brought (Request g call blocking mode wanted) f to = (omega arith, omega arith)
  brought (Taken g number call) f to = (omega arith, omega arith)
  brought (Released g number holder call span) f to = (omega arith, omega arith)
  brought (Conflict g number holder call lock) f to = (omega arith, omega arith)
  brought (Freed g holder) f to = ((let waits = waiting_scaled in omega arith), omega arith)
  brought (Report g number holder runs) f to = (omega arith, omega arith)
  brought m f to = absurd (cc)

  first_light : (o : Option Change) → IfSome o (λ (c : Change). IsDenialAtMost c.1) → IfSome o (λ (c : Change). total (weight_of k) c.1 ≤ 1)
  first_light None denies = tt
  first_light (Some c) denies = by c.1 denies
    where
      by : (ms : List Message) → IsDenialAtMost ms → total (weight_of k) ms ≤ 1
      by [] denies = omega arith
      by (Deny f call holder number lock ∷ []) denies = omega arith
      by (m ∷ ms) denies = absurd denies

  pub message_steps : (m : Message) (done : ServerState × Outcome) → Was w m → addressee m ≡ AServer file → server_rule t (server.Deliver m) ≡ Ok done → Steps (Deliver m) done
  message_steps m done sent to made = unless (change t m) refl made
    where
      own : OfServer k done.1.sends
      own = own_sends (server.Deliver m) done made

      brought_here : (3 * brings k t m + 2 ≤ weight_of k m + freed_by m * for_each u (requests t)) × (comes_by u m ≤ asked_by k m)
      brought_here = brought m file to

      nothing : (t, sending []) ≡ done → Steps (Deliver m) done
      nothing same =
          let b = brought_here.0 in
          subst (Steps (Deliver m)) same (record { asking = omega arith; frees = omega arith; weighs = omega arith })

      changes : is_within t.shape.nodes (host_of m).node ≡ true → (o : Option Change) → delivered t m ≡ o → then_serve t (Ok o) ≡ Ok done → Steps (Deliver m) done
      changes within None gives h = nothing (ok_is (t, sending []) done h)
      changes within (Some c) gives h =
          let bounds = and_parts (nat_le 1 (host_of m).node) (nat_le (host_of m).node t.shape.nodes) within in
          let inside : IsAmong k (host_of m).node = (leb-true 1 (host_of m).node bounds.0, subst (λ (x : ShapeFields). (host_of m).node ≤ x.nodes) (p.serves file).shape_is (leb-true (host_of m).node t.shape.nodes bounds.1)) in
          let fit = fits shape is past w before file m sent (sym (addressee_file m file to)) in
          let b = subst (λ (o : Option Change). IfSome o (Brings k t m)) gives (delivered_brings k t aged m inside within fit) in
          let light = subst (λ (o : Option Change). IfSome o (λ (x : Change). total (weight_of k) x.1 ≤ 1)) gives (first_light (delivered t m) (delivered_denies t m)) in
          let serving = still_serving shape is past w before file (server.Deliver m) done sent made in
          let goes = served_goes c.1 c.0 done serving (server_sends w p file (server.Deliver m) done made) h in
          let costs = b.costs_are in
          let fewer = b.requests_are u in
          let paid = goes.paid in
          let few = goes.fewer in
          let here = brought_here.0 in
          let coming = brought_here.1 in
          let asks_none = own.asking in
          record { asking = omega arith; frees = own.frees; weighs = omega arith }

      unless : (r : Result (Option Change) StepError) → change t m ≡ r → then_serve t r ≡ Ok done → Steps (Deliver m) done
      unless (Err e) gives h = absurd (cc)
      unless (Ok o) gives h =
          let is_done = change_done t m o gives in
          elim is_done.1 [
            | inl none ↦ nothing (ok_is (t, sending []) done (subst (λ (x : Option Change). then_serve t (Ok x) ≡ Ok done) (sym none) h))
            | inr live ↦ changes is_done.0 o live.1 h
          ]
