-- The tokens of two nodes never conflict, after any run.
use Rattle.std.proofs.Common.{◌≡◌, ℕ, ◌+◌, ◌<◌, ◌≤◌, Bool, true, false, ◌==◌, not, nat_le, nat_lt, ◌&&◌, if◌then◌else◌, ◌⊎◌, inl, inr, refl, sym, ◌∙◌, ap, subst, arith, List, [], ◌∷◌, ◌++◌, append_assoc, append-nil, All, Option, Some, None, Result, Ok, Err}
use Rattle.std.proofs.lemmas.Bool.{and_parts, and_from, ltb-true, not-false, cases_eq}
use Rattle.std.specs.List.{range_with_len}
use Rattle.std.proofs.lemmas.List.Elements.{All-nil, All-head, All-tail, All-weaker}
use Rattle.std.proofs.lemmas.Option.{none-some}
use Rattle.model.specs.declared.call.CallId.{CallId}
use Rattle.model.specs.declared.host.Host.{Host}
use Rattle.model.specs.declared.op.Op.{Op}
use Rattle.token_set.specs.rule.Tokens.{Token, no_token}
use Rattle.messages.specs.rule.Shapes.{ShapeFields, begin_of}
use Rattle.messages.specs.rule.Messages.{addressee, host_of, file_of, is_among, is_within, sending, runs_of}
use Rattle.messages.specs.declared.actor.Actor.{Actor}
use Rattle.messages.specs.declared.actor.Actor.TheVariants.{Node as ANode, Server as AServer}
use Rattle.messages.specs.declared.message.Message.{Message}
use Rattle.messages.specs.declared.message.Message.TheVariants.{Grant, Revoke, Deny, Hello, Report}
use Rattle.messages.proofs.Reports.{Ends, tells_token}
use Rattle.messages.specs.declared.event.Event.{Event}
use Rattle.messages.specs.declared.event.Event.TheVariants.{AtNode, AtServer, Deliver, Member}
use Rattle.messages.specs.declared.event.NodeInput.{NodeInput}
use Rattle.messages.specs.declared.event.NodeInput.TheVariants.{Call, Interrupt, Retry}
use Rattle.messages.specs.declared.event.ServerInput.{ServerInput}
use Rattle.messages.specs.declared.event.ServerInput.TheVariants.{Resend, Learn}
use Rattle.messages.specs.declared.entry.Entry.{Entry}
use Rattle.messages.specs.declared.outcome.Outcome.{Outcome}
use Rattle.messages.specs.declared.refusal.StepError.{StepError}
use Rattle.messages.specs.declared.refusal.StepError.TheVariants.{Stranger}
use Rattle.node_core.specs.declared.event.NodeEvent.TheVariants as node
use Rattle.node_core.specs.rule.State.{FileState, NodeState, Effect, host, open_call, open_call_of, outcome, quiet, sent as sent_as}
use Rattle.node_core.specs.declared.open_call.OpenCall.{OpenCall}
use Rattle.node_core.specs.rule.Try.{tried_if}
use Rattle.node_core.specs.rule.Calls.{after_call, called}
use Rattle.node_core.specs.rule.Commands.{renewed, in_epoch, done_in, told, delivered, deliver_rule}
use Rattle.node_core.specs.rule.Interrupts.{interrupted}
use Rattle.node_core.specs.rule.Node.{node_rule}
use Rattle.token_server.specs.declared.event.ServerEvent.TheVariants as server
use Rattle.token_server.specs.declared.token_queue.token_request.TokenRequest.{TokenRequest}
use Rattle.token_server.specs.rule.State.{ServerState, begin, forgotten, requeued}
use Rattle.token_server.proofs.CareLaws.{active-each}
use Rattle.token_server.specs.rule.Serve.{served, with_more, and_then, each_served, serve}
use Rattle.token_server.specs.rule.Rows.{outstanding_of}
use Rattle.token_server.specs.rule.Resends.{outstanding, sending_first}
use Rattle.token_server.specs.rule.Server.{server_rule}
use Rattle.cluster_core.specs.rule.World.{WorldState, first_world, is_alive, has_node, has_file, was_declared}
use Rattle.cluster_core.specs.rule.Next.{is_known, is_fenced, is_stopped, has_actor, recorded, with_node, with_server, declared, restarted, failed, delivered as routed, taken, next}
use Rattle.cluster_core.specs.rule.Safe.{Excludes, AreApart}
use Rattle.cluster_core.specs.rule.Numbers.{is_command, number_of, NumbersTellCommands}
use Rattle.cluster_core.proofs.common.Choices.{at_number}
use Rattle.cluster_core.proofs.common.Refusals.{ok_is, unless_refused}
use Rattle.cluster_core.proofs.steps.KnownMessages.{sent_before, sent_now, sent_either}
use Rattle.cluster_core.proofs.steps.NodeSteps.{call_done, deliver_done, interrupt_done, retry_done, told_either}
use Rattle.cluster_core.proofs.steps.Steps.{next_taken, next_unfenced, node_step, server_step, member_step}
use Rattle.cluster_core.proofs.tokens.Lowering.{IsWithin, within_itself, within_excludes}
use Rattle.cluster_core.proofs.tokens.Talks.{Sent, IsHostOf, IsCommandTo, IsAnswerOf, same_answer_of, no_answer, command_host, answer_host, owing_nothing, IsLast, Talk, MayHold, counted_live}
use Rattle.cluster_core.proofs.tokens.Epochs.{EndsOf, entered_ends, begin_of_upto}
use Rattle.cluster_core.proofs.tokens.Starts.{failed_present, started_present}
use Rattle.cluster_core.proofs.tokens.TalkMoves.{NoNews, talk-no_news, may_hold-no_news, talk-renewed, may_hold-renewed, IsTelling, talk-tells, may_hold-tells, IsDoing, done_file, talk-does, may_hold-does}
use Rattle.cluster_core.proofs.tokens.RowMoves.{IsCommanding}
use Rattle.cluster_core.proofs.steps.NodeTokens.{Only, IsAsking, asking_host, asking_command, asking_answer, AsksFrom, Does, Receives, called_asks, quiet_asks, tried_if_asks, denied_asks, interrupted_asks, grant_receives, revoke_receives, first_among, only_none, only_one, only_mapped}
use Rattle.cluster_core.proofs.steps.ServerRows.{IsCurrent, Serves, forgets, requeues, IsDenial, denial_command, denial_answer, denial_known, AllTold, Commands, Served, Keeps, Serving, serve_serves, serves_one, receives, outstanding_sent}
use Rattle.cluster_core.proofs.tokens.Members.{declared_present, restarted_present, silent_present}
use Rattle.cluster_core.proofs.tokens.Present.{Was, Holding, StayApart, IsBegun, begun_as, Present, serves-no_news, apart-no_news, nothing_new, files_no_news, commanded_serves, commanded_apart}

-- a host that is the node in an incarnation that it has come to
known_host : (w : WorldState) (h : Host) (n i : ℕ) → IsHostOf n i h → IsBegun w (record { node = n; incarnation = i }) → IsBegun w h
known_host w h n i is known = begun_as w (record { node = n; incarnation = i }) h (sym is.0) (sym is.1) known

-- the token is within one that the node may hold
abbrev IsHeldWithin : Sent → (ℕ → NodeState) → ℕ → ℕ → Token → Type 0
IsHeldWithin was nodes file n t = (x : Token) × Holding was nodes file n x × IsWithin t x

-- the world with that server, in which these messages were sent as well
abbrev served_by : WorldState → ℕ → ServerState → List Message → WorldState
served_by w file v sends = record (with_server w file v) { sent = w.sent ++ sends }

-- a server goes on: it sends what serving a request sends, may resend what was sent before, and may deny calls
module _ (w : WorldState) (p : Present w) (file : ℕ) (v : ServerState) (sends fresh : List Message) (again : Only (λ m. (Was w m ⊎ IsDenial (IsBegun w) m) ⊎ (is_among fresh m ≡ true)) sends) (said : Only (λ m. is_among sends m ≡ true) fresh) where
  abbrev later : WorldState
  later = served_by w file v sends

  kept : (m : Message) → Was w m → Was later m
  kept = sent_before w.sent sends

  either : (m : Message) → Was later m → (Was w m ⊎ IsDenial (IsBegun w) m) ⊎ (is_among fresh m ≡ true)
  either m h = elim (sent_either w.sent sends m h) [ inl before ↦ inl (inl before) | inr new ↦ again m new ]

  -- a message of a kind of which no denial is
  unless_denial : (Q : Message → Type 0) → ((m : Message) → IsDenial (IsBegun w) m → Q m → ⊥) → (m : Message) → Was later m → Q m → Was w m ⊎ (is_among fresh m ≡ true)
  unless_denial Q none m h is = elim (either m h) [
    | inl told ↦ elim told [ inl before ↦ inl before | inr denial ↦ absurd (none m denial is) ]
    | inr new ↦ inr new
  ]

  command_either : (f n i k : ℕ) (m : Message) → Was later m → IsCommandTo f n i k m → Was w m ⊎ (is_among fresh m ≡ true)
  command_either f n i k = unless_denial (IsCommandTo f n i k) (denial_command (IsBegun w) f n i k)

  answer_either : (f n i k : ℕ) (m : Message) → Was later m → IsAnswerOf f n i k m → Was w m ⊎ (is_among fresh m ≡ true)
  answer_either f n i k = unless_denial (IsAnswerOf f n i k) (denial_answer (IsBegun w) f n i k)

  known_either : ((m : Message) → is_among fresh m ≡ true → IsBegun w (host_of m)) → (m : Message) → Was later m → IsBegun w (host_of m)
  known_either new_known m h = elim (either m h) [
    | inl told ↦ elim told [ inl before ↦ p.no_future m before | inr denial ↦ denial_known (IsBegun w) m denial ]
    | inr new ↦ new_known m new
  ]

  put : Serves (Was later) w.nodes w.shape file v → ((f n : ℕ) → (f ≡ file → ⊥) → NoNews (Was w) (Was later) f n (w.nodes n).incarnation) → (f : ℕ) → Serves (Was later) w.nodes w.shape f (later.servers f)
  put here news f = at_number f file (λ b. Serves (Was later) w.nodes w.shape f (if b then v else w.servers f))
      (λ same. subst (λ (k : ℕ). Serves (Was later) w.nodes w.shape k v) (sym same) here)
      (λ other. serves-no_news (Was w) (Was later) w.nodes w.shape f (w.servers f) (λ n. news f n other) (p.serves f))

  still : Serves (Was w) w.nodes w.shape file v → fresh ≡ [] → Present later
  still serves none =
      let nowhere : Only (λ m. ⊥) fresh = subst (Only (λ m. ⊥)) (sym none) (only_none (λ m. ⊥)) in
      let news : (f n : ℕ) → NoNews (Was w) (Was later) f n (w.nodes n).incarnation = λ f n. record {
        kept = kept;
        commands = λ i k m h to. elim (command_either f n i k m h to) [ inl before ↦ before | inr new ↦ absurd (nowhere m new) ];
        answers = λ k m h of. elim (answer_either f n (w.nodes n).incarnation k m h of) [ inl before ↦ before | inr new ↦ absurd (nowhere m new) ];
      } in
      record {
        named = p.named;
        no_future = known_either (λ m new. absurd (nowhere m new));
        serves = put (serves-no_news (Was w) (Was later) w.nodes w.shape file v (news file) serves) (λ f n other. news f n);
        apart = λ f. apart-no_news (Was w) (Was later) w.nodes w.shape f (news f) (p.apart f);
      }

  commands : Commands (Was w) w.nodes w.shape file v fresh → Present later
  commands g =
      let now_all : Only (λ m. m ≡ g.command) fresh = subst (Only (λ m. m ≡ g.command)) (sym g.sent) (only_one (λ m. m ≡ g.command) g.command refl) in
      let there : is_among fresh g.command ≡ true = subst (λ (xs : List Message). is_among xs g.command ≡ true) (sym g.sent) (first_among g.command []) in
      let news : IsCommanding (Was w) (Was later) g.command = record {
        kept = kept;
        commands = λ f n i k m h to. elim (command_either f n i k m h to) [ inl before ↦ inl before | inr new ↦ inr (now_all m new) ];
        answers = λ f n i k m h of. elim (answer_either f n i k m h of) [
          | inl before ↦ before
          | inr new ↦ absurd (no_answer file g.node g.row.incarnation (g.row.number + 1) f n i k g.command g.to (subst (IsAnswerOf f n i k) (now_all m new) of))
        ];
        sent = sent_now w.sent sends g.command (said g.command there);
      } in
      let name = (g.serves.talks g.node).named g.row g.there in
      let host = command_host file g.node g.row.incarnation (g.row.number + 1) g.command g.to in
      let live : IsBegun w (host_of g.command) = begun_as w (host_of name.0) (host_of g.command) (name.2.0 ∙ sym host.0) (name.2.1 ∙ sym host.1) (p.no_future name.0 name.1) in
      record {
        named = p.named;
        no_future = known_either (λ m new. subst (λ (x : Message). IsBegun w (host_of x)) (sym (now_all m new)) live);
        serves = put (commanded_serves (Was w) (Was later) w.nodes w.shape file v fresh g news) (files_no_news (Was w) (Was later) w.nodes w.shape file v fresh g news);
        apart = λ f. elim (cases_eq f file) [
          | inl same ↦ subst (λ (k : ℕ). StayApart (Was later) w.nodes w.shape k) (sym same) (commanded_apart (Was w) (Was later) w.nodes w.shape file v fresh g news (p.apart file))
          | inr other ↦ apart-no_news (Was w) (Was later) w.nodes w.shape f (λ n. files_no_news (Was w) (Was later) w.nodes w.shape file v fresh g news f n other) (p.apart f)
        ];
      }

  pub server_present : Served (Was w) w.nodes w.shape file v fresh → Present later
  server_present (inl s) = still s.0 s.1
  server_present (inr g) = commands g

-- a server that resends messages or denies calls, and does no more
quiet_told : (w : WorldState) (p : Present w) (file : ℕ) (v : ServerState) (before : List Message) → Only (λ m. Was w m ⊎ IsDenial (IsBegun w) m) before → Serves (Was w) w.nodes w.shape file v → Present (served_by w file v before)
quiet_told w p file v before old serves =
    server_present w p file v before [] (λ m there. inl (old m there)) (only_none (λ m. is_among before m ≡ true)) (inl (serves, refl))

-- the server that was put there
here : (w : WorldState) (file : ℕ) (v : ServerState) (sends : List Message) → (served_by w file v sends).servers file ≡ v
here w file v sends = at_number file file (λ b. (if b then v else w.servers file) ≡ v) (λ same. refl) (λ other. absurd (other refl))

-- two steps of one server
told_twice : (w : WorldState) (file : ℕ) (u v : ServerState) (before sends : List Message) → served_by (served_by w file u before) file v sends ≡ served_by w file v (before ++ sends)
told_twice w file u v before sends = λ i. record w { servers = λ f. either (f == file) (w.servers f) i; sent = append_assoc w.sent before sends i }
  where
    either : (b : Bool) (x : ServerState) → (if b then v else (if b then u else x)) ≡ (if b then v else x)
    either true x = refl
    either false x = refl

-- one request is served after the other
each_present : (rs : List TokenRequest) (w : WorldState) (p : Present w) (file : ℕ) (s v : ServerState) (sends : List Message) → w.servers file ≡ s → AllTold s → All (IsCurrent s) rs → each_served rs s ≡ Ok (v, sends) → Present (served_by w file v sends)
each_present [] w p file s v sends there heard current is =
    let P : ServerState × List Message → Type 0 = λ d. Present (served_by w file d.0 d.1) in
    subst P (ok_is (s, []) (v, sends) is) (quiet_told w p file s [] (only_none (λ m. Was w m ⊎ IsDenial (IsBegun w) m)) (subst (Serves (Was w) w.nodes w.shape file) there (p.serves file)))
each_present (r ∷ rest) w p file s v sends there heard current is = one (served s r) refl is (each_present rest)
  where
    serves : Serves (Was w) w.nodes w.shape file s
    serves = subst (Serves (Was w) w.nodes w.shape file) there (p.serves file)

    -- the other requests are served in the world after the first
    Others : Type 0
    Others = (x : WorldState) (q : Present x) (f : ℕ) (u z : ServerState) (ms : List Message) → x.servers f ≡ u → AllTold u → All (IsCurrent u) rest → each_served rest u ≡ Ok (z, ms) → Present (served_by x f z ms)

    more : (u : ServerState) (first : List Message) → Present (served_by w file u first) → Keeps s u → (x : Result (ServerState × List Message) StepError) → each_served rest u ≡ x → with_more first x ≡ Ok (v, sends) → Others → Present (served_by w file v sends)
    more u first q keeps (Err e) is h others = absurd (cc)
    more u first q keeps (Ok done) is h others =
        let P : ServerState × List Message → Type 0 = λ d. Present (served_by w file d.0 d.1) in
        let after = others (served_by w file u first) q file u done.0 done.1 (here w file u first) (keeps.told heard) (All-weaker (IsCurrent s) (IsCurrent u) keeps.requests rest (All-tail (IsCurrent s) r rest current)) is in
        subst P (ok_is (done.0, first ++ done.1) (v, sends) h) (subst Present (told_twice w file u done.0 first done.1) after)

    one : (x : Result (ServerState × List Message) StepError) → served s r ≡ x → and_then x (each_served rest) ≡ Ok (v, sends) → Others → Present (served_by w file v sends)
    one (Err e) is h others = absurd (cc)
    one (Ok done) is h others =
        let both = serves_one (Was w) w.nodes w.shape file s serves heard done.0 done.1 r (All-head (IsCurrent s) r rest current) is in
        let q = server_present w p file done.0 done.1 done.1 (λ m new. inr new) (λ m new. new) both.0 in
        more done.0 done.1 q both.1 (each_served rest done.0) refl h others

-- a server's step that first sends again what was sent before, or denies calls
pub again_present : (w : WorldState) (p : Present w) (file : ℕ) (v : ServerState) (event : Event) (o : Outcome) (before fresh : List Message) → o.sends ≡ before ++ fresh → Only (λ m. Was w m ⊎ IsDenial (IsBegun w) m) before → Serving (Was w) w.nodes w.shape file v fresh → Present (recorded (with_server w file v) event 0 o).0
again_present w p file v event o before fresh is old s =
    let P : List Message → Type 0 = λ ms. Present (served_by w file v ms) in
    let q : Present (served_by w file v o.sends) = subst P (sym is) (begun s) in
    record { named = q.named; no_future = q.no_future; serves = q.serves; apart = q.apart }
  where
    begun : Serving (Was w) w.nodes w.shape file v fresh → Present (served_by w file v (before ++ fresh))
    begun (inl still) =
        let P : List Message → Type 0 = λ ms. Present (served_by w file v (before ++ ms)) in
        let Q : List Message → Type 0 = λ ms. Present (served_by w file v ms) in
        subst P (sym still.1) (subst Q (sym (append-nil before)) (quiet_told w p file v before old still.0))
    begun (inr go) =
        let u = go.0 in
        let first = quiet_told w p file u before old go.1 in
        subst Present (told_twice w file u v before fresh) (each_present u.active (served_by w file u before) first file u v fresh (here w file u before) go.2 (active-each (IsCurrent u) u go.1.held) go.3)

-- a node's step
module _ (w : WorldState) (p : Present w) (n : ℕ) (u : NodeState) (event : Event) (o : Outcome) (here : is_alive w n ≡ true) (node_is : u.node ≡ (w.nodes n).node) (incarnation_is : u.incarnation ≡ (w.nodes n).incarnation) where
  abbrev after : WorldState
  after = (recorded (with_node w n u) event 0 o).0

  abbrev known : ℕ → ℕ → FileState
  known m file = owing_nothing ((w.nodes m).files file)

  -- what has to be shown of the step, for each file
  pub record Goes : Type 0 where
    pub young : (m : Message) → is_among o.sends m ≡ true → IsBegun w (host_of m)
    pub talk : (file : ℕ) → Talk (Was after) file n (w.nodes n).incarnation (owing_nothing (u.files file)) ((w.servers file).rows n) ((w.servers file).dead n) (begin (w.servers file))
    pub no_more : (file : ℕ) (t : Token) → MayHold (Was after) file n (w.nodes n).incarnation (owing_nothing (u.files file)) t → IsHeldWithin (Was w) w.nodes file n t
    pub others : (file m : ℕ) → (m ≡ n → ⊥) → NoNews (Was w) (Was after) file m (w.nodes m).incarnation

  same_incarnation : (m : ℕ) → (after.nodes m).incarnation ≡ (w.nodes m).incarnation
  same_incarnation m = at_number m n (λ b. (if b then u else w.nodes m).incarnation ≡ (w.nodes m).incarnation)
      (λ same. incarnation_is ∙ ap (λ (k : ℕ). (w.nodes k).incarnation) (sym same))
      (λ other. refl)

  pub node_present : Goes → Present after
  node_present g = record {
    named = λ m. at_number m n (λ b. (if b then u else w.nodes m).node ≡ m) (λ same. node_is ∙ p.named n ∙ sym same) (λ other. p.named m);
    no_future = λ m h.
        let k = (host_of m).node in
        let there : IsBegun w (host_of m) = elim (sent_either w.sent o.sends m h) [ inl before ↦ p.no_future m before | inr new ↦ g.young m new ] in (
          subst (λ (i : ℕ). (host_of m).incarnation ≤ i) (sym (same_incarnation k)) there.0,
          λ is. there.1 (is ∙ same_incarnation k),
        );
    serves = λ file.
        let s = p.serves file in
        record {
          file_is = s.file_is;
          shape_is = s.shape_is;
          from = s.from;
          talks = λ m. at_number m n (λ b. Talk (Was after) file m (if b then u else w.nodes m).incarnation (owing_nothing ((if b then u else w.nodes m).files file)) ((w.servers file).rows m) ((w.servers file).dead m) (begin (w.servers file)))
              (λ same. subst (λ (k : ℕ). Talk (Was after) file k u.incarnation (owing_nothing (u.files file)) ((w.servers file).rows k) ((w.servers file).dead k) (begin (w.servers file))) (sym same)
              (subst (λ (i : ℕ). Talk (Was after) file n i (owing_nothing (u.files file)) ((w.servers file).rows n) ((w.servers file).dead n) (begin (w.servers file))) (sym incarnation_is) (g.talk file)))
              (λ other. talk-no_news (Was w) (Was after) file m (w.nodes m).incarnation (known m file) ((w.servers file).rows m) ((w.servers file).dead m) (begin (w.servers file)) (g.others file m other) (s.talks m));
          held = s.held;
        };
    apart = λ file l m t x l_in m_in other a b.
        let y = before file l t a in
        let z = before file m x b in
        within_excludes t x y.0 z.0 y.2 z.2 (p.apart file l m y.0 z.0 l_in m_in other y.1 z.1);
  }
    where
      before : (file m : ℕ) (t : Token) → Holding (Was after) after.nodes file m t → IsHeldWithin (Was w) w.nodes file m t
      before file m t = at_number m n (λ b. MayHold (Was after) file m (if b then u else w.nodes m).incarnation (owing_nothing ((if b then u else w.nodes m).files file)) t → IsHeldWithin (Was w) w.nodes file m t)
          (λ same. subst (λ (k : ℕ). MayHold (Was after) file k u.incarnation (owing_nothing (u.files file)) t → IsHeldWithin (Was w) w.nodes file k t) (sym same)
          (subst (λ (i : ℕ). MayHold (Was after) file n i (owing_nothing (u.files file)) t → IsHeldWithin (Was w) w.nodes file n t) (sym incarnation_is) (g.no_more file t)))
          (λ other h. (t, may_hold-no_news (Was w) (Was after) file m (w.nodes m).incarnation (known m file) t (g.others file m other) h, within_itself t))

  -- the tokens stay, and no message says anything new of tokens
  keeps : ((file : ℕ) → owing_nothing (u.files file) ≡ known n file) → ((m : Message) → is_among o.sends m ≡ true → IsBegun w (host_of m)) → ((file m : ℕ) → NoNews (Was w) (Was after) file m (w.nodes m).incarnation) → Goes
  keeps files young news =
      let i = (w.nodes n).incarnation in
      record {
        young = young;
        talk = λ file.
            let P : FileState → Type 0 = λ x. Talk (Was after) file n i x ((w.servers file).rows n) ((w.servers file).dead n) (begin (w.servers file)) in
            subst P (sym (files file)) (talk-no_news (Was w) (Was after) file n i (known n file) ((w.servers file).rows n) ((w.servers file).dead n) (begin (w.servers file)) (news file n) ((p.serves file).talks n));
        no_more = λ file t.
            let P : FileState → Type 0 = λ x. MayHold (Was after) file n i x t → IsHeldWithin (Was w) w.nodes file n t in
            subst P (sym (files file)) (λ h. (t, may_hold-no_news (Was w) (Was after) file n i (known n file) t (news file n) h, within_itself t));
        others = λ file m other. news file m;
      }

  -- the messages of the step are of the node's own incarnation
  own_young : (m : Message) → IsHostOf (w.nodes n).node (w.nodes n).incarnation (host_of m) → IsBegun w (host_of m)
  own_young m is = known_host w (host_of m) n (w.nodes n).incarnation (is.0 ∙ p.named n, is.1) (omega arith, λ same. here)

  asked_young : (m : Message) → IsAsking (w.nodes n).node (w.nodes n).incarnation m → IsBegun w (host_of m)
  asked_young m is = own_young m (asking_host (w.nodes n).node (w.nodes n).incarnation m is)

  -- a step that only sends requests and Freed
  pub asks_goes : ((file : ℕ) → owing_nothing (u.files file) ≡ known n file) → Only (IsAsking (w.nodes n).node (w.nodes n).incarnation) o.sends → Goes
  asks_goes files asks = keeps files (λ m new. asked_young m (asks m new)) (λ file m. record {
    kept = sent_before w.sent o.sends;
    commands = λ i k x h to. elim (sent_either w.sent o.sends x h) [ inl old ↦ old | inr new ↦ absurd (asking_command (w.nodes n).node (w.nodes n).incarnation file m i k x (asks x new) to) ];
    answers = λ k x h of. elim (sent_either w.sent o.sends x h) [ inl old ↦ old | inr new ↦ absurd (asking_answer (w.nodes n).node (w.nodes n).incarnation file m (w.nodes m).incarnation k x (asks x new) of) ];
  })

  -- a step that sends an answer again
  pub repeats_goes : (file : ℕ) (answer : Message) → ((w.nodes n).files file).answer ≡ Some answer → ((f : ℕ) → owing_nothing (u.files f) ≡ known n f) → Only (λ m. m ≡ answer) o.sends → Goes
  repeats_goes file answer there files again =
      let told : Was w answer = (((p.serves file).talks n).remembered answer there).0 in
      let old : (m : Message) → is_among o.sends m ≡ true → Was w m = λ m new. subst (Was w) (sym (again m new)) told in
      keeps files (λ m new. p.no_future m (old m new)) (λ f m. nothing_new (Was w) (Was after) f m (w.nodes m).incarnation (sent_before w.sent o.sends) (λ x h. elim (sent_either w.sent o.sends x h) [ inl before ↦ before | inr new ↦ old x new ]))

-- a node does the next command about a file, and answers it
module _ (w : WorldState) (p : Present w) (n : ℕ) (e : Effect) (event : Event) (o : Outcome) (here : is_alive w n ≡ true) (sends_are : o.sends ≡ e.sends) (file number : ℕ) (command : Message) (sent : Was w command) (plain : is_command command ≡ true) (to : IsCommandTo file n (w.nodes n).incarnation number command) (d : Does (w.nodes n) file number command e) where
  abbrev s : NodeState
  s = w.nodes n

  abbrev i : ℕ
  i = s.incarnation

  abbrev done : FileState
  done = done_file (s.files file) number command d.answer

  abbrev next_world : WorldState
  next_world = (recorded (with_node w n e.state) event 0 o).0

  of_node : IsAnswerOf file n i number d.answer
  of_node = subst (λ (k : ℕ). IsAnswerOf file k i number d.answer) (p.named n) d.of

  new_is : (m : Message) → is_among o.sends m ≡ true → (m ≡ d.answer) ⊎ IsAsking s.node i m
  new_is m new = d.sends m (subst (λ (xs : List Message). is_among xs m ≡ true) sends_are new)

  no_command : (f l j k : ℕ) (m : Message) → Was next_world m → IsCommandTo f l j k m → Was w m
  no_command f l j k m h m_to = elim (sent_either w.sent o.sends m h) [
    | inl old ↦ old
    | inr new ↦ elim (new_is m new) [
      | inl is ↦ absurd (no_answer f l j k file n i number d.answer (subst (IsCommandTo f l j k) is m_to) of_node)
      | inr asks ↦ absurd (asking_command s.node i f l j k m asks m_to)
    ]
  ]

  one_answer : (f l j k : ℕ) (m : Message) → Was next_world m → IsAnswerOf f l j k m → Was w m ⊎ (m ≡ d.answer)
  one_answer f l j k m h m_of = elim (sent_either w.sent o.sends m h) [
    | inl old ↦ inl old
    | inr new ↦ elim (new_is m new) [ inl is ↦ inr is | inr asks ↦ absurd (asking_answer s.node i f l j k m asks m_of) ]
  ]

  doing : IsDoing (Was w) (Was next_world) file n i d.answer
  doing = record {
    kept = sent_before w.sent o.sends;
    commands = λ j k m h m_to. no_command file n j k m h m_to;
    answers = λ k m h m_of. one_answer file n i k m h m_of;
    told = sent_now w.sent o.sends d.answer (subst (λ (xs : List Message). is_among xs d.answer ≡ true) (sym sends_are) d.told);
  }

  -- another file, or another node
  elsewhere : (f m : ℕ) → (f ≡ file → m ≡ n → ⊥) → NoNews (Was w) (Was next_world) f m (w.nodes m).incarnation
  elsewhere f m other = record {
    kept = sent_before w.sent o.sends;
    commands = λ j k x h x_to. no_command f m j k x h x_to;
    answers = λ k x h x_of. elim (one_answer f m (w.nodes m).incarnation k x h x_of) [
      | inl old ↦ old
      | inr is ↦
          let same = same_answer_of f m (w.nodes m).incarnation k file n i number d.answer (subst (IsAnswerOf f m (w.nodes m).incarnation k) is x_of) of_node in
          absurd (other same.file_is same.node_is)
    ];
  }

  does_goes : Goes w p n e.state event o here d.node_is d.incarnation_is
  does_goes = record {
    young = λ m new. elim (new_is m new) [
      | inl is ↦ subst (λ (x : Message). IsBegun w (host_of x)) (sym is) (own_young w p n e.state event o here d.node_is d.incarnation_is d.answer (answer_host file s.node i number d.answer d.of))
      | inr asks ↦ asked_young w p n e.state event o here d.node_is d.incarnation_is m asks
    ];
    talk = λ f.
        let P : FileState → Type 0 = λ x. Talk (Was next_world) f n i x ((w.servers f).rows n) ((w.servers f).dead n) (begin (w.servers f)) in
        subst P (sym (d.files_are f)) (at_number f file (λ b. P (if b then done else owing_nothing (s.files f)))
        (λ same. subst (λ (k : ℕ). Talk (Was next_world) k n i done ((w.servers k).rows n) ((w.servers k).dead n) (begin (w.servers k))) (sym same)
        (talk-does (Was w) (Was next_world) file n i (owing_nothing (s.files file)) ((w.servers file).rows n) ((w.servers file).dead n) (begin (w.servers file)) ((p.serves file).talks n) number command d.answer sent plain to of_node d.answers_it d.is_next doing))
        (λ other. talk-no_news (Was w) (Was next_world) f n i (owing_nothing (s.files f)) ((w.servers f).rows n) ((w.servers f).dead n) (begin (w.servers f)) (elsewhere f n (λ x y. other x)) ((p.serves f).talks n)));
    no_more = λ f t.
        let P : FileState → Type 0 = λ x. MayHold (Was next_world) f n i x t → IsHeldWithin (Was w) w.nodes f n t in
        subst P (sym (d.files_are f)) (at_number f file (λ b. P (if b then done else owing_nothing (s.files f)))
        (λ same. subst (λ (k : ℕ). MayHold (Was next_world) k n i done t → IsHeldWithin (Was w) w.nodes k n t) (sym same)
        (may_hold-does (Was w) (Was next_world) file n i (owing_nothing (s.files file)) ((w.servers file).rows n) ((w.servers file).dead n) (begin (w.servers file)) ((p.serves file).talks n) number command d.answer sent plain to of_node d.answers_it d.is_next doing t))
        (λ other h. (t, may_hold-no_news (Was w) (Was next_world) f n i (owing_nothing (s.files f)) t (elsewhere f n (λ x y. other x)) h, within_itself t)));
    others = λ f m other. elsewhere f m (λ x y. other y);
  }

  pub does_present : Present (recorded (with_node w n e.state) event 0 o).0
  does_present = node_present w p n e.state event o here d.node_is d.incarnation_is does_goes

-- a node reports its token
module _ (w : WorldState) (p : Present w) (n file : ℕ) (event : Event) (o : Outcome) (here : is_alive w n ≡ true) (ends : Ends ((w.nodes n).files file).token) where
  abbrev own : NodeState
  own = w.nodes n

  abbrev report : Message
  report = Report file (own.files file).last (host own) (runs_of (own.files file).token)

  abbrev told_world : WorldState
  told_world = (recorded (with_node w n own) event 0 o).0

  module _ (only : Only (λ m. m ≡ report) o.sends) where
    its_old : (f l i k : ℕ) (m : Message) → Was told_world m → IsCommandTo f l i k m → Was w m
    its_old f l i k m h to = elim (sent_either w.sent o.sends m h) [
      | inl before ↦ before
      | inr new ↦ let no : IsCommandTo f l i k report = subst (IsCommandTo f l i k) (only m new) to in absurd no
    ]

    its_answer : (f l i k : ℕ) (m : Message) → Was told_world m → IsAnswerOf f l i k m → Was w m ⊎ (m ≡ report)
    its_answer f l i k m h of = elim (sent_either w.sent o.sends m h) [ inl before ↦ inl before | inr new ↦ inr (only m new) ]

    telling : IsTelling (Was w) (Was told_world) file n own.incarnation (own.files file).last (own.files file).token
    telling = record {
      kept = sent_before w.sent o.sends;
      commands = λ i k m h to. its_old file n i k m h to;
      answers = λ k m h of. elim (its_answer file n own.incarnation k m h of) [
        | inl before ↦ inl before
        | inr is ↦ inr (host own, runs_of (own.files file).token, is, tells_token (own.files file).token ends)
      ];
    }

    not_there : (f m : ℕ) → (f ≡ file → m ≡ n → ⊥) → NoNews (Was w) (Was told_world) f m (w.nodes m).incarnation
    not_there f m other = record {
      kept = sent_before w.sent o.sends;
      commands = λ i k x h to. its_old f m i k x h to;
      answers = λ k x h of. elim (its_answer f m (w.nodes m).incarnation k x h of) [
        | inl before ↦ before
        | inr is ↦
            let mine : IsAnswerOf f m (w.nodes m).incarnation k report = subst (IsAnswerOf f m (w.nodes m).incarnation k) is of in
            absurd (other (sym mine.0) (sym mine.2 ∙ p.named n))
      ];
    }

    tells_goes : Goes w p n own event o here refl refl
    tells_goes = record {
      young = λ m new. subst (λ (x : Message). IsBegun w (host_of x)) (sym (only m new)) (known_host w (host own) n own.incarnation (p.named n, refl) (omega arith, λ same. here));
      talk = λ f. at_number f file (λ b. Talk (Was told_world) f n own.incarnation (owing_nothing (own.files f)) ((w.servers f).rows n) ((w.servers f).dead n) (begin (w.servers f)))
          (λ same. subst (λ (k : ℕ). Talk (Was told_world) k n own.incarnation (owing_nothing (own.files k)) ((w.servers k).rows n) ((w.servers k).dead n) (begin (w.servers k))) (sym same)
          (talk-tells (Was w) (Was told_world) file n own.incarnation (owing_nothing (own.files file)) ((w.servers file).rows n) ((w.servers file).dead n) (begin (w.servers file)) telling ((p.serves file).talks n)))
          (λ other. talk-no_news (Was w) (Was told_world) f n own.incarnation (owing_nothing (own.files f)) ((w.servers f).rows n) ((w.servers f).dead n) (begin (w.servers f)) (not_there f n (λ x y. other x)) ((p.serves f).talks n));
      no_more = λ f t h. (t, may_hold-tells (Was w) (Was told_world) f n own.incarnation (owing_nothing (own.files f)) t (λ i k m sent to. its_old f n i k m sent to) h, within_itself t);
      others = λ f m other. not_there f m (λ x y. other y);
    }

    pub tells_present : Present told_world
    tells_present = node_present w p n own event o here refl refl tells_goes

owing_nothing_if : (b : Bool) (x y : FileState) → owing_nothing (if b then x else y) ≡ (if b then owing_nothing x else owing_nothing y)
owing_nothing_if true x y = refl
owing_nothing_if false x y = refl

renewed_owing_nothing : (f : FileState) (number : ℕ) → owing_nothing (renewed f number) ≡ renewed (owing_nothing f) number
renewed_owing_nothing f number = owing_nothing_if (nat_lt f.last (begin_of number)) (record f { last = begin_of number; answer = None }) f

-- a node hears of an epoch that its server is in
module _ (w : WorldState) (p : Present w) (n file number : ℕ) (here : is_alive w n ≡ true) (upto : begin_of number ≤ begin (w.servers file)) where
  abbrev entered : NodeState
  entered = in_epoch (w.nodes n) file number

  abbrev quietly : Outcome
  quietly = (outcome None (quiet entered)).1

  abbrev some_event : Event
  some_event = AtServer file Resend

  abbrev entered_world : WorldState
  entered_world = (recorded (with_node w n entered) some_event 0 quietly).0

  nothing_said : (f m : ℕ) → NoNews (Was w) (Was entered_world) f m (w.nodes m).incarnation
  nothing_said f m = nothing_new (Was w) (Was entered_world) f m (w.nodes m).incarnation (sent_before w.sent []) (λ x h. elim (sent_either w.sent [] x h) [ inl before ↦ before | inr new ↦ absurd (only_none (λ m. ⊥) x new) ])

  files_are : (f : ℕ) → owing_nothing (entered.files f) ≡ (if f == file then renewed (owing_nothing ((w.nodes n).files file)) number else owing_nothing ((w.nodes n).files f))
  files_are f = owing_nothing_if (f == file) (renewed ((w.nodes n).files file) number) ((w.nodes n).files f) ∙ ap (λ (x : FileState). if f == file then x else owing_nothing ((w.nodes n).files f)) (renewed_owing_nothing ((w.nodes n).files file) number)

  enters_goes : Goes w p n entered some_event quietly here refl refl
  enters_goes =
      let i = (w.nodes n).incarnation in
      record {
        young = λ m new. absurd (only_none (λ x. ⊥) m new);
        talk = λ f.
            let P : FileState → Type 0 = λ x. Talk (Was entered_world) f n i x ((w.servers f).rows n) ((w.servers f).dead n) (begin (w.servers f)) in
            let old = talk-no_news (Was w) (Was entered_world) f n i (owing_nothing ((w.nodes n).files f)) ((w.servers f).rows n) ((w.servers f).dead n) (begin (w.servers f)) (nothing_said f n) ((p.serves f).talks n) in
            subst P (sym (files_are f)) (at_number f file (λ b. P (if b then renewed (owing_nothing ((w.nodes n).files file)) number else owing_nothing ((w.nodes n).files f)))
            (λ same. subst (λ (k : ℕ). Talk (Was entered_world) k n i (renewed (owing_nothing ((w.nodes n).files file)) number) ((w.servers k).rows n) ((w.servers k).dead n) (begin (w.servers k))) (sym same)
            (talk-renewed (Was entered_world) file n i (owing_nothing ((w.nodes n).files file)) ((w.servers file).rows n) ((w.servers file).dead n) (begin (w.servers file)) number upto
            (talk-no_news (Was w) (Was entered_world) file n i (owing_nothing ((w.nodes n).files file)) ((w.servers file).rows n) ((w.servers file).dead n) (begin (w.servers file)) (nothing_said file n) ((p.serves file).talks n))))
            (λ other. old));
        no_more = λ f t.
            let P : FileState → Type 0 = λ x. MayHold (Was entered_world) f n i x t → IsHeldWithin (Was w) w.nodes f n t in
            let old : MayHold (Was entered_world) f n i (owing_nothing ((w.nodes n).files f)) t → IsHeldWithin (Was w) w.nodes f n t = λ h. (t, may_hold-no_news (Was w) (Was entered_world) f n i (owing_nothing ((w.nodes n).files f)) t (nothing_said f n) h, within_itself t) in
            subst P (sym (files_are f)) (at_number f file (λ b. P (if b then renewed (owing_nothing ((w.nodes n).files file)) number else owing_nothing ((w.nodes n).files f)))
            (λ same. subst (λ (k : ℕ). MayHold (Was entered_world) k n i (renewed (owing_nothing ((w.nodes n).files file)) number) t → IsHeldWithin (Was w) w.nodes k n t) (sym same)
            (λ h. (
              t,
              may_hold-no_news (Was w) (Was entered_world) file n i (owing_nothing ((w.nodes n).files file)) t (nothing_said file n)
                  (may_hold-renewed (Was entered_world) file n i (owing_nothing ((w.nodes n).files file)) ((w.servers file).rows n) ((w.servers file).dead n) (begin (w.servers file)) number upto
                  (talk-no_news (Was w) (Was entered_world) file n i (owing_nothing ((w.nodes n).files file)) ((w.servers file).rows n) ((w.servers file).dead n) (begin (w.servers file)) (nothing_said file n) ((p.serves file).talks n)) t h),
              within_itself t,
            )))
            (λ other. old));
        others = λ f m other. nothing_said f m;
      }

  -- hearing of an epoch is a step that sends nothing
  pub entered_present : Present (with_node w n entered)
  entered_present =
      let P : List Message → Type 0 = λ ms. Present (record (with_node w n entered) { sent = ms; length = w.length + 1 }) in
      let q = subst P (append-nil w.sent) (node_present w p n entered some_event quietly here refl refl enters_goes) in
      record { named = q.named; no_future = q.no_future; serves = q.serves; apart = q.apart }

-- a node's state that is put twice
twice : {A : Type 0} (b : Bool) (x y z : A) → (if b then x else (if b then y else z)) ≡ (if b then x else z)
twice true x y z = refl
twice false x y z = refl

put_twice : (w : WorldState) (n : ℕ) (t u : NodeState) → with_node (with_node w n t) n u ≡ with_node w n u
put_twice w n t u = λ i. record w { nodes = λ m. twice (m == n) u t (w.nodes m) i }

put_read : (w : WorldState) (n : ℕ) (t : NodeState) → (with_node w n t).nodes n ≡ t
put_read w n t = at_number n n (λ b. (if b then t else w.nodes n) ≡ t) (λ same. refl) (λ other. absurd (other refl))

module _ (w : WorldState) (p : Present w) where
  -- an effect by which the node only asks
  pub asking_present : (n : ℕ) (event : Event) (call : Option CallId) (e : Effect) → is_alive w n ≡ true → AsksFrom (w.nodes n) e → Present (recorded (with_node w n e.state) event 0 (outcome call e).1).0
  asking_present n event call e here a = node_present w p n e.state event (outcome call e).1 here a.node_is a.incarnation_is (asks_goes w p n e.state event (outcome call e).1 here a.node_is a.incarnation_is a.files_are a.sends)

  -- a try of an open call
  pub try_present : (n : ℕ) (event : Event) (c : Option OpenCall) → is_alive w n ≡ true → Present (recorded (with_node w n (tried_if (w.nodes n) c).state) event 0 (outcome None (tried_if (w.nodes n) c)).1).0
  try_present n event c here = asking_present n event None (tried_if (w.nodes n) c) here (tried_if_asks (w.nodes n) c)

  -- an interrupt of an open call
  interrupt_present : (n : ℕ) (event : Event) (c : Option OpenCall) → is_alive w n ≡ true → Present (recorded (with_node w n (interrupted (w.nodes n) c).state) event 0 (outcome None (interrupted (w.nodes n) c)).1).0
  interrupt_present n event c here = asking_present n event None (interrupted (w.nodes n) c) here (interrupted_asks (w.nodes n) c)

  call_present : (n pid : ℕ) (op : Op) → is_alive w n ≡ true → Present (recorded (with_node w n (after_call (w.nodes n) pid op).0) (AtNode n (Call pid op)) 0 (after_call (w.nodes n) pid op).1).0
  call_present n pid op here =
      let s = w.nodes n in
      let number = s.calls + 1 in
      asking_present n (AtNode n (Call pid op)) (after_call s pid op).1.call (called (record s { calls = number }) number pid op) here (called_asks (record s { calls = number }) number pid op)

  -- the step of a command
  command_present : (n file number : ℕ) (command : Message) → is_alive w n ≡ true → Was w command → is_command command ≡ true → IsCommandTo file n (w.nodes n).incarnation number command → (event : Event) (e : Effect) → Receives (w.nodes n) file number command e → Present (recorded (with_node w n e.state) event 0 (outcome None e).1).0
  command_present n file number command here sent plain to event e (inl d) = does_present w p n e event (outcome None e).1 here refl file number command sent plain to d
  command_present n file number command here sent plain to event e (inr (inl r)) =
      let node_is = ap (λ (x : NodeState). x.node) r.state in
      let incarnation_is = ap (λ (x : NodeState). x.incarnation) r.state in
      node_present w p n e.state event (outcome None e).1 here node_is incarnation_is
      (repeats_goes w p n e.state event (outcome None e).1 here node_is incarnation_is r.file r.answer r.there (λ f. ap (λ (x : NodeState). owing_nothing (x.files f)) r.state) r.sends)
  command_present n file number command here sent plain to event e (inr (inr a)) = asking_present n event None e here a

  abbrev Done : ℕ → Event → Effect → Type 0
  Done n event e = Present (recorded (with_node w n e.state) event 0 (outcome None e).1).0

  -- the step of a command or a Hello to the live incarnation, in its epoch
  done_present : (n : ℕ) (event : Event) (m : Message) → EndsOf (w.nodes n) → is_alive w n ≡ true → Was w m → addressee m ≡ ANode n → (host_of m).incarnation ≡ (w.nodes n).incarnation → Done n event (done_in (w.nodes n) m)
  done_present n event (Grant file number call mode span) ends here sent to live =
      let m = Grant file number call mode span in
      let there : call.node ≡ n = cc in
      let s = w.nodes n in
      command_present n file number m here sent refl (refl, refl, there, live) event (done_in s m) (grant_receives s file number call mode span (there ∙ sym (p.named n)) live)
  done_present n event (Revoke file number holder call mode wanted) ends here sent to live =
      let m = Revoke file number holder call mode wanted in
      let there : holder.node ≡ n = cc in
      let s = w.nodes n in
      command_present n file number m here sent refl (refl, refl, there, live) event (done_in s m) (revoke_receives s file number holder call mode wanted)
  done_present n event (Hello file number holder) ends here sent to live =
      let s = w.nodes n in
      let report = Report file (s.files file).last (host s) (runs_of (s.files file).token) in
      told_either (Done n event) s file number
      (λ is.
      let e = sent_as s (Report file number (host s) (runs_of (s.files file).token)) in
      let same : Report file number (host s) (runs_of (s.files file).token) ≡ report = ap (λ (k : ℕ). Report file k (host s) (runs_of (s.files file).token)) is in
      tells_present w p n file event (outcome None e).1 here (ends file) (subst (λ (x : Message). Only (λ m. m ≡ report) (x ∷ [])) (sym same) (only_one (λ m. m ≡ report) report refl)))
      (asking_present n event None (quiet s) here (quiet_asks s))
  done_present n event m ends here sent to live = asking_present n event None (quiet (w.nodes n)) here (quiet_asks (w.nodes n))

-- a command or a Hello is of an epoch that its server is in
known_epoch : (w : WorldState) → Present w → (n file number : ℕ) (m : Message) → Was w m → IsCommandTo file n (w.nodes n).incarnation number m → begin_of number ≤ begin (w.servers file)
known_epoch w p n file number m sent to =
    let t = w.servers file in
    let talk = (p.serves file).talks n in
    let c = counted_live (Was w) file n (w.nodes n).incarnation (owing_nothing ((w.nodes n).files file)) (t.rows n) (t.dead n) (begin t) talk number m sent to in
    let few = (talk.numbered c.counting c.there).1 in
    let up = c.up_to in
    begin_of_upto number t.epoch (omega arith)

module _ (w : WorldState) (p : Present w) (ends : (n : ℕ) → EndsOf (w.nodes n)) where
  abbrev Comes : ℕ → Event → Effect → Type 0
  Comes n event e = Present (recorded (with_node w n e.state) event 0 (outcome None e).1).0

  -- the node hears of the epoch, and then does the command
  enters_present : (n file number : ℕ) (event : Event) (m : Message) → is_alive w n ≡ true → Was w m → addressee m ≡ ANode n → (host_of m).incarnation ≡ (w.nodes n).incarnation → IsCommandTo file n (w.nodes n).incarnation number m → Comes n event (done_in (in_epoch (w.nodes n) file number) m)
  enters_present n file number event m here sent addressed live to =
      let t = in_epoch (w.nodes n) file number in
      let v = with_node w n t in
      let q = entered_present w p n file number here (known_epoch w p n file number m sent to) in
      let read = put_read w n t in
      let P : NodeState → Type 0 = λ x. Present (recorded (with_node v n (done_in x m).state) event 0 (outcome None (done_in x m)).1).0 in
      let Q : WorldState → Type 0 = λ x. Present (recorded x event 0 (outcome None (done_in t m)).1).0 in
      subst Q (put_twice w n t (done_in t m).state) (subst P read (done_present v q n event m (subst EndsOf (sym read) (entered_ends (w.nodes n) file number (ends n))) here sent addressed (live ∙ sym (ap (λ (x : NodeState). x.incarnation) read))))

  abbrev Delivered : ℕ → Message → NodeState × Outcome → Type 0
  Delivered n m d = Present (recorded (with_node w n d.0) (Deliver m) 0 d.1).0

  -- the step of a message to the live incarnation
  received_present : (n : ℕ) (m : Message) → is_alive w n ≡ true → Was w m → addressee m ≡ ANode n → (host_of m).incarnation ≡ (w.nodes n).incarnation → Delivered n m (outcome None (delivered (w.nodes n) m))
  received_present n (Grant file number call mode span) here sent to live =
      let there : call.node ≡ n = cc in
      enters_present n file number (Deliver (Grant file number call mode span)) (Grant file number call mode span) here sent to live (refl, refl, there, live)
  received_present n (Revoke file number holder call mode wanted) here sent to live =
      let there : holder.node ≡ n = cc in
      enters_present n file number (Deliver (Revoke file number holder call mode wanted)) (Revoke file number holder call mode wanted) here sent to live (refl, refl, there, live)
  received_present n (Hello file number holder) here sent to live =
      let there : holder.node ≡ n = cc in
      enters_present n file number (Deliver (Hello file number holder)) (Hello file number holder) here sent to live (refl, refl, there, live)
  received_present n (Deny file call holder number lock) here sent to live =
      let m = Deny file call holder number lock in
      let s = w.nodes n in
      asking_present w p n (Deliver m) None (delivered s m) here (denied_asks s lock (open_call s call.number))
  received_present n m here sent to live = asking_present w p n (Deliver m) None (quiet (w.nodes n)) here (quiet_asks (w.nodes n))

  deliver_present : (n : ℕ) (m : Message) (done : NodeState × Outcome) → is_alive w n ≡ true → Was w m → addressee m ≡ ANode n → deliver_rule (w.nodes n) m ≡ Ok done → Delivered n m done
  deliver_present n m done here sent to h =
      let s = w.nodes n in
      elim (deliver_done s m done h) [
        | inl taken ↦ subst (Delivered n m) taken.1 (received_present n m here sent to taken.0.incarnation)
        | inr passed ↦ subst (Delivered n m) passed (asking_present w p n (Deliver m) None (quiet s) here (quiet_asks s))
      ]

  -- a server sends its commands again
  resend_present : (file : ℕ) (r : Result (ServerState × List Message) StepError) (done : ServerState × Outcome) → serve (requeued (w.servers file)) ≡ r → sending_first (outstanding (w.servers file)) r ≡ Ok done → Present (recorded (with_server w file done.0) (AtServer file Resend) 0 done.1).0
  resend_present file (Err e) done served is = absurd (cc)
  resend_present file (Ok made) done served is =
      let t = w.servers file in
      let P : ServerState × Outcome → Type 0 = λ d. Present (recorded (with_server w file d.0) (AtServer file Resend) 0 d.1).0 in
      let sent : (n : ℕ) (m : Message) → outstanding_of (t.rows n) ≡ Some m → Was w m = λ n m there. elim (t.rows n) as (λ x. t.rows n ≡ x → outstanding_of x ≡ Some m → Was w m) [
        | None ↦ λ row none. absurd (none-some m none)
        | Some row ↦ λ found waiting. outstanding_sent (Was w) w.nodes w.shape file t (p.serves file) n row m found waiting
      ] refl there in
      let old : Only (λ m. Was w m ⊎ IsDenial (IsBegun w) m) (outstanding t) = only_mapped (λ m. Was w m ⊎ IsDenial (IsBegun w) m) (λ n. outstanding_of (t.rows n)) (range_with_len 1 t.shape.nodes) (λ n m there. inl (sent n m there)) in
      let asked : Serves (Was w) w.nodes w.shape file (requeued t) = requeues (Was w) w.nodes w.shape file t (p.serves file) in
      subst P (ok_is _ done is) (again_present w p file made.0 (AtServer file Resend) (sending (outstanding t ++ made.1)) (outstanding t) made.1 refl old (serve_serves (Was w) w.nodes w.shape file (requeued t) asked made.0 made.1 served))

  -- a server learns of an incarnation that was declared: it is not the live one
  learn_present : (file n i : ℕ) (r : Result (ServerState × List Message) StepError) (done : ServerState × Outcome) → i < (w.nodes n).incarnation → serve (requeued (forgotten (w.servers file) n i)) ≡ r → sending_first [] r ≡ Ok done → Present (recorded (with_server w file done.0) (AtServer file (Learn n i)) 0 done.1).0
  learn_present file n i (Err e) done older served is = absurd (cc)
  learn_present file n i (Ok made) done older served is =
      let t = w.servers file in
      let P : ServerState × Outcome → Type 0 = λ d. Present (recorded (with_server w file d.0) (AtServer file (Learn n i)) 0 d.1).0 in
      let young : Serves (Was w) w.nodes w.shape file (forgotten t n i) = forgets (Was w) w.nodes w.shape file t (p.serves file) n i older in
      let asked : Serves (Was w) w.nodes w.shape file (requeued (forgotten t n i)) = requeues (Was w) w.nodes w.shape file (forgotten t n i) young in
      subst P (ok_is _ done is) (again_present w p file made.0 (AtServer file (Learn n i)) (sending made.1) [] made.1 refl (only_none (λ m. Was w m ⊎ IsDenial (IsBegun w) m)) (serve_serves (Was w) w.nodes w.shape file (requeued (forgotten t n i)) asked made.0 made.1 served))

  alive_here : (n : ℕ) → has_node w n ≡ true → not (w.alive n) ≡ false → is_alive w n ≡ true
  alive_here n there free = and_from (has_node w n) (w.alive n) there (not-false (w.alive n) free)

  -- a message goes to the actor that takes it
  message_present : (m : Message) (to : Actor) (q : WorldState × Entry) → Was w m → addressee m ≡ to → has_actor w to ≡ true → is_stopped w to ≡ false → routed w m to ≡ Ok q → Present q.0
  message_present m (ANode n) q sent to there free h = node_step w (λ x. Present x.0) (Deliver m) n (node_rule (w.nodes n) (node.Deliver m)) q (λ done is. deliver_present n m done (alive_here n there free) sent to is) h
  message_present m (AServer file) q sent to there free h =
      let t = w.servers file in
      server_step w (λ x. Present x.0) (Deliver m) file (server_rule t (server.Deliver m)) q
      (λ done is.
      let a = receives (Was w) (IsBegun w) p.no_future w.nodes w.shape file t (p.serves file) done.0 done.1 m sent to (p.no_future m sent).0 is in
      again_present w p file done.0 (Deliver m) done.1 a.denied a.fresh a.sent (λ x there. inr (a.denials x there)) a.served) h

  -- a step at what comes to a node or to a token server
  node_input_present : (n : ℕ) (input : NodeInput) (done : NodeState × Outcome) → is_alive w n ≡ true → node_rule (w.nodes n) (node.Input input) ≡ Ok done → Present (recorded (with_node w n done.0) (AtNode n input) 0 done.1).0
  node_input_present n (Call pid op) done here is =
      let P : NodeState × Outcome → Type 0 = λ d. Present (recorded (with_node w n d.0) (AtNode n (Call pid op)) 0 d.1).0 in
      subst P (call_done (w.nodes n) pid op done is) (call_present w p n pid op here)
  node_input_present n (Interrupt pid) done here is =
      let P : NodeState × Outcome → Type 0 = λ d. Present (recorded (with_node w n d.0) (AtNode n (Interrupt pid)) 0 d.1).0 in
      subst P (interrupt_done (w.nodes n) pid done is) (interrupt_present w p n (AtNode n (Interrupt pid)) (open_call_of (w.nodes n) pid) here)
  node_input_present n (Retry pid) done here is =
      let P : NodeState × Outcome → Type 0 = λ d. Present (recorded (with_node w n d.0) (AtNode n (Retry pid)) 0 d.1).0 in
      subst P (retry_done (w.nodes n) pid done is) (try_present w p n (AtNode n (Retry pid)) (open_call_of (w.nodes n) pid) here)

  server_input_present : (file : ℕ) (input : ServerInput) (done : ServerState × Outcome) → is_known w (AtServer file input) ≡ true → server_rule (w.servers file) (server.Input input) ≡ Ok done → Present (recorded (with_server w file done.0) (AtServer file input) 0 done.1).0
  server_input_present file Resend done known is = resend_present file (serve (requeued (w.servers file))) done refl is
  server_input_present file (Learn n i) done known is =
      let t = w.servers file in
      let parts = and_parts (has_node w n) (was_declared w n i) (and_parts (has_file w file) (has_node w n && was_declared w n i) known).1 in
      let older : i < (w.nodes n).incarnation = ltb-true i (w.nodes n).incarnation (and_parts (nat_le 1 i) (nat_lt i (w.nodes n).incarnation) parts.1).1 in
      learn_present file n i (serve (requeued (forgotten t n i))) done older refl (unless_refused (not (is_within t.shape.nodes n)) _ done Stranger is).1

  taken_present : (event : Event) (q : WorldState × Entry) → is_known w event ≡ true → is_fenced w event ≡ false → taken w event ≡ Ok q → Present q.0
  taken_present (AtNode n input) q known free h =
      let here = alive_here n (and_parts (has_node w n) _ known).0 free in
      node_step w (λ x. Present x.0) (AtNode n input) n (node_rule (w.nodes n) (node.Input input)) q (λ done is. node_input_present n input done here is) h
  taken_present (AtServer file input) q known free h =
      server_step w (λ x. Present x.0) (AtServer file input) file (server_rule (w.servers file) (server.Input input)) q (λ done is. server_input_present file input done known is) h
  taken_present (Deliver m) q known free h =
      let parts = and_parts (has_actor w (addressee m)) (is_among w.sent m) known in
      message_present m (addressee m) q parts.1 refl parts.0 free h
  taken_present (Member event) q known free h = member_step w (λ x. Present x.0) event q
      (λ n is alive. silent_present (declared w n) (declared_present w p n) (Member event) (w.nodes n).incarnation)
      (λ n is dead few. silent_present (restarted w n) (restarted_present w p n) (Member event) (w.nodes n).incarnation)
      (λ file is works. silent_present (failed w file) (failed_present w p file) (Member event) (w.servers file).epoch)
      (λ file is stopped few. started_present w p file (Member event) ((w.servers file).epoch + 1)) h

  -- each step keeps the invariant
  pub next_present : (event : Event) (q : WorldState × Entry) → next w event ≡ Ok q → Present q.0
  next_present event q h =
      let x = next_taken w event q h in
      taken_present event q x.0 (next_unfenced w event q h) x.1

-- before the first entry
module _ (shape : ShapeFields) where
  abbrev begun : WorldState
  begun = first_world shape

  not_sent : (m : Message) → Was begun m → ⊥
  not_sent m h = cc

  first_talk : (file n : ℕ) → Talk (Was begun) file n 1 (owing_nothing ((begun.nodes n).files file)) None 0 0
  first_talk file n = record {
    lives = omega arith;
    aged = λ r h. absurd (none-some r h);
    named = λ r h. absurd (none-some r h);
    numbered = λ r h. absurd (none-some r h);
    waits = λ r m h. absurd (none-some r h);
    counted = λ i k m sent. absurd (not_sent m sent);
    one_number = λ i k m other sent. absurd (not_sent m sent);
    in_step = inl (record { last = omega arith; token = refl; none = λ r h. absurd (none-some r h) });
    answers = λ k m sent of. absurd (not_sent m sent);
    remembered = λ m h. absurd (none-some m h);
  }

  pub present_first : Present begun
  present_first = record {
    named = λ n. refl;
    no_future = λ m sent. absurd (not_sent m sent);
    serves = λ file. record {
      file_is = refl;
      shape_is = refl;
      from = omega arith;
      talks = λ n. first_talk file n;
      held = All-nil (IsCurrent (begun.servers file));
    };
    apart = λ file m n t u m_in n_in other a b. first_apart file m n t u a b;
  }
    where
      nothing_held : (file n : ℕ) (t : Token) → Holding (Was begun) begun.nodes file n t → t ≡ no_token
      nothing_held file n t (inl same) = same
      nothing_held file n t (inr promised) = absurd (not_sent promised.command promised.ahead.sent)

      first_apart : (file m n : ℕ) (t u : Token) → Holding (Was begun) begun.nodes file m t → Holding (Was begun) begun.nodes file n u → Excludes t u
      first_apart file m n t u a b byte exclusive = ap (λ (x : Token). x byte) (nothing_held file n u b)

-- the tokens of two nodes are apart, if all that they may hold is
pub present_apart : (w : WorldState) → Present w → AreApart w
present_apart w p m n file m_in n_in other = p.apart file m n ((w.nodes m).files file).token ((w.nodes n).files file).token m_in n_in other (inl refl) (inl refl)

-- a command is one of its file, host and number
named_command : (m : Message) → is_command m ≡ true → IsCommandTo (file_of m) (host_of m).node (host_of m).incarnation (number_of m) m
named_command (Grant file number call mode span) is = (refl, refl, refl, refl)
named_command (Revoke file number holder call mode wanted) is = (refl, refl, refl, refl)
named_command m is = absurd (cc)

-- no number is used for two commands about one file to one incarnation of a node
pub numbers_tell : (w : WorldState) → Present w → NumbersTellCommands w
numbers_tell w p m other sent also is_first is_other file_is host_is number_is =
    let h = host_of m in
    let P : ℕ → Type 0 = λ file. IsCommandTo file (host_of other).node (host_of other).incarnation (number_of other) other in
    let Q : Host → Type 0 = λ x. IsCommandTo (file_of m) x.node x.incarnation (number_of other) other in
    let R : ℕ → Type 0 = λ number. IsCommandTo (file_of m) h.node h.incarnation number other in
    let to = subst R (sym number_is) (subst Q (sym host_is) (subst P (sym file_is) (named_command other is_other))) in
    ((p.serves (file_of m)).talks h.node).one_number h.incarnation (number_of m) m other sent also (named_command m is_first) to

-- what a live incarnation of a node answers: no number is above the last command done, and the answer to that is remembered
module _ (w : WorldState) (p : Present w) (file n : ℕ) where
  abbrev its_file : FileState
  its_file = (w.nodes n).files file

  pub answers_counted : (number : ℕ) (m : Message) → Was w m → IsAnswerOf file n (w.nodes n).incarnation number m → (number ≤ its_file.last) × (number ≡ its_file.last → IsLast its_file m)
  answers_counted number m = ((p.serves file).talks n).answers number m

  pub remembered_sent : (m : Message) → its_file.answer ≡ Some m → Was w m × (1 ≤ its_file.last) × IsAnswerOf file n (w.nodes n).incarnation its_file.last m
  remembered_sent m = ((p.serves file).talks n).remembered m
