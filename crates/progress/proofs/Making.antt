-- A round is made: its agenda is worked off, in whatever order, while the measure falls.
use Rattle.std.specs.Prelude.{◌==◌, ◌&&◌, nat_le, nat_lt, not, if◌then◌else◌, filter, map, length, is_some}
use Rattle.std.proofs.Common.{◌≡◌, ℕ, zero, suc, ◌+◌, ◌≤◌, Bool, true, false, ◌⊎◌, inl, inr, refl, sym, ◌∙◌, ap, subst, arith, List, [], ◌∷◌, ◌++◌, All, Contains, Ok, Err}
use Rattle.std.proofs.lemmas.Bool.{and_parts, or_right, eqb-true, not-true}
use Rattle.std.proofs.lemmas.List.Elements.{All-nil, All-cons, All-head, All-tail, All-append, All-weaker}
use Rattle.messages.specs.rule.Shapes.{ShapeFields, IsShape}
use Rattle.messages.specs.rule.Messages.{addressee, file_of, is_among, is_within, same_message}
use Rattle.messages.specs.declared.message.Message.{Message}
use Rattle.messages.specs.declared.event.Event.{Event}
use Rattle.messages.specs.declared.event.Event.TheVariants.{AtNode, AtServer, Deliver, Member}
use Rattle.messages.specs.declared.event.NodeInput.TheVariants.{Call, Interrupt, Retry}
use Rattle.messages.specs.declared.event.ServerInput.{ServerInput}
use Rattle.messages.specs.declared.event.ServerInput.TheVariants.{Resend, Learn}
use Rattle.messages.specs.declared.entry.Entry.{Entry}
use Rattle.messages.specs.declared.refusal.Refused.TheVariants.{Spent}
use Rattle.cluster_core.specs.rule.Actors.{server_event}
use Rattle.cluster_core.specs.rule.World.{WorldState, first_world, has_file}
use Rattle.cluster_core.specs.rule.Next.{is_stopped, is_true, next}
use Rattle.cluster_core.specs.rule.Runs.{Leads}
use Rattle.cluster_core.specs.rule.Rounds.{IsQuiet}
use Rattle.cluster_core.proofs.rounds.Quiet.{SameMembers, quiet-members}
use Rattle.cluster_core.proofs.rounds.Stretches.{AllQuiet}
use Rattle.cluster_core.proofs.rounds.Sent.{next-sent, sent-stays}
use Rattle.token_server.proofs.CareLaws.{All-left, All-right}
use Rattle.cluster_core.proofs.runs.JournalRuns.{leads_push}
use Rattle.cluster_core.proofs.runs.Runs.{good_run}
use Rattle.cluster_core.proofs.steps.KnownMessages.{sent_now}
use Rattle.cluster_core.proofs.steps.NodeTokens.{first_among}
use Rattle.cluster_core.proofs.tokens.Present.{Was}
use Rattle.progress.specs.rule.Agenda.{is_due, deliveries, AreOlder, WorksOff}
use Rattle.progress.proofs.Agenda.{contains_first, entry_event, Done, nothing_left, one_done}
use Rattle.progress.proofs.Falls.{measure, spare, falls, spares_fewer}
use Rattle.progress.proofs.Hosted.{all_hosted}
use Rattle.progress.proofs.Possible.{IsPossible, possible_quiet, Goes, possible_goes}
use Rattle.progress.proofs.Shaped.{all_shaped}

module _ (file : ℕ) (w : WorldState) (event : Event) (mid : WorldState) (e : Entry) (step : next w event ≡ Ok (mid, e)) (same : SameMembers w mid) where
  still_true : (input : ServerInput) → is_true w input ≡ true → is_true mid input ≡ true
  still_true Resend h = refl
  still_true (Learn n i) h = (λ j. is_within (same.shape j).nodes n && (nat_le 1 i && nat_lt i (same.incarnation n j))) ∙ h

  -- what may happen may still happen after a quiet step
  possible_stays : (x : Event) → IsPossible file w x → IsPossible file mid x
  possible_stays (Deliver m) h = (
    sent-stays w event (mid, e) m step h.0,
    h.1,
    (λ i. is_stopped (record w { alive = same.alive i; working = same.working i }) (addressee m)) ∙ h.2,
  )
  possible_stays (AtServer f input) h = (h.0, still_true input h.1)
  possible_stays (AtNode n (Retry pid)) h = ((λ i. is_within (same.shape i).nodes n && same.alive i n) ∙ h.0, h.1)
  possible_stays (AtNode n (Call pid op)) h = h
  possible_stays (AtNode n (Interrupt pid)) h = h
  possible_stays (Member member) h = h

  -- the deliveries of what was sent may happen
  deliveries_possible : (ms : List Message) → ((m : Message) → is_among ms m ≡ true → Was mid m) → All (IsPossible file mid) (deliveries file w ms)
  deliveries_possible [] sent = All-nil (IsPossible file mid)
  deliveries_possible (m ∷ ms) sent = by (is_due file w m) refl (deliveries_possible ms (λ x there. sent x (or_right (same_message x m) (is_among ms x) there)))
    where
      by : (b : Bool) → is_due file w m ≡ b → All (IsPossible file mid) (deliveries file w ms) → All (IsPossible file mid) (map Deliver (if b then m ∷ filter (is_due file w) ms else filter (is_due file w) ms))
      by true due rest =
          let parts = and_parts (file_of m == file) (not (is_stopped w (addressee m))) due in
          let free : is_stopped w (addressee m) ≡ false = not-true (is_stopped w (addressee m)) parts.1 in
          All-cons (IsPossible file mid) (Deliver m) (deliveries file w ms)
          (sent m (first_among m ms), eqb-true (file_of m) file parts.0, (λ i. is_stopped (record w { alive = same.alive i; working = same.working i }) (addressee m)) ∙ free) rest
      by false other rest = rest

-- the deliveries of older messages may happen
pub older_possible : (file : ℕ) (w : WorldState) (ms : List Message) → AreOlder w ms → All (IsPossible file w) (deliveries file w ms)
older_possible file w [] sent = All-nil (IsPossible file w)
older_possible file w (m ∷ ms) sent = by (is_due file w m) refl (older_possible file w ms (All-tail (Was w) m ms sent))
  where
    by : (b : Bool) → is_due file w m ≡ b → All (IsPossible file w) (deliveries file w ms) → All (IsPossible file w) (map Deliver (if b then m ∷ filter (is_due file w) ms else filter (is_due file w) ms))
    by true due rest =
        let parts = and_parts (file_of m == file) (not (is_stopped w (addressee m))) due in
        All-cons (IsPossible file w) (Deliver m) (deliveries file w ms)
        (All-head (Was w) m ms sent, eqb-true (file_of m) file parts.0, not-true (is_stopped w (addressee m)) parts.1) rest
    by false other rest = rest

module _ (shape : ShapeFields) (is : IsShape shape) (file : ℕ) where
  -- what comes of events of an agenda, in whatever order they happened
  pub record Worked (w : WorldState) (events : List Event) (es : List Entry) (v : WorldState) (left : List Event) : Type 0 where
    pub leads : Leads w es v
    pub quiet : AllQuiet es
    pub possible : All (IsPossible file v) left
    pub falls : length es + measure file v left ≤ measure file w events
    pub fewer : spare v.shape.nodes file v left ≤ spare w.shape.nodes file w events
    pub done : left ≡ [] → Done file events w es v

  -- one event happens, and then the others with the deliveries that it calls for
  module _ (past : List Entry) (w : WorldState) (events front rest : List Event) (mid : WorldState) (e : Entry) (before : Leads (first_world shape) past w) (possible : All (IsPossible file w) events) (split : events ≡ front ++ e.event ∷ rest) (step : next w e.event ≡ Ok (mid, e)) where
    abbrev after : List Event
    after = (front ++ rest) ++ deliveries file w e.sends

    all : All (IsPossible file w) (front ++ e.event ∷ rest)
    all = subst (All (IsPossible file w)) split possible

    own : IsPossible file w e.event
    own = All-head (IsPossible file w) e.event rest (All-right (IsPossible file w) front (e.event ∷ rest) all)

    quiet : IsQuiet e.event
    quiet = possible_quiet file w e.event own

    same : SameMembers w mid
    same = quiet-members w e mid step quiet

    others : All (IsPossible file w) (front ++ rest)
    others = All-append (IsPossible file w) front rest (All-left (IsPossible file w) front (e.event ∷ rest) all) (All-tail (IsPossible file w) e.event rest (All-right (IsPossible file w) front (e.event ∷ rest) all))

    pub possible_after : All (IsPossible file mid) after
    possible_after = All-append (IsPossible file mid) (front ++ rest) (deliveries file w e.sends)
        (All-weaker (IsPossible file w) (IsPossible file mid) (possible_stays file w e.event mid e step same) (front ++ rest) others)
        (deliveries_possible file w e.event mid e step same e.sends (λ m sent. ap (λ (ms : List Message). is_among ms m) (next-sent w e.event (mid, e) step) ∙ sent_now w.sent e.sends m sent))

    pub falls_after : measure file mid after + 1 ≤ measure file w events
    falls_after = subst (λ (xs : List Event). measure file mid after + 1 ≤ measure file w xs) (sym split) (falls shape is file past w e.event front rest mid e before own step)

    pub one_worked : (es : List Entry) (v : WorldState) (left : List Event) → Worked mid after es v left → Worked w events (e ∷ es) v left
    one_worked es v left more =
        let less = falls_after in
        let later = more.falls in
        let spares = subst (λ (xs : List Event). spare mid.shape.nodes file mid after ≤ spare w.shape.nodes file w xs) (sym split) (spares_fewer shape is file past w e.event front rest mid e before own step) in
        let fewer_still = more.fewer in
        record {
          leads = (mid, step, more.leads);
          quiet = All-cons (λ (x : Entry). IsQuiet x.event) e es quiet more.quiet;
          possible = more.possible;
          falls = omega arith;
          fewer = omega arith;
          done = λ none. subst (λ (xs : List Event). Done file xs w (e ∷ es) v) (sym split) (one_done file w e.event front rest mid e step quiet es v (more.done none));
        }

  nothing_worked : (w : WorldState) (events : List Event) → All (IsPossible file w) events → Worked w events [] w events
  nothing_worked w events possible = record {
    leads = refl;
    quiet = All-nil (λ (x : Entry). IsQuiet x.event);
    possible = possible;
    falls = omega arith;
    fewer = omega arith;
    done = λ none. subst (λ (xs : List Event). Done file xs w [] w) (sym none) (nothing_left file w);
  }

  pub all_worked : (es past : List Entry) (w : WorldState) (events : List Event) (v : WorldState) (left : List Event) → Leads (first_world shape) past w → All (IsPossible file w) events → WorksOff file w events es v left → Worked w events es v left
  all_worked [] past w events v left before possible works =
      subst (λ (x : WorldState). Worked w events [] x left) works.0 (subst (λ (xs : List Event). Worked w events [] w xs) works.1 (nothing_worked w events possible))
  all_worked (e ∷ es) past w events v left before possible works =
      let front = works.0 in
      let rest = works.1 in
      let mid = works.2 in
      let split = works.3 in
      let step = works.4 in
      one_worked past w events front rest mid e before possible split step es v left
      (all_worked es (past ++ e ∷ []) mid ((front ++ rest) ++ deliveries file w e.sends) v left (leads_push (first_world shape) w mid past e before step) (possible_after past w events front rest mid e before possible split step) works.5)

  -- an event that may happen goes, or the server has spent its numbers
  pub goes : (past : List Entry) (w : WorldState) (event : Event) → Leads (first_world shape) past w → has_file w file ≡ true → w.working file ≡ true → IsPossible file w event → Goes file w event
  goes past w event before there works possible = possible_goes w (good_run shape past w is before).1 (all_hosted shape past w is before) (all_shaped shape past w is before) file there works event possible

  -- events of the agenda happened, and the server refuses one that is left, having spent its numbers
  pub record Spends (w : WorldState) (events : List Event) : Type 0 where
    pub entries : List Entry
    pub world : WorldState
    pub left : List Event
    pub works_off : WorksOff file w events entries world left
    pub event : Event
    pub is_left : Contains left event
    pub at : is_some (server_event file event) ≡ true
    pub refused : next world event ≡ Err Spent

  -- all on the agenda happens, or the server has spent its numbers
  abbrev Outcome : WorldState → List Event → Type 0
  Outcome w events = ((es : List Entry) × (v : WorldState) × WorksOff file w events es v []) ⊎ Spends w events

  spends_here : (w : WorldState) (event : Event) (rest : List Event) → (next w event ≡ Err Spent) × (is_some (server_event file event) ≡ true) → Spends w (event ∷ rest)
  spends_here w event rest refused = record {
    entries = [];
    world = w;
    left = event ∷ rest;
    works_off = (refl, refl);
    event = event;
    is_left = contains_first event rest;
    at = refused.1;
    refused = refused.0;
  }

  spends_later : (w mid : WorldState) (e : Entry) (event : Event) (rest : List Event) → event ∷ rest ≡ [] ++ e.event ∷ rest → next w e.event ≡ Ok (mid, e) → Spends mid (rest ++ deliveries file w e.sends) → Spends w (event ∷ rest)
  spends_later w mid e event rest split step s = record {
    entries = e ∷ s.entries;
    world = s.world;
    left = s.left;
    works_off = ([], rest, mid, split, step, s.works_off);
    event = s.event;
    is_left = s.is_left;
    at = s.at;
    refused = s.refused;
  }

  pub all_done : (k : ℕ) (past : List Entry) (w : WorldState) (events : List Event) → Leads (first_world shape) past w → has_file w file ≡ true → w.working file ≡ true → All (IsPossible file w) events → measure file w events ≤ k → Outcome w events
  all_done zero past w [] before there works possible few = inl ([], w, (refl, refl))
  all_done (suc k) past w [] before there works possible few = inl ([], w, (refl, refl))
  all_done zero past w (event ∷ rest) before there works possible few = elim (goes past w event before there works own) [
    | inl q ↦
        let event_is : q.0.1.event ≡ event = entry_event w event q.0 q.1 in
        let step : next w q.0.1.event ≡ Ok (q.0.0, q.0.1) = subst (λ (x : Event). next w x ≡ Ok q.0) (sym event_is) q.1 in
        let less = falls_after past w (event ∷ rest) [] rest q.0.0 q.0.1 before possible (ap (λ (x : Event). x ∷ rest) (sym event_is)) step in
        absurd (omega arith)
    | inr refused ↦ inr (spends_here w event rest refused)
  ]
    where
      own : IsPossible file w event
      own = All-head (IsPossible file w) event rest possible
  all_done (suc k) past w (event ∷ rest) before there works possible few = by (goes past w event before there works own) (all_done k)
    where
      own : IsPossible file w event
      own = All-head (IsPossible file w) event rest possible

      Others : Type 0
      Others = (past : List Entry) (w : WorldState) (events : List Event) → Leads (first_world shape) past w → has_file w file ≡ true → w.working file ≡ true → All (IsPossible file w) events → measure file w events ≤ k → Outcome w events

      by : Goes file w event → Others → Outcome w (event ∷ rest)
      by (inr refused) others = inr (spends_here w event rest refused)
      by (inl q) others =
          more (others (past ++ e ∷ []) mid (rest ++ deliveries file w e.sends) (leads_push (first_world shape) w mid past e before step)
          (ap (λ (s : ShapeFields). is_within s.files file) same.shape ∙ there) (ap (λ (f : ℕ → Bool). f file) same.working ∙ works)
          (possible_after past w (event ∷ rest) [] rest mid e before possible split step) (let less = falls_after past w (event ∷ rest) [] rest mid e before possible split step in omega arith))
        where
          mid : WorldState
          mid = q.0.0

          e : Entry
          e = q.0.1

          event_is : e.event ≡ event
          event_is = entry_event w event (mid, e) q.1

          split : event ∷ rest ≡ [] ++ e.event ∷ rest
          split = ap (λ (x : Event). x ∷ rest) (sym event_is)

          step : next w e.event ≡ Ok (mid, e)
          step = subst (λ (x : Event). next w x ≡ Ok (mid, e)) (sym event_is) q.1

          quiet : IsQuiet e.event
          quiet = subst IsQuiet (sym event_is) (possible_quiet file w event own)

          same : SameMembers w mid
          same = quiet-members w e mid step quiet

          more : Outcome mid (rest ++ deliveries file w e.sends) → Outcome w (event ∷ rest)
          more (inl done) = inl (e ∷ done.0, done.1, ([], rest, mid, split, step, done.2))
          more (inr spends) = inr (spends_later w mid e event rest split step spends)
