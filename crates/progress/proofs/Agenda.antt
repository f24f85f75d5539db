-- What is still to happen in a round: each event on the agenda happens, and what its entry sends about the file is delivered later.
use Rattle.std.specs.Prelude.{◌==◌, not, if◌then◌else◌, filter, map, length, get_or}
use Rattle.std.proofs.Common.{◌≡◌, ℕ, zero, suc, ◌<◌, Bool, true, false, inl, inr, refl, sym, ◌∙◌, ap, subst, arith, List, [], ◌∷◌, ◌++◌, Contains, Ok}
use Rattle.std.proofs.lemmas.Bool.{and_from, or_cases, eq-eqb}
use Rattle.std.proofs.lemmas.List.Elements.{All-cons, Contains-append_left, Contains-append_right, Contains-append_cases}
use Rattle.messages.proofs.SameMessages.{same_message-is-equality}
use Rattle.messages.specs.rule.Messages.{addressee, file_of, is_among, same_message}
use Rattle.messages.specs.declared.message.Message.{Message}
use Rattle.messages.specs.declared.event.Event.{Event}
use Rattle.messages.specs.declared.event.Event.TheVariants.{Deliver}
use Rattle.messages.specs.declared.entry.Entry.{Entry}
use Rattle.cluster_core.specs.rule.World.{WorldState}
use Rattle.cluster_core.specs.rule.Next.{is_stopped, next}
use Rattle.cluster_core.specs.rule.Runs.{Leads}
use Rattle.cluster_core.specs.rule.Rounds.{IsQuiet, Happens}
use Rattle.progress.specs.rule.Agenda.{is_due, deliveries}
use Rattle.cluster_core.proofs.rounds.Quiet.{SameMembers, quiet-members}
use Rattle.cluster_core.proofs.rounds.Stretches.{AllQuiet}
use Rattle.cluster_core.proofs.steps.Steps.{next_step}

pub contains_first : {A : Type 0} (x : A) (xs : List A) → Contains (x ∷ xs) x
contains_first x xs = (0, omega arith, refl)

pub contains_later : {A : Type 0} (y : A) (xs : List A) (x : A) → Contains xs x → Contains (y ∷ xs) x
contains_later y xs x at = (suc at.0, (let lt = at.1 in omega arith), at.2)

-- a message that is due is delivered
pub delivery_there : (file : ℕ) (w : WorldState) (ms : List Message) (m : Message) → is_among ms m ≡ true → is_due file w m ≡ true → Contains (deliveries file w ms) (Deliver m)
delivery_there file w [] m among due = absurd (cc)
delivery_there file w (x ∷ xs) m among due = elim (or_cases (same_message m x) (is_among xs m) among) [
  | inl same ↦
      let is : m ≡ x = (same_message-is-equality m x).0 same in
      let passes : is_due file w x ≡ true = ap (is_due file w) (sym is) ∙ due in
      subst (λ (b : Bool). Contains (map Deliver (if b then x ∷ filter (is_due file w) xs else filter (is_due file w) xs)) (Deliver m)) (sym passes)
      (subst (λ (y : Message). Contains (Deliver y ∷ deliveries file w xs) (Deliver m)) is (contains_first (Deliver m) (deliveries file w xs)))
  | inr later ↦
      let rest = delivery_there file w xs m later due in
      by (is_due file w x) rest
]
  where
    by : (b : Bool) → Contains (deliveries file w xs) (Deliver m) → Contains (map Deliver (if b then x ∷ filter (is_due file w) xs else filter (is_due file w) xs)) (Deliver m)
    by true rest = contains_later (Deliver x) (deliveries file w xs) (Deliver m) rest
    by false rest = rest

-- the entries lead from one world to another, all on the agenda happens in them, and what they send about the file is delivered in them
pub record Done (file : ℕ) (agenda : List Event) (w : WorldState) (es : List Entry) (v : WorldState) : Type 0 where
  pub leads : Leads w es v
  pub quiet : AllQuiet es
  pub happens : (event : Event) → Contains agenda event → Happens es event
  pub delivers : (before after : List Entry) (e : Entry) (m : Message) → es ≡ before ++ e ∷ after → is_among e.sends m ≡ true → file_of m ≡ file → is_stopped w (addressee m) ≡ false → Happens after (Deliver m)

-- the entry is of the event
pub entry_event : (w : WorldState) (event : Event) (q : WorldState × Entry) → next w event ≡ Ok q → q.1.event ≡ event
entry_event w event q h =
    next_step w (λ p. p.1.event ≡ event) event q (λ n step done is. refl) (λ file step done is. refl) (λ k is alive. refl) (λ k is dead few. refl) (λ f is works. refl) (λ f is stopped few. refl) h

later_happens : (e : Entry) (es : List Entry) (event : Event) → Happens es event → Happens (e ∷ es) event
later_happens e es event h = record { before = e ∷ h.before; happened = h.happened; after = h.after; split = ap (λ (xs : List Entry). e ∷ xs) h.split; is = h.is }

-- an empty agenda is done
pub nothing_left : (file : ℕ) (w : WorldState) → Done file [] w [] w
nothing_left file w = record {
  leads = refl;
  quiet = λ k d lt. absurd (omega arith);
  happens = λ event at. absurd (let lt = at.1 in omega arith);
  delivers = λ before after e m split among of_file free. absurd (no_split e after before split);
}
  where
    no_split : (e : Entry) (after : List Entry) (before : List Entry) → ◌≡◌ {A = List Entry} [] (before ++ e ∷ after) → ⊥
    no_split e after [] split = absurd (cc)
    no_split e after (x ∷ xs) split = absurd (cc)

-- an event on the agenda happens, and then the others with the deliveries that it calls for
module _ (file : ℕ) (w : WorldState) (event : Event) (front rest : List Event) (mid : WorldState) (e : Entry) (step : next w event ≡ Ok (mid, e)) (quiet : IsQuiet event) (es : List Entry) (v : WorldState) (done : Done file ((front ++ rest) ++ deliveries file w e.sends) mid es v) where
  is : e.event ≡ event
  is = entry_event w event (mid, e) step

  step_of : next w e.event ≡ Ok (mid, e)
  step_of = subst (λ (x : Event). next w x ≡ Ok (mid, e)) (sym is) step

  same : SameMembers w mid
  same = quiet-members w e mid step_of (subst IsQuiet (sym is) quiet)

  -- the others happen after it
  others_happen : (x : Event) → Contains (front ++ rest) x → Happens (e ∷ es) x
  others_happen x at = later_happens e es x (done.happens x (Contains-append_left (front ++ rest) (deliveries file w e.sends) x at))

  all_happen : (x : Event) → Contains (front ++ event ∷ rest) x → Happens (e ∷ es) x
  all_happen x at = elim (Contains-append_cases front (event ∷ rest) x at) [
    | inl early ↦ others_happen x (Contains-append_left front rest x early)
    | inr late ↦ by late.0 late.1 late.2
  ]
    where
      by : (k : ℕ) → k < length (event ∷ rest) → get_or (event ∷ rest) k x ≡ x → Happens (e ∷ es) x
      by zero lt found = record { before = []; happened = e; after = es; split = refl; is = is ∙ found }
      by (suc k) lt found = others_happen x (Contains-append_right front rest x (k, omega arith, found))

  stopped_same : (m : Message) → is_stopped mid (addressee m) ≡ is_stopped w (addressee m)
  stopped_same m = (λ i. is_stopped (record w { alive = same.alive i; working = same.working i }) (addressee m))

  all_delivered : (before after : List Entry) (x : Entry) (m : Message) → e ∷ es ≡ before ++ x ∷ after → is_among x.sends m ≡ true → file_of m ≡ file → is_stopped w (addressee m) ≡ false → Happens after (Deliver m)
  all_delivered [] after x m split among of_file free =
      let first : e ≡ x = cc in
      let others : es ≡ after = cc in
      let due : is_due file w m ≡ true = and_from (file_of m == file) (not (is_stopped w (addressee m))) (eq-eqb (file_of m) file of_file) (ap not free) in
      let there = delivery_there file w e.sends m (ap (λ (y : Entry). is_among y.sends m) first ∙ among) due in
      subst (λ (xs : List Entry). Happens xs (Deliver m)) others (done.happens (Deliver m) (Contains-append_right (front ++ rest) (deliveries file w e.sends) (Deliver m) there))
  all_delivered (y ∷ before) after x m split among of_file free =
      let others : es ≡ before ++ x ∷ after = cc in
      done.delivers before after x m others among of_file (stopped_same m ∙ free)

  pub one_done : Done file (front ++ event ∷ rest) w (e ∷ es) v
  one_done = record {
    leads = (mid, step_of, done.leads);
    quiet = All-cons (λ (x : Entry). IsQuiet x.event) e es (subst IsQuiet (sym is) quiet) done.quiet;
    happens = all_happen;
    delivers = all_delivered;
  }
