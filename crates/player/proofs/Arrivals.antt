-- What is sent arrives.
use Rattle.std.specs.Prelude.{◌≡◌, ◌⊎◌, ℕ, ◌+◌, ◌<◌, ◌≤◌, true, List, [], ◌∷◌, ◌++◌, Contains, length, get_or, slice_get, Some}
use Rattle.std.proofs.Common.{sym, ap, ◌∙◌, subst, inl, inr, arith, append_assoc}
use Rattle.std.proofs.lemmas.Bool.{cases_lt}
use Rattle.std.proofs.lemmas.List.{append-nil, map-append, length-append, get_or_append_left, get_or-append-add}
use Rattle.std.proofs.lemmas.List.Elements.{All-weaker, All-contains_itself, Contains-append_left, Contains-push}
use Rattle.std.proofs.lemmas.Option.{get_or_from_slice_get}
use Rattle.messages.specs.declared.actor.Actor.{Actor}
use Rattle.messages.specs.declared.entry.Entry.{Entry}
use Rattle.messages.specs.declared.event.Event.{Event}
use Rattle.messages.specs.declared.event.Event.TheVariants.{Deliver}
use Rattle.messages.specs.declared.message.Message.{Message}
use Rattle.messages.specs.rule.Messages.{addressee}
use Rattle.cluster_core.specs.rule.Journals.{RunFields, GoesOn, events_of}
use Rattle.cluster_core.specs.rule.Next.{is_stopped}
use Rattle.cluster_core.specs.rule.Parts.{world_state}
use Rattle.cluster_core.specs.rule.World.{WorldState}
use Rattle.cluster_core.specs.rule.Rounds.{IsQuiet}
use Rattle.cluster_core.proofs.runs.JournalRuns.{entry_event}
use Rattle.cluster_core.proofs.steps.Steps.{kept_taken}
use Rattle.player.specs.rule.Rounds.{Arrive}
use Rattle.player.specs.code.Rounds.{ArriveUpTo, GoesBy, IsSentFrom, Passes, PassesAt}
use Rattle.player.proofs.QuietRuns.{goes_append, goes_none, goes_one, quiet_stays, stopped_stays}

-- one more entry, behind which other messages are left
arrive_on : (w v : WorldState) (L K : Message → Type 0) (es : List Entry) (d : Entry) → ((a : Actor) → is_stopped w a ≡ true → is_stopped v a ≡ true) → ((m : Message) → L m → (d.event ≡ Deliver m) ⊎ K m) → ((m : Message) → Contains d.sends m → K m) → Arrive w L es → Arrive v K (es ++ d ∷ [])
arrive_on w v L K [] d stays left sends arrive =
    (All-weaker (Contains d.sends) (λ (m : Message). (is_stopped v (addressee m) ≡ true) ⊎ (Contains (events_of []) (Deliver m) ⊎ K m)) (λ m c. inr (inr (sends m c))) d.sends (All-contains_itself d.sends), tt)
arrive_on w v L K (e ∷ es) d stays left sends arrive = (All-weaker (λ (m : Message). (is_stopped w (addressee m) ≡ true) ⊎ (Contains (events_of es) (Deliver m) ⊎ L m)) (λ (m : Message). (is_stopped v (addressee m) ≡ true) ⊎ (Contains (events_of (es ++ d ∷ [])) (Deliver m) ⊎ K m)) to e.sends arrive.0, arrive_on w v L K es d stays left sends arrive.1)
  where
    all : events_of (es ++ d ∷ []) ≡ events_of es ++ d.event ∷ []
    all = map-append (λ (x : Entry). x.event) es (d ∷ [])

    there : (m : Message) → Contains (events_of es ++ d.event ∷ []) (Deliver m) → Contains (events_of (es ++ d ∷ [])) (Deliver m)
    there m c = subst (λ (l : List Event). Contains l (Deliver m)) (sym all) c

    last : (m : Message) → (d.event ≡ Deliver m) ⊎ K m → (is_stopped v (addressee m) ≡ true) ⊎ (Contains (events_of (es ++ d ∷ [])) (Deliver m) ⊎ K m)
    last m (inl is) = inr (inl (there m (subst (λ (x : Event). Contains (events_of es ++ d.event ∷ []) x) is (Contains-push (events_of es) d.event))))
    last m (inr k) = inr (inr k)

    to : (m : Message) → (is_stopped w (addressee m) ≡ true) ⊎ (Contains (events_of es) (Deliver m) ⊎ L m) → (is_stopped v (addressee m) ≡ true) ⊎ (Contains (events_of (es ++ d ∷ [])) (Deliver m) ⊎ K m)
    to m (inl stopped) = inl (stays (addressee m) stopped)
    to m (inr (inl c)) = inr (inl (there m (Contains-append_left (events_of es) (d.event ∷ []) (Deliver m) c)))
    to m (inr (inr l)) = last m (left m l)

-- fewer messages are left, since who is to get the others was declared failed
pub arrive_past : (w : WorldState) (L K : Message → Type 0) (es : List Entry) → ((m : Message) → L m → (is_stopped w (addressee m) ≡ true) ⊎ K m) → Arrive w L es → Arrive w K es
arrive_past w L K [] left arrive = tt
arrive_past w L K (e ∷ es) left arrive = (All-weaker (λ (m : Message). (is_stopped w (addressee m) ≡ true) ⊎ (Contains (events_of es) (Deliver m) ⊎ L m)) (λ (m : Message). (is_stopped w (addressee m) ≡ true) ⊎ (Contains (events_of es) (Deliver m) ⊎ K m)) to e.sends arrive.0, arrive_past w L K es left arrive.1)
  where
    last : (m : Message) → (is_stopped w (addressee m) ≡ true) ⊎ K m → (is_stopped w (addressee m) ≡ true) ⊎ (Contains (events_of es) (Deliver m) ⊎ K m)
    last m (inl stopped) = inl stopped
    last m (inr k) = inr (inr k)

    to : (m : Message) → (is_stopped w (addressee m) ≡ true) ⊎ (Contains (events_of es) (Deliver m) ⊎ L m) → (is_stopped w (addressee m) ≡ true) ⊎ (Contains (events_of es) (Deliver m) ⊎ K m)
    to m (inl stopped) = inl stopped
    to m (inr (inl c)) = inr (inl c)
    to m (inr (inr l)) = last m (left m l)

sent_more : (sent more : List Message) (place : ℕ) (m : Message) → IsSentFrom sent place m → IsSentFrom (sent ++ more) place m
sent_more sent more place m is =
    let long = length-append sent more in
    let lt = is.2 in
    (is.0, is.1, omega (arith, long, lt), get_or_append_left sent more m is.0 lt ∙ is.3)

sent_new : (sent more : List Message) (place : ℕ) (m : Message) → place ≤ length sent → Contains more m → IsSentFrom (sent ++ more) place m
sent_new sent more place m le c =
    let long = length-append sent more in
    let lt = c.1 in
    (length sent + c.0, omega (arith, le), omega (arith, long, lt), get_or-append-add sent more c.0 m ∙ c.2)

-- of the messages from a place on the first one is the one that stands there
sent_first : (sent : List Message) (place : ℕ) (m x : Message) → slice_get sent place ≡ Some m → IsSentFrom sent place x → (m ≡ x) ⊎ IsSentFrom sent (place + 1) x
sent_first sent place m x there is = elim (cases_lt place is.0) [
  | inl lt ↦ inr (is.0, omega (arith, lt), is.2, is.3)
  | inr ge ↦
      let at : is.0 ≡ place = omega (arith, ge, is.1) in
      inl (sym (get_or_from_slice_get sent place m x there) ∙ (ap (λ (k : ℕ). get_or sent k x) (sym at) ∙ is.3))
]

-- one more event, from which on its messages are left too
pub takes_one : (s t : RunFields) (event : Event) (place : ℕ) (es : List Entry) → IsQuiet event → (on : GoesOn s event t) → place ≤ length s.world.sent → ArriveUpTo s place es → ArriveUpTo t place (es ++ on.0 ∷ [])
takes_one s t event place es quiet on le arrive =
    let w = world_state s.world in
    let v = world_state t.world in
    let stays = quiet_stays w event (v, on.0) quiet (kept_taken w event (v, on.0) on.1).1 in
    let more : t.world.sent ≡ s.world.sent ++ on.0.sends = stays.sent in
    let at : (m : Message) → IsSentFrom (s.world.sent ++ on.0.sends) place m → IsSentFrom t.world.sent place m = λ m is. subst (λ (l : List Message). IsSentFrom l place m) (sym more) is in
    arrive_on w v (IsSentFrom s.world.sent place) (IsSentFrom t.world.sent place) es on.0
    (λ a. stopped_stays w (v, on.0) a stays)
    (λ m is. inr (at m (sent_more s.world.sent on.0.sends place m is)))
    (λ m c. at m (sent_new s.world.sent on.0.sends place m le c))
    arrive

-- the message at the place is delivered
pub delivers_one : (s t : RunFields) (m : Message) (place : ℕ) (es : List Entry) → (on : GoesOn s (Deliver m) t) → place < length s.world.sent → slice_get s.world.sent place ≡ Some m → ArriveUpTo s place es → ArriveUpTo t (place + 1) (es ++ on.0 ∷ [])
delivers_one s t m place es on lt there arrive =
    let w = world_state s.world in
    let v = world_state t.world in
    let made = (kept_taken w (Deliver m) (v, on.0) on.1).1 in
    let stays = quiet_stays w (Deliver m) (v, on.0) tt made in
    let of = entry_event w v (Deliver m) on.0 made in
    let more : t.world.sent ≡ s.world.sent ++ on.0.sends = stays.sent in
    let at : (x : Message) → IsSentFrom (s.world.sent ++ on.0.sends) (place + 1) x → IsSentFrom t.world.sent (place + 1) x = λ x is. subst (λ (l : List Message). IsSentFrom l (place + 1) x) (sym more) is in
    arrive_on w v (IsSentFrom s.world.sent place) (IsSentFrom t.world.sent (place + 1)) es on.0
    (λ a. stopped_stays w (v, on.0) a stays)
    (λ x is. elim (sent_first s.world.sent place m x there is) [
      | inl same ↦ inl (of ∙ ap Deliver same)
      | inr later ↦ inr (at x (sent_more s.world.sent on.0.sends (place + 1) x later))
    ])
    (λ x c. at x (sent_new s.world.sent on.0.sends (place + 1) x (omega (arith, lt)) c))
    arrive

-- the run goes on from r to s, and of what came before and since only messages from that place on are left
abbrev pub ArrivesTo : RunFields → ℕ → RunFields → ℕ → Type 0
ArrivesTo r first s place = (es : List Entry) → ArriveUpTo r first es → (ds : List Entry) × GoesBy r ds s × ArriveUpTo s place (es ++ ds)

pub arrives_none : (r : RunFields) (first : ℕ) → ArrivesTo r first r first
arrives_none r first es arrive = ([], goes_none r, subst (ArriveUpTo r first) (sym (append-nil es)) arrive)

pub arrives_more : (r s t : RunFields) (first place : ℕ) → place < length s.world.sent → ArrivesTo r first s place → PassesAt s place t → ArrivesTo r first t (place + 1)
arrives_more r s t first place lt so_far passes es arrive = by passes.2
  where
    m : Message
    m = passes.0

    past : (ds : List Entry) × GoesBy r ds s × ArriveUpTo s place (es ++ ds)
    past = so_far es arrive

    by : Passes s m t → (ds : List Entry) × GoesBy r ds t × ArriveUpTo t (place + 1) (es ++ ds)
    by (inl on) = (
      past.0 ++ on.0 ∷ [],
      goes_append r s t past.0 (on.0 ∷ []) past.1 (goes_one s t (Deliver m) tt on),
      subst (ArriveUpTo t (place + 1)) (append_assoc es past.0 (on.0 ∷ [])) (delivers_one s t m place (es ++ past.0) on lt passes.1 past.2),
    )
    by (inr rests) = subst (λ (x : RunFields). (ds : List Entry) × GoesBy r ds x × ArriveUpTo x (place + 1) (es ++ ds)) (sym rests.0) (
      past.0,
      past.1,
      arrive_past (world_state s.world) (IsSentFrom s.world.sent place) (IsSentFrom s.world.sent (place + 1)) (es ++ past.0)
          (λ x is. elim (sent_first s.world.sent place m x passes.1 is) [
            | inl same ↦ inl (subst (λ (y : Message). is_stopped (world_state s.world) (addressee y) ≡ true) same rests.1)
            | inr later ↦ inr later
          ]) past.2,
    )

-- behind the last place no message is left
pub arrives_all : (r s : RunFields) (first place : ℕ) → length s.world.sent ≤ place → ArrivesTo r first s place → (es : List Entry) → ArriveUpTo r first es → (ds : List Entry) × GoesBy r ds s × Arrive (world_state s.world) (λ m. ⊥) (es ++ ds)
arrives_all r s first place past so_far es arrive =
    let all = so_far es arrive in (
      all.0,
      all.1,
      arrive_past (world_state s.world) (IsSentFrom s.world.sent place) (λ m. ⊥) (es ++ all.0) (λ m is. absurd (omega (arith, past, is.1, is.2))) all.2,
    )
