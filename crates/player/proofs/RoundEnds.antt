-- How rounds end.
use Rattle.std.specs.Prelude.{◌≡◌, ◌≢◌, Bool, true, false, List, [], ◌∷◌, ◌++◌, Contains, drop, length, refl, Option}
use Rattle.std.proofs.Common.{inl, inr, sym, ap, ◌∙◌, subst, append_assoc}
use Rattle.std.proofs.lemmas.List.{map-append}
use Rattle.std.proofs.lemmas.List.Elements.{All-contains, All-nil, Contains-append_left}
use Rattle.messages.specs.declared.entry.Entry.{Entry}
use Rattle.messages.specs.declared.event.Event.{Event}
use Rattle.messages.specs.declared.event.Event.TheVariants.{Deliver}
use Rattle.messages.specs.declared.refusal.Refused.{Refused}
use Rattle.messages.specs.declared.refusal.Refused.TheVariants.{NoMemory}
use Rattle.cluster_core.specs.rule.Journals.{JournalFields, RunFields, events_of}
use Rattle.cluster_core.specs.rule.Parts.{world_state}
use Rattle.cluster_core.specs.rule.Runs.{Leads}
use Rattle.cluster_core.specs.rule.World.{WorldState, first_world}
use Rattle.cluster_core.specs.rule.Rounds.{AnswersNone, IsQuiet}
use Rattle.cluster_core.proofs.runs.JournalRuns.{leads_shape}
use Rattle.messages.specs.rule.Shapes.{ShapeFields, IsShape}
use Rattle.lockscript.specs.rule.Scripts.{LineFields}
use Rattle.player.specs.code.Rounds.{ComesOn, PlayerParts, progress, AreDue, Arrives, EndsInRound, GoesByRound, GoesCalm, GoesQuietly, Stops, StopsAmong, StopsAtSent, TakesAll}
use Rattle.player.specs.rule.Progress.{Progress, first_progress, progress_after, PlayedState, ComesFrom, played_of}
use Rattle.player.specs.declared.rounds.Calm.{Calm}
use Rattle.player.specs.declared.rounds.Calm.TheVariants as calm
use Rattle.player.specs.rule.Rounds.{Comes, GoesBehind, NoneOpen, IsDue, EndsRefused, EndsAs, EndsCalm}
use Rattle.player.proofs.QuietRuns.{goes_append, leads_append, quiet_append}
use Rattle.player.proofs.NoneStuck.{calmed_none_stuck}

-- what is due is taken, and then all arrives
pub makes_round : (r s t : RunFields) (events : List Event) → AreDue (world_state r.world) events → (took : TakesAll r events s) → Arrives s (length r.world.sent) t → GoesByRound r t
makes_round r s t events due took arrives =
    let es = took.0 in
    let rest = arrives es took.3 in
    let all = goes_append r s t es rest.0 took.1 rest.1 in (
      es ++ rest.0,
      all.entries,
      record {
        run = all.run;
        due = λ event is. subst (λ (l : List Event). Contains l event) (sym (map-append (λ (e : Entry). e.event) es rest.0)) (Contains-append_left (events_of es) (events_of rest.0) event (subst (λ (l : List Event). Contains l event) (sym took.2) (due.all event is)));
        arrive = rest.2;
      },
    )

-- a run that goes on keeps its shape
pub goes_shape : (r s : RunFields) → GoesQuietly r s → s.world.shape ≡ r.world.shape
goes_shape r s goes = leads_shape (world_state r.world) (world_state s.world) goes.0 goes.1.run.leads

pub goes_by_round : (r s : RunFields) → GoesByRound r s → GoesQuietly r s
goes_by_round r s round = (round.0, record { entries = round.1; run = round.2.run })

pub ends_first : (r s : RunFields) → GoesByRound r s → EndsInRound r s
ends_first r s round = record {
  before = [];
  last = round.0;
  begun = world_state r.world;
  entries = round.1;
  run = record { leads = refl; quiet = All-nil IsQuiet };
  round = round.2;
}

pub ends_next : (r s t : RunFields) → EndsInRound r s → GoesByRound s t → EndsInRound r t
ends_next r s t so_far round = record {
  before = so_far.before ++ so_far.last;
  last = round.0;
  begun = world_state s.world;
  entries = round.1 ∙ (ap (λ (l : List Entry). l ++ round.0) so_far.entries ∙ append_assoc r.entries (so_far.before ++ so_far.last) round.0);
  run = quiet_append (world_state r.world) so_far.begun (world_state s.world) so_far.before so_far.last so_far.run so_far.round.run;
  round = round.2;
}

-- the run goes on quietly up to the end of its last round
pub ends_quietly : (r s : RunFields) → EndsInRound r s → GoesQuietly r s
ends_quietly r s ends = (
  ends.before ++ ends.last,
  record {
    entries = ends.entries;
    run = quiet_append (world_state r.world) ends.begun (world_state s.world) ends.before ends.last ends.run ends.round.run;
  },
)

pub ends_none_open : (r s : RunFields) → GoesQuietly r s → NoneOpen (world_state s.world) → GoesCalm r s calm.NoneOpen
ends_none_open r s goes none = (goes.0, goes.1.entries, record { run = goes.1.run; ends = none })

-- a delivery that is refused ends what went on quietly up to it
pub stops_sent : (r s : RunFields) (refusal : Refused) → GoesQuietly r s → StopsAtSent s refusal → Stops r s refusal
stops_sent r s refusal goes stops ne =
    let at = stops ne in (
      goes.0,
      goes.1,
      record { before = []; front = goes.0; split = refl; begun = world_state r.world; leads = refl; leads_on = goes.1.run.leads; event = Deliver at.0; owed = inr at.1; refused = at.2 },
    )

-- so does an event that is due
pub stops_due : (r s : RunFields) (events : List Event) (refusal : Refused) → AreDue (world_state r.world) events → GoesQuietly r s → StopsAmong events s refusal → Stops r s refusal
stops_due r s events refusal due goes stops ne =
    let at = stops ne in (
      goes.0,
      goes.1,
      record { before = []; front = goes.0; split = refl; begun = world_state r.world; leads = refl; leads_on = goes.1.run.leads; event = at.0; owed = inl (All-contains (IsDue (world_state r.world)) events at.0 due.each at.1); refused = at.2 },
    )

refused_behind : (w v u : WorldState) (refusal : Refused) (es fs : List Entry) → Leads w es v → EndsRefused refusal v fs u → EndsRefused refusal w (es ++ fs) u
refused_behind w v u refusal es fs led ends = record {
  before = es ++ ends.before;
  front = ends.front;
  split = ap (λ (l : List Entry). es ++ l) ends.split ∙ sym (append_assoc es ends.before ends.front);
  begun = ends.begun;
  leads = leads_append w v ends.begun es ends.before led ends.leads;
  leads_on = ends.leads_on;
  event = ends.event;
  owed = ends.owed;
  refused = ends.refused;
}

-- what went before
pub stops_behind : (r s t : RunFields) (refusal : Refused) → GoesQuietly r s → Stops s t refusal → Stops r t refusal
stops_behind r s t refusal goes stops ne =
    let at = stops ne in (
      goes.0 ++ at.0,
      goes_append r s t goes.0 at.0 goes.1 at.1,
      refused_behind (world_state r.world) (world_state s.world) (world_state t.world) refusal goes.0 at.0 goes.1.run.leads at.2,
    )

pub ends_refused : (r s : RunFields) (refusal : Refused) → refusal ≢ NoMemory → Stops r s refusal → GoesCalm r s (calm.Refused refusal)
ends_refused r s refusal ne stops = let at = stops ne in (at.0, at.1.entries, record { run = at.1.run; ends = at.2 })

-- the entries of the last round behind those before it
pub last_entries : (r s : RunFields) → (round : GoesByRound r s) → drop (length r.entries) s.entries ≡ round.0
last_entries r s round = ap (drop (length r.entries)) round.1 ∙ dropped r.entries round.0
  where
    dropped : (xs ys : List Entry) → drop (length xs) (xs ++ ys) ≡ ys
    dropped [] ys = refl
    dropped (x ∷ xs) ys = dropped xs ys

pub ends_silent : (r s t : RunFields) → EndsInRound r s → (round : GoesByRound s t) → AnswersNone (drop (length s.entries) t.entries) → GoesCalm r t calm.Silent
unfolding ends_next ends_quietly
ends_silent r s t so_far round none =
    let all = ends_next r s t so_far round in (
      (so_far.before ++ so_far.last) ++ round.0,
      all.entries,
      record {
        run = (ends_quietly r t all).1.run;
        ends = record {
          before = so_far.before;
          first = so_far.last;
          second = round.0;
          split = append_assoc so_far.before so_far.last round.0;
          begun = so_far.begun;
          mid = world_state s.world;
          leads = so_far.run.leads;
          round = so_far.round;
          silent = round.2;
          answers_none = subst AnswersNone (last_entries s t round) none;
        };
      },
    )

-- rounds behind what went before
pub calm_behind : (r s t : RunFields) (end : Calm) → GoesQuietly r s → GoesCalm s t end → GoesCalm r t end
calm_behind r s t end goes rounds = (
  goes.0 ++ rounds.0,
  rounds.1 ∙ (ap (λ (l : List Entry). l ++ rounds.0) goes.1.entries ∙ append_assoc r.entries goes.0 rounds.0),
  record {
    run = quiet_append (world_state r.world) (world_state s.world) (world_state t.world) goes.0 rounds.0 goes.1.run rounds.2.run;
    ends = behind end rounds.2.ends;
  },
)
  where
    behind : (its : Calm) → EndsAs its (world_state s.world) rounds.0 (world_state t.world) → EndsAs its (world_state r.world) (goes.0 ++ rounds.0) (world_state t.world)
    behind calm.NoneOpen ends = ends
    behind (calm.Refused refusal) ends = refused_behind (world_state r.world) (world_state s.world) (world_state t.world) refusal goes.0 rounds.0 goes.1.run.leads ends
    behind calm.Silent ends = record {
      before = goes.0 ++ ends.before;
      first = ends.first;
      second = ends.second;
      split = ap (λ (l : List Entry). goes.0 ++ l) ends.split ∙ sym (append_assoc goes.0 ends.before (ends.first ++ ends.second));
      begun = ends.begun;
      mid = ends.mid;
      leads = leads_append (world_state r.world) (world_state s.world) ends.begun goes.0 ends.before goes.1.run.leads ends.leads;
      round = ends.round;
      silent = ends.silent;
      answers_none = ends.answers_none;
    }

-- a run leads on by its rounds
pub calm_leads : (w : WorldState) (r s : RunFields) (end : Calm) → Leads w r.entries (world_state r.world) → GoesCalm r s end → Leads w s.entries (world_state s.world)
calm_leads w r s end led calm =
    subst (λ (l : List Entry). Leads w l (world_state s.world)) (sym calm.1) (leads_append w (world_state r.world) (world_state s.world) r.entries calm.0 led calm.2.run.leads)

-- what a script came to, and the rounds behind it
pub ends_calm : (shape : ShapeFields) → IsShape shape → (p q : PlayerParts) (end : Calm) (played : PlayedState) → Leads (first_world shape) p.run.entries (world_state p.run.world) → played ≡ played_of shape (progress q) → q.refused ≡ p.refused → GoesCalm p.run q.run end → EndsCalm (played_of shape (progress p)) end played
ends_calm shape served p q end played led is refused calm = subst (EndsCalm (played_of shape (progress p)) end) (sym is) (record {
  later = calm.0;
  shape = refl;
  entries = calm.1;
  refused = refused;
  rounds = calm.2;
  none_stuck = calmed_none_stuck shape served p.run.entries calm.0 (world_state p.run.world) (world_state q.run.world) end led calm.2;
})

-- what lines come to on a cluster that begins, and behind the run of a journal
pub comes : (calm : Bool) (shape : ShapeFields) (from : Progress) (lines : List LineFields) (played : PlayedState) (cut : Option Refused) → from ≡ first_progress shape → ComesOn calm shape from lines played cut → Comes calm shape lines played cut
comes false shape from lines played cut begins is = (subst (λ (p : Progress). ComesFrom shape p lines played) begins is.0, is.1)
comes true shape from lines played cut begins is = (is.0, is.1, subst (λ (p : Progress). ComesFrom shape p lines is.0) begins is.2, is.3, is.4)

pub goes-behind : (calm : Bool) (j : JournalFields) (world : WorldState) (from : Progress) (lines : List LineFields) (played : PlayedState) (cut : Option Refused) → Leads (first_world j.shape) j.entries world → from ≡ progress_after j.entries world → ComesOn calm j.shape from lines played cut → GoesBehind calm j lines played cut
goes-behind false j world from lines played cut leads behind is = ((world, (leads, subst (λ (p : Progress). ComesFrom j.shape p lines played) behind is.0)), is.1)
goes-behind true j world from lines played cut leads behind is = (is.0, is.1, (world, (leads, subst (λ (p : Progress). ComesFrom j.shape p lines is.0) behind is.2)), is.3, is.4)
