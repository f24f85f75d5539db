-- After every run a round about each file whose server works can be made within its bound, and as many as answer all that no lock blocks, unless the server spends the numbers of its epoch in them.
use Rattle.std.proofs.Common.{◌≡◌, ℕ, zero, suc, ◌+◌, ◌*◌, ◌≤◌, ◌⊎◌, Bool, true, inl, inr, refl, sym, ◌∙◌, ap, subst, arith, suc-mul, mul-le-mul, mul-le-mul_right, le_of_mul-le-mul_right, List, [], ◌∷◌, ◌++◌, length, append-nil, All}
use Rattle.std.proofs.lemmas.List.Elements.{All-nil, All-append, All-contains}
use Rattle.messages.specs.rule.Shapes.{ShapeFields, IsShape}
use Rattle.messages.specs.rule.Messages.{is_among, is_within}
use Rattle.messages.specs.declared.message.Message.{Message}
use Rattle.messages.specs.declared.entry.Entry.{Entry}
use Rattle.messages.specs.declared.event.Event.{Event}
use Rattle.token_server.specs.rule.State.{requests}
use Rattle.cluster_core.specs.rule.World.{WorldState, first_world, has_file}
use Rattle.cluster_core.specs.rule.Runs.{Leads}
use Rattle.cluster_core.specs.rule.Rounds.{IsRound}
use Rattle.cluster_core.proofs.rounds.Quiet.{SameMembers}
use Rattle.cluster_core.proofs.rounds.Stretches.{leads_both, members_stay}
use Rattle.cluster_core.proofs.runs.Runs.{good_run}
use Rattle.progress.specs.rule.Agenda.{agenda, deliveries, agenda_with, AreOlder, WorksOff}
use Rattle.progress.specs.rule.Bounds.{number_of_requests, round_bound, most_entries, entries_of}
use Rattle.progress.specs.rule.Making.{IsSpent, IsSpentWithin, ARoundCanBeMade, EveryOrderMakesARound, AreWorkedOff, AnswerOthers, AllOthersAreAnswered, AllOthersCanBeAnswered}
use Rattle.progress.specs.rule.Rounds.{number_of_open_calls, AreRounds}
use Rattle.progress.proofs.Bounded.{each_is, spare_bounded, measure_bounded}
use Rattle.progress.proofs.Chains.{rounds_answer}
use Rattle.progress.proofs.Costs.{most_of}
use Rattle.progress.proofs.Counting.{stretch_counts}
use Rattle.progress.proofs.Falls.{measure, spare}
use Rattle.progress.proofs.Listed.{agenda_possible, is_round}
use Rattle.progress.proofs.Making.{older_possible, Worked, all_worked, goes, Spends, all_done}
use Rattle.progress.proofs.Possible.{IsPossible}

-- all on the agenda may happen, and older messages may come
all_possible : (shape : ShapeFields) (is : IsShape shape) (file : ℕ) (past : List Entry) (w : WorldState) → Leads (first_world shape) past w → (older : List Message) → AreOlder w older → All (IsPossible file w) (agenda_with file w older)
all_possible shape is file past w before older sent = All-append (IsPossible file w) (agenda file w) (deliveries file w older) (agenda_possible shape past w (good_run shape past w is before).0 file) (older_possible file w older sent)

module _ (shape : ShapeFields) (is : IsShape shape) (file : ℕ) (past : List Entry) (w : WorldState) (before : Leads (first_world shape) past w) (older : List Message) (sent : AreOlder w older) where
  worked : (es : List Entry) (v : WorldState) (left : List Event) → WorksOff file w (agenda_with file w older) es v left → Worked shape is file w (agenda_with file w older) es v left
  worked es v left works = all_worked shape is file es past w (agenda_with file w older) v left before (all_possible shape is file past w before older sent) works

  within_bound : (es : List Entry) (v : WorldState) (left : List Event) → WorksOff file w (agenda_with file w older) es v left → length es ≤ most_entries w file (length older)
  within_bound es v left works =
      let less = (worked es v left works).falls in
      let most = measure_bounded file w older in
      omega arith

  -- no more requests are there after it than before it and calls were open
  few_requests : (es : List Entry) (v : WorldState) → WorksOff file w (agenda_with file w older) es v [] → number_of_requests v file ≤ number_of_requests w file + (number_of_open_calls w + length older)
  few_requests es v works =
      let x = worked es v [] works in
      let same : v.shape ≡ w.shape = (members_stay es w v x.leads x.quiet).shape in
      let u : ℕ = 3 * most_of w.shape.nodes in
      let fewer : spare w.shape.nodes file v [] ≤ spare w.shape.nodes file w (agenda_with file w older) = subst (λ (s : ShapeFields). spare s.nodes file v [] ≤ spare w.shape.nodes file w (agenda_with file w older)) same x.fewer in
      let most = spare_bounded file w older in
      let held = each_is u (requests (v.servers file)) in
      le_of_mul-le-mul_right {k = u} (omega arith) (omega arith)

-- in whatever order the agenda is worked off, a round is made within its bound
pub every_order : EveryOrderMakesARound
every_order shape past es w v file older left is before there works sent off =
    let x = worked shape is file past w before older sent es v left off in
    let same = members_stay es w v x.leads x.quiet in (
      within_bound shape is file past w before older sent es v left off,
      (λ none. is_round file w (deliveries file w older) es v (x.done none)),
      λ event at.
          goes shape is file (past ++ es) v event (leads_both (first_world shape) w v past es before x.leads)
          (ap (λ (s : ShapeFields). is_within s.files file) same.shape ∙ there) (ap (λ (f : ℕ → Bool). f file) same.working ∙ works)
          (All-contains (IsPossible file v) left event x.possible at),
    )

none_older : (w : WorldState) → AreOlder w []
none_older w = All-nil (λ (m : Message). is_among w.sent m ≡ true)

-- a round that was made by its agenda, while no older message came
record Made (file : ℕ) (w : WorldState) : Type 0 where
  entries : List Entry
  world : WorldState
  off : WorksOff file w (agenda_with file w []) entries world []

module _ (shape : ShapeFields) (is : IsShape shape) (file : ℕ) (past : List Entry) (w : WorldState) (before : Leads (first_world shape) past w) where
  spent : Spends shape is file w (agenda_with file w []) → IsSpent file w
  spent s = record {
    entries = s.entries;
    world = s.world;
    left = s.left;
    works_off = subst (λ (events : List Event). WorksOff file w events s.entries s.world s.left) (append-nil (agenda file w)) s.works_off;
    few = within_bound shape is file past w before [] (none_older w) s.entries s.world s.left s.works_off;
    event = s.event;
    is_left = s.is_left;
    at = s.at;
    refused = s.refused;
  }

  made : has_file w file ≡ true → w.working file ≡ true → Made file w ⊎ IsSpent file w
  made there works =
      elim (all_done shape is file (measure file w (agenda_with file w [])) past w (agenda_with file w []) before there works (all_possible shape is file past w before [] (none_older w)) (omega arith)) [
        | inl done ↦ inl (record { entries = done.0; world = done.1; off = done.2 })
        | inr spends ↦ inr (spent spends)
      ]

pub round_can_be_made : ARoundCanBeMade
round_can_be_made shape past w file is before there works = elim (made shape is file past w before there works) [
  | inl m ↦
      let all = every_order shape past m.entries w m.world file [] [] is before there works (none_older w) m.off in
      inl (m.entries, m.world, all.1 refl, all.0)
  | inr spent ↦ inr spent
]

-- more requests and more calls have a greater bound
bound_grows : (nodes r q c d : ℕ) → r ≤ q → c ≤ d → round_bound nodes r c ≤ round_bound nodes q d
bound_grows nodes r q c d more further = mul-le-mul (omega arith) (mul-le-mul_right (6 * (nodes + 1)) (omega arith))

-- what comes of a round that was made by its agenda
module _ (shape : ShapeFields) (is : IsShape shape) (file : ℕ) (past : List Entry) (w : WorldState) (before : Leads (first_world shape) past w) (there : has_file w file ≡ true) (works : w.working file ≡ true) (es : List Entry) (mid : WorldState) (older : List Message) (sent : AreOlder w older) (off : WorksOff file w (agenda_with file w older) es mid []) where
  round : IsRound file w es mid
  round = (every_order shape past es w mid file older [] is before there works sent off).1 refl

  stay : SameMembers w mid
  stay = members_stay es w mid round.leads round.quiet

  before_then : Leads (first_world shape) (past ++ es) mid
  before_then = leads_both (first_world shape) w mid past es before round.leads

  there_then : has_file mid file ≡ true
  there_then = ap (λ (s : ShapeFields). is_within s.files file) stay.shape ∙ there

  works_then : mid.working file ≡ true
  works_then = ap (λ (f : ℕ → Bool). f file) stay.working ∙ works

  fewer_open : number_of_open_calls mid ≤ number_of_open_calls w
  fewer_open = elim (stretch_counts es w mid round.leads round.quiet) [ inl silent ↦ silent.1 | inr fewer ↦ omega arith ]

module _ (shape : ShapeFields) (is : IsShape shape) (file older : ℕ) where
  -- rounds that were made by their agendas are within the bound of so many requests and calls, and leave no more of them
  record Within (nodes most calls : ℕ) (rounds : List (List Entry)) (w v : WorldState) : Type 0 where
    are : AreRounds file w rounds v
    few : entries_of rounds ≤ length rounds * round_bound nodes most calls
    nodes_are : v.shape.nodes ≡ nodes
    few_calls : number_of_open_calls v + older ≤ calls
    few_requests : number_of_requests v file ≤ most

  rounds_within : (nodes most calls : ℕ) (rounds : List (List Entry)) (past : List Entry) (w v : WorldState) → Leads (first_world shape) past w → has_file w file ≡ true → w.working file ≡ true → w.shape.nodes ≡ nodes → number_of_open_calls w + older ≤ calls → number_of_requests w file + length rounds * calls ≤ most → AreWorkedOff file older w rounds v → Within nodes most calls rounds w v
  rounds_within nodes most calls [] past w v before there works same few fit off =
      subst (λ (x : WorldState). Within nodes most calls [] w x) off (record { are = refl; few = omega arith; nodes_are = same; few_calls = few; few_requests = omega (arith, fit) })
  rounds_within nodes most calls (es ∷ rounds) past w v before there works same few fit off =
      finish (rounds_within nodes most calls rounds (past ++ es) mid v (before_then shape is file past w before there works es mid coming off.2 off.4) (there_then shape is file past w before there works es mid coming off.2 off.4) (works_then shape is file past w before there works es mid coming off.2 off.4) nodes_then few_then fit_then off.5)
    where
      mid : WorldState
      mid = off.0

      coming : List Message
      coming = off.1

      here : IsRound file w es mid
      here = round shape is file past w before there works es mid coming off.2 off.4

      one : suc (length rounds) * calls ≡ length rounds * calls + calls
      one = suc-mul (length rounds) calls

      few_here : number_of_open_calls w + length coming ≤ calls
      few_here = let least = off.3 in omega (arith, few, least)

      few_then : number_of_open_calls mid + older ≤ calls
      few_then = let fewer = fewer_open shape is file past w before there works es mid coming off.2 off.4 in omega (arith, few, fewer)

      fit_then : number_of_requests mid file + length rounds * calls ≤ most
      fit_then = let more = few_requests shape is file past w before coming off.2 es mid off.4 in omega (arith, fit, more, few_here, one)

      nodes_then : mid.shape.nodes ≡ nodes
      nodes_then = ap (λ (s : ShapeFields). s.nodes) (stay shape is file past w before there works es mid coming off.2 off.4).shape ∙ same

      long : length es ≤ most_entries w file (length coming)
      long = within_bound shape is file past w before coming off.2 es mid [] off.4

      grows : round_bound nodes (number_of_requests w file) (number_of_open_calls w + length coming) ≤ round_bound nodes most calls
      grows = bound_grows nodes (number_of_requests w file) most (number_of_open_calls w + length coming) calls (omega (arith, fit)) few_here

      bound_is : most_entries w file (length coming) ≡ round_bound nodes (number_of_requests w file) (number_of_open_calls w + length coming)
      bound_is = ap (λ (n : ℕ). round_bound n (number_of_requests w file) (number_of_open_calls w + length coming)) same

      all : suc (length rounds) * round_bound nodes most calls ≡ length rounds * round_bound nodes most calls + round_bound nodes most calls
      all = suc-mul (length rounds) (round_bound nodes most calls)

      finish : Within nodes most calls rounds mid v → Within nodes most calls (es ∷ rounds) w v
      finish rest =
          let total = rest.few in
          record { are = (mid, here, rest.are); few = omega (arith, total, long, grows, bound_is, all); nodes_are = rest.nodes_are; few_calls = rest.few_calls; few_requests = rest.few_requests }

  both : (past : List Entry) (rounds : List (List Entry)) (w v : WorldState) → Leads (first_world shape) past w → has_file w file ≡ true → w.working file ≡ true → AreWorkedOff file older w rounds v → length rounds ≡ number_of_open_calls w + 2 → AreRounds file w rounds v × AnswerOthers file older w rounds v
  both past rounds w v before there works off long =
      let n = number_of_open_calls w in
      let c = number_of_open_calls w + older in
      let most = number_of_requests w file + (n + 2) * c in
      let fit : number_of_requests w file + length rounds * c ≤ most = subst (λ (k : ℕ). number_of_requests w file + k * c ≤ most) (sym long) (omega arith) in
      let within = rounds_within w.shape.nodes most c rounds past w v before there works refl (omega arith) fit off in (
        within.are,
        (
          rounds_answer shape past rounds w v file is before works within.are (omega arith),
          subst (λ (k : ℕ). entries_of rounds ≤ k * round_bound w.shape.nodes most c) long within.few,
        ),
      )

module _ (shape : ShapeFields) (is : IsShape shape) (file : ℕ) where
  -- fewer than so many rounds are made, and in the next one the server has spent its numbers
  record SpendsAfter (k : ℕ) (w : WorldState) : Type 0 where
    rounds : List (List Entry)
    world : WorldState
    work_off : AreWorkedOff file 0 w rounds world
    fewer : length rounds + 1 ≤ k
    spent : IsSpent file world

  -- so many rounds can be made
  abbrev AreMade : ℕ → WorldState → Type 0
  AreMade k w = ((rounds : List (List Entry)) × (v : WorldState) × AreWorkedOff file 0 w rounds v × (length rounds ≡ k)) ⊎ SpendsAfter k w

  rounds_made : (k : ℕ) (past : List Entry) (w : WorldState) → Leads (first_world shape) past w → has_file w file ≡ true → w.working file ≡ true → AreMade k w
  rounds_made zero past w before there works = inl ([], w, refl, refl)
  rounds_made (suc k) past w before there works = by (made shape is file past w before there works) (rounds_made k)
    where
      by : Made file w ⊎ IsSpent file w → ((past : List Entry) (w : WorldState) → Leads (first_world shape) past w → has_file w file ≡ true → w.working file ≡ true → AreMade k w) → AreMade (suc k) w
      by (inr spent) others = inr (record { rounds = []; world = w; work_off = refl; fewer = omega arith; spent = spent })
      by (inl m) others = more (others (past ++ m.entries) m.world (before_then shape is file past w before there works m.entries m.world [] (none_older w) m.off) (there_then shape is file past w before there works m.entries m.world [] (none_older w) m.off) (works_then shape is file past w before there works m.entries m.world [] (none_older w) m.off))
        where
          more : AreMade k m.world → AreMade (suc k) w
          more (inr s) =
              let less = s.fewer in
              inr (record { rounds = m.entries ∷ s.rounds; world = s.world; work_off = (m.world, [], none_older w, omega arith, m.off, s.work_off); fewer = omega arith; spent = s.spent })
          more (inl rest) = inl (m.entries ∷ rest.0, rest.1, (m.world, [], none_older w, omega arith, m.off, rest.2), (let long = rest.3 in omega arith))

  -- all of it is within the bound of so many rounds
  spent_within : (k : ℕ) (past : List Entry) (w : WorldState) → Leads (first_world shape) past w → has_file w file ≡ true → w.working file ≡ true → SpendsAfter k w → IsSpentWithin k file w
  spent_within k past w before there works s = record { rounds = s.rounds; world = s.world; work_off = s.work_off; fewer = s.fewer; spent = s.spent; few = few }
    where
      c : ℕ
      c = number_of_open_calls w

      most : ℕ
      most = number_of_requests w file + k * c

      bound : ℕ
      bound = round_bound w.shape.nodes most c

      fit : number_of_requests w file + length s.rounds * c ≤ most
      fit =
          let less = s.fewer in
          let times : length s.rounds * c ≤ k * c = mul-le-mul_right c (omega arith) in
          omega (arith, times)

      within : Within shape is file 0 w.shape.nodes most c s.rounds w s.world
      within = rounds_within shape is file 0 w.shape.nodes most c s.rounds past w s.world before there works refl (omega arith) fit s.work_off

      front : length s.spent.entries ≤ bound
      front =
          let long : length s.spent.entries ≤ round_bound s.world.shape.nodes (number_of_requests s.world file) (number_of_open_calls s.world + 0) = s.spent.few in
          let here : length s.spent.entries ≤ round_bound w.shape.nodes (number_of_requests s.world file) (number_of_open_calls s.world + 0) = subst (λ (n : ℕ). length s.spent.entries ≤ round_bound n (number_of_requests s.world file) (number_of_open_calls s.world + 0)) within.nodes_are long in
          let grows = bound_grows w.shape.nodes (number_of_requests s.world file) most (number_of_open_calls s.world + 0) c within.few_requests within.few_calls in
          omega (arith, here, grows)

      few : entries_of s.rounds + length s.spent.entries ≤ k * bound
      few =
          let less = s.fewer in
          let total = within.few in
          let times : suc (length s.rounds) * bound ≤ k * bound = mul-le-mul_right bound (omega arith) in
          let one : suc (length s.rounds) * bound ≡ length s.rounds * bound + bound = suc-mul (length s.rounds) bound in
          omega (arith, total, front, times, one)

pub all_others_are_answered : AllOthersAreAnswered
all_others_are_answered shape past rounds w v file most is before there works off long = (both shape is file most past rounds w v before there works off long).1

pub all_others_can_be_answered : AllOthersCanBeAnswered
all_others_can_be_answered shape past w file is before there works =
    elim (rounds_made shape is file (number_of_open_calls w + 2) past w before there works) [
      | inl x ↦ let all = both shape is file 0 past x.0 w x.1 before there works x.2 x.3 in inl (x.0, x.1, all.0, x.3, all.1)
      | inr s ↦ inr (spent_within shape is file (number_of_open_calls w + 2) past w before there works s)
    ]
