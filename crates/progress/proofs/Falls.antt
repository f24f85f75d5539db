-- The measure of a round falls in each of its steps, in whatever order its events happen.
use Rattle.std.specs.Prelude.{is_some}
use Rattle.std.proofs.Common.{◌≡◌, ℕ, ◌+◌, ◌*◌, ◌≤◌, inl, inr, refl, sym, subst, arith, mul-le-mul_left, List, [], ◌∷◌, ◌++◌, Option, None, Ok}
use Rattle.std.proofs.lemmas.List.Elements.{All-nil, All-cons, All-head}
use Rattle.model.specs.declared.call.CallId.{CallId}
use Rattle.model.specs.declared.reply.Reply.{Reply}
use Rattle.messages.specs.rule.Shapes.{ShapeFields, IsShape}
use Rattle.messages.specs.declared.message.Message.{Message}
use Rattle.messages.specs.declared.event.Event.{Event}
use Rattle.messages.specs.declared.event.Event.TheVariants.{Deliver}
use Rattle.messages.specs.declared.entry.Entry.{Entry}
use Rattle.token_server.specs.rule.State.{requests}
use Rattle.cluster_core.specs.rule.World.{WorldState, first_world}
use Rattle.cluster_core.specs.rule.Next.{next}
use Rattle.cluster_core.specs.rule.Runs.{Leads}
use Rattle.cluster_core.specs.rule.Rounds.{IsQuiet}
use Rattle.cluster_core.proofs.rounds.Quiet.{quiet-members}
use Rattle.cluster_core.proofs.steps.Steps.{next_taken}
use Rattle.progress.specs.rule.Rounds.{number_of_open_calls}
use Rattle.progress.specs.rule.Agenda.{deliveries}
use Rattle.progress.proofs.Agenda.{entry_event}
use Rattle.progress.proofs.Coming.{Down, event_down}
use Rattle.progress.proofs.Costs.{most_of, for_each, cost}
use Rattle.progress.proofs.Counting.{stretch_counts}
use Rattle.progress.proofs.Possible.{IsPossible, possible_quiet}
use Rattle.progress.proofs.Sums.{one_if, one_if_most, product_falls}
use Rattle.progress.proofs.Weights.{total, total_both, weight_of, event_weight, freed_by, wakes, asked_by, asks, deliveries_total}

-- three for each command that the requests of the server cost at most, also those that may still come
abbrev pub spare : ℕ → ℕ → WorldState → List Event → ℕ
spare nodes file w agenda = for_each (3 * most_of nodes) (requests (w.servers file)) + total (asks nodes) agenda

-- how often those that wait may still be queued again: by an event on the agenda, or by a Freed that is sent with the answer to an open call
abbrev pub chances : WorldState → List Event → ℕ
chances w agenda = number_of_open_calls w + total wakes agenda

-- what the requests cost until those that wait are queued again, the weight of what is on the agenda, and a Freed for each open call
abbrev pub present_cost : ℕ → ℕ → WorldState → List Event → ℕ
present_cost nodes file w agenda = (3 * cost nodes (w.servers file) + total (event_weight nodes) agenda) + 2 * number_of_open_calls w

abbrev pub measure_at : ℕ → ℕ → WorldState → List Event → ℕ
measure_at nodes file w agenda = chances w agenda * spare nodes file w agenda + present_cost nodes file w agenda

abbrev pub measure : ℕ → WorldState → List Event → ℕ
measure file w agenda = measure_at w.shape.nodes file w agenda

module _ (shape : ShapeFields) (is : IsShape shape) (file : ℕ) (past : List Entry) (w : WorldState) (event : Event) (front rest : List Event) (mid : WorldState) (e : Entry) (before : Leads (first_world shape) past w) (possible : IsPossible file w event) (step : next w event ≡ Ok (mid, e)) where
  abbrev k : ℕ
  k = w.shape.nodes

  abbrev after : List Event
  after = (front ++ rest) ++ deliveries file w e.sends

  down : Down shape is past w before file event (mid, e)
  down = event_down shape is past w before file event (mid, e) possible (next_taken w event (mid, e) step).1

  step_of : next w e.event ≡ Ok (mid, e)
  step_of = subst (λ (x : Event). next w x ≡ Ok (mid, e)) (sym (entry_event w event (mid, e) step)) step

  own_quiet : IsQuiet e.event
  own_quiet = subst IsQuiet (sym (entry_event w event (mid, e) step)) (possible_quiet file w event possible)

  same_shape : mid.shape ≡ w.shape
  same_shape = (quiet-members w e mid step_of own_quiet).shape

  -- a Freed is sent with an answer alone, which leaves one call fewer open
  fewer_open : number_of_open_calls mid + total freed_by e.sends ≤ number_of_open_calls w
  fewer_open = elim (stretch_counts (e ∷ []) w mid (mid, step_of, refl) (All-cons (λ (x : Entry). IsQuiet x.event) e [] own_quiet (All-nil (λ (x : Entry). IsQuiet x.event)))) [
    | inl silent ↦
        let none : e.reply ≡ None = All-head (λ (x : Entry). x.reply ≡ None) e [] silent.0 in
        let few : total freed_by e.sends ≤ 0 = subst (λ (o : Option (CallId × Reply)). total freed_by e.sends ≤ one_if (is_some o)) none down.frees in
        let less = silent.1 in
        omega arith
    | inr fewer ↦
        let few = down.frees in
        let one = one_if_most (is_some e.reply) in
        omega arith
  ]

  parts : (f : Event → ℕ) → total f (front ++ event ∷ rest) ≡ total f front + (f event + total f rest)
  parts f = total_both f front (event ∷ rest)

  parts_then : (f : Event → ℕ) (g : Message → ℕ) → ((m : Message) → f (Deliver m) ≤ g m) → total f after ≤ (total f front + total f rest) + total g e.sends
  parts_then f g each =
      let whole = total_both f (front ++ rest) (deliveries file w e.sends) in
      let both = total_both f front rest in
      let few = deliveries_total f g each file w e.sends in
      omega arith

  -- no more requests may come
  fewer_spare : spare k file mid after ≤ spare k file w (front ++ event ∷ rest)
  fewer_spare =
      let was = parts (asks k) in
      let now = parts_then (asks k) (asked_by k) (λ m. omega arith) in
      let few = down.asking in
      omega arith

  fewer_chances : chances mid after + wakes event ≤ chances w (front ++ event ∷ rest)
  fewer_chances =
      let was = parts wakes in
      let now = parts_then wakes freed_by (λ m. omega arith) in
      let few = fewer_open in
      omega arith

  falls_at : measure_at k file mid after + 1 ≤ measure_at k file w (front ++ event ∷ rest)
  falls_at =
      let was = parts (event_weight k) in
      let now = parts_then (event_weight k) (weight_of k) (λ m. omega arith) in
      let product = product_falls (chances w (front ++ event ∷ rest)) (chances mid after) (wakes event) (spare k file w (front ++ event ∷ rest)) (spare k file mid after) fewer_chances fewer_spare in
      let part : for_each (3 * most_of k) (requests (w.servers file)) ≤ spare k file w (front ++ event ∷ rest) = omega arith in
      let woken = mul-le-mul_left (wakes event) part in
      let less = down.weighs in
      let few = fewer_open in
      omega arith

  -- the measure falls
  pub falls : measure file mid after + 1 ≤ measure file w (front ++ event ∷ rest)
  falls = subst (λ (s : ShapeFields). measure_at s.nodes file mid after + 1 ≤ measure file w (front ++ event ∷ rest)) (sym same_shape) falls_at

  pub spares_fewer : spare mid.shape.nodes file mid after ≤ spare w.shape.nodes file w (front ++ event ∷ rest)
  spares_fewer = subst (λ (s : ShapeFields). spare s.nodes file mid after ≤ spare k file w (front ++ event ∷ rest)) (sym same_shape) fewer_spare
