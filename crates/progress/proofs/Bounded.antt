-- The measure of a round is within its bound when it begins.
use Rattle.std.specs.Prelude.{◌==◌, ◌-◌, nat_le, if◌then◌else◌, length}
use Rattle.std.proofs.Common.{◌≡◌, ℕ, zero, suc, ◌+◌, ◌*◌, ◌≤◌, Bool, true, false, sym, ◌∙◌, ap, arith, add-mul, mul-add, suc-mul, mul-le-mul, mul-le-mul_left, List, [], ◌∷◌, ◌++◌}
use Rattle.messages.specs.declared.message.Message.{Message}
use Rattle.messages.specs.declared.message.Message.TheVariants.{Request, Grant, Revoke, Taken, Released, Conflict, Deny, Freed, Hello, Report}
use Rattle.messages.specs.declared.event.Event.{Event}
use Rattle.messages.specs.declared.event.Event.TheVariants.{AtNode, AtServer, Deliver}
use Rattle.messages.specs.declared.event.NodeInput.TheVariants.{Retry}
use Rattle.messages.specs.declared.event.ServerInput.TheVariants.{Resend, Learn}
use Rattle.node_core.specs.declared.open_call.OpenCall.{OpenCall}
use Rattle.node_core.specs.rule.State.{NodeState}
use Rattle.token_server.specs.declared.token_queue.token_request.TokenRequest.{TokenRequest}
use Rattle.token_server.specs.rule.State.{ServerState, awaits, requests}
use Rattle.cluster_core.specs.rule.World.{WorldState}
use Rattle.progress.specs.rule.Agenda.{learns_of, learns_up_to, retries_in, retries_of, retries_up_to, agenda, deliveries, agenda_with}
use Rattle.progress.specs.rule.Bounds.{number_of_requests, most_entries}
use Rattle.progress.specs.rule.Rounds.{open_up_to, number_of_open_calls}
use Rattle.progress.proofs.Costs.{most_of, costs, for_each, cost, costs_most, each_both}
use Rattle.progress.proofs.Falls.{spare, chances, present_cost, measure}
use Rattle.progress.proofs.Weights.{total, total_both, weight_of, event_weight, freed_by, wakes, asked_by, asks, deliveries_total}

-- as much for each of a list
pub each_is : (u : ℕ) (rs : List TokenRequest) → for_each u rs ≡ length rs * u
each_is u [] = omega arith
each_is u (r ∷ rs) = let rest = each_is u rs in let more = suc-mul (length rs) u in omega arith

-- one time more
grown : (a b x : ℕ) → b ≡ suc a → b * x ≡ a * x + x
grown a b x is = ap (λ (c : ℕ). c * x) is ∙ suc-mul a x

-- a server costs no more than the most for each request
cost_bounded : (k : ℕ) (s : ServerState) → cost k s ≤ for_each (most_of k) (requests s)
cost_bounded k s = by (awaits s) (costs_most k s s.active) (each_both (most_of k) s.active (s.queue ++ s.waiting)) (each_both (most_of k) s.queue s.waiting)
  where
    by : (b : Bool) → costs k s s.active ≤ for_each (most_of k) s.active → for_each (most_of k) (requests s) ≡ for_each (most_of k) s.active + for_each (most_of k) (s.queue ++ s.waiting) → for_each (most_of k) (s.queue ++ s.waiting) ≡ for_each (most_of k) s.queue + for_each (most_of k) s.waiting → (if b then for_each (most_of k) s.active else costs k s s.active) + for_each (most_of k) s.queue ≤ for_each (most_of k) (requests s)
    by true most all more = omega arith
    by false most all more = omega arith

-- what f gives of a Learn is at most x
module _ (f : Event → ℕ) (x file : ℕ) (nodes : ℕ → NodeState) (each : (n i : ℕ) → f (AtServer file (Learn n i)) ≤ x) where
  one_learn : (n i : ℕ) → total f (learns_of file n i) ≤ x
  one_learn n i = by (nat_le 2 i)
    where
      by : (b : Bool) → total f (if b then AtServer file (Learn n (i - 1)) ∷ [] else []) ≤ x
      by true = let one = each n (i - 1) in omega arith
      by false = omega arith

  learns_total : (n : ℕ) → total f (learns_up_to file nodes n) ≤ n * x
  learns_total zero = omega arith
  learns_total (suc n) =
      let both = total_both f (learns_up_to file nodes n) (learns_of file (suc n) (nodes (suc n)).incarnation) in
      let rest = learns_total n in
      let one = one_learn (suc n) (nodes (suc n)).incarnation in
      let more = suc-mul n x in
      omega arith

-- what f gives of a retry is at most x
module _ (f : Event → ℕ) (x file : ℕ) (w : WorldState) (each : (n pid : ℕ) → f (AtNode n (Retry pid)) ≤ x) where
  retries_in_total : (n : ℕ) (cs : List OpenCall) → total f (retries_in file n cs) ≤ length cs * x
  retries_in_total n [] = omega arith
  retries_in_total n (c ∷ cs) = by (c.file == file) (retries_in_total n cs) (suc-mul (length cs) x)
    where
      by : (b : Bool) → total f (retries_in file n cs) ≤ length cs * x → suc (length cs) * x ≡ length cs * x + x → total f (if b then AtNode n (Retry c.pid) ∷ retries_in file n cs else retries_in file n cs) ≤ suc (length cs) * x
      by true rest more = let one = each n c.pid in omega arith
      by false rest more = omega arith

  retries_of_total : (n : ℕ) → total f (retries_of file w n) ≤ length (w.nodes n).pending * x
  retries_of_total n = by (w.alive n)
    where
      by : (b : Bool) → total f (if b then retries_in file n (w.nodes n).pending else []) ≤ length (w.nodes n).pending * x
      by true = retries_in_total n (w.nodes n).pending
      by false = omega arith

  retries_total : (n : ℕ) → total f (retries_up_to file w n) ≤ open_up_to w.nodes n * x
  retries_total zero = omega arith
  retries_total (suc n) =
      let both = total_both f (retries_up_to file w n) (retries_of file w (suc n)) in
      let rest = retries_total n in
      let one = retries_of_total (suc n) in
      let parts = add-mul (open_up_to w.nodes n) (length (w.nodes (suc n)).pending) x in
      omega arith

-- what f gives of the agenda, by what it gives of its parts
agenda_total : (f : Event → ℕ) (x y z file : ℕ) (w : WorldState) → ((n i : ℕ) → f (AtServer file (Learn n i)) ≤ x) → f (AtServer file Resend) ≤ y → ((n pid : ℕ) → f (AtNode n (Retry pid)) ≤ z) → total f (agenda file w) ≤ (w.shape.nodes * x + y) + number_of_open_calls w * z
agenda_total f x y z file w learns resends retries =
    let both = total_both f (learns_up_to file w.nodes w.shape.nodes) (AtServer file Resend ∷ retries_up_to file w w.shape.nodes) in
    let first = learns_total f x file w.nodes learns w.shape.nodes in
    let rest = retries_total f z file w retries w.shape.nodes in
    omega arith

-- what g gives of messages is at most x for each
messages_total : (g : Message → ℕ) (x : ℕ) → ((m : Message) → g m ≤ x) → (ms : List Message) → total g ms ≤ length ms * x
messages_total g x each [] = omega arith
messages_total g x each (m ∷ ms) = let rest = messages_total g x each ms in let one = each m in let more = suc-mul (length ms) x in omega arith

-- with older messages
agenda_with_total : (f : Event → ℕ) (x y z file : ℕ) (w : WorldState) (older : List Message) → ((n i : ℕ) → f (AtServer file (Learn n i)) ≤ x) → f (AtServer file Resend) ≤ y → ((n pid : ℕ) → f (AtNode n (Retry pid)) ≤ z) → ((m : Message) → f (Deliver m) ≤ z) → total f (agenda_with file w older) ≤ (w.shape.nodes * x + y) + (number_of_open_calls w + length older) * z
agenda_with_total f x y z file w older learns resends retries comes =
    let both = total_both f (agenda file w) (deliveries file w older) in
    let first = agenda_total f x y z file w learns resends retries in
    let more = deliveries_total f (λ m. f (Deliver m)) (λ m. omega arith) file w older in
    let few = messages_total (λ m. f (Deliver m)) z comes older in
    let parts = add-mul (number_of_open_calls w) (length older) z in
    omega arith

-- a message is a Freed or not, a Request or not, and weighs no more than a retry
freed_most : (m : Message) → freed_by m ≤ 1
freed_most (Freed file holder) = omega arith
freed_most (Request file call blocking mode wanted) = omega arith
freed_most (Grant file number call mode span) = omega arith
freed_most (Revoke file number holder call mode wanted) = omega arith
freed_most (Taken file number call) = omega arith
freed_most (Released file number holder call span) = omega arith
freed_most (Conflict file number holder call lock) = omega arith
freed_most (Deny file call holder number lock) = omega arith
freed_most (Hello file number holder) = omega arith
freed_most (Report file number holder runs) = omega arith

message_most : (k : ℕ) (m : Message) → (asked_by k m ≤ 3 * most_of k) × (weight_of k m ≤ 3 * most_of k + 3)
message_most k (Freed file holder) = (omega arith, omega arith)
message_most k (Request file call blocking mode wanted) = (omega arith, omega arith)
message_most k (Grant file number call mode span) = (omega arith, omega arith)
message_most k (Revoke file number holder call mode wanted) = (omega arith, omega arith)
message_most k (Taken file number call) = (omega arith, omega arith)
message_most k (Released file number holder call span) = (omega arith, omega arith)
message_most k (Conflict file number holder call lock) = (omega arith, omega arith)
message_most k (Deny file call holder number lock) = (omega arith, omega arith)
message_most k (Hello file number holder) = (omega arith, omega arith)
message_most k (Report file number holder runs) = (omega arith, omega arith)

module _ (file : ℕ) (w : WorldState) (older : List Message) where
  abbrev k : ℕ
  k = w.shape.nodes

  -- the open calls, and the older messages
  abbrev n : ℕ
  n = number_of_open_calls w + length older

  abbrev r : ℕ
  r = number_of_requests w file

  abbrev u : ℕ
  u = 3 * most_of k

  abbrev events : List Event
  events = agenda_with file w older

  -- requests that are there, and one for each retry and each older message
  pub spare_bounded : spare k file w events ≤ (r + n) * u
  spare_bounded =
      let held = each_is u (requests (w.servers file)) in
      let coming = agenda_with_total (asks k) 0 0 u file w older (λ m i. omega arith) (omega arith) (λ m pid. omega arith) (λ m. (message_most k m).0) in
      let parts = add-mul r n u in
      let none : k * 0 ≡ 0 = omega arith in
      omega arith

  chances_bounded : chances w events ≤ k + n + 1
  chances_bounded =
      let both = total_both wakes (agenda file w) (deliveries file w older) in
      let waking = agenda_total wakes 1 1 0 file w (λ m i. omega arith) (omega arith) (λ m pid. omega arith) in
      let more = deliveries_total wakes freed_by (λ m. omega arith) file w older in
      let few = messages_total freed_by 1 freed_most older in
      let some : k * 1 ≡ k = omega arith in
      let all : length older * 1 ≡ length older = omega arith in
      let none : number_of_open_calls w * 0 ≡ 0 = omega arith in
      omega arith

  scaled : (rs : List TokenRequest) → 3 * for_each (most_of k) rs ≡ for_each u rs
  scaled [] = omega arith
  scaled (x ∷ xs) = let rest = scaled xs in omega arith

  present_bounded : present_cost k file w events ≤ ((r * u + n * u) + 5 * n) + (4 * k + 1)
  present_bounded =
      let few = cost_bounded k (w.servers file) in
      let thrice = scaled (requests (w.servers file)) in
      let held = each_is u (requests (w.servers file)) in
      let weight = agenda_with_total (event_weight k) 1 (3 * k + 1) (u + 3) file w older (λ m i. omega arith) (omega arith) (λ m pid. omega arith) (λ m. (message_most k m).1) in
      let some : k * 1 ≡ k = omega arith in
      let parts = mul-add n u 3 in
      let three : n * 3 ≡ 3 * n = omega arith in
      omega arith

  -- so much in all
  pub measure_bounded : measure file w events ≤ most_entries w file (length older)
  measure_bounded =
      let product : chances w events * spare k file w events ≤ (k + n + 1) * ((r + n) * u) = mul-le-mul chances_bounded spare_bounded in
      let now = present_bounded in
      let s_is : (r + n) * u ≡ r * u + n * u = add-mul r n u in
      let one_more : (k + n + 2) * ((r + n) * u) ≡ (k + n + 1) * ((r + n) * u) + (r + n) * u = grown (k + n + 1) (k + n + 2) ((r + n) * u) (omega arith) in
      let unit : (r + n + 1) * u ≡ (r + n) * u + u = grown (r + n) (r + n + 1) u (omega arith) in
      let whole : (k + n + 2) * ((r + n + 1) * u) ≡ (k + n + 2) * ((r + n) * u) + (k + n + 2) * u = ap (λ (x : ℕ). (k + n + 2) * x) unit ∙ mul-add (k + n + 2) ((r + n) * u) u in
      let six : 6 ≤ u = omega arith in
      let rest : (k + n + 2) * 6 ≤ (k + n + 2) * u = mul-le-mul_left (k + n + 2) six in
      let same : u ≡ 6 * (k + 1) = omega arith in
      let bound : most_entries w file (length older) ≡ (k + n + 2) * ((r + n + 1) * u) = ap (λ (x : ℕ). (k + n + 2) * ((r + n + 1) * x)) (sym same) in
      omega arith
