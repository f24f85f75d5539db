-- Steps of actors, their stamps and receipts, and the actors after failures and restarts.
use Rattle.std.proofs.Common.{◌≡◌, ℕ, ◌+◌, ◌-◌, ◌<◌, List, [], ◌∷◌, ◌++◌, length, Some, sym, ap, ◌∙◌, arith, slice_get, length-append, subst, ◌≢◌, true, if◌then◌else◌, refl, Ok, ◌≤◌, false, ◌&&◌, nat_le, nat_lt, Bool, inl, inr, None, MatchBool}
use Rattle.messages.specs.declared.entry.Entry.{Entry}
use Rattle.cluster_core.specs.rule.Next.{entry, named_incarnation, is_known, next, next_server}
use Rattle.cluster_core.proofs.common.Places.{slice_get-keeps, slice_get-last, slice_get-push}
use Rattle.book.specs.rule.States.{StampFields, SeatFields, seat_state, ReceiptFields, ActorState, actor_of, StepsTo, HasState, made_by, incarnation_of, is_declared, state_of}
use Rattle.book.specs.rule.Commits.{IsStampOf, IsReceiptOf, Holds, actor_at, IsFirstSeat, AreFirst}
use Rattle.messages.specs.declared.actor.Actor.TheVariants.{Node as ANode, Server as AServer}
use Rattle.messages.specs.declared.event.Event.{Event}
use Rattle.messages.specs.declared.outcome.Outcome.{Outcome}
use Rattle.node_core.specs.rule.State.{NodeState, first_node}
use Rattle.token_server.specs.rule.State.{ServerState}
use Rattle.cluster_core.specs.rule.World.{WorldState, has_node, has_file, first_world}
use Rattle.cluster_core.specs.rule.Actors.{node_step, server_step, HasNode, HasServer, member_of}
use Rattle.cluster_core.proofs.common.Choices.{at_number}
use Rattle.cluster_core.proofs.steps.Actors.{NodeSteps, ServerSteps, node_next, server_next}
use Rattle.book.specs.rule.States.ActorState.{NodeIs, ServerIs}
use Rattle.std.specs.Prelude.{◌==◌}
use Rattle.std.proofs.lemmas.Bool.{and_parts, and_from}
use Rattle.std.proofs.lemmas.Bool.Decides.{nat_tests}
use Rattle.messages.specs.rule.Shapes.{may_rebuild, ShapeFields}
use Rattle.messages.specs.rule.Messages.{sending}
use Rattle.messages.specs.declared.event.Event.TheVariants.{Member}
use Rattle.messages.specs.declared.event.MemberEvent.{MemberEvent}
use Rattle.messages.specs.declared.event.MemberEvent.TheVariants.{Declare, Restart, FailServer, StartServer}
use Rattle.token_server.specs.rule.Resends.{outstanding}
use Rattle.cluster_core.proofs.steps.Steps.{next_taken, declare_step, restart_step, fail_step, start_step, member_step, next_step}
use Rattle.cluster_core.proofs.steps.NodeNumbers.{node_rule-steps}
use Rattle.cluster_core.proofs.steps.ServerSteps.{server_rule-epoch}
use Rattle.book.specs.declared.state.State.{State}

-- a stamp of the journal is one of the longer journal
pub stays : (entries fs : List Entry) (e : Entry) (o : StampFields) → fs ≡ entries ++ e ∷ [] → IsStampOf entries o → IsStampOf fs o
stays entries fs e o is h =
    let P : List Entry → Type 0 = λ es. IsStampOf es o in
    subst P (sym is) (record { from_one = h.from_one; incarnation = h.incarnation; there = slice_get-keeps entries (e ∷ []) (o.position - 1) (entry o.event h.incarnation o.outcome) h.there })

-- a stamp of the new entry is one of the longer journal
pub new_stamp : (entries fs : List Entry) (e : Entry) (k : ℕ) (o : StampFields) → fs ≡ entries ++ e ∷ [] → e ≡ entry o.event k o.outcome → o.position ≡ length fs → IsStampOf fs o
new_stamp entries fs e k o is made at =
    let more : length fs ≡ length entries + 1 = ap length is ∙ length-append entries (e ∷ []) in
    let n : o.position - 1 ≡ length entries = omega (arith, more, at) in
    let one : 0 < o.position = omega (arith, more, at) in
    let P : ℕ → Type 0 = λ k. slice_get fs k ≡ Some e in
    let last : slice_get fs (length entries) ≡ Some e = ap (λ (es : List Entry). slice_get es (length entries)) is ∙ slice_get-last entries e in
    let there : P (o.position - 1) = subst P (sym n) last in
    record { from_one = one; incarnation = k; there = there ∙ ap Some made }

-- a step keeps its actor
pub actor_kept : (s : ActorState) (event : Event) (t : ActorState) (o : Outcome) → StepsTo s event t o → actor_of t ≡ actor_of s
actor_kept (NodeIs n s) event (NodeIs m t) o h = ap ANode h.0
actor_kept (ServerIs f s) event (ServerIs g t) o h = ap AServer h.0
actor_kept (NodeIs n s) event (ServerIs g t) o h = absurd h
actor_kept (ServerIs f s) event (NodeIs m t) o h = absurd h

-- the actor, which is alive, makes this state and outcome of the event
abbrev pub MayStep : WorldState → Event → ActorState → Outcome → Type 0
MayStep w event (NodeIs n s) o = NodeSteps w event n s o
MayStep w event (ServerIs f s) o = ServerSteps w event f s o

-- where the actor is in the step's state, it may make the step
pub may_step : (w : WorldState) (s : ActorState) (event : Event) (t : ActorState) (o : Outcome) → HasState w s → StepsTo s event t o → MayStep w event t o
may_step w (NodeIs n s) event (NodeIs m t) o has h =
    let F : ℕ → Type 0 = λ k. NodeSteps w event k t o in
    let here : F n = record { number = has.number; alive = has.alive; done = ap (λ (x : NodeState). node_step n x event) has.state ∙ h.1 } in
    subst F (sym h.0) here
may_step w (ServerIs f s) event (ServerIs g t) o has h =
    let F : ℕ → Type 0 = λ k. ServerSteps w event k t o in
    let here : F f = record { number = has.number; working = has.working; done = ap (λ (x : ServerState). server_step f x event) has.state ∙ h.1 } in
    subst F (sym h.0) here
may_step w (NodeIs n s) event (ServerIs g t) o has h = absurd h
may_step w (ServerIs f s) event (NodeIs m t) o has h = absurd h

-- a step that the actor may make comes next
pub comes_next : (w : WorldState) (event : Event) (t : ActorState) (o : Outcome) → is_known w event ≡ true → MayStep w event t o → next w event ≡ Ok (made_by w event t o)
comes_next w event (NodeIs n t) o known may = node_next w event n t o known may
comes_next w event (ServerIs f t) o known may = server_next w event f t o known may

-- the entry of a step is of its event and outcome
pub made_entry : (w : WorldState) (event : Event) (t : ActorState) (o : Outcome) → (k : ℕ) × ((made_by w event t o).1 ≡ entry event k o)
made_entry w event (NodeIs n t) o = (named_incarnation (w.nodes n) event, refl)
made_entry w event (ServerIs f t) o = (0, refl)

-- after a step its actor is in the new state
stands : (w : WorldState) (event : Event) (t : ActorState) (o : Outcome) → MayStep w event t o → HasState (made_by w event t o).0 t
stands w event (NodeIs m t) o may = record {
  number = may.number;
  alive = may.alive;
  state = at_number m m (λ b. (if b then t else w.nodes m) ≡ t) (λ same. refl) (λ other. absurd (other refl));
}
stands w event (ServerIs g t) o may = record {
  number = may.number;
  working = may.working;
  state = at_number g g (λ b. (if b then t else w.servers g) ≡ t) (λ same. refl) (λ other. absurd (other refl));
}

pub mine : (w v : WorldState) (event : Event) (t : ActorState) (o : Outcome) → v ≡ (made_by w event t o).0 → MayStep w event t o → HasState v t
mine w v event t o is may = let P : WorldState → Type 0 = λ x. HasState x t in subst P (sym is) (stands w event t o may)

-- after a step other actors are in their states as before
others_stand : (w : WorldState) (event : Event) (t : ActorState) (o : Outcome) (x : ActorState) → actor_of x ≢ actor_of t → HasState w x → HasState (made_by w event t o).0 x
others_stand w event (NodeIs m t) o (NodeIs k x) ne has = record {
  number = has.number;
  alive = has.alive;
  state = at_number k m (λ b. (if b then t else w.nodes k) ≡ x) (λ same. absurd (ne (ap ANode same))) (λ other. has.state);
}
others_stand w event (NodeIs m t) o (ServerIs f x) ne has = record { number = has.number; working = has.working; state = has.state }
others_stand w event (ServerIs g t) o (NodeIs k x) ne has = record { number = has.number; alive = has.alive; state = has.state }
others_stand w event (ServerIs g t) o (ServerIs f x) ne has = record {
  number = has.number;
  working = has.working;
  state = at_number f g (λ b. (if b then t else w.servers f) ≡ x) (λ same. absurd (ne (ap AServer same))) (λ other. has.state);
}

pub others : (w v : WorldState) (event : Event) (t : ActorState) (o : Outcome) (x : ActorState) → v ≡ (made_by w event t o).0 → actor_of x ≢ actor_of t → HasState w x → HasState v x
others w v event t o x is ne has = let P : WorldState → Type 0 = λ y. HasState y x in subst P (sym is) (others_stand w event t o x ne has)

-- the entry of a declaration
pub declared_entry : (w : WorldState) (n : ℕ) (q : WorldState × Entry) → next w (Member (Declare n)) ≡ Ok q → (k : ℕ) × (q.1 ≡ entry (Member (Declare n)) k (sending []))
declared_entry w n q h = declare_step w (λ p. (k : ℕ) × (p.1 ≡ entry (Member (Declare n)) k (sending []))) n q (λ m is alive. ((w.nodes m).incarnation, refl)) (next_taken w (Member (Declare n)) q h).1

same_member : (a b : MemberEvent) → Member a ≡ Member b → a ≡ b
same_member a b e = cc

-- the change of a member leaves other actors as they are
pub others_stay : (w : WorldState) (event : MemberEvent) (q : WorldState × Entry) (x : ActorState) → next w (Member event) ≡ Ok q → actor_of x ≢ member_of event → HasState w x → HasState q.0 x
others_stay w event q (NodeIs k x) h ne has =
    let other : (change : MemberEvent) → Member event ≡ Member change → ANode k ≡ member_of change → ⊥ = λ change is e. ne (e ∙ sym (ap member_of (same_member event change is))) in
    member_step w (λ p. HasState p.0 (NodeIs k x)) event q
    (λ m is alive. record {
      number = has.number;
      alive = at_number k m (λ b. (if b then false else w.alive k) ≡ true) (λ same. absurd (other (Declare m) is (ap ANode same))) (λ _. has.alive);
      state = at_number k m (λ b. (if b then first_node w.shape m ((w.nodes m).incarnation + 1) else w.nodes k) ≡ x) (λ same. absurd (other (Declare m) is (ap ANode same))) (λ _. has.state);
    })
    (λ m is dead few. record {
      number = has.number;
      alive = at_number k m (λ b. (if b then true else w.alive k) ≡ true) (λ same. refl) (λ _. has.alive);
      state = has.state;
    })
    (λ g is works. record { number = has.number; alive = has.alive; state = has.state })
    (λ g is stopped few. record { number = has.number; alive = has.alive; state = has.state })
    (next_taken w (Member event) q h).1
others_stay w event q (ServerIs k x) h ne has =
    let other : (change : MemberEvent) → Member event ≡ Member change → AServer k ≡ member_of change → ⊥ = λ change is e. ne (e ∙ sym (ap member_of (same_member event change is))) in
    member_step w (λ p. HasState p.0 (ServerIs k x)) event q
    (λ m is alive. record { number = has.number; working = has.working; state = has.state })
    (λ m is dead few. record { number = has.number; working = has.working; state = has.state })
    (λ g is works. record {
      number = has.number;
      working = at_number k g (λ b. (if b then false else w.working k) ≡ true) (λ same. absurd (other (FailServer g) is (ap AServer same))) (λ _. has.working);
      state = has.state;
    })
    (λ g is stopped few. record {
      number = has.number;
      working = at_number k g (λ b. (if b then true else w.working k) ≡ true) (λ same. refl) (λ _. has.working);
      state = at_number k g (λ b. (if b then next_server w g else w.servers k) ≡ x) (λ same. absurd (other (StartServer g) is (ap AServer same))) (λ _. has.state);
    })
    (next_taken w (Member event) q h).1

is_below_next : (i : ℕ) → 1 ≤ i → (nat_le 1 i && nat_lt i (i + 1)) ≡ true
is_below_next i h = grind (arith, nat_tests, h)

-- a declaration fences the incarnation that was alive
pub declared_fences : (w : WorldState) (n : ℕ) (q : WorldState × Entry) (x : ActorState) → next w (Member (Declare n)) ≡ Ok q → actor_of x ≡ ANode n → incarnation_of x ≡ (w.nodes n).incarnation → 1 ≤ incarnation_of x → is_declared q.0 x ≡ true
declared_fences w n q (ServerIs f x) h is same least = absurd (cc)
declared_fences w n q (NodeIs k x) h is same least =
    let here : k ≡ n = cc in
    let i = x.incarnation in
    let taken = next_taken w (Member (Declare n)) q h in
    let known : has_node w k ≡ true = ap (has_node w) here ∙ taken.0 in
    declare_step w (λ p. is_declared p.0 (NodeIs k x) ≡ true) n q (λ m at_m alive.
    let at : n ≡ m = cc in
    let grows : (if k == m then first_node w.shape m ((w.nodes m).incarnation + 1) else w.nodes k).incarnation ≡ i + 1 =
    at_number k m (λ b. (if b then first_node w.shape m ((w.nodes m).incarnation + 1) else w.nodes k).incarnation ≡ i + 1)
    (λ _. ap (λ (j : ℕ). (w.nodes j).incarnation + 1) (sym at) ∙ ap (λ (j : ℕ). j + 1) (sym same))
    (λ other. absurd (other (here ∙ at))) in
    (λ j. known j && (nat_le 1 i && nat_lt i (grows j))) ∙ is_below_next i least)
    taken.1

-- after a restart the node is in the state in which it begins
pub restarted_mine : (w : WorldState) (n : ℕ) (q : WorldState × Entry) (s : NodeState) → next w (Member (Restart n)) ≡ Ok q → s ≡ q.0.nodes n → HasNode q.0 n s
restarted_mine w n q s h stands =
    let known = (next_taken w (Member (Restart n)) q h).0 in
    restart_step w (λ p. s ≡ p.0.nodes n → HasNode p.0 n s) n q (λ m is dead few here. record {
      number = known;
      alive = at_number n m (λ b. (if b then true else w.alive n) ≡ true) (λ same. refl) (λ other. absurd (other (cc)));
      state = sym here;
    })
    (next_taken w (Member (Restart n)) q h).1 stands

-- the entry of a failure
pub failed_entry : (w : WorldState) (f : ℕ) (q : WorldState × Entry) → next w (Member (FailServer f)) ≡ Ok q → (k : ℕ) × (q.1 ≡ entry (Member (FailServer f)) k (sending []))
failed_entry w f q h = fail_step w (λ p. (k : ℕ) × (p.1 ≡ entry (Member (FailServer f)) k (sending []))) f q (λ g is works. ((w.servers g).epoch, refl)) (next_taken w (Member (FailServer f)) q h).1

up_to_itself : (e : ℕ) → 1 ≤ e → (nat_le 1 e && nat_le e e) ≡ true
up_to_itself e h = grind (arith, nat_tests, h)

-- a failure fences the epoch that worked
pub failed_fences : (w : WorldState) (f : ℕ) (q : WorldState × Entry) (x : ActorState) → next w (Member (FailServer f)) ≡ Ok q → actor_of x ≡ AServer f → incarnation_of x ≡ (w.servers f).epoch → 1 ≤ incarnation_of x → is_declared q.0 x ≡ true
failed_fences w f q (NodeIs n x) h is same least = absurd (cc)
failed_fences w f q (ServerIs k x) h is same least =
    let here : k ≡ f = cc in
    let e = x.epoch in
    let taken = next_taken w (Member (FailServer f)) q h in
    let known : has_file w k ≡ true = ap (has_file w) here ∙ (and_parts (may_rebuild w.shape.version) (has_file w f) taken.0).1 in
    let now : (w.servers k).epoch ≡ e = ap (λ (j : ℕ). (w.servers j).epoch) here ∙ sym same in
    fail_step w (λ p. is_declared p.0 (ServerIs k x) ≡ true) f q (λ g at_g works.
    let at : k ≡ g = cc in
    let stopped : (if k == g then false else w.working k) ≡ false = at_number k g (λ b. (if b then false else w.working k) ≡ false) (λ _. refl) (λ other. absurd (other at)) in
    (λ j. known j && (nat_le 1 e && (if stopped j then nat_lt e (w.servers k).epoch else nat_le e (now j)))) ∙ up_to_itself e least)
    taken.1

-- the entry of a start
pub started_entry : (w : WorldState) (f : ℕ) (q : WorldState × Entry) → next w (Member (StartServer f)) ≡ Ok q → (k : ℕ) × (q.1 ≡ entry (Member (StartServer f)) k (sending (outstanding (next_server w f))))
started_entry w f q h =
    start_step w (λ p. (k : ℕ) × (p.1 ≡ entry (Member (StartServer f)) k (sending (outstanding (next_server w f))))) f q (λ g is stopped few.
    let at : g ≡ f = cc in
    ((w.servers g).epoch + 1, ap (λ (i : ℕ). entry (Member (StartServer f)) ((w.servers g).epoch + 1) (sending (outstanding (next_server w i)))) at))
    (next_taken w (Member (StartServer f)) q h).1

-- after a start the token server is in the state in which it begins
pub started_mine : (w : WorldState) (f : ℕ) (q : WorldState × Entry) (s : ServerState) → next w (Member (StartServer f)) ≡ Ok q → s ≡ q.0.servers f → HasServer q.0 f s
started_mine w f q s h stands =
    let known = (next_taken w (Member (StartServer f)) q h).0 in
    start_step w (λ p. s ≡ p.0.servers f → HasServer p.0 f s) f q (λ g is stopped few here. record {
      number = (and_parts (may_rebuild w.shape.version) (has_file w f) known).1;
      working = at_number f g (λ b. (if b then true else w.working f) ≡ true) (λ same. refl) (λ other. absurd (other (cc)));
      state = sym here;
    })
    (next_taken w (Member (StartServer f)) q h).1 stands

-- a number below another is below a greater one
below_more : (i n m : ℕ) → m ≡ n → nat_lt i n ≡ true → nat_lt i (m + 1) ≡ true
below_more i n m same h = grind (arith, nat_tests, same, h)

up_to : (i n : ℕ) → nat_lt i n ≡ true → nat_le i n ≡ true
up_to i n h = grind (arith, nat_tests, h)

below_next : (i n m : ℕ) → m ≡ n → nat_le i n ≡ true → nat_lt i (m + 1) ≡ true
below_next i n m same h = grind (arith, nat_tests, same, h)

-- a node in the incarnation n, which is alive or not
abbrev Is : Bool → ℕ → ℕ → Type 0
Is there i n = (there && (nat_le 1 i && nat_lt i n)) ≡ true

declared_again : (there : Bool) (i n m : ℕ) → m ≡ n → Is there i n → Is there i (m + 1)
declared_again there i n m same h =
    let parts = and_parts there _ h in
    let numbers = and_parts (nat_le 1 i) _ parts.1 in
    and_from _ _ parts.0 (and_from _ _ numbers.0 (below_more i n m same numbers.1))

-- a token server in the epoch n, which works or not
abbrev Was : Bool → ℕ → Bool → ℕ → Type 0
Was there e works n = (there && (nat_le 1 e && (if works then nat_lt e n else nat_le e n))) ≡ true

stopped : (there : Bool) (e : ℕ) (works : Bool) (n : ℕ) → Was there e works n → Was there e false n
stopped there e true n h =
    let parts = and_parts there _ h in
    let numbers = and_parts (nat_le 1 e) _ parts.1 in
    and_from _ _ parts.0 (and_from _ _ numbers.0 (up_to e n numbers.1))
stopped there e false n h = h

begun : (there : Bool) (e : ℕ) (works : Bool) (n m : ℕ) → works ≡ false → m ≡ n → Was there e works n → Was there e true (m + 1)
begun there e works n m stops same h =
    let here : Was there e false n = subst (λ (b : Bool). Was there e b n) stops h in
    let parts = and_parts there _ here in
    let numbers = and_parts (nat_le 1 e) _ parts.1 in
    and_from _ _ parts.0 (and_from _ _ numbers.0 (below_next e n m same numbers.1))

pub stays_declared : (w : WorldState) (event : Event) (q : WorldState × Entry) (x : ActorState) → next w event ≡ Ok q → is_declared w x ≡ true → is_declared q.0 x ≡ true
stays_declared w event q (NodeIs n x) h was =
    let there = has_node w n in
    let i = x.incarnation in
    next_step w (λ p. is_declared p.0 (NodeIs n x) ≡ true) event q
    (λ m step done is.
    let same : (if n == m then done.0 else w.nodes n).incarnation ≡ (w.nodes n).incarnation =
    at_number n m (λ b. (if b then done.0 else w.nodes n).incarnation ≡ (w.nodes n).incarnation) (λ at. (node_rule-steps (w.nodes m) step done is).incarnation ∙ ap (λ (k : ℕ). (w.nodes k).incarnation) (sym at)) (λ other. refl) in
    subst (λ (k : ℕ). Is there i k) (sym same) was)
    (λ file step done is. was)
    (λ m is alive.
    at_number n m (λ b. Is there i (if b then first_node w.shape m ((w.nodes m).incarnation + 1) else w.nodes n).incarnation) (λ at. declared_again there i (w.nodes n).incarnation (w.nodes m).incarnation (ap (λ (k : ℕ). (w.nodes k).incarnation) (sym at)) was) (λ other. was))
    (λ m is dead few. was)
    (λ g is works. was)
    (λ g is stops few. was) h
stays_declared w event q (ServerIs f x) h was =
    let there = has_file w f in
    let e = x.epoch in
    next_step w (λ p. is_declared p.0 (ServerIs f x) ≡ true) event q
    (λ m step done is. was)
    (λ g step done is.
    let same : (if f == g then done.0 else w.servers f).epoch ≡ (w.servers f).epoch =
    at_number f g (λ b. (if b then done.0 else w.servers f).epoch ≡ (w.servers f).epoch) (λ at. server_rule-epoch (w.servers g) step done is ∙ ap (λ (k : ℕ). (w.servers k).epoch) (sym at)) (λ other. refl) in
    subst (λ (k : ℕ). Was there e (w.working f) k) (sym same) was)
    (λ m is alive. was)
    (λ m is dead few. was)
    (λ g is works. at_number f g (λ b. Was there e (if b then false else w.working f) (w.servers f).epoch) (λ at. stopped there e (w.working f) (w.servers f).epoch was) (λ other. was))
    (λ g is stops few.
    at_number f g (λ b. Was there e (if b then true else w.working f) (if b then next_server w g else w.servers f).epoch) (λ at. begun there e (w.working f) (w.servers f).epoch (w.servers g).epoch (ap w.working at ∙ stops) (ap (λ (k : ℕ). (w.servers k).epoch) (sym at)) was) (λ other. was)) h

pub none_first : (shape : ShapeFields) → AreFirst shape []
none_first shape k s e = absurd (cc)

-- one first seat more
pub one_first : (shape : ShapeFields) (seats : List SeatFields) (s : SeatFields) → AreFirst shape seats → IsFirstSeat shape (length seats) s → HasState (first_world shape) (seat_state s) → AreFirst shape (seats ++ s ∷ [])
one_first shape seats s first is has k t e = elim (slice_get-push seats s k t e) [
  | inl old ↦ first k t old
  | inr new ↦ (
      let P : ℕ → SeatFields → Type 0 = λ j x. IsFirstSeat shape j x × HasState (first_world shape) (seat_state x) in
      let here : P (length seats) s = (is, has) in
      let there : P k s = subst (λ (j : ℕ). P j s) (sym new.0) here in
      subst (λ (x : SeatFields). P k x) new.1 there)
]

below : (k n : ℕ) → k < n → nat_lt k n ≡ true
below k n h = grind (arith, nat_tests, h)

above : (k n : ℕ) → nat_lt (n + k) n ≡ false
above k n = grind (arith, nat_tests)

-- the actors at the places of nodes, and of servers
pub node_at_place : (shape : ShapeFields) (k : ℕ) → k < shape.nodes → actor_at shape k ≡ ANode (k + 1)
node_at_place shape k h = ap (λ b. if b then ANode (k + 1) else AServer (k - shape.nodes + 1)) (below k shape.nodes h)

pub server_at_place : (shape : ShapeFields) (k : ℕ) → actor_at shape (shape.nodes + k) ≡ AServer (k + 1)
server_at_place shape k =
    let less : shape.nodes + k - shape.nodes ≡ k = omega arith in
    ap (λ b. if b then ANode (shape.nodes + k + 1) else AServer (shape.nodes + k - shape.nodes + 1)) (above k shape.nodes)
    ∙ ap (λ (j : ℕ). AServer (j + 1)) less

-- the seat of the next node, and of the next server
pub node_more : (shape : ShapeFields) (seats fs : List SeatFields) (s : SeatFields) (t : State) (k : ℕ) → AreFirst shape seats → length seats ≡ k → k < shape.nodes → fs ≡ seats ++ s ∷ [] → s ≡ record { standing = record { copy = t; behind = None }; commits = 0 } → HasState (first_world shape) (state_of t) → actor_of (state_of t) ≡ ANode (k + 1) → (length fs ≡ k + 1) × AreFirst shape fs
node_more shape seats fs s t k first count below made is has actor =
    let place : actor_at shape (length seats) ≡ ANode (k + 1) = ap (actor_at shape) count ∙ node_at_place shape k below in
    let P : SeatFields → Type 0 = λ x. AreFirst shape (seats ++ x ∷ []) in
    let all : P s = subst P (sym is) (one_first shape seats (record { standing = record { copy = t; behind = None }; commits = 0 }) first (actor ∙ sym place, refl) has) in
    (ap length made ∙ length-append seats (s ∷ []) ∙ ap (λ (n : ℕ). n + 1) count, subst (AreFirst shape) (sym made) all)

pub server_more : (shape : ShapeFields) (seats fs : List SeatFields) (s : SeatFields) (t : State) (k : ℕ) → AreFirst shape seats → length seats ≡ shape.nodes + k → fs ≡ seats ++ s ∷ [] → s ≡ record { standing = record { copy = t; behind = None }; commits = 0 } → HasState (first_world shape) (state_of t) → actor_of (state_of t) ≡ AServer (k + 1) → (length fs ≡ shape.nodes + (k + 1)) × AreFirst shape fs
server_more shape seats fs s t k first count made is has actor =
    let place : actor_at shape (length seats) ≡ AServer (k + 1) = ap (actor_at shape) count ∙ server_at_place shape k in
    let P : SeatFields → Type 0 = λ x. AreFirst shape (seats ++ x ∷ []) in
    let all : P s = subst P (sym is) (one_first shape seats (record { standing = record { copy = t; behind = None }; commits = 0 }) first (actor ∙ sym place, refl) has) in
    let more : length fs ≡ length seats + 1 = ap length made ∙ length-append seats (s ∷ []) in
    (omega (arith, more, count), subst (AreFirst shape) (sym made) all)

pub held_by_stamps : (entries : List Entry) (call reply : StampFields) (r : ReceiptFields) → IsStampOf entries call → IsStampOf entries reply → IsReceiptOf call reply r → r.seen < r.call_at → r.call_at ≤ r.reply_at → Holds entries r
held_by_stamps entries call reply r a b is before order = record {
  before = before;
  order = order;
  call_entry = entry call.event a.incarnation call.outcome;
  call_there = ap (λ (k : ℕ). slice_get entries (k - 1)) is.call_at ∙ a.there;
  called = is.called;
  reply_entry = entry reply.event b.incarnation reply.outcome;
  reply_there = ap (λ (k : ℕ). slice_get entries (k - 1)) is.reply_at ∙ b.there;
  replied = is.replied;
}

pub says_yes : (b : Bool) (P : Type 0) → MatchBool b P (P → ⊥) → P → b ≡ true
says_yes true P m p = refl
says_yes false P m p = absurd (m p)
