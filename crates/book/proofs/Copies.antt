-- The copy of an actor's state: what its changes make of the state, and how it catches up.
use Rattle.std.proofs.Common.{◌≡◌, ℕ, ◌&&◌, nat_le, nat_lt, if◌then◌else◌, Option, Some, None, Result, Ok, Err, refl, sym, ap, ◌∙◌}
use Rattle.std.specs.Prelude.{OnErr}
use Rattle.std.specs.declared.alloc.AllocError.{AllocError}
use Rattle.messages.specs.declared.event.Event.{Event}
use Rattle.messages.specs.declared.outcome.Outcome.{Outcome}
use Rattle.messages.specs.declared.refusal.StepError.{StepError}
use Rattle.node_core.specs.rule.State.{NodeState}
use Rattle.node_core.specs.rule.Parts.{node_state}
use Rattle.token_server.specs.rule.State.{ServerState}
use Rattle.token_server.specs.rule.Parts.{server_state}
use Rattle.cluster_core.specs.rule.World.{WorldState, has_node, has_file}
use Rattle.cluster_core.specs.rule.Actors.{node_step, server_step}
use Rattle.cluster_core.proofs.steps.Actors.{node_done_by, server_done_by}
use Rattle.cluster_core.proofs.steps.NodeNumbers.{node_rule-steps}
use Rattle.cluster_core.proofs.steps.ServerSteps.{server_rule-epoch}
use Rattle.cluster_core.specs.rule.Actors.{node_event, server_event}
use Rattle.book.specs.declared.state_edit.StateEdit.{StateEdit}
use Rattle.book.specs.declared.state_edit.StateEdit.TheVariants.{Node as OnNode, Server as OnServer}
use Rattle.book.specs.declared.state.State.{State}
use Rattle.book.specs.declared.state.State.TheVariants.{OfNode, OfServer}
use Rattle.book.specs.rule.States.ActorState.{NodeIs, ServerIs}
use Rattle.book.specs.rule.States.{ActorState, actor_of, incarnation_of, StepsTo, MayTake, Rejects, left_by, once_taken, is_declared}
use Rattle.book.specs.code.Copies.{Plans, Becomes}
use Rattle.book.specs.rule.States.{state_of}

-- a step leads to the state once its event is taken
pub taken_is : (s : ActorState) (event : Event) (t : ActorState) (o : Outcome) → StepsTo s event t o → once_taken s (Some event) ≡ t
taken_is (NodeIs n s) event (NodeIs m t) o h = λ i. NodeIs (sym h.0 i) (ap (left_by s) h.1 i)
taken_is (ServerIs f s) event (ServerIs g t) o h = λ i. ServerIs (sym h.0 i) (ap (left_by s) h.1 i)
taken_is (NodeIs n s) event (ServerIs g t) o h = absurd h
taken_is (ServerIs f s) event (NodeIs m t) o h = absurd h

-- a planned step is one to what its edit makes
pub plans_on : (s : State) (event : Event) (e : StateEdit) (o : Outcome) → Plans s event e o → StepsTo (state_of s) event (once_taken (state_of s) (Some event)) o
plans_on (OfNode n s) event (OnNode e) o h = (refl, h ∙ ap (λ (x : NodeState). Ok (x, o)) (sym (ap (left_by (node_state s.value)) h)))
plans_on (OfServer f s) event (OnServer e) o h = (refl, h ∙ ap (λ (x : ServerState). Ok (x, o)) (sym (ap (left_by (server_state s.value)) h)))
plans_on (OfNode n s) event (OnServer e) o h = absurd h
plans_on (OfServer f s) event (OnNode e) o h = absurd h

-- the planned change makes the state once the event is taken
pub caught_up : (s : State) (event : Event) (e : StateEdit) (t : State) (o : Outcome) → Plans s event e o → Becomes s e t → state_of t ≡ once_taken (state_of s) (Some event)
caught_up (OfNode n s) event (OnNode e) (OfNode m t) o h is = λ i. NodeIs (is.0 i) ((is.1 ∙ sym (ap (left_by (node_state s.value)) h)) i)
caught_up (OfServer f s) event (OnServer e) (OfServer g t) o h is = λ i. ServerIs (is.0 i) ((is.1 ∙ sym (ap (left_by (server_state s.value)) h)) i)
caught_up (OfNode n s) event (OnNode e) (OfServer g t) o h is = absurd is
caught_up (OfServer f s) event (OnServer e) (OfNode m t) o h is = absurd is
caught_up (OfNode n s) event (OnServer e) t o h is = absurd h
caught_up (OfServer f s) event (OnNode e) t o h is = absurd h

-- an event that leads on is not refused
pub unrejected : (s : ActorState) (event : Event) (e : StepError) → MayTake s event → Rejects s event e → ⊥
unrejected (NodeIs n s) event e (NodeIs m t, o, h) r = let both = sym h.1 ∙ r in absurd (cc)
unrejected (ServerIs f s) event e (ServerIs g t, o, h) r = let both = sym h.1 ∙ r in absurd (cc)
unrejected (NodeIs n s) event e (ServerIs g t, o, h) r = absurd h
unrejected (ServerIs f s) event e (NodeIs m t, o, h) r = absurd h

-- the actor and its incarnation stay, whatever is taken
pub actor_stays : (s : ActorState) (behind : Option Event) → actor_of (once_taken s behind) ≡ actor_of s
actor_stays s None = refl
actor_stays (NodeIs n s) (Some event) = refl
actor_stays (ServerIs f s) (Some event) = refl

node_left : (s : NodeState) (n : ℕ) (event : Event) (r : Result (NodeState × Outcome) StepError) → node_step n s event ≡ r → (left_by s r).incarnation ≡ s.incarnation
node_left s n event (Ok done) is = let by = node_done_by s (node_event n event) done is in (node_rule-steps s by.0 done by.2).incarnation
node_left s n event (Err e) is = refl

server_left : (s : ServerState) (f : ℕ) (event : Event) (r : Result (ServerState × Outcome) StepError) → server_step f s event ≡ r → (left_by s r).epoch ≡ s.epoch
server_left s f event (Ok done) is = let by = server_done_by s (server_event f event) done is in server_rule-epoch s by.0 done by.2
server_left s f event (Err e) is = refl

pub incarnation_stays : (s : ActorState) (behind : Option Event) → incarnation_of (once_taken s behind) ≡ incarnation_of s
incarnation_stays s None = refl
incarnation_stays (NodeIs n s) (Some event) = node_left s n event (node_step n s event) refl
incarnation_stays (ServerIs f s) (Some event) = server_left s f event (server_step f s event) refl

-- and so does whether it was declared failed
pub declared_stays : (w : WorldState) (s : ActorState) (behind : Option Event) → is_declared w (once_taken s behind) ≡ is_declared w s
declared_stays w s None = refl
declared_stays w (NodeIs n s) (Some event) = ap (λ (k : ℕ). has_node w n && (nat_le 1 k && nat_lt k (w.nodes n).incarnation)) (node_left s n event (node_step n s event) refl)
declared_stays w (ServerIs f s) (Some event) = ap (λ (k : ℕ). has_file w f && (nat_le 1 k && (if w.working f then nat_lt k (w.servers f).epoch else nat_le k (w.servers f).epoch))) (server_left s f event (server_step f s event) refl)

-- what follows where a result is an error
pub err_map : {P Q : Type 0} (r : Result (Unit {0}) AllocError) → (P → Q) → OnErr r P → OnErr r Q
err_map (Ok done) on holds = tt
err_map (Err why) on holds = on holds
