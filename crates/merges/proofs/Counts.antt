-- Steps change no member, and incarnations count declarations.
use Rattle.std.proofs.Common.{◌≡◌, ℕ, ◌+◌, ◌≤◌, Bool, true, false, not, ◌&&◌, nat_le, nat_lt, if◌then◌else◌, refl, sym, subst, ◌∙◌, ap, arith, eq-eqb, Ok}
use Rattle.std.proofs.lemmas.Bool.{eqb-true, not-false}
use Rattle.std.proofs.lemmas.Bool.Decides.{nat_tests}
use Rattle.std.specs.Prelude.{◌==◌}
use Rattle.messages.specs.rule.Messages.{addressee}
use Rattle.messages.specs.declared.actor.Actor.{Actor}
use Rattle.messages.specs.declared.actor.Actor.TheVariants.{Node as ANode, Server as AServer}
use Rattle.messages.specs.declared.event.Event.{Event}
use Rattle.messages.specs.declared.event.Event.TheVariants.{AtNode, AtServer, Deliver, Member}
use Rattle.messages.specs.declared.event.MemberEvent.{MemberEvent}
use Rattle.messages.specs.declared.event.MemberEvent.TheVariants.{Declare, Restart, FailServer, StartServer}
use Rattle.messages.specs.declared.entry.Entry.{Entry}
use Rattle.node_core.specs.rule.State.{first_node}
use Rattle.cluster_core.specs.rule.World.{WorldState, was_declared}
use Rattle.cluster_core.specs.rule.Next.{is_fenced, is_stopped, next_server, taken, next}
use Rattle.cluster_core.specs.rule.Actors.{member_of}
use Rattle.cluster_core.proofs.common.Choices.{at_number}
use Rattle.cluster_core.proofs.steps.NodeNumbers.{node_rule-steps}
use Rattle.cluster_core.proofs.steps.ServerSteps.{server_rule-epoch}
use Rattle.cluster_core.proofs.steps.Steps.{next_taken, next_unfenced, next_step, declare_step, restart_step, fail_step, start_step}
use Rattle.merges.specs.rule.Merges.{same_actor, takes, ends}
use Rattle.merges.specs.code.Merging.{current, stands}
use Rattle.merges.proofs.Worlds.{actor_of}

-- the event changes no member
abbrev pub IsStep : Event → Type 0
IsStep event = (change : MemberEvent) → event ≡ Member change → ⊥

pub record KeepsMembers (w v : WorldState) : Type 0 where
  pub alive : (k : ℕ) → v.alive k ≡ w.alive k
  pub working : (f : ℕ) → v.working f ≡ w.working f
  pub incarnation : (k : ℕ) → (v.nodes k).incarnation ≡ (w.nodes k).incarnation
  pub epoch : (f : ℕ) → (v.servers f).epoch ≡ (w.servers f).epoch

pub step_keeps : (w : WorldState) (event : Event) (q : WorldState × Entry) → IsStep event → next w event ≡ Ok q → KeepsMembers w q.0
step_keeps w event q still h =
    next_step w (λ p. KeepsMembers w p.0) event q
    (λ n step done is. record {
      alive = λ k. refl;
      working = λ f. refl;
      incarnation = λ k. at_number k n (λ b. (if b then done.0 else w.nodes k).incarnation ≡ (w.nodes k).incarnation) (λ same. (node_rule-steps (w.nodes n) step done is).incarnation ∙ ap (λ (j : ℕ). (w.nodes j).incarnation) (sym same)) (λ other. refl);
      epoch = λ f. refl;
    })
    (λ n step done is. record {
      alive = λ k. refl;
      working = λ f. refl;
      incarnation = λ k. refl;
      epoch = λ f. at_number f n (λ b. (if b then done.0 else w.servers f).epoch ≡ (w.servers f).epoch) (λ same. server_rule-epoch (w.servers n) step done is ∙ ap (λ (j : ℕ). (w.servers j).epoch) (sym same)) (λ other. refl);
    })
    (λ n is alive. absurd (still (Declare n) is))
    (λ n is dead few. absurd (still (Restart n) is))
    (λ n is works. absurd (still (FailServer n) is))
    (λ n is stopped few. absurd (still (StartServer n) is)) h

pub kept_current : (w v : WorldState) (a : Actor) → KeepsMembers w v → current v a ≡ current w a
kept_current w v (ANode n) keeps = keeps.incarnation n
kept_current w v (AServer f) keeps = λ i. if keeps.working f i then keeps.epoch f i else keeps.epoch f i + 1

-- the incarnation that is live, or begins next, after an event
abbrev pub counted : WorldState → Actor → Event → ℕ
counted w a event = if ends a event then current w a + 1 else current w a

declare_counts : (w : WorldState) (n : ℕ) (q : WorldState × Entry) (a : Actor) → taken w (Member (Declare n)) ≡ Ok q → current q.0 a ≡ counted w a (Member (Declare n))
declare_counts w n q (ANode k) h =
    declare_step w (λ p. current p.0 (ANode k) ≡ counted w (ANode k) (Member (Declare n))) n q
    (λ m is alive.
    let same : n ≡ m = cc in
    subst (λ (j : ℕ). (if k == j then first_node w.shape j ((w.nodes j).incarnation + 1) else w.nodes k).incarnation ≡ (if k == n then (w.nodes k).incarnation + 1 else (w.nodes k).incarnation)) same
    (at_number k n (λ b. (if b then first_node w.shape n ((w.nodes n).incarnation + 1) else w.nodes k).incarnation ≡ (if b then (w.nodes k).incarnation + 1 else (w.nodes k).incarnation)) (λ here. ap (λ (j : ℕ). (w.nodes j).incarnation + 1) (sym here)) (λ other. refl))) h
declare_counts w n q (AServer f) h = declare_step w (λ p. current p.0 (AServer f) ≡ current w (AServer f)) n q (λ m is alive. refl) h

restart_counts : (w : WorldState) (n : ℕ) (q : WorldState × Entry) (a : Actor) → taken w (Member (Restart n)) ≡ Ok q → current q.0 a ≡ current w a
restart_counts w n q (ANode k) h = restart_step w (λ p. current p.0 (ANode k) ≡ current w (ANode k)) n q (λ m is dead few. refl) h
restart_counts w n q (AServer f) h = restart_step w (λ p. current p.0 (AServer f) ≡ current w (AServer f)) n q (λ m is dead few. refl) h

fail_counts : (w : WorldState) (f : ℕ) (q : WorldState × Entry) (a : Actor) → taken w (Member (FailServer f)) ≡ Ok q → current q.0 a ≡ counted w a (Member (FailServer f))
fail_counts w f q (ANode k) h = fail_step w (λ p. current p.0 (ANode k) ≡ current w (ANode k)) f q (λ m is works. refl) h
fail_counts w f q (AServer g) h =
    fail_step w (λ p. current p.0 (AServer g) ≡ counted w (AServer g) (Member (FailServer f))) f q
    (λ m is works.
    let same : m ≡ f = cc in
    let works_f : w.working f ≡ true = subst (λ (j : ℕ). w.working j ≡ true) same works in
    subst (λ (j : ℕ). (if (if g == j then false else w.working g) then (w.servers g).epoch else (w.servers g).epoch + 1) ≡ counted w (AServer g) (Member (FailServer f))) (sym same)
    (at_number g f (λ b. (if (if b then false else w.working g) then (w.servers g).epoch else (w.servers g).epoch + 1) ≡ (if b then current w (AServer g) + 1 else current w (AServer g)))
    (λ here.
    let works_g : w.working g ≡ true = ap w.working here ∙ works_f in
    λ i. (if sym works_g i then (w.servers g).epoch else (w.servers g).epoch + 1) + 1)
    (λ other. refl))) h

start_counts : (w : WorldState) (f : ℕ) (q : WorldState × Entry) (a : Actor) → taken w (Member (StartServer f)) ≡ Ok q → current q.0 a ≡ current w a
start_counts w f q (ANode k) h = start_step w (λ p. current p.0 (ANode k) ≡ current w (ANode k)) f q (λ m is stopped few. refl) h
start_counts w f q (AServer g) h =
    start_step w (λ p. current p.0 (AServer g) ≡ current w (AServer g)) f q
    (λ m is stopped few.
    at_number g m (λ b. (if (if b then true else w.working g) then (if b then next_server w m else w.servers g).epoch else (if b then next_server w m else w.servers g).epoch + 1) ≡ current w (AServer g))
    (λ here.
    let stopped_g : w.working g ≡ false = ap w.working here ∙ stopped in
    (λ i. (w.servers (sym here i)).epoch + 1) ∙ (λ i. if sym stopped_g i then (w.servers g).epoch else (w.servers g).epoch + 1))
    (λ other. refl)) h

pub change_counts : (w : WorldState) (change : MemberEvent) (q : WorldState × Entry) (a : Actor) → next w (Member change) ≡ Ok q → current q.0 a ≡ counted w a (Member change)
change_counts w (Declare n) q a h = declare_counts w n q a (next_taken w (Member (Declare n)) q h).1
change_counts w (Restart n) q a h = restart_counts w n q a (next_taken w (Member (Restart n)) q h).1
change_counts w (FailServer f) q a h = fail_counts w f q a (next_taken w (Member (FailServer f)) q h).1
change_counts w (StartServer f) q a h = start_counts w f q a (next_taken w (Member (StartServer f)) q h).1

step_counts : (w : WorldState) (event : Event) (q : WorldState × Entry) (a : Actor) → IsStep event → ends a event ≡ false → next w event ≡ Ok q → current q.0 a ≡ counted w a event
step_counts w event q a still ends_not h = kept_current w q.0 a (step_keeps w event q still h) ∙ ap (λ (b : Bool). if b then current w a + 1 else current w a) (sym ends_not)

pub counts : (w : WorldState) (event : Event) (q : WorldState × Entry) (a : Actor) → next w event ≡ Ok q → current q.0 a ≡ counted w a event
counts w (AtNode n input) q a h = step_counts w (AtNode n input) q a (λ change is. absurd (cc)) refl h
counts w (AtServer f input) q a h = step_counts w (AtServer f input) q a (λ change is. absurd (cc)) refl h
counts w (Deliver m) q a h = step_counts w (Deliver m) q a (λ change is. absurd (cc)) refl h
counts w (Member change) q a h = change_counts w change q a h

-- what was declared stays so
below_more : (i j k : ℕ) → j ≤ k → (nat_le 1 i && nat_lt i j) ≡ true → (nat_le 1 i && nat_lt i k) ≡ true
below_more i j k more h = grind (arith, nat_tests, h)

at_most_counted : (w : WorldState) (a : Actor) (b : Bool) → current w a ≤ (if b then current w a + 1 else current w a)
at_most_counted w a true = omega arith
at_most_counted w a false = omega arith

pub declared_stays : (w : WorldState) (event : Event) (q : WorldState × Entry) → next w event ≡ Ok q → (n incarnation : ℕ) → was_declared w n incarnation ≡ true → was_declared q.0 n incarnation ≡ true
declared_stays w event q h n incarnation was =
    let more : (w.nodes n).incarnation ≤ (q.0.nodes n).incarnation = subst (λ (k : ℕ). (w.nodes n).incarnation ≤ k) (sym (counts w event q (ANode n) h)) (at_most_counted w (ANode n) (ends (ANode n) event)) in
    below_more incarnation (w.nodes n).incarnation (q.0.nodes n).incarnation more was

-- actors that a test finds to be the same
pub same_is : (a b : Actor) → same_actor a b ≡ true → a ≡ b
same_is (ANode n) (ANode m) h = ap ANode (eqb-true n m h)
same_is (AServer f) (AServer g) h = ap AServer (eqb-true f g h)
same_is (ANode n) (AServer f) h = absurd (cc)
same_is (AServer f) (ANode n) h = absurd (cc)

pub is_same : (a b : Actor) → a ≡ b → same_actor a b ≡ true
is_same (ANode n) b is = subst (λ (c : Actor). same_actor (ANode n) c ≡ true) is (eq-eqb n n refl)
is_same (AServer f) b is = subst (λ (c : Actor). same_actor (AServer f) c ≡ true) is (eq-eqb f f refl)

-- a step is of the actor that takes it
pub taken_by : (a : Actor) (event : Event) → takes a event ≡ true → (a ≡ actor_of event) × IsStep event
taken_by a (AtNode n input) h = (same_is a (ANode n) h, λ change is. absurd (cc))
taken_by a (AtServer f input) h = (same_is a (AServer f) h, λ change is. absurd (cc))
taken_by a (Deliver m) h = (same_is a (addressee m) h, λ change is. absurd (cc))
taken_by a (Member change) h = absurd (cc)

stopped_is : (w : WorldState) (a : Actor) → is_stopped w a ≡ not (stands w a)
stopped_is w (ANode n) = refl
stopped_is w (AServer f) = refl

fenced_is : (w : WorldState) (a : Actor) (event : Event) → takes a event ≡ true → is_fenced w event ≡ not (stands w a)
fenced_is w a (AtNode n input) h = ap (λ (b : Actor). not (stands w b)) (sym (same_is a (ANode n) h))
fenced_is w a (AtServer f input) h = ap (λ (b : Actor). not (stands w b)) (sym (same_is a (AServer f) h))
fenced_is w a (Deliver m) h = stopped_is w (addressee m) ∙ ap (λ (b : Actor). not (stands w b)) (sym (same_is a (addressee m) h))
fenced_is w a (Member change) h = absurd (cc)

pub stands_that_steps : (w : WorldState) (a : Actor) (event : Event) (q : WorldState × Entry) → takes a event ≡ true → next w event ≡ Ok q → stands w a ≡ true
stands_that_steps w a event q own h = not-false (stands w a) (sym (fenced_is w a event own) ∙ next_unfenced w event q h)

-- what begins again was stopped
pub stopped_that_begins : (w : WorldState) (change : MemberEvent) (q : WorldState × Entry) → next w (Member change) ≡ Ok q → ends (member_of change) (Member change) ≡ false → stands w (member_of change) ≡ false
stopped_that_begins w (Declare n) q h other = let is : true ≡ false = sym (eq-eqb n n refl) ∙ other in absurd (cc)
stopped_that_begins w (Restart n) q h other = restart_step w (λ p. w.alive n ≡ false) n q (λ m is dead few. let same : m ≡ n = cc in ap w.alive (sym same) ∙ dead) (next_taken w (Member (Restart n)) q h).1
stopped_that_begins w (FailServer f) q h other = let is : true ≡ false = sym (eq-eqb f f refl) ∙ other in absurd (cc)
stopped_that_begins w (StartServer f) q h other = start_step w (λ p. w.working f ≡ false) f q (λ m is stopped few. let same : m ≡ f = cc in ap w.working (sym same) ∙ stopped) (next_taken w (Member (StartServer f)) q h).1
