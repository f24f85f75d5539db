-- What an event does to a world depends on its actor, on what was sent and on the members, and changes that actor alone.
use Rattle.std.proofs.Common.{◌≡◌, ℕ, ◌+◌, true, false, not, ◌&&◌, nat_le, nat_lt, if◌then◌else◌, refl, sym, subst, ◌∙◌, ap, eq-eqb, List, [], ◌++◌, Result, Ok, Err}
use Rattle.std.proofs.lemmas.Bool.{and_parts}
use Rattle.std.specs.Prelude.{◌==◌}
use Rattle.messages.specs.rule.Shapes.{ShapeFields, may_rebuild}
use Rattle.messages.specs.rule.Messages.{addressee, is_among, is_within, sending}
use Rattle.messages.specs.declared.actor.Actor.{Actor}
use Rattle.messages.specs.declared.actor.Actor.TheVariants.{Node as ANode, Server as AServer}
use Rattle.messages.specs.declared.message.Message.{Message}
use Rattle.messages.specs.declared.event.Event.{Event}
use Rattle.messages.specs.declared.event.Event.TheVariants.{AtNode, AtServer, Deliver, Member}
use Rattle.messages.specs.declared.event.ServerInput.{ServerInput}
use Rattle.messages.specs.declared.event.ServerInput.TheVariants.{Resend, Learn}
use Rattle.messages.specs.declared.event.MemberEvent.{MemberEvent}
use Rattle.messages.specs.declared.event.MemberEvent.TheVariants.{Declare, Restart, FailServer, StartServer}
use Rattle.messages.specs.declared.entry.Entry.{Entry}
use Rattle.messages.specs.declared.outcome.Outcome.{Outcome}
use Rattle.messages.specs.declared.refusal.Refused.{Refused}
use Rattle.messages.specs.declared.refusal.Refused.TheVariants.{Stranger, Fenced, NotAlive, NotDead, TooManyRestarts}
use Rattle.messages.specs.declared.refusal.StepError.{StepError}
use Rattle.node_core.specs.declared.event.NodeEvent.{NodeEvent}
use Rattle.node_core.specs.declared.event.NodeEvent.TheVariants as node
use Rattle.node_core.specs.rule.State.{NodeState, first_node}
use Rattle.node_core.specs.rule.Node.{node_rule}
use Rattle.token_server.specs.declared.event.ServerEvent.{ServerEvent}
use Rattle.token_server.specs.declared.event.ServerEvent.TheVariants as server
use Rattle.token_server.specs.rule.State.{ServerState, rebuilt}
use Rattle.token_server.specs.rule.Resends.{outstanding}
use Rattle.token_server.specs.rule.Server.{server_rule}
use Rattle.cluster_core.specs.rule.World.{WorldState, was_declared, most_incarnations}
use Rattle.cluster_core.specs.rule.Next.{has_actor, has_member, fits_shape, is_true, is_known, is_stopped, is_fenced, named_incarnation, recorded, with_node, with_server, entry, after_node, after_server, declared, silent, next_server, declare_rule, restart_rule, fail_rule, start_rule, delivered, taken, next}
use Rattle.cluster_core.specs.rule.Actors.{member_of}
use Rattle.cluster_core.proofs.common.Choices.{at_number}
use Rattle.cluster_core.proofs.common.Refusals.{ok_is, if_ok, unless_refused}
use Rattle.cluster_core.proofs.steps.Steps.{next_taken, next_unfenced}

-- the actor that takes the event, or that fails or begins again
abbrev pub actor_of : Event → Actor
actor_of (AtNode n input) = ANode n
actor_of (AtServer file input) = AServer file
actor_of (Deliver m) = addressee m
actor_of (Member event) = member_of event

-- the world with one actor as it is in v, and with more sent
abbrev pub patched : WorldState → Actor → WorldState → List Message → WorldState
patched w (ANode n) v sends = record w { nodes = λ k. if k == n then v.nodes n else w.nodes k; alive = λ k. if k == n then v.alive n else w.alive k; sent = w.sent ++ sends; length = w.length + 1 }
patched w (AServer f) v sends = record w { servers = λ k. if k == f then v.servers f else w.servers k; working = λ k. if k == f then v.working f else w.working k; sent = w.sent ++ sends; length = w.length + 1 }

-- the actor is the same in both worlds
abbrev pub IsSame : Actor → WorldState → WorldState → Type 0
IsSame (ANode n) w u = (u.nodes n ≡ w.nodes n) × (u.alive n ≡ w.alive n)
IsSame (AServer f) w u = (u.servers f ≡ w.servers f) × (u.working f ≡ w.working f)

-- the actor may take in u each step that it may take in w
pub record Sees (a : Actor) (w u : WorldState) : Type 0 where
  pub shape : u.shape ≡ w.shape
  pub own : IsSame a w u
  pub sent : (m : Message) → is_among w.sent m ≡ true → is_among u.sent m ≡ true
  pub declared : (n incarnation : ℕ) → was_declared w n incarnation ≡ true → was_declared u n incarnation ≡ true

-- the same nodes are alive, in the same incarnations
pub record HasNodes (w u : WorldState) : Type 0 where
  pub alive : (k : ℕ) → u.alive k ≡ w.alive k
  pub incarnation : (k : ℕ) → (u.nodes k).incarnation ≡ (w.nodes k).incarnation

next_of : (w : WorldState) (event : Event) (r : Result (WorldState × Entry) Refused) → is_known w event ≡ true → is_fenced w event ≡ false → taken w event ≡ r → next w event ≡ r
next_of w event r known free takes = λ i. if not (known i) then Err Stranger else (if free i then Err Fenced else takes i)

-- a value put where it stands changes nothing
put_at : {A : Type 0} (f : ℕ → A) (n : ℕ) (x : A) → f n ≡ x → (k : ℕ) → f k ≡ (if k == n then x else f k)
put_at f n x is k = at_number k n (λ b. f k ≡ (if b then x else f k)) (λ same. ap f same ∙ is) (λ other. refl)

put_same : {A : Type 0} (f : ℕ → A) (n : ℕ) (x : A) → f n ≡ x → f ≡ (λ k. if k == n then x else f k)
put_same f n x is = λ i. λ k. put_at f n x is k i

here : {A : Type 0} (n : ℕ) (x y : A) → x ≡ (if n == n then x else y)
here n x y = λ i. if sym (eq-eqb n n refl) i then x else y

module _ (w u : WorldState) (shape : u.shape ≡ w.shape) (sent : (m : Message) → is_among w.sent m ≡ true → is_among u.sent m ≡ true) (declared : (n incarnation : ℕ) → was_declared w n incarnation ≡ true → was_declared u n incarnation ≡ true) where
  actor_known : (a : Actor) → has_actor w a ≡ true → has_actor u a ≡ true
  actor_known (ANode n) has = subst (λ (s : ShapeFields). is_within s.nodes n ≡ true) (sym shape) has
  actor_known (AServer f) has = subst (λ (s : ShapeFields). is_within s.files f ≡ true) (sym shape) has

  input_true : (input : ServerInput) → is_true w input ≡ true → is_true u input ≡ true
  input_true Resend known = refl
  input_true (Learn n incarnation) known =
      let two = and_parts (is_within w.shape.nodes n) (was_declared w n incarnation) known in
      let node = actor_known (ANode n) two.0 in
      let dead = declared n incarnation two.1 in
      λ i. node i && dead i

  member_known : (event : MemberEvent) → has_member w event ≡ true → has_member u event ≡ true
  member_known (Declare n) known = actor_known (ANode n) known
  member_known (Restart n) known = actor_known (ANode n) known
  member_known (FailServer f) known = subst (λ (s : ShapeFields). (may_rebuild s.version && is_within s.files f) ≡ true) (sym shape) known
  member_known (StartServer f) known = subst (λ (s : ShapeFields). (may_rebuild s.version && is_within s.files f) ≡ true) (sym shape) known

  known : (event : Event) → is_known w event ≡ true → is_known u event ≡ true
  known (AtNode n input) is = subst (λ (s : ShapeFields). (is_within s.nodes n && fits_shape s input) ≡ true) (sym shape) is
  known (AtServer f input) is =
      let two = and_parts (is_within w.shape.files f) (is_true w input) is in
      let file = actor_known (AServer f) two.0 in
      let good = input_true input two.1 in
      λ i. file i && good i
  known (Deliver m) is =
      let two = and_parts (has_actor w (addressee m)) (is_among w.sent m) is in
      let actor = actor_known (addressee m) two.0 in
      let was = sent m two.1 in
      λ i. actor i && was i
  known (Member event) is = member_known event is

after_node_alone : (w u : WorldState) (event : Event) (n : ℕ) (r : Result (NodeState × Outcome) StepError) (q : WorldState × Entry) → IsSame (ANode n) w u → after_node w event n r ≡ Ok q → after_node u event n r ≡ Ok (patched u (ANode n) q.0 q.1.sends, q.1)
after_node_alone w u event n (Ok done) q same h =
    let new : done.0 ≡ (with_node w n done.0).nodes n = here n done.0 (w.nodes n) in
    let alive : u.alive ≡ (λ k. if k == n then w.alive n else u.alive k) = put_same u.alive n (w.alive n) same.1 in
    let base : after_node u event n (Ok done) ≡ Ok (patched u (ANode n) (recorded (with_node w n done.0) event (named_incarnation (w.nodes n) event) done.1).0 done.1.sends, (recorded (with_node w n done.0) event (named_incarnation (w.nodes n) event) done.1).1)
    = λ i. Ok (recorded (record (with_node u n (new i)) { alive = alive i }) event (named_incarnation (same.0 i) event) done.1) in
    subst (λ (p : WorldState × Entry). after_node u event n (Ok done) ≡ Ok (patched u (ANode n) p.0 p.1.sends, p.1)) (ok_is _ q h) base
after_node_alone w u event n (Err e) q same h = absurd (cc)

after_server_alone : (w u : WorldState) (event : Event) (f : ℕ) (r : Result (ServerState × Outcome) StepError) (q : WorldState × Entry) → IsSame (AServer f) w u → after_server w event f r ≡ Ok q → after_server u event f r ≡ Ok (patched u (AServer f) q.0 q.1.sends, q.1)
after_server_alone w u event f (Ok done) q same h =
    let new : done.0 ≡ (with_server w f done.0).servers f = here f done.0 (w.servers f) in
    let working : u.working ≡ (λ k. if k == f then w.working f else u.working k) = put_same u.working f (w.working f) same.1 in
    let base : after_server u event f (Ok done) ≡ Ok (patched u (AServer f) (recorded (with_server w f done.0) event 0 done.1).0 done.1.sends, (recorded (with_server w f done.0) event 0 done.1).1)
    = λ i. Ok (recorded (record (with_server u f (new i)) { working = working i }) event 0 done.1) in
    subst (λ (p : WorldState × Entry). after_server u event f (Ok done) ≡ Ok (patched u (AServer f) p.0 p.1.sends, p.1)) (ok_is _ q h) base
after_server_alone w u event f (Err e) q same h = absurd (cc)

-- the event is a step of that node, or of that server
abbrev IsNodeStep : Event → ℕ → NodeEvent → Type 0
IsNodeStep event n step = (z : WorldState) → (is_fenced z event ≡ not (z.alive n)) × (taken z event ≡ after_node z event n (node_rule (z.nodes n) step))

abbrev IsServerStep : Event → ℕ → ServerEvent → Type 0
IsServerStep event f step = (z : WorldState) → (is_fenced z event ≡ not (z.working f)) × (taken z event ≡ after_server z event f (server_rule (z.servers f) step))

node_alone : (w u : WorldState) (event : Event) (n : ℕ) (step : NodeEvent) (q : WorldState × Entry) → IsNodeStep event n step → next w event ≡ Ok q → Sees (ANode n) w u → next u event ≡ Ok (patched u (ANode n) q.0 q.1.sends, q.1)
node_alone w u event n step q own h sees =
    let before = next_taken w event q h in
    let unfenced : is_fenced u event ≡ false = (own u).0 ∙ ap not sees.own.1 ∙ sym (own w).0 ∙ next_unfenced w event q h in
    let was : after_node w event n (node_rule (w.nodes n) step) ≡ Ok q = sym (own w).1 ∙ before.1 in
    let is = after_node_alone w u event n (node_rule (w.nodes n) step) q sees.own was in
    next_of u event _ (known w u sees.shape sees.sent sees.declared event before.0) unfenced ((own u).1 ∙ ap (λ (s : NodeState). after_node u event n (node_rule s step)) sees.own.0 ∙ is)

server_alone : (w u : WorldState) (event : Event) (f : ℕ) (step : ServerEvent) (q : WorldState × Entry) → IsServerStep event f step → next w event ≡ Ok q → Sees (AServer f) w u → next u event ≡ Ok (patched u (AServer f) q.0 q.1.sends, q.1)
server_alone w u event f step q own h sees =
    let before = next_taken w event q h in
    let unfenced : is_fenced u event ≡ false = (own u).0 ∙ ap not sees.own.1 ∙ sym (own w).0 ∙ next_unfenced w event q h in
    let was : after_server w event f (server_rule (w.servers f) step) ≡ Ok q = sym (own w).1 ∙ before.1 in
    let is = after_server_alone w u event f (server_rule (w.servers f) step) q sees.own was in
    next_of u event _ (known w u sees.shape sees.sent sees.declared event before.0) unfenced ((own u).1 ∙ ap (λ (s : ServerState). after_server u event f (server_rule s step)) sees.own.0 ∙ is)

delivery_alone : (w u : WorldState) (m : Message) (to : Actor) (q : WorldState × Entry) → addressee m ≡ to → next w (Deliver m) ≡ Ok q → Sees to w u → next u (Deliver m) ≡ Ok (patched u to q.0 q.1.sends, q.1)
delivery_alone w u m (ANode n) q is h sees = node_alone w u (Deliver m) n (node.Deliver m) q (λ z. (ap (is_stopped z) is, ap (delivered z m) is)) h sees
delivery_alone w u m (AServer f) q is h sees = server_alone w u (Deliver m) f (server.Deliver m) q (λ z. (ap (is_stopped z) is, ap (delivered z m) is)) h sees

module _ (w u : WorldState) where
  declare_alone : (n : ℕ) (q : WorldState × Entry) → u.shape ≡ w.shape → IsSame (ANode n) w u → declare_rule w n ≡ Ok q → declare_rule u n ≡ Ok (patched u (ANode n) q.0 q.1.sends, q.1)
  declare_alone n q shape same h =
      let done = if_ok (w.alive n) (silent (declared w n) (Member (Declare n)) (w.nodes n).incarnation) q NotAlive h in
      let alive : u.alive n ≡ true = same.1 ∙ done.0 in
      let state : first_node u.shape n ((u.nodes n).incarnation + 1) ≡ (declared w n).nodes n = (λ i. first_node (shape i) n ((same.0 i).incarnation + 1)) ∙ here n (first_node w.shape n ((w.nodes n).incarnation + 1)) (w.nodes n) in
      let dead : false ≡ (declared w n).alive n = here n false (w.alive n) in
      let base : declare_rule u n ≡ Ok (patched u (ANode n) (silent (declared w n) (Member (Declare n)) (w.nodes n).incarnation).0 [], (silent (declared w n) (Member (Declare n)) (w.nodes n).incarnation).1)
      = λ i. if alive i then Ok (record u { nodes = λ k. if k == n then state i else u.nodes k; alive = λ k. if k == n then dead i else u.alive k; sent = u.sent ++ []; length = u.length + 1 }, entry (Member (Declare n)) (same.0 i).incarnation (sending [])) else Err NotAlive in
      subst (λ (p : WorldState × Entry). declare_rule u n ≡ Ok (patched u (ANode n) p.0 p.1.sends, p.1)) done.1 base

  restart_alone : (n : ℕ) (q : WorldState × Entry) → IsSame (ANode n) w u → restart_rule w n ≡ Ok q → restart_rule u n ≡ Ok (patched u (ANode n) q.0 q.1.sends, q.1)
  restart_alone n q same h =
      let dead = unless_refused (w.alive n) _ q NotDead h in
      let done = if_ok (nat_le (w.nodes n).incarnation most_incarnations) _ q TooManyRestarts dead.1 in
      let stopped : u.alive n ≡ false = same.1 ∙ dead.0 in
      let few : nat_le (u.nodes n).incarnation most_incarnations ≡ true = ap (λ (s : NodeState). nat_le s.incarnation most_incarnations) same.0 ∙ done.0 in
      let nodes : u.nodes ≡ (λ k. if k == n then w.nodes n else u.nodes k) = put_same u.nodes n (w.nodes n) same.0 in
      let back : true ≡ (if n == n then true else w.alive n) = here n true (w.alive n) in
      let base : restart_rule u n ≡ Ok (record u { nodes = λ k. if k == n then w.nodes n else u.nodes k; alive = λ k. if k == n then (if n == n then true else w.alive n) else u.alive k; sent = u.sent ++ []; length = u.length + 1 }, entry (Member (Restart n)) (w.nodes n).incarnation (sending []))
      = λ i. if stopped i then Err NotDead else (if few i then Ok (record u { nodes = nodes i; alive = λ k. if k == n then back i else u.alive k; sent = u.sent ++ []; length = u.length + 1 }, entry (Member (Restart n)) (same.0 i).incarnation (sending [])) else Err TooManyRestarts) in
      subst (λ (p : WorldState × Entry). restart_rule u n ≡ Ok (patched u (ANode n) p.0 p.1.sends, p.1)) done.1 base

  fail_alone : (f : ℕ) (q : WorldState × Entry) → IsSame (AServer f) w u → fail_rule w f ≡ Ok q → fail_rule u f ≡ Ok (patched u (AServer f) q.0 q.1.sends, q.1)
  fail_alone f q same h =
      let done = if_ok (w.working f) _ q NotAlive h in
      let works : u.working f ≡ true = same.1 ∙ done.0 in
      let servers : u.servers ≡ (λ k. if k == f then w.servers f else u.servers k) = put_same u.servers f (w.servers f) same.0 in
      let dead : false ≡ (if f == f then false else w.working f) = here f false (w.working f) in
      let base : fail_rule u f ≡ Ok (record u { servers = λ k. if k == f then w.servers f else u.servers k; working = λ k. if k == f then (if f == f then false else w.working f) else u.working k; sent = u.sent ++ []; length = u.length + 1 }, entry (Member (FailServer f)) (w.servers f).epoch (sending []))
      = λ i. if works i then Ok (record u { servers = servers i; working = λ k. if k == f then dead i else u.working k; sent = u.sent ++ []; length = u.length + 1 }, entry (Member (FailServer f)) (same.0 i).epoch (sending [])) else Err NotAlive in
      subst (λ (p : WorldState × Entry). fail_rule u f ≡ Ok (patched u (AServer f) p.0 p.1.sends, p.1)) done.1 base

  start_alone : (f : ℕ) (q : WorldState × Entry) → u.shape ≡ w.shape → IsSame (AServer f) w u → HasNodes w u → start_rule w f ≡ Ok q → start_rule u f ≡ Ok (patched u (AServer f) q.0 q.1.sends, q.1)
  start_alone f q shape same nodes h =
      let stopped = unless_refused (w.working f) _ q NotDead h in
      let done = if_ok (nat_lt (w.servers f).epoch most_incarnations) _ q TooManyRestarts stopped.1 in
      let works : u.working f ≡ false = same.1 ∙ stopped.0 in
      let few : nat_lt (u.servers f).epoch most_incarnations ≡ true = ap (λ (s : ServerState). nat_lt s.epoch most_incarnations) same.0 ∙ done.0 in
      let new : next_server u f ≡ next_server w f = λ i. rebuilt (shape i) f ((same.0 i).epoch + 1) (λ k. nodes.alive k i) (λ k. nodes.incarnation k i) in
      let state : next_server u f ≡ (if f == f then next_server w f else w.servers f) = new ∙ here f (next_server w f) (w.servers f) in
      let back : true ≡ (if f == f then true else w.working f) = here f true (w.working f) in
      let base : start_rule u f ≡ Ok (record u { servers = λ k. if k == f then (if f == f then next_server w f else w.servers f) else u.servers k; working = λ k. if k == f then (if f == f then true else w.working f) else u.working k; sent = u.sent ++ outstanding (next_server w f); length = u.length + 1 }, entry (Member (StartServer f)) ((w.servers f).epoch + 1) (sending (outstanding (next_server w f))))
      = λ i. if works i then Err NotDead else (if few i then Ok (record u { servers = λ k. if k == f then state i else u.servers k; working = λ k. if k == f then back i else u.working k; sent = u.sent ++ outstanding (new i); length = u.length + 1 }, entry (Member (StartServer f)) ((same.0 i).epoch + 1) (sending (outstanding (new i)))) else Err TooManyRestarts) in
      subst (λ (p : WorldState × Entry). start_rule u f ≡ Ok (patched u (AServer f) p.0 p.1.sends, p.1)) done.1 base

  change_alone : (event : MemberEvent) (q : WorldState × Entry) → Sees (member_of event) w u → HasNodes w u → taken w (Member event) ≡ Ok q → taken u (Member event) ≡ Ok (patched u (member_of event) q.0 q.1.sends, q.1)
  change_alone (Declare n) q sees nodes h = declare_alone n q sees.shape sees.own h
  change_alone (Restart n) q sees nodes h = restart_alone n q sees.own h
  change_alone (FailServer f) q sees nodes h = fail_alone f q sees.own h
  change_alone (StartServer f) q sees nodes h = start_alone f q sees.shape sees.own nodes h

-- what happens in one world happens in the same way in each that the actor sees alike
pub alone : (w u : WorldState) (event : Event) (q : WorldState × Entry) → next w event ≡ Ok q → Sees (actor_of event) w u → ((change : MemberEvent) → event ≡ Member change → HasNodes w u) → next u event ≡ Ok (patched u (actor_of event) q.0 q.1.sends, q.1)
alone w u (AtNode n input) q h sees nodes = node_alone w u (AtNode n input) n (node.Input input) q (λ z. (refl, refl)) h sees
alone w u (AtServer f input) q h sees nodes = server_alone w u (AtServer f input) f (server.Input input) q (λ z. (refl, refl)) h sees
alone w u (Deliver m) q h sees nodes = delivery_alone w u m (addressee m) q refl h sees
alone w u (Member event) q h sees nodes =
    let before = next_taken w (Member event) q h in
    next_of u (Member event) _ (known w u sees.shape sees.sent sees.declared (Member event) before.0) refl (change_alone w u event q sees (nodes event refl) before.1)

pub same_itself : (a : Actor) (w : WorldState) → IsSame a w w
same_itself (ANode n) w = (refl, refl)
same_itself (AServer f) w = (refl, refl)

-- what happens changes one actor alone
pub patches : (w : WorldState) (event : Event) (q : WorldState × Entry) → next w event ≡ Ok q → q.0 ≡ patched w (actor_of event) q.0 q.1.sends
patches w event q h =
    let again = alone w w event q h (record { shape = refl; own = same_itself (actor_of event) w; sent = λ m was. was; declared = λ n i was. was }) (λ change is. record { alive = λ k. refl; incarnation = λ k. refl }) in
    ap (λ (p : WorldState × Entry). p.0) (ok_is q _ (sym h ∙ again))
