-- A world that keeps another copy of an actor's state, which is equal.
use Rattle.std.specs.Prelude.{slice_set, slice_index_or, ◌-◌, OnErr, is_err}
use Rattle.std.proofs.Common.{◌≡◌, ℕ, ◌<◌, ◌≤◌, Bool, true, if◌then◌else◌, refl, sym, ◌∙◌, ap, arith, List, length, Option, Some, None, Result, Ok, Err}
use Rattle.std.specs.declared.alloc.AllocError.{AllocError}
use Rattle.std.proofs.lemmas.List.{length-set, set-set, set-get_or}
use Rattle.messages.specs.rule.Entries.{NamesItsIncarnation}
use Rattle.messages.specs.declared.event.Event.{Event}
use Rattle.messages.specs.declared.event.Event.TheVariants.{Member}
use Rattle.messages.specs.declared.event.MemberEvent.{MemberEvent}
use Rattle.node_core.specs.declared.change.NodeChange.{NodeChange}
use Rattle.node_core.specs.declared.event.NodeEvent.{NodeEvent}
use Rattle.node_core.specs.code.Plans.{Fits, planned as reached}
use Rattle.node_core.specs.rule.Node.{node_rule}
use Rattle.node_core.specs.rule.Parts.{NodeParts, node_state}
use Rattle.node_core.specs.rule.State.{NodeState, first_node}
use Rattle.token_server.specs.declared.change.ServerChange.{ServerChange}
use Rattle.token_server.specs.code.Edits.{planned, Fits as ServerFits}
use Rattle.token_server.specs.rule.Server.{server_rule}
use Rattle.token_server.specs.rule.Parts.{ServerParts, server_state}
use Rattle.token_server.specs.rule.State.{ServerState, first_server}
use Rattle.messages.specs.rule.Members.{incarnation_of}
use Rattle.cluster_core.specs.rule.Parts.{WorldParts, IsWorld, seated, listed, alive_at, works_at, world_state}
use Rattle.cluster_core.specs.declared.world.world_change.WorldChange.TheVariants.{OfNode, OfServer}
use Rattle.cluster_core.specs.rule.World.{journal_limit}
use Rattle.cluster_core.specs.rule.Next.{is_known, named_incarnation, after_node, after_server}
use Rattle.cluster_core.specs.rule.Actors.{HasNode, HasServer, node_event, server_event, node_step, server_step}
use Rattle.cluster_core.specs.code.Changes.{Plans, with_node_copy, with_server_copy}
use Rattle.cluster_core.proofs.common.Choices.{at_number}
use Rattle.cluster_core.proofs.common.Numbered.{within_is, put_at}
use Rattle.cluster_core.proofs.steps.WorldSteps.{read_node, read_server}
use Rattle.cluster_core.proofs.steps.Actors.{node_done_by, server_done_by, node_next, server_next}

-- the item that stood there before, set again, makes the list as it was
pub set_back : {X : Type 0} (xs : List X) (i : ℕ) (x y : X) → y ≡ slice_index_or xs i y → slice_set (slice_set xs i x) i y ≡ xs
set_back xs i x y is = set-set xs i x y ∙ (ap (slice_set xs i) is ∙ set-get_or xs i y)

module _ (p : WorldParts) (world : IsWorld p) where
  module _ (n : ℕ) (x : NodeParts) (has : HasNode (world_state p) n (node_state x)) where
    least : 1 ≤ n
    least = (within_is p.shape.nodes n has.number).0

    pub node_place : n - 1 < length p.nodes
    node_place = let most = (within_is p.shape.nodes n has.number).1 in omega (arith, least, most, world.nodes_there)

    there : n ≤ length p.nodes
    there = let most = (within_is p.shape.nodes n has.number).1 in omega (arith, most, world.nodes_there)

    seat_kept : (m : ℕ) → seated p.shape m (alive_at p m) (listed (with_node_copy p n x) m) ≡ (world_state p).nodes m
    seat_kept m =
        ap (seated p.shape m (alive_at p m)) (put_at node_state (λ k. first_node p.shape k 1) p.nodes n x least there m)
        ∙ at_number m n (λ b. seated p.shape m (alive_at p m) (if b then node_state x else listed p m) ≡ (world_state p).nodes m)
        (λ same. ap (λ (b : Bool). seated p.shape m b (node_state x)) (ap (alive_at p) same ∙ has.alive) ∙ (sym has.state ∙ ap (world_state p).nodes (sym same)))
        (λ other. refl)

    -- the copy that stands there is of the same state
    pub node_read : (y : NodeParts) → y ≡ slice_index_or p.nodes (n - 1) y → (world_state p).nodes n ≡ node_state y
    node_read y is = read_node p n y world has.number has.alive is

    pub node_copied : world_state (with_node_copy p n x) ≡ world_state p
    node_copied = λ i. record {
      shape = p.shape;
      nodes = λ m. seat_kept m i;
      alive = alive_at p;
      servers = (world_state p).servers;
      working = works_at p;
      sent = p.sent;
      length = p.length;
    }

    pub node_copy_world : IsWorld (with_node_copy p n x)
    node_copy_world = record {
      nodes_there = length-set p.nodes (n - 1) x ∙ world.nodes_there;
      members_there = world.members_there;
      servers_there = world.servers_there;
      epochs_there = world.epochs_there;
      own_number = λ m. ap (λ (s : NodeState). s.node) (seat_kept m) ∙ world.own_number m;
      own_incarnation = λ m. ap (λ (s : NodeState). s.incarnation) (seat_kept m) ∙ world.own_incarnation m;
      own_epoch = world.own_epoch;
      within = world.within;
    }

  module _ (f : ℕ) (x : ServerParts) (has : HasServer (world_state p) f (server_state x)) where
    first : 1 ≤ f
    first = (within_is p.shape.files f has.number).0

    pub server_place : f - 1 < length p.servers
    server_place = let most = (within_is p.shape.files f has.number).1 in omega (arith, first, most, world.servers_there)

    last : f ≤ length p.servers
    last = let most = (within_is p.shape.files f has.number).1 in omega (arith, most, world.servers_there)

    server_kept : (g : ℕ) → (world_state (with_server_copy p f x)).servers g ≡ (world_state p).servers g
    server_kept g =
        put_at server_state (first_server p.shape) p.servers f x first last g
        ∙ at_number g f (λ b. (if b then server_state x else (world_state p).servers g) ≡ (world_state p).servers g)
        (λ same. sym has.state ∙ ap (world_state p).servers (sym same))
        (λ other. refl)

    pub server_read : (y : ServerParts) → y ≡ slice_index_or p.servers (f - 1) y → (world_state p).servers f ≡ server_state y
    server_read y is = read_server p f y world has.number is

    pub server_copied : world_state (with_server_copy p f x) ≡ world_state p
    server_copied = λ i. record {
      shape = p.shape;
      nodes = (world_state p).nodes;
      alive = alive_at p;
      servers = λ g. server_kept g i;
      working = works_at p;
      sent = p.sent;
      length = p.length;
    }

    pub server_copy_world : IsWorld (with_server_copy p f x)
    server_copy_world = record {
      nodes_there = world.nodes_there;
      members_there = world.members_there;
      servers_there = length-set p.servers (f - 1) x ∙ world.servers_there;
      epochs_there = world.epochs_there;
      own_number = world.own_number;
      own_incarnation = world.own_incarnation;
      own_epoch = λ g. world.own_epoch g ∙ ap (λ (s : ServerState). incarnation_of (works_at p g) s.epoch) (sym (server_kept g));
      within = world.within;
    }

-- a step that was planned from the copy that a world keeps is one of the world
pub node_plans : (p : WorldParts) (event : Event) (n : ℕ) (x : NodeParts) (incarnation : ℕ) (change : NodeChange) → p.length < journal_limit → is_known (world_state p) event ≡ true → HasNode (world_state p) n (node_state x) → x ≡ slice_index_or p.nodes (n - 1) x → Fits x change.edit → node_step n (node_state x) event ≡ Ok (reached x change.edit, change.outcome) → incarnation ≡ named_incarnation (node_state x) event → (((member : MemberEvent) → event ≡ Member member → ⊥) → NamesItsIncarnation event incarnation) → Plans p event (OfNode n incarnation change)
node_plans p event n x incarnation change room known has there fits steps incarnation_is named =
    let w = world_state p in
    let t = reached x change.edit in
    let by = node_done_by (node_state x) (node_event n event) (t, change.outcome) steps in
    let done : node_rule (w.nodes n) by.0 ≡ Ok (t, change.outcome) = ap (λ (s : NodeState). node_rule s by.0) has.state ∙ by.2 in
    let here : node_step n (w.nodes n) event ≡ Ok (t, change.outcome) = ap (λ (s : NodeState). node_step n s event) has.state ∙ steps in
    let goes = node_next w event n t change.outcome known (record { number = has.number; alive = has.alive; done = here }) in
    record {
      room = room;
      made = record {
        step = by.0;
        number = has.number;
        alive = has.alive;
        takes = by.1;
        node = x;
        there = there;
        fits = fits;
        done = done;
        incarnation_is = incarnation_is ∙ ap (λ (s : NodeState). named_incarnation s event) (sym has.state);
        incarnated = named (λ member is. absurd (none_of (node_event n event) by.0 by.1 (ap (node_event n) is)));
        gives = goes ∙ ap (after_node w event n) (sym done);
      };
    }
  where
    none_of : (e : Option NodeEvent) (step : NodeEvent) → e ≡ Some step → e ≡ None → ⊥
    none_of e step a b = let both = sym a ∙ b in absurd (cc)

pub server_plans : (p : WorldParts) (event : Event) (f : ℕ) (x : ServerParts) (change : ServerChange) → p.length < journal_limit → is_known (world_state p) event ≡ true → HasServer (world_state p) f (server_state x) → x ≡ slice_index_or p.servers (f - 1) x → ServerFits x change.edit → server_step f (server_state x) event ≡ Ok (planned x change.edit, change.outcome) → Plans p event (OfServer f change)
server_plans p event f x change room known has there fits steps =
    let w = world_state p in
    let t = planned x change.edit in
    let by = server_done_by (server_state x) (server_event f event) (t, change.outcome) steps in
    let done : server_rule (w.servers f) by.0 ≡ Ok (t, change.outcome) = ap (λ (s : ServerState). server_rule s by.0) has.state ∙ by.2 in
    let here : server_step f (w.servers f) event ≡ Ok (t, change.outcome) = ap (λ (s : ServerState). server_step f s event) has.state ∙ steps in
    let goes = server_next w event f t change.outcome known (record { number = has.number; working = has.working; done = here }) in
    record {
      room = room;
      made = record {
        step = by.0;
        number = has.number;
        takes = by.1;
        server = x;
        there = there;
        fits = fits;
        done = done;
        gives = goes ∙ ap (after_server w event f) (sym done);
      };
    }

-- a fact of each error holds where the result is one
pub where_err : {P : Type 0} (r : Result (Unit {0}) AllocError) → is_err r ≡ true → OnErr r P → P
where_err (Ok done) is holds = absurd (cc)
where_err (Err why) is holds = holds

pub on_err : {P : Type 0} (r : Result (Unit {0}) AllocError) → P → OnErr r P
on_err (Ok done) holds = tt
on_err (Err why) holds = holds

-- a copy exchanged twice is the world's as it was
pub node_back : (p q r : WorldParts) (n : ℕ) (x y : NodeParts) → q ≡ with_node_copy p n x → y ≡ slice_index_or p.nodes (n - 1) y → r ≡ with_node_copy q n y → r ≡ p
node_back p q r n x y there old again =
    again ∙ ap (λ (u : WorldParts). with_node_copy u n y) there ∙ (λ i. record p { nodes = set_back p.nodes (n - 1) x y old i })

pub server_back : (p q r : WorldParts) (f : ℕ) (x y : ServerParts) → q ≡ with_server_copy p f x → y ≡ slice_index_or p.servers (f - 1) y → r ≡ with_server_copy q f y → r ≡ p
server_back p q r f x y there old again =
    again ∙ ap (λ (u : WorldParts). with_server_copy u f y) there ∙ (λ i. record p { servers = set_back p.servers (f - 1) x y old i })
