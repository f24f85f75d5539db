-- A world after one of its nodes was declared failed, or restarted.
use Rattle.std.specs.Prelude.{slice_set, ◌==◌, ◌-◌}
use Rattle.std.proofs.Common.{◌≡◌, ℕ, ◌+◌, ◌<◌, ◌≤◌, Bool, true, false, not, nat_le, nat_lt, ◌&&◌, if◌then◌else◌, refl, sym, ◌∙◌, ap, subst, arith, List, [], append-nil, length, Some, None, Result, Ok, Err}
use Rattle.std.specs.Option.{is_some}
use Rattle.std.proofs.lemmas.Bool.Decides.{nat_tests}
use Rattle.std.proofs.lemmas.List.{length-set}
use Rattle.std.proofs.lemmas.Option.{none-some}
use Rattle.intervals.specs.rule.Bytes.{IsRun}
use Rattle.messages.specs.rule.Messages.{is_within, sending}
use Rattle.messages.specs.declared.message.Message.{Message}
use Rattle.messages.specs.declared.event.Event.{Event}
use Rattle.messages.specs.declared.event.Event.TheVariants.{Member}
use Rattle.messages.specs.declared.event.MemberEvent.TheVariants.{Declare, Restart}
use Rattle.messages.specs.declared.outcome.Outcome.{Outcome}
use Rattle.messages.specs.declared.entry.Entry.{Entry}
use Rattle.messages.specs.declared.refusal.Refused.{Refused}
use Rattle.messages.specs.declared.refusal.Refused.TheVariants.{Stranger, NotAlive, NotDead, TooManyRestarts}
use Rattle.messages.specs.rule.Members.{MembersState, live_incarnation, declared_failed, with_declared, with_restarted, MemberParts, MembersParts, alive_in, incarnation_in, incarnation_of, members_state}
use Rattle.messages.specs.rule.Members as member
use Rattle.messages.proofs.Rules.{declaration, restart}
use Rattle.node_core.specs.rule.Parts.{NodeParts, node_state}
use Rattle.node_core.specs.rule.State.{NodeState, first_node}
use Rattle.cluster_core.specs.declared.node_token_run.NodeTokenRun.{NodeTokenRun}
use Rattle.cluster_core.specs.rule.Listings.{IsTokenOf}
use Rattle.cluster_core.specs.rule.World.{WorldState, journal_limit, most_incarnations, was_declared}
use Rattle.cluster_core.specs.rule.Next.{entry, declared, restarted, silent, declare_rule, restart_rule}
use Rattle.cluster_core.specs.rule.Parts.{WorldParts, IsWorld, seated, listed, alive_at, world_state}
use Rattle.cluster_core.specs.code.Changes.{IsRestart}
use Rattle.cluster_core.proofs.common.Choices.{at_number}
use Rattle.cluster_core.proofs.common.Numbered.{within_is, put_at}

abbrev pub declared_parts : WorldParts → MembersParts → WorldParts
declared_parts p members = record p { members = members; length = p.length + 1 }

abbrev pub restarted_parts : WorldParts → ℕ → NodeParts → MembersParts → WorldParts
restarted_parts p n x members = record p { nodes = slice_set p.nodes (n - 1) x; members = members; length = p.length + 1 }

-- the world after the declaration or restart of a member
abbrev after_declare : WorldState → ℕ → Result (MembersState × ℕ) Refused → Result (WorldState × Entry) Refused
after_declare w n (Ok r) = Ok (silent (declared w n) (Member (Declare n)) r.1)
after_declare w n (Err e) = Err e

abbrev after_restart : WorldState → ℕ → Result (MembersState × ℕ) Refused → Result (WorldState × Entry) Refused
after_restart w n (Ok r) = Ok (silent (restarted w n) (Member (Restart n)) r.1)
after_restart w n (Err e) = Err e

declare_case : (w : WorldState) (n k : ℕ) (s : MembersState) (a b : Bool) → a ≡ true → (if b then Ok (silent (declared w n) (Member (Declare n)) k) else Err NotAlive) ≡ after_declare w n (if not a then Err Stranger else (if b then Ok (s, k) else Err NotAlive))
declare_case w n k s true true h = refl
declare_case w n k s true false h = refl
declare_case w n k s false b h = absurd (cc)

restart_case : (w : WorldState) (n k : ℕ) (s : MembersState) (a b c : Bool) → a ≡ true → (if b then Err NotDead else (if c then Ok (silent (restarted w n) (Member (Restart n)) k) else Err TooManyRestarts)) ≡ after_restart w n (if not a then Err Stranger else (if b then Err NotDead else (if c then Ok (s, k) else Err TooManyRestarts)))
restart_case w n k s true true c h = refl
restart_case w n k s true false true h = refl
restart_case w n k s true false false h = refl
restart_case w n k s false b c h = absurd (cc)

told : (b : Bool) (k : ℕ) → is_some (if b then Some k else None) ≡ b
told true k = refl
told false k = refl

module _ (p : WorldParts) (world : IsWorld p) (n : ℕ) (number : is_within p.shape.nodes n ≡ true) where
  least : 1 ≤ n
  least = (within_is p.shape.nodes n number).0

  in_nodes : n ≤ length p.nodes
  in_nodes = let most = (within_is p.shape.nodes n number).1 in omega (arith, most, world.nodes_there)

  is_one : is_within (length p.members.nodes) n ≡ true
  is_one = ap (λ (k : ℕ). is_within k n) world.members_there ∙ number

  -- the members say of the node whether it is alive in the world
  pub alive_there : is_some (live_incarnation (members_state p.members.nodes) n) ≡ alive_at p n
  alive_there =
      ap (λ (b : Bool). is_some (if b && alive_at p n then Some (incarnation_in p.members.nodes n) else None)) is_one
      ∙ told (alive_at p n) (incarnation_in p.members.nodes n)

  pub declared_there : (i : ℕ) → member.was_declared (members_state p.members.nodes) n i ≡ was_declared (world_state p) n i
  declared_there i =
      ap (λ (b : Bool). b && (nat_le 1 i && nat_lt i (incarnation_in p.members.nodes n))) is_one
      ∙ ap (λ (k : ℕ). nat_le 1 i && nat_lt i k) (sym (world.own_incarnation n))

  pub declares : declare_rule (world_state p) n ≡ after_declare (world_state p) n (declared_failed (members_state p.members.nodes) n)
  declares =
      ap (λ (k : ℕ). if alive_at p n then Ok (silent (declared (world_state p) n) (Member (Declare n)) k) else Err NotAlive) (world.own_incarnation n)
      ∙ declare_case (world_state p) n (incarnation_in p.members.nodes n) (with_declared (members_state p.members.nodes) n) (is_within (length p.members.nodes) n) (alive_at p n) is_one

  pub restarts : restart_rule (world_state p) n ≡ after_restart (world_state p) n (member.restarted (members_state p.members.nodes) n)
  restarts =
      ap (λ (k : ℕ). if alive_at p n then Err NotDead else (if nat_le k most_incarnations then Ok (silent (restarted (world_state p) n) (Member (Restart n)) k) else Err TooManyRestarts)) (world.own_incarnation n)
      ∙ restart_case (world_state p) n (incarnation_in p.members.nodes n) (with_restarted (members_state p.members.nodes) n) (is_within (length p.members.nodes) n) (alive_at p n) (nat_le (incarnation_in p.members.nodes n) most_incarnations) is_one

  pub fails_there : (e : Refused) → alive_at p n ≡ true → declared_failed (members_state p.members.nodes) n ≡ Err e → ⊥
  fails_there e alive refused =
      let goes : declared_failed (members_state p.members.nodes) n ≡ Ok (with_declared (members_state p.members.nodes) n, incarnation_in p.members.nodes n) = λ i. if not (is_one i) then Err Stranger else (if alive i then Ok (with_declared (members_state p.members.nodes) n, incarnation_in p.members.nodes n) else Err NotAlive) in
      let both = sym goes ∙ refused in absurd (cc)

  few_enough : (k : ℕ) → k ≤ 65535 → nat_le k 65535 ≡ true
  few_enough k h = grind (arith, nat_tests)

  pub begins_there : (e : Refused) → alive_at p n ≡ false → incarnation_in p.members.nodes n ≤ most_incarnations → member.restarted (members_state p.members.nodes) n ≡ Err e → ⊥
  begins_there e dead few refused =
      let goes : member.restarted (members_state p.members.nodes) n ≡ Ok (with_restarted (members_state p.members.nodes) n, incarnation_in p.members.nodes n) = λ i. if not (is_one i) then Err Stranger else (if dead i then Err NotDead else (if few_enough (incarnation_in p.members.nodes n) few i then Ok (with_restarted (members_state p.members.nodes) n, incarnation_in p.members.nodes n) else Err TooManyRestarts)) in
      let both = sym goes ∙ refused in absurd (cc)

  -- the node of a member that is not alive is as it will begin
  dead_seat : alive_at p n ≡ false → (world_state p).nodes n ≡ first_node p.shape n (incarnation_in p.members.nodes n)
  dead_seat dead =
      let its : (listed p n).incarnation + 1 ≡ incarnation_in p.members.nodes n = sym (ap (λ (b : Bool). (seated p.shape n b (listed p n)).incarnation) dead) ∙ world.own_incarnation n in
      ap (λ (b : Bool). seated p.shape n b (listed p n)) dead ∙ ap (λ (k : ℕ). first_node p.shape n k) its

  silent_is : (event : Event) (k i : ℕ) (o : Outcome) (items : List Message) (e : Entry) → i ≡ k → o ≡ sending items → items ≡ [] → e ≡ entry event k o → entry event i (sending []) ≡ e
  silent_is event k i o items e is made none entry_is = (λ j. entry event (is j) (sym (made ∙ ap sending none) j)) ∙ sym entry_is

  -- the servers' members stay
  epochs_kept : (ms : MembersParts) → ms.servers ≡ p.members.servers → (f : ℕ) → incarnation_in ms.servers f ≡ incarnation_of (alive_in ms.servers f) ((world_state p).servers f).epoch
  epochs_kept ms others f = subst (λ (xs : List MemberParts). incarnation_in xs f ≡ incarnation_of (alive_in xs f) ((world_state p).servers f).epoch) (sym others) (world.own_epoch f)

  -- the node is declared failed
  module _ (ms : MembersParts) (others : ms.servers ≡ p.members.servers) (k : ℕ) (done : declared_failed (members_state p.members.nodes) n ≡ Ok (members_state ms.nodes, k)) where
    known : (is_within (length p.members.nodes) n ≡ true) × (alive_at p n ≡ true) × (◌≡◌ {A = MembersState × ℕ} (with_declared (members_state p.members.nodes) n, incarnation_in p.members.nodes n) (members_state ms.nodes, k))
    known = declaration (is_within (length p.members.nodes) n) (alive_at p n) (with_declared (members_state p.members.nodes) n, incarnation_in p.members.nodes n) (members_state ms.nodes, k) done

    become : with_declared (members_state p.members.nodes) n ≡ members_state ms.nodes
    become = ap (λ (r : MembersState × ℕ). r.0) known.2

    now_dead : (m : ℕ) → alive_in ms.nodes m ≡ (if m == n then false else alive_at p m)
    now_dead m = ap (λ (s : MembersState). s.alive m) (sym become)

    declared_seat : (m : ℕ) → (world_state (declared_parts p ms)).nodes m ≡ (if m == n then first_node p.shape n (((world_state p).nodes n).incarnation + 1) else (world_state p).nodes m)
    declared_seat m =
        ap (λ (b : Bool). seated p.shape m b (listed p m)) (now_dead m)
        ∙ at_number m n (λ b. seated p.shape m (if b then false else alive_at p m) (listed p m) ≡ (if b then first_node p.shape n (((world_state p).nodes n).incarnation + 1) else (world_state p).nodes m))
        (λ same. (λ j. first_node p.shape (same j) ((listed p (same j)).incarnation + 1)) ∙ ap (λ (i : ℕ). first_node p.shape n (i + 1)) (sym (ap (λ (b : Bool). (seated p.shape n b (listed p n)).incarnation) known.1)))
        (λ other. refl)

    declared_is : (i : ℕ) → (silent (declared (world_state p) n) (Member (Declare n)) i).0 ≡ world_state (declared_parts p ms)
    declared_is i = sym (λ j. record {
      shape = p.shape;
      nodes = λ m. declared_seat m j;
      alive = λ m. now_dead m j;
      servers = (world_state p).servers;
      working = alive_in (others j);
      sent = sym (append-nil p.sent) j;
      length = p.length + 1;
    })

    pub declared_world : p.length < journal_limit → IsWorld (declared_parts p ms)
    declared_world room = record {
      nodes_there = world.nodes_there;
      members_there = ap (λ (s : MembersState). s.nodes) (sym become) ∙ world.members_there;
      servers_there = world.servers_there;
      epochs_there = ap length others ∙ world.epochs_there;
      own_number = λ m.
          ap (λ (s : NodeState). s.node) (declared_seat m)
          ∙ at_number m n (λ b. (if b then first_node p.shape n (((world_state p).nodes n).incarnation + 1) else (world_state p).nodes m).node ≡ m) (λ same. sym same) (λ other. world.own_number m);
      own_incarnation = λ m.
          ap (λ (s : NodeState). s.incarnation) (declared_seat m)
          ∙ (at_number m n (λ b. (if b then first_node p.shape n (((world_state p).nodes n).incarnation + 1) else (world_state p).nodes m).incarnation ≡ (if b then incarnation_in p.members.nodes n + 1 else incarnation_in p.members.nodes m)) (λ same. ap (λ (i : ℕ). i + 1) (world.own_incarnation n)) (λ other. world.own_incarnation m)
          ∙ ap (λ (s : MembersState). s.incarnation m) become);
      own_epoch = λ f. epochs_kept ms others f;
      within = omega arith;
    }

    pub declared_done : (o : Outcome) (items : List Message) (e : Entry) → o ≡ sending items → items ≡ [] → e ≡ entry (Member (Declare n)) k o → declare_rule (world_state p) n ≡ Ok (world_state (declared_parts p ms), e)
    declared_done o items e made none entry_is =
        declares ∙ ap (after_declare (world_state p) n) done ∙ (λ j. Ok (declared_is k j, silent_is (Member (Declare n)) k k o items e refl made none entry_is j))

  -- the node restarts
  module _ (x : NodeParts) (ms : MembersParts) (others : ms.servers ≡ p.members.servers) (k : ℕ) (begins : node_state x ≡ first_node p.shape n (incarnation_in p.members.nodes n)) (done : member.restarted (members_state p.members.nodes) n ≡ Ok (members_state ms.nodes, k)) where
    right : (is_within (length p.members.nodes) n ≡ true) × (alive_at p n ≡ false) × (nat_le (incarnation_in p.members.nodes n) most_incarnations ≡ true) × (◌≡◌ {A = MembersState × ℕ} (with_restarted (members_state p.members.nodes) n, incarnation_in p.members.nodes n) (members_state ms.nodes, k))
    right = restart (is_within (length p.members.nodes) n) (alive_at p n) (nat_le (incarnation_in p.members.nodes n) most_incarnations) (with_restarted (members_state p.members.nodes) n, incarnation_in p.members.nodes n) (members_state ms.nodes, k) done

    turned : with_restarted (members_state p.members.nodes) n ≡ members_state ms.nodes
    turned = ap (λ (r : MembersState × ℕ). r.0) right.3

    now_alive : (m : ℕ) → alive_in ms.nodes m ≡ (if m == n then true else alive_at p m)
    now_alive m = ap (λ (s : MembersState). s.alive m) (sym turned)

    restarted_seat : (m : ℕ) → (world_state (restarted_parts p n x ms)).nodes m ≡ (world_state p).nodes m
    restarted_seat m =
        (λ j. seated p.shape m (now_alive m j) (put_at node_state (λ i. first_node p.shape i 1) p.nodes n x least in_nodes m j))
        ∙ at_number m n (λ b. seated p.shape m (if b then true else alive_at p m) (if b then node_state x else listed p m) ≡ (world_state p).nodes m)
        (λ same. begins ∙ (sym (dead_seat right.1) ∙ ap (λ (i : ℕ). (world_state p).nodes i) (sym same)))
        (λ other. refl)

    restarted_is : (i : ℕ) → (silent (restarted (world_state p) n) (Member (Restart n)) i).0 ≡ world_state (restarted_parts p n x ms)
    restarted_is i = sym (λ j. record {
      shape = p.shape;
      nodes = λ m. restarted_seat m j;
      alive = λ m. now_alive m j;
      servers = (world_state p).servers;
      working = alive_in (others j);
      sent = sym (append-nil p.sent) j;
      length = p.length + 1;
    })

    pub restarted_world : p.length < journal_limit → IsWorld (restarted_parts p n x ms)
    restarted_world room = record {
      nodes_there = length-set p.nodes (n - 1) x ∙ world.nodes_there;
      members_there = ap (λ (s : MembersState). s.nodes) (sym turned) ∙ world.members_there;
      servers_there = world.servers_there;
      epochs_there = ap length others ∙ world.epochs_there;
      own_number = λ m. ap (λ (s : NodeState). s.node) (restarted_seat m) ∙ world.own_number m;
      own_incarnation = λ m. ap (λ (s : NodeState). s.incarnation) (restarted_seat m) ∙ (world.own_incarnation m ∙ ap (λ (s : MembersState). s.incarnation m) turned);
      own_epoch = λ f. epochs_kept ms others f;
      within = omega arith;
    }

    pub restarted_done : (o : Outcome) (items : List Message) (e : Entry) → o ≡ sending items → items ≡ [] → e ≡ entry (Member (Restart n)) k o → restart_rule (world_state p) n ≡ Ok (world_state (restarted_parts p n x ms), e)
    restarted_done o items e made none entry_is =
        restarts ∙ ap (after_restart (world_state p) n) done ∙ (λ j. Ok (restarted_is k j, silent_is (Member (Restart n)) k k o items e refl made none entry_is j))

  -- a restart that is planned
  pub restart_refused : (e : Refused) → member.restarted (members_state p.members.nodes) n ≡ Err e → restart_rule (world_state p) n ≡ Err e
  restart_refused e refused = restarts ∙ ap (after_restart (world_state p) n) refused

  pub restart_goes : (s : MembersState) (k : ℕ) (e : Refused) → member.restarted (members_state p.members.nodes) n ≡ Ok (s, k) → restart_rule (world_state p) n ≡ Err e → ⊥
  restart_goes s k e goes refused = let both : ◌≡◌ {A = Result (WorldState × Entry) Refused} (Ok (silent (restarted (world_state p) n) (Member (Restart n)) k)) (Err e) = sym (restarts ∙ ap (after_restart (world_state p) n) goes) ∙ refused in absurd (cc)

  pub restart_is : (s : MembersState) (k : ℕ) → member.restarted (members_state p.members.nodes) n ≡ Ok (s, k) → (made : WorldState × Entry) × (restart_rule (world_state p) n ≡ Ok made)
  restart_is s k goes = (silent (restarted (world_state p) n) (Member (Restart n)) k, restarts ∙ ap (after_restart (world_state p) n) goes)

  few_is : (k : ℕ) → nat_le k 65535 ≡ true → k ≤ 65535
  few_is k h = grind (arith, nat_tests, h)

  pub may_restart : (s : MembersState) (k : ℕ) (y : NodeParts) → member.restarted (members_state p.members.nodes) n ≡ Ok (s, k) → node_state y ≡ first_node p.shape n k → IsRestart p n y
  may_restart s k y goes begins =
      let right = restart (is_within (length p.members.nodes) n) (alive_at p n) (nat_le (incarnation_in p.members.nodes n) most_incarnations) (with_restarted (members_state p.members.nodes) n, incarnation_in p.members.nodes n) (s, k) goes in
      record {
        number = number;
        dead = right.1;
        few = few_is (incarnation_in p.members.nodes n) right.2;
        begins = begins ∙ ap (λ (r : MembersState × ℕ). first_node p.shape n r.1) (sym right.3);
      }

-- the facts of a world whose parts were opened
pub opened : (P : WorldParts → Type 0) (p now : WorldParts) (n : ℕ) → p ≡ now → is_within now.shape.nodes n ≡ true → (is_within p.shape.nodes n ≡ true → P p) → P now
opened P p now n view number f = subst P view (f (subst (λ (q : WorldParts). is_within q.shape.nodes n ≡ true) (sym view) number))

-- a node that is not alive has no token and no lock
pub dead_token : (p : WorldParts) (n : ℕ) → alive_at p n ≡ false → (t : NodeTokenRun) → IsTokenOf (world_state p) n t → ⊥
dead_token p n dead t is =
    let run = subst (λ (k : ℕ). IsRun (((world_state p).nodes k).files t.file).token t.span t.level) is.1 is.0.run in
    let none : (((world_state p).nodes n).files t.file).token t.span.lo ≡ None = ap (λ (b : Bool). ((seated p.shape n b (listed p n)).files t.file).token t.span.lo) dead in
    none-some t.level (sym none ∙ run.all t.span.lo (omega arith) run.ordered)
