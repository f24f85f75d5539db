-- A world after one of its token servers was declared failed, or began again.
use Rattle.std.specs.Prelude.{slice_set, ◌==◌, ◌-◌}
use Rattle.std.proofs.Common.{◌≡◌, ℕ, ◌+◌, ◌<◌, ◌≤◌, Bool, true, false, not, nat_le, nat_lt, ◌&&◌, if◌then◌else◌, refl, sym, ◌∙◌, ap, subst, arith, List, [], ◌++◌, append-nil, length, Some, None, Result, Ok, Err}
use Rattle.std.specs.Option.{is_some}
use Rattle.std.proofs.lemmas.Bool.Decides.{nat_tests}
use Rattle.std.proofs.lemmas.List.{length-set}
use Rattle.messages.specs.rule.Messages.{is_within, sending}
use Rattle.messages.specs.declared.message.Message.{Message}
use Rattle.messages.specs.declared.event.Event.TheVariants.{Member}
use Rattle.messages.specs.declared.event.MemberEvent.TheVariants.{FailServer, StartServer}
use Rattle.messages.specs.declared.outcome.Outcome.{Outcome}
use Rattle.messages.specs.declared.entry.Entry.{Entry}
use Rattle.messages.specs.declared.refusal.Refused.{Refused}
use Rattle.messages.specs.declared.refusal.Refused.TheVariants.{Stranger, NotAlive, NotDead, TooManyRestarts}
use Rattle.messages.specs.rule.Members.{MembersState, live_incarnation, declared_failed, with_declared, with_restarted, MemberParts, MembersParts, alive_in, incarnation_in, incarnation_of, members_state}
use Rattle.messages.specs.rule.Members as member
use Rattle.messages.proofs.Rules.{declaration, restart}
use Rattle.node_core.specs.rule.State.{NodeState}
use Rattle.token_server.specs.rule.Parts.{ServerParts, server_state}
use Rattle.token_server.specs.rule.State.{ServerState, first_server, rebuilt}
use Rattle.token_server.specs.rule.Resends.{outstanding}
use Rattle.cluster_core.specs.rule.World.{WorldState, journal_limit, most_incarnations, has_failed}
use Rattle.cluster_core.specs.rule.Next.{entry, recorded, silent, failed, started, next_server, fail_rule, start_rule}
use Rattle.cluster_core.specs.rule.Parts.{WorldParts, IsWorld, seated, listed, alive_at, works_at, world_state}
use Rattle.cluster_core.specs.code.Changes.{IsStart}
use Rattle.cluster_core.proofs.common.Choices.{at_number}
use Rattle.cluster_core.proofs.common.Numbered.{within_is, put_at}

abbrev pub failed_parts : WorldParts → MembersParts → WorldParts
failed_parts p members = record p { members = members; length = p.length + 1 }

abbrev pub started_parts : WorldParts → ℕ → ServerParts → MembersParts → List Message → WorldParts
started_parts p f x members sends = record p { servers = slice_set p.servers (f - 1) x; members = members; sent = p.sent ++ sends; length = p.length + 1 }

-- the world after the start of a member
abbrev after_start : WorldState → ℕ → Result (MembersState × ℕ) Refused → Result (WorldState × Entry) Refused
after_start w f (Ok r) = Ok (recorded (started w f) (Member (StartServer f)) r.1 (sending (outstanding (next_server w f))))
after_start w f (Err e) = Err e

start_case : (w : WorldState) (f k : ℕ) (s : MembersState) (a b c : Bool) → a ≡ true → (if b then Err NotDead else (if c then Ok (recorded (started w f) (Member (StartServer f)) k (sending (outstanding (next_server w f)))) else Err TooManyRestarts)) ≡ after_start w f (if not a then Err Stranger else (if b then Err NotDead else (if c then Ok (s, k) else Err TooManyRestarts)))
start_case w f k s true true c h = refl
start_case w f k s true false true h = refl
start_case w f k s true false false h = refl
start_case w f k s false b c h = absurd (cc)

-- a server that works is not started
working_case : (w : WorldState) (f e k : ℕ) (b : Bool) → k ≡ incarnation_of b e → (if b then Err NotDead else (if nat_lt e most_incarnations then Ok (recorded (started w f) (Member (StartServer f)) (e + 1) (sending (outstanding (next_server w f)))) else Err TooManyRestarts)) ≡ (if b then Err NotDead else (if nat_le k most_incarnations then Ok (recorded (started w f) (Member (StartServer f)) k (sending (outstanding (next_server w f)))) else Err TooManyRestarts))
working_case w f e k true is = refl
working_case w f e k false is =
    let test : nat_lt e most_incarnations ≡ nat_le k most_incarnations = more e ∙ ap (λ (i : ℕ). nat_le i most_incarnations) (sym is) in
    λ i. if test i then Ok (recorded (started w f) (Member (StartServer f)) (sym is i) (sending (outstanding (next_server w f)))) else Err TooManyRestarts
  where
    more : (n : ℕ) → nat_lt n most_incarnations ≡ nat_le (n + 1) most_incarnations
    more n = grind (arith, nat_tests)

up_to : (i e : ℕ) → nat_lt i (e + 1) ≡ nat_le i e
up_to i e = grind (arith, nat_tests)

failed_case : (i e k : ℕ) (b : Bool) → k ≡ incarnation_of b e → nat_lt i k ≡ (if b then nat_lt i e else nat_le i e)
failed_case i e k true is = ap (nat_lt i) is
failed_case i e k false is = ap (nat_lt i) is ∙ up_to i e

told : (b : Bool) (k : ℕ) → is_some (if b then Some k else None) ≡ b
told true k = refl
told false k = refl

module _ (p : WorldParts) (world : IsWorld p) (f : ℕ) (number : is_within p.shape.files f ≡ true) where
  least : 1 ≤ f
  least = (within_is p.shape.files f number).0

  in_servers : f ≤ length p.servers
  in_servers = let most = (within_is p.shape.files f number).1 in omega (arith, most, world.servers_there)

  is_one : is_within (length p.members.servers) f ≡ true
  is_one = ap (λ (k : ℕ). is_within k f) world.epochs_there ∙ number

  abbrev epoch : ℕ
  epoch = ((world_state p).servers f).epoch

  -- the members say of the server whether it works in the world
  pub works_there : is_some (live_incarnation (members_state p.members.servers) f) ≡ works_at p f
  works_there =
      ap (λ (b : Bool). is_some (if b && works_at p f then Some (incarnation_in p.members.servers f) else None)) is_one
      ∙ told (works_at p f) (incarnation_in p.members.servers f)

  -- the members say of the server's epochs which failed in the world
  pub failed_there : (i : ℕ) → member.was_declared (members_state p.members.servers) f i ≡ has_failed (world_state p) f i
  failed_there i =
      ap (λ (b : Bool). b && (nat_le 1 i && nat_lt i (incarnation_in p.members.servers f))) is_one
      ∙ ap (λ (b : Bool). nat_le 1 i && b) (failed_case i epoch (incarnation_in p.members.servers f) (works_at p f) (world.own_epoch f))

  pub starts : start_rule (world_state p) f ≡ after_start (world_state p) f (member.restarted (members_state p.members.servers) f)
  starts =
      working_case (world_state p) f epoch (incarnation_in p.members.servers f) (works_at p f) (world.own_epoch f)
      ∙ start_case (world_state p) f (incarnation_in p.members.servers f) (with_restarted (members_state p.members.servers) f) (is_within (length p.members.servers) f) (works_at p f) (nat_le (incarnation_in p.members.servers f) most_incarnations) is_one

  pub fails_there : (e : Refused) → works_at p f ≡ true → declared_failed (members_state p.members.servers) f ≡ Err e → ⊥
  fails_there e works refused =
      let goes : declared_failed (members_state p.members.servers) f ≡ Ok (with_declared (members_state p.members.servers) f, incarnation_in p.members.servers f) = λ i. if not (is_one i) then Err Stranger else (if works i then Ok (with_declared (members_state p.members.servers) f, incarnation_in p.members.servers f) else Err NotAlive) in
      let both = sym goes ∙ refused in absurd (cc)

  few_enough : (k : ℕ) → k ≤ 65535 → nat_le k 65535 ≡ true
  few_enough k h = grind (arith, nat_tests)

  may_begin : works_at p f ≡ false → incarnation_in p.members.servers f ≤ most_incarnations → member.restarted (members_state p.members.servers) f ≡ Ok (with_restarted (members_state p.members.servers) f, incarnation_in p.members.servers f)
  may_begin stopped few = λ i. if not (is_one i) then Err Stranger else (if stopped i then Err NotDead else (if few_enough (incarnation_in p.members.servers f) few i then Ok (with_restarted (members_state p.members.servers) f, incarnation_in p.members.servers f) else Err TooManyRestarts))

  pub begins_there : (e : Refused) → works_at p f ≡ false → incarnation_in p.members.servers f ≤ most_incarnations → member.restarted (members_state p.members.servers) f ≡ Err e → ⊥
  begins_there e stopped few refused = let both = sym (may_begin stopped few) ∙ refused in absurd (cc)

  -- the nodes' members stay
  module _ (ms : MembersParts) (others : ms.nodes ≡ p.members.nodes) where
    nodes_kept : (m : ℕ) → seated p.shape m (alive_in ms.nodes m) (listed p m) ≡ (world_state p).nodes m
    nodes_kept m = ap (λ (xs : List MemberParts). seated p.shape m (alive_in xs m) (listed p m)) others

    own_kept : (m : ℕ) → (seated p.shape m (alive_in ms.nodes m) (listed p m)).incarnation ≡ incarnation_in ms.nodes m
    own_kept m = ap (λ (s : NodeState). s.incarnation) (nodes_kept m) ∙ (world.own_incarnation m ∙ ap (λ (xs : List MemberParts). incarnation_in xs m) (sym others))

    -- the server is declared failed
    module _ (k : ℕ) (done : declared_failed (members_state p.members.servers) f ≡ Ok (members_state ms.servers, k)) where
      known : (is_within (length p.members.servers) f ≡ true) × (works_at p f ≡ true) × (◌≡◌ {A = MembersState × ℕ} (with_declared (members_state p.members.servers) f, incarnation_in p.members.servers f) (members_state ms.servers, k))
      known = declaration (is_within (length p.members.servers) f) (works_at p f) (with_declared (members_state p.members.servers) f, incarnation_in p.members.servers f) (members_state ms.servers, k) done

      become : with_declared (members_state p.members.servers) f ≡ members_state ms.servers
      become = ap (λ (r : MembersState × ℕ). r.0) known.2

      its_epoch : incarnation_in p.members.servers f ≡ epoch
      its_epoch = world.own_epoch f ∙ ap (λ (b : Bool). incarnation_of b epoch) known.1

      now_stopped : (g : ℕ) → alive_in ms.servers g ≡ (if g == f then false else works_at p g)
      now_stopped g = ap (λ (s : MembersState). s.alive g) (sym become)

      failed_is : (i : ℕ) → (silent (failed (world_state p) f) (Member (FailServer f)) i).0 ≡ world_state (failed_parts p ms)
      failed_is i = sym (λ j. record {
        shape = p.shape;
        nodes = λ m. nodes_kept m j;
        alive = alive_in (others j);
        servers = (world_state p).servers;
        working = λ g. now_stopped g j;
        sent = sym (append-nil p.sent) j;
        length = p.length + 1;
      })

      pub failed_world : p.length < journal_limit → IsWorld (failed_parts p ms)
      failed_world room = record {
        nodes_there = world.nodes_there;
        members_there = ap length others ∙ world.members_there;
        servers_there = world.servers_there;
        epochs_there = ap (λ (s : MembersState). s.nodes) (sym become) ∙ world.epochs_there;
        own_number = λ m. ap (λ (s : NodeState). s.node) (nodes_kept m) ∙ world.own_number m;
        own_incarnation = own_kept;
        own_epoch = λ g.
            ap (λ (s : MembersState). s.incarnation g) (sym become)
            ∙ (at_number g f (λ b. (if b then incarnation_in p.members.servers f + 1 else incarnation_in p.members.servers g) ≡ incarnation_of (if b then false else works_at p g) ((world_state p).servers g).epoch) (λ same. ap (λ (i : ℕ). i + 1) (its_epoch ∙ ap (λ (h : ℕ). ((world_state p).servers h).epoch) (sym same))) (λ other. world.own_epoch g)
            ∙ ap (λ (b : Bool). incarnation_of b ((world_state p).servers g).epoch) (sym (now_stopped g)));
        within = omega arith;
      }

      pub failed_done : (o : Outcome) (items : List Message) (e : Entry) → o ≡ sending items → items ≡ [] → e ≡ entry (Member (FailServer f)) k o → fail_rule (world_state p) f ≡ Ok (world_state (failed_parts p ms), e)
      failed_done o items e made none entry_is =
          let counted : epoch ≡ k = sym its_epoch ∙ ap (λ (r : MembersState × ℕ). r.1) known.2 in
          let named : entry (Member (FailServer f)) epoch (sending []) ≡ e = (λ j. entry (Member (FailServer f)) (counted j) (sym (made ∙ ap sending none) j)) ∙ sym entry_is in
          ap (λ (b : Bool). if b then Ok (silent (failed (world_state p) f) (Member (FailServer f)) epoch) else Err NotAlive) known.1
          ∙ (λ j. Ok (failed_is epoch j, named j))

    -- the server begins again
    module _ (x : ServerParts) (k : ℕ) (sends : List Message) (begins : server_state x ≡ next_server (world_state p) f) (asks : sends ≡ outstanding (next_server (world_state p) f)) (done : member.restarted (members_state p.members.servers) f ≡ Ok (members_state ms.servers, k)) where
      right : (is_within (length p.members.servers) f ≡ true) × (works_at p f ≡ false) × (nat_le (incarnation_in p.members.servers f) most_incarnations ≡ true) × (◌≡◌ {A = MembersState × ℕ} (with_restarted (members_state p.members.servers) f, incarnation_in p.members.servers f) (members_state ms.servers, k))
      right = restart (is_within (length p.members.servers) f) (works_at p f) (nat_le (incarnation_in p.members.servers f) most_incarnations) (with_restarted (members_state p.members.servers) f, incarnation_in p.members.servers f) (members_state ms.servers, k) done

      turned : with_restarted (members_state p.members.servers) f ≡ members_state ms.servers
      turned = ap (λ (r : MembersState × ℕ). r.0) right.3

      next_epoch : incarnation_in p.members.servers f ≡ epoch + 1
      next_epoch = world.own_epoch f ∙ ap (λ (b : Bool). incarnation_of b epoch) right.1

      now_works : (g : ℕ) → alive_in ms.servers g ≡ (if g == f then true else works_at p g)
      now_works g = ap (λ (s : MembersState). s.alive g) (sym turned)

      started_server : (g : ℕ) → (world_state (started_parts p f x ms sends)).servers g ≡ (if g == f then next_server (world_state p) f else (world_state p).servers g)
      started_server g =
          put_at server_state (first_server p.shape) p.servers f x least in_servers g
          ∙ ap (λ (s : ServerState). if g == f then s else (world_state p).servers g) begins

      started_is : (recorded (started (world_state p) f) (Member (StartServer f)) k (sending (outstanding (next_server (world_state p) f)))).0 ≡ world_state (started_parts p f x ms sends)
      started_is = sym (λ j. record {
        shape = p.shape;
        nodes = λ m. nodes_kept m j;
        alive = alive_in (others j);
        servers = λ g. started_server g j;
        working = λ g. now_works g j;
        sent = p.sent ++ asks j;
        length = p.length + 1;
      })

      pub started_world : p.length < journal_limit → IsWorld (started_parts p f x ms sends)
      started_world room = record {
        nodes_there = world.nodes_there;
        members_there = ap length others ∙ world.members_there;
        servers_there = length-set p.servers (f - 1) x ∙ world.servers_there;
        epochs_there = ap (λ (s : MembersState). s.nodes) (sym turned) ∙ world.epochs_there;
        own_number = λ m. ap (λ (s : NodeState). s.node) (nodes_kept m) ∙ world.own_number m;
        own_incarnation = own_kept;
        own_epoch = λ g.
            ap (λ (s : MembersState). s.incarnation g) (sym turned)
            ∙ (at_number g f (λ b. incarnation_in p.members.servers g ≡ incarnation_of (if b then true else works_at p g) (if b then next_server (world_state p) f else (world_state p).servers g).epoch) (λ same. ap (incarnation_in p.members.servers) same ∙ next_epoch) (λ other. world.own_epoch g)
            ∙ (λ j. incarnation_of (sym (now_works g) j) (sym (started_server g) j).epoch));
        within = omega arith;
      }

      pub started_done : (o : Outcome) (e : Entry) → o ≡ sending sends → e ≡ entry (Member (StartServer f)) k o → start_rule (world_state p) f ≡ Ok (world_state (started_parts p f x ms sends), e)
      started_done o e made entry_is =
          let named : entry (Member (StartServer f)) k (sending (outstanding (next_server (world_state p) f))) ≡ e = (λ j. entry (Member (StartServer f)) k (sym (made ∙ ap sending asks) j)) ∙ sym entry_is in
          starts ∙ ap (after_start (world_state p) f) done ∙ (λ j. Ok (started_is j, named j))

  -- a start that is planned
  pub start_refused : (e : Refused) → member.restarted (members_state p.members.servers) f ≡ Err e → start_rule (world_state p) f ≡ Err e
  start_refused e refused = starts ∙ ap (after_start (world_state p) f) refused

  pub start_goes : (s : MembersState) (k : ℕ) (e : Refused) → member.restarted (members_state p.members.servers) f ≡ Ok (s, k) → start_rule (world_state p) f ≡ Err e → ⊥
  start_goes s k e goes refused =
      let both : ◌≡◌ {A = Result (WorldState × Entry) Refused} (Ok (recorded (started (world_state p) f) (Member (StartServer f)) k (sending (outstanding (next_server (world_state p) f))))) (Err e) = sym (starts ∙ ap (after_start (world_state p) f) goes) ∙ refused in
      absurd (cc)

  -- a start of a server that may begin again is not refused
  pub start_taken : works_at p f ≡ false → incarnation_in p.members.servers f ≤ most_incarnations → (e : Refused) → start_rule (world_state p) f ≡ Err e → ⊥
  start_taken stopped few e refused = start_goes (with_restarted (members_state p.members.servers) f) (incarnation_in p.members.servers f) e (may_begin stopped few) refused

  few_is : (k : ℕ) → nat_le k 65535 ≡ true → k ≤ 65535
  few_is k h = grind (arith, nat_tests, h)

  pub may_start : (s : MembersState) (k : ℕ) (y : ServerParts) (sends : List Message) → member.restarted (members_state p.members.servers) f ≡ Ok (s, k) → (let b = rebuilt p.shape f k (alive_in p.members.nodes) (incarnation_in p.members.nodes) in (server_state y ≡ b) × (sends ≡ outstanding b)) → IsStart p f y sends
  may_start s k y sends goes begins =
      let right = restart (is_within (length p.members.servers) f) (works_at p f) (nat_le (incarnation_in p.members.servers f) most_incarnations) (with_restarted (members_state p.members.servers) f, incarnation_in p.members.servers f) (s, k) goes in
      let counted : k ≡ epoch + 1 = sym (ap (λ (r : MembersState × ℕ). r.1) right.3) ∙ (world.own_epoch f ∙ ap (λ (b : Bool). incarnation_of b epoch) right.1) in
      let same : rebuilt p.shape f k (alive_in p.members.nodes) (incarnation_in p.members.nodes) ≡ next_server (world_state p) f = λ i. rebuilt p.shape f (counted i) (alive_at p) (λ n. sym (world.own_incarnation n) i) in
      record {
        number = number;
        failed = right.1;
        few = few_is (incarnation_in p.members.servers f) right.2;
        begins = begins.0 ∙ same;
        asks = begins.1 ∙ ap outstanding same;
      }

-- the facts of a world whose parts were opened
pub opened : (P : WorldParts → Type 0) (p now : WorldParts) (f : ℕ) → p ≡ now → is_within now.shape.files f ≡ true → (is_within p.shape.files f ≡ true → P p) → P now
opened P p now f view number g = subst P view (g (subst (λ (q : WorldParts). is_within q.shape.files f ≡ true) (sym view) number))
