-- The table of a node: its own processes and locks, and what calls make of it.
use Rattle.std.proofs.Common.{◌≡◌, ℕ, ◌<◌, ◌≤◌, Bool, true, false, not, if◌then◌else◌, ◌&&◌, ◌==◌, ◌+◌, ◌-◌, ◌⊎◌, inl, inr, refl, sym, ◌∙◌, ap, subst, arith, ℤ, nat_le, nat_lt, Option, Some, None, Ok, Err}
use Rattle.std.proofs.lemmas.Bool.{and_parts, eqb-true, eq-eqb, cases_Bool, both_ways, not-true}
use Rattle.std.proofs.lemmas.Bool.Decides.{nat_tests}
use Rattle.std.proofs.lemmas.Option.{none-some, same_Some}
use Rattle.intervals.specs.rule.Bytes.{Range, greatest, put, is_in}
use Rattle.intervals.specs.rule.Search.{some_passes}
use Rattle.intervals.proofs.SearchLaws.{first_is_first}
use Rattle.model.specs.declared.mode.Mode.{Mode}
use Rattle.model.specs.declared.owner.Kind.{Kind}
use Rattle.model.specs.declared.owner.Kind.TheVariants.{OfProcess, OfDescription}
use Rattle.model.specs.declared.owner.Owner.{Owner}
use Rattle.model.specs.declared.access.Access.{Access}
use Rattle.model.specs.declared.opened.Opened.{Opened}
use Rattle.model.specs.declared.op.Op.TheVariants as op
use Rattle.model.specs.declared.op.ProcessCall.{ProcessCall}
use Rattle.model.specs.declared.op.ProcessCall.TheVariants.{Spawn, Fork, Open, Dup}
use Rattle.model.specs.declared.process.Process.{Process}
use Rattle.model.specs.declared.reply.Reply.{Reply}
use Rattle.model.specs.declared.reply.Reply.TheVariants.{Done, Fd, Exists, NoProcess, TooManyFiles, NoLocks}
use Rattle.model.specs.rule.Limits.{IsNumber, most_processes, most_descriptors, most_descriptions}
use Rattle.model.specs.rule.Owners.{same_owner, owner_at, most_owners}
use Rattle.model.specs.rule.Locks.{Locks, IsOfNode, with_lock}
use Rattle.model.specs.rule.Descriptors.{Processes, with_process, with_descriptor, is_of, is_open, lowest_fd, lowest_description, after, after_spawn, after_fork, after_open, after_dup, again_on, on_lowest_fd}
use Rattle.model.specs.rule.Table.{Table, LockTarget, empty_table, target, beside, with_processes, lock_within, locked, regions_with, after_unlock}
use Rattle.model.specs.rule.Step.{IsPossible}
use Rattle.model.specs.rule.Anchors.{Hangs, AreAnchored, IsOwn}
use Rattle.model.proofs.OwnerLaws.{owner_exact}
use Rattle.model.proofs.SearchLaws.{some_passes-found}
use Rattle.model.proofs.DescriptorLaws.{lowest_description-number, lowest_fd-free}
use Rattle.model.proofs.Hanging.{anchored_none, hangs_on, itself, target_hangs}
use Rattle.model.proofs.Targets.{IsTarget, target_is, target-keeps}

-- a process goes on: if it ran it runs, and its descriptors refer to what they did
pub record GoesOn (before after : Processes) (pid : ℕ) : Type 0 where
  pub runs : before.runs pid ≡ true → after.runs pid ≡ true
  pub opened : (fd : ℕ) (o : Opened) → before.opened pid fd ≡ Some o → after.opened pid fd ≡ Some o

pub same_goes_on : (before after : Processes) (pid : ℕ) → after ≡ before → GoesOn before after pid
same_goes_on before after pid same = subst (λ (ps : Processes). GoesOn before ps pid) (sym same) (record { runs = λ h. h; opened = λ fd o h. h })

pub goes_then : (one two three : Processes) (pid : ℕ) → GoesOn one two pid → GoesOn two three pid → GoesOn one three pid
goes_then one two three pid a b = record { runs = λ h. b.runs (a.runs h); opened = λ fd o h. b.opened fd o (a.opened fd o h) }

-- the table that a call of one process leaves: it is still the node's own, and the other processes go on
pub record Follows (t u : Table) (node incarnation pid : ℕ) : Type 0 where
  pub own : IsOwn u node incarnation
  pub others : (qid : ℕ) → (qid ≡ pid → ⊥) → GoesOn (t.on node incarnation) (u.on node incarnation) qid

pub same_follows : (t : Table) (node incarnation pid : ℕ) → IsOwn t node incarnation → Follows t t node incarnation pid
same_follows t node incarnation pid own = record { own = own; others = λ qid other. same_goes_on (t.on node incarnation) (t.on node incarnation) qid refl }

pub own_empty : (limit node incarnation : ℕ) → IsOwn (empty_table limit) node incarnation
own_empty limit node incarnation = record {
  others = λ n i h. refl;
  descriptions = λ pid fd o h. absurd (none-some o h);
  locks = λ file. record { is_own = λ o b mode h. absurd (none-some mode h); ends = λ o b h. refl };
  anchored = anchored_none (empty_table limit).locks node incarnation (λ file owner b mode h. none-some mode h);
}

-- both kinds of owners are of the node, in that incarnation
abbrev either : ℕ → ℕ → ℕ → Bool → Owner
either n i k b = if b then record { node = n; incarnation = i; kind = OfProcess; number = k + 1 } else record { node = n; incarnation = i; kind = OfDescription; number = k + 1 - most_processes }

pub owner_at-node : (n i k : ℕ) → (owner_at n i k).node ≡ n
owner_at-node n i k = elim (nat_lt k most_processes) as (λ b. (either n i k b).node ≡ n) [ true ↦ refl | false ↦ refl ]

pub owner_at-incarnation : (n i k : ℕ) → (owner_at n i k).incarnation ≡ i
owner_at-incarnation n i k = elim (nat_lt k most_processes) as (λ b. (either n i k b).incarnation ≡ i) [ true ↦ refl | false ↦ refl ]

-- the processes and descriptors of a node after some are added, still as `IsOwn` wants them
pub record AreMore (before after : Processes) : Type 0 where
  pub runs : (pid : ℕ) → before.runs pid ≡ true → after.runs pid ≡ true
  pub opened : (pid fd : ℕ) (o : Opened) → before.opened pid fd ≡ Some o → after.opened pid fd ≡ Some o
  pub descriptions : (pid fd : ℕ) (o : Opened) → after.opened pid fd ≡ Some o → IsNumber most_descriptions o.description
  pub numbers : (pid : ℕ) → after.runs pid ≡ true → IsNumber most_processes pid
  pub descriptors : (pid fd : ℕ) (o : Opened) → after.opened pid fd ≡ Some o → (after.runs pid ≡ true) × (fd < most_descriptors)
  pub agree : (pid fd qid k : ℕ) (o x : Opened) → after.opened pid fd ≡ Some o → after.opened qid k ≡ Some x → o.description ≡ x.description → o ≡ x

module _ (t : Table) (node incarnation pid : ℕ) (own : IsOwn t node incarnation) where
  abbrev p : Process
  p = record { node = node; incarnation = incarnation; pid = pid }

  abbrev ps : Processes
  ps = t.on node incarnation

  on_own : (after : Processes) → (with_processes t p after).on node incarnation ≡ after
  on_own after = rw (itself node incarnation) refl

  more_follows : (after : Processes) → AreMore ps after → Follows t (with_processes t p after) node incarnation pid
  more_follows after more = record {
    own = record {
      others = λ n i h. rw h (own.others n i h);
      descriptions = λ q fd o h. more.descriptions q fd o (ap (λ (x : Processes). x.opened q fd) (sym (on_own after)) ∙ h);
      locks = own.locks;
      anchored = subst (λ (x : Processes). AreAnchored x t.locks node incarnation) (sym (on_own after)) (record {
        numbers = more.numbers;
        descriptors = more.descriptors;
        agree = more.agree;
        locks = λ file owner b mode node_is incarnation_is held. hangs_on file owner.kind owner.number ps after more.opened (own.anchored.locks file owner b mode node_is incarnation_is held);
      });
    };
    others = λ q other. subst (λ (x : Processes). GoesOn ps x q) (sym (on_own after)) (record { runs = more.runs q; opened = more.opened q });
  }

  -- a process begins, with descriptors that another process has too
  begun : (child : ℕ) (fds : ℕ → Option Opened) → IsNumber most_processes child → ps.runs child ≡ false → ((fd : ℕ) (o : Opened) → fds fd ≡ Some o → (q : ℕ) × (ps.opened q fd ≡ Some o)) → AreMore ps (with_process ps child true fds)
  begun child fds number idle inherits = record {
    runs = λ q h. elim (cases_Bool (q == child)) [ inl same ↦ rw same refl | inr other ↦ rw other h ];
    opened = λ q fd o h. elim (cases_Bool (q == child)) [
      | inl same ↦ absurd (both_ways (ps.runs child) idle (ap ps.runs (sym (eqb-true q child same)) ∙ (own.anchored.descriptors q fd o h).0))
      | inr other ↦ rw other h
    ];
    descriptions = λ q fd o h. let was = before q fd o h in own.descriptions was.0 fd o was.1;
    numbers = λ q h. elim (cases_Bool (q == child)) [
      | inl same ↦ subst (IsNumber most_processes) (sym (eqb-true q child same)) number
      | inr other ↦ own.anchored.numbers q (ap (λ (b : Bool). if b then true else ps.runs q) (sym other) ∙ h)
    ];
    descriptors = λ q fd o h.
        let was = before q fd o h in (
          elim (cases_Bool (q == child)) [
            | inl same ↦ rw same refl
            | inr other ↦ ap (λ (b : Bool). if b then true else ps.runs q) other ∙ (own.anchored.descriptors q fd o (ap (λ (b : Bool). if b then fds fd else ps.opened q fd) (sym other) ∙ h)).0
          ],
          (own.anchored.descriptors was.0 fd o was.1).1,
        );
    agree = λ q fd r k o x one two same.
        let a = before q fd o one in
        let b = before r k x two in
        own.anchored.agree a.0 fd b.0 k o x a.1 b.1 same;
  }
    where
      before : (q fd : ℕ) (o : Opened) → (with_process ps child true fds).opened q fd ≡ Some o → (r : ℕ) × (ps.opened r fd ≡ Some o)
      before q fd o h = elim (cases_Bool (q == child)) [
        | inl same ↦ inherits fd o (ap (λ (b : Bool). if b then fds fd else ps.opened q fd) (sym same) ∙ h)
        | inr other ↦ (q, ap (λ (b : Bool). if b then fds fd else ps.opened q fd) (sym other) ∙ h)
      ]

  spawn_follows : IsNumber most_processes pid → Follows t (beside t p (after_spawn ps pid)).0 node incarnation pid
  spawn_follows pid_in =
      let new = with_process ps pid true (λ fd. None) in
      elim (ps.runs pid) as (λ b. ps.runs pid ≡ b → Follows t (beside t p (if b then Err Exists else Ok (new, Done))).0 node incarnation pid) [
        | true ↦ λ h. same_follows t node incarnation pid own
        | false ↦ λ h. more_follows new (begun pid (λ fd. None) pid_in h (λ fd o none. absurd (none-some o none)))
      ] refl

  fork_follows : (child : ℕ) → IsNumber most_processes child → Follows t (beside t p (after_fork ps pid child)).0 node incarnation pid
  fork_follows child child_in =
      let new = with_process ps child true (ps.opened pid) in
      elim (ps.runs pid) as (λ b. Follows t (beside t p (if b then (if ps.runs child then Err Exists else Ok (new, Done)) else Err NoProcess)).0 node incarnation pid) [
        | false ↦ same_follows t node incarnation pid own
        | true ↦ elim (ps.runs child) as (λ b. ps.runs child ≡ b → Follows t (beside t p (if b then Err Exists else Ok (new, Done))).0 node incarnation pid) [
          | true ↦ λ h. same_follows t node incarnation pid own
          | false ↦ λ h. more_follows new (begun child (ps.opened pid) child_in h (λ fd o there. (pid, there)))
        ] refl
      ]

  -- a descriptor opens, and agrees with the others of its description
  opened_more : (fd : ℕ) (o : Opened) → ps.runs pid ≡ true → fd < most_descriptors → ps.opened pid fd ≡ None → IsNumber most_descriptions o.description → ((q k : ℕ) (x : Opened) → ps.opened q k ≡ Some x → o.description ≡ x.description → o ≡ x) → AreMore ps (with_descriptor ps pid fd (Some o))
  opened_more fd o runs lt free number agrees = record {
    runs = λ q h. h;
    opened = λ q k w h. elim (cases_Bool ((q == pid) && (k == fd))) [
      | inl same ↦
          let parts = and_parts _ _ same in
          let at : ps.opened q k ≡ ps.opened pid fd = ap (λ n. ps.opened n k) (eqb-true q pid parts.0) ∙ ap (ps.opened pid) (eqb-true k fd parts.1) in
          absurd (none-some w (sym free ∙ sym at ∙ h))
      | inr other ↦ rw other h
    ];
    descriptions = λ q k w e. elim (is_new q k w e) [ inl new ↦ subst (λ (x : Opened). IsNumber most_descriptions x.description) new.2 number | inr old ↦ own.descriptions q k w old ];
    numbers = own.anchored.numbers;
    descriptors = λ q k w e. elim (is_new q k w e) [
      | inl new ↦ (ap ps.runs new.0 ∙ runs, subst (λ (j : ℕ). j < most_descriptors) (sym new.1) lt)
      | inr old ↦ own.anchored.descriptors q k w old
    ];
    agree = λ q k r j w x one two same. elim (is_new q k w one) [
      | inl new ↦ elim (is_new r j x two) [
        | inl also ↦ sym new.2 ∙ also.2
        | inr old ↦ sym new.2 ∙ agrees r j x old (ap (λ (y : Opened). y.description) new.2 ∙ same)
      ]
      | inr old ↦ elim (is_new r j x two) [
        | inl new ↦ sym (sym new.2 ∙ agrees q k w old (ap (λ (y : Opened). y.description) new.2 ∙ sym same))
        | inr also ↦ own.anchored.agree q k r j w x old also same
      ]
    ];
  }
    where
      is_new : (q k : ℕ) (w : Opened) → (with_descriptor ps pid fd (Some o)).opened q k ≡ Some w → ((q ≡ pid) × (k ≡ fd) × (o ≡ w)) ⊎ (ps.opened q k ≡ Some w)
      is_new q k w e = elim (cases_Bool ((q == pid) && (k == fd))) [
        | inl this ↦
            let both = and_parts (q == pid) (k == fd) this in
            inl (eqb-true q pid both.0, eqb-true k fd both.1, same_Some o w (ap (λ (b : Bool). if b then Some o else ps.opened q k) (sym this) ∙ e))
        | inr other ↦ inr (ap (λ (b : Bool). if b then Some o else ps.opened q k) (sym other) ∙ e)
      ]

  -- the lowest free descriptor of the process opens
  lowest_follows : (o : Opened) → ps.runs pid ≡ true → (lowest_fd ps pid < most_descriptors → IsNumber most_descriptions o.description) → (lowest_fd ps pid < most_descriptors → (q k : ℕ) (x : Opened) → ps.opened q k ≡ Some x → o.description ≡ x.description → o ≡ x) → Follows t (beside t p (on_lowest_fd ps pid o (lowest_fd ps pid))).0 node incarnation pid
  lowest_follows o runs number agrees =
      let fd = lowest_fd ps pid in
      let new = with_descriptor ps pid fd (Some o) in
      elim (nat_lt fd most_descriptors) as (λ b. nat_lt fd most_descriptors ≡ b → Follows t (beside t p (if b then Ok (new, Fd fd) else Err TooManyFiles)).0 node incarnation pid) [
        | true ↦ λ h.
            let lt : fd < most_descriptors = below fd h in
            more_follows new (opened_more fd o runs lt (lowest_fd-free ps pid lt) (number lt) (agrees lt))
        | false ↦ λ h. same_follows t node incarnation pid own
      ] refl
    where
      below : (k : ℕ) → nat_lt k 64 ≡ true → k < 64
      below k h = grind (arith, nat_tests, h)

  -- a description that a descriptor refers to is open
  open_there : (q k : ℕ) (x : Opened) → ps.opened q k ≡ Some x → is_open ps x.description ≡ true
  open_there q k x h =
      let its = own.anchored.descriptors q k x h in
      let number = own.anchored.numbers q its.0 in
      let least = number.0 in
      let most = number.1 in
      let below = its.1 in
      let of : is_of x.description (ps.opened q k) ≡ true = rw h (eq-eqb x.description x.description refl) in
      let fds : some_passes (λ fd. is_of x.description (ps.opened q fd)) 0 most_descriptors ≡ true = some_passes-found (λ fd. is_of x.description (ps.opened q fd)) 0 most_descriptors k (omega arith) (omega arith) of in
      some_passes-found (λ pid. some_passes (λ fd. is_of x.description (ps.opened pid fd)) 0 most_descriptors) 1 most_processes q least (omega arith) fds

  open_follows : (file : ℕ) (access : Access) → IsNumber most_processes pid → Follows t (beside t p (after_open ps pid file access)).0 node incarnation pid
  open_follows file access pid_in =
      let o : Opened = record { file = file; description = lowest_description ps; access = access } in
      let fd = lowest_fd ps pid in
      let number : fd < most_descriptors → IsNumber most_descriptions (lowest_description ps) = λ lt. lowest_description-number ps pid fd pid_in lt (lowest_fd-free ps pid lt) in
      elim (ps.runs pid) as (λ b. ps.runs pid ≡ b → Follows t (beside t p (if b then on_lowest_fd ps pid o fd else Err NoProcess)).0 node incarnation pid) [
        | true ↦ λ runs. lowest_follows o runs number (λ lt q k x there same. absurd (both_ways (is_open ps x.description) (ap (is_open ps) (sym same) ∙ none_open (number lt)) (open_there q k x there)))
        | false ↦ λ runs. same_follows t node incarnation pid own
      ] refl
    where
      up_to : (k : ℕ) → k ≤ 16384 → k < 1 + 16384
      up_to k h = omega arith

      none_open : IsNumber most_descriptions (lowest_description ps) → is_open ps (lowest_description ps) ≡ false
      none_open number =
          let most = number.1 in
          not-true (is_open ps (lowest_description ps)) ((first_is_first (λ d. not (is_open ps d)) 1 most_descriptions).here (up_to (lowest_description ps) most))

  dup_follows : (fd : ℕ) → Follows t (beside t p (after_dup ps pid fd)).0 node incarnation pid
  dup_follows fd =
      elim (ps.runs pid) as (λ b. ps.runs pid ≡ b → Follows t (beside t p (if b then again_on ps pid (ps.opened pid fd) else Err NoProcess)).0 node incarnation pid) [
        | true ↦ λ runs. elim (ps.opened pid fd) as (λ x. ps.opened pid fd ≡ x → Follows t (beside t p (again_on ps pid x)).0 node incarnation pid) [
          | Some o ↦ λ there. lowest_follows o runs (λ lt. own.descriptions pid fd o there) (λ lt q k x other same. own.anchored.agree pid fd q k o x there other same)
          | None ↦ λ there. same_follows t node incarnation pid own
        ] refl
        | false ↦ λ runs. same_follows t node incarnation pid own
      ] refl

  pub call_follows : (call : ProcessCall) → IsNumber most_processes pid → IsPossible (op.Process call) → Follows t (beside t p (after ps pid call)).0 node incarnation pid
  call_follows Spawn pid_in possible = spawn_follows pid_in
  call_follows (Fork child) pid_in possible = fork_follows child possible
  call_follows (Open file access) pid_in possible = open_follows file access pid_in
  call_follows (Dup fd) pid_in possible = dup_follows fd

-- bytes are locked or freed
put_ends : (f : ℕ → Option Mode) (s : Range) (mode : Option Mode) (b : ℕ) → s.hi ≤ greatest → greatest < b → f b ≡ None → put f s mode b ≡ None
put_ends f s mode b within past none =
    let out : is_in s b ≡ false = past_end s.lo s.hi greatest b within past in
    rw out none
  where
    past_end : (lo hi most b : ℕ) → hi ≤ most → most < b → (nat_le lo b && nat_le b hi) ≡ false
    past_end lo hi most b within past = grind (arith, nat_tests)

locked_of_node : (h : Locks) (file f : ℕ) (c : Owner) (s : Range) (mode : Option Mode) (node incarnation place : ℕ) → place < most_owners → c ≡ owner_at node incarnation place → s.hi ≤ greatest → ((g : ℕ) → IsOfNode (h g) node incarnation) → IsOfNode (with_lock h file c s mode f) node incarnation
locked_of_node h file f c s mode node incarnation place place_in owner within own = record {
  is_own = λ o b m e. elim (cases_Bool ((file == f) && same_owner c o)) [
    | inl this ↦ (place, place_in, sym (owner_exact c o (and_parts _ _ this).1) ∙ owner)
    | inr other ↦ (own f).is_own o b m (rw other at e)
  ];
  ends = λ o b past. elim (cases_Bool ((file == f) && same_owner c o)) [
    | inl this ↦ rw this (put_ends (h file c) s mode b within past ((own file).ends c b past))
    | inr other ↦ rw other ((own f).ends o b past)
  ];
}

-- a call that sets or frees bytes leaves the processes as they were
pub lock_processes : (t : Table) (c : LockTarget) (mode : Option Mode) → (lock_within t c mode).0.on ≡ t.on
lock_processes t c mode =
    let out : Bool → Table × Reply = λ b. if b then (locked t c mode, Done) else (t, NoLocks) in
    elim (nat_le (regions_with t c mode) t.limit) as (λ b. (out b).0.on ≡ t.on) [ true ↦ refl | false ↦ refl ]

pub lock_own : (t : Table) (node incarnation : ℕ) (c : LockTarget) (mode : Option Mode) → IsTarget node incarnation c → Hangs (t.on node incarnation) c.file c.owner.kind c.owner.number → IsOwn t node incarnation → IsOwn (lock_within t c mode).0 node incarnation
lock_own t node incarnation c mode is hangs own =
    let out : Bool → Table × Reply = λ b. if b then (locked t c mode, Done) else (t, NoLocks) in
    elim (nat_le (regions_with t c mode) t.limit) as (λ b. IsOwn (out b).0 node incarnation) [
      | true ↦ record {
        others = own.others;
        descriptions = own.descriptions;
        locks = λ f. locked_of_node t.locks c.file f c.owner c.span mode node incarnation is.owner.place is.owner.place_in is.owner.is is.span.ends own.locks;
        anchored = record {
          numbers = own.anchored.numbers;
          descriptors = own.anchored.descriptors;
          agree = own.anchored.agree;
          locks = λ file owner b m node_is incarnation_is held. elim (cases_Bool ((c.file == file) && same_owner c.owner owner)) [
            | inl this ↦
                let both = and_parts (c.file == file) (same_owner c.owner owner) this in
                let files = eqb-true c.file file both.0 in
                let owners = owner_exact c.owner owner both.1 in
                subst (λ (f : ℕ). Hangs (t.on node incarnation) f owner.kind owner.number) files (subst (λ (x : Owner). Hangs (t.on node incarnation) c.file x.kind x.number) owners hangs)
            | inr other ↦ own.anchored.locks file owner b m node_is incarnation_is (rw other at held)
          ];
        };
      }
      | false ↦ own
    ]

-- a call that changes no process, and leaves a table of the node's own, is one that `Follows` admits
pub locks_follow : (t u : Table) (node incarnation pid : ℕ) → u.on ≡ t.on → IsOwn u node incarnation → Follows t u node incarnation pid
locks_follow t u node incarnation pid same own = record { own = own; others = λ qid other. same_goes_on (t.on node incarnation) (u.on node incarnation) qid (ap (λ (on : ℕ → ℕ → Processes). on node incarnation) same) }

pub target_own : (t : Table) (node incarnation pid : ℕ) (need : Option Mode) (fd : ℕ) (kind : Kind) (start len : ℤ) (c : LockTarget) → IsNumber most_processes pid → IsOwn t node incarnation → target t (record { node = node; incarnation = incarnation; pid = pid }) need fd kind start len ≡ Ok c → IsTarget node incarnation c
target_own t node incarnation pid need fd kind start len c pid_in own h = target_is t (record { node = node; incarnation = incarnation; pid = pid }) need fd kind start len c pid_in (λ o e. own.descriptions pid fd o e) h

pub unlock_follows : (t : Table) (node incarnation pid fd : ℕ) (kind : Kind) (start len : ℤ) → IsNumber most_processes pid → IsOwn t node incarnation → Follows t (after_unlock t (target t (record { node = node; incarnation = incarnation; pid = pid }) None fd kind start len)).0 node incarnation pid
unlock_follows t node incarnation pid fd kind start len pid_in own =
    let p : Process = record { node = node; incarnation = incarnation; pid = pid } in
    let found = target t p None fd kind start len in
    elim found as (λ x. found ≡ x → Follows t (after_unlock t x).0 node incarnation pid) [
      | Ok c ↦ λ h. locks_follow t (lock_within t c None).0 node incarnation pid (lock_processes t c None) (lock_own t node incarnation c None (target_own t node incarnation pid None fd kind start len c pid_in own h) (target_hangs t p None fd kind start len c h) own)
      | Err refusal ↦ λ h. same_follows t node incarnation pid own
    ] refl

pub target_goes_on : (t u : Table) (node incarnation pid : ℕ) (need : Option Mode) (fd : ℕ) (kind : Kind) (start len : ℤ) (c : LockTarget) → GoesOn (t.on node incarnation) (u.on node incarnation) pid → target t (record { node = node; incarnation = incarnation; pid = pid }) need fd kind start len ≡ Ok c → target u (record { node = node; incarnation = incarnation; pid = pid }) need fd kind start len ≡ Ok c
target_goes_on t u node incarnation pid need fd kind start len c g h = target-keeps t u (record { node = node; incarnation = incarnation; pid = pid }) need fd kind start len c g.runs (λ o runs e. g.opened fd o e) h
