-- What is left of a node's locks after descriptors are closed and processes exit.
use Rattle.std.proofs.Common.{◌≡◌, ℕ, zero, suc, ◌<◌, ◌≤◌, Bool, true, false, if◌then◌else◌, ◌&&◌, ◌==◌, ◌⊎◌, inl, inr, refl, sym, ◌∙◌, ap, subst, arith, Option, Some, None}
use Rattle.std.proofs.lemmas.Bool.{and_parts, and_from, eqb-true, eq-eqb, ne_eqb, cases_Bool, cases_eq, both_ways, false_from_ne_true}
use Rattle.std.proofs.lemmas.Option.{none-some, same_Some}
use Rattle.intervals.specs.rule.Bytes.{nothing}
use Rattle.model.specs.declared.mode.Mode.{Mode}
use Rattle.model.specs.declared.owner.Kind.{Kind}
use Rattle.model.specs.declared.owner.Kind.TheVariants.{OfProcess, OfDescription}
use Rattle.model.specs.declared.owner.Owner.{Owner}
use Rattle.model.specs.declared.opened.Opened.{Opened}
use Rattle.model.specs.declared.process.Process.{Process}
use Rattle.model.specs.rule.Limits.{most_processes, most_descriptors}
use Rattle.model.specs.rule.Owners.{same_owner, process_owner, description_owner}
use Rattle.model.specs.rule.Locks.{Locks, without_owner, without_owner_anywhere}
use Rattle.model.specs.rule.Descriptors.{Processes, no_processes, with_process, with_descriptor, is_of, is_open}
use Rattle.model.specs.rule.Table.{Table, around, descriptor, is_running, with_processes, closed, closed_if, closed_below, exited, exited_if, exited_to, gone}
use Rattle.model.proofs.OwnerLaws.{owner_exact, owner_refl}
use Rattle.intervals.specs.rule.Search.{first, some_passes}
use Rattle.model.specs.rule.Anchors.{Hangs, AreAnchored, IsAnchored}
use Rattle.model.proofs.SearchLaws.{first-passes}
use Rattle.model.proofs.Hanging.{hangs_on, itself}
use Rattle.model.proofs.LimitLaws.{gone_limit}
use Rattle.model.proofs.NodeTables.{GoesOn, same_goes_on, goes_then}

-- a byte that is locked after a choice to drop locks was not chosen, and was locked before
pub left : (b : Bool) (bytes : ℕ → Option Mode) (k : ℕ) (mode : Mode) → (if b then nothing else bytes) k ≡ Some mode → (b ≡ false) × (bytes k ≡ Some mode)
left true bytes k mode h = absurd (none-some mode h)
left false bytes k mode h = (refl, h)

-- a descriptor that is open after a choice to close it was not chosen, and was open before
pub left_open : (b : Bool) (x : Option Opened) (o : Opened) → (if b then None else x) ≡ Some o → (b ≡ false) × (x ≡ Some o)
left_open true x o h = absurd (none-some o h)
left_open false x o h = (refl, h)

of_some : (d : ℕ) (x : Option Opened) → is_of d x ≡ true → (o : Opened) × (x ≡ Some o) × (o.description ≡ d)
of_some d None h = absurd (cc)
of_some d (Some o) h = (o, refl, eqb-true o.description d h)

-- a description that is open has a descriptor, and here it is
open_refers : (ps : Processes) (d : ℕ) → is_open ps d ≡ true → (pid : ℕ) × (fd : ℕ) × (o : Opened) × (ps.opened pid fd ≡ Some o) × (o.description ≡ d)
open_refers ps d h =
    let pids : ℕ → Bool = λ pid. some_passes (λ fd. is_of d (ps.opened pid fd)) 0 most_descriptors in
    let pid = first pids 1 most_processes in
    let one = first-passes pids 1 most_processes h in
    let two = first-passes (λ fd. is_of d (ps.opened pid fd)) 0 most_descriptors one.here in
    let fd = first (λ k. is_of d (ps.opened pid k)) 0 most_descriptors in
    let found = of_some d (ps.opened pid fd) two.here in
    (pid, fd, found.0, found.1, found.2)

-- one descriptor is closed: which locks and descriptors are left
module _ (ps : Processes) (h : Locks) (n i : ℕ) (a : AreAnchored ps h n i) (pid fd : ℕ) (o : Opened) (there : ps.opened pid fd ≡ Some o) where
  abbrev p : Process
  p = record { node = n; incarnation = i; pid = pid }

  abbrev fewer : Processes
  fewer = with_descriptor ps pid fd None

  abbrev its_locks : Locks
  its_locks = without_owner h o.file (process_owner p)

  abbrev locks_left : Locks
  locks_left = if is_open fewer o.description then its_locks else without_owner_anywhere its_locks (description_owner p o.description)

  stays_open : (q k : ℕ) (x : Opened) → ps.opened q k ≡ Some x → ((q ≡ pid) × (k ≡ fd) → ⊥) → fewer.opened q k ≡ Some x
  stays_open q k x h other = elim (cases_Bool ((q == pid) && (k == fd))) [
    | inl same ↦ let both = and_parts (q == pid) (k == fd) same in absurd (other (eqb-true q pid both.0, eqb-true k fd both.1))
    | inr apart ↦ rw apart h
  ]

  -- two descriptors with equal numbers refer to the same
  the_same : (q k : ℕ) (x : Opened) → ps.opened q k ≡ Some x → (q ≡ pid) × (k ≡ fd) → x ≡ o
  the_same q k x h same =
      same_Some x o (sym h ∙ (λ j. ps.opened (same.0 j) (same.1 j)) ∙ there)

  is_this : (q k : ℕ) → ((q ≡ pid) × (k ≡ fd)) ⊎ ((q ≡ pid) × (k ≡ fd) → ⊥)
  is_this q k = elim (cases_eq q pid) [
    | inl one ↦ elim (cases_eq k fd) [ inl two ↦ inl (one, two) | inr other ↦ inr (λ both. other both.1) ]
    | inr other ↦ inr (λ both. other both.0)
  ]

  -- a lock is left by a close: it stood before, isn't a process lock in that file, and its description, if it has one, is still open
  pub record IsLeft (file : ℕ) (owner : Owner) (b : ℕ) (mode : Mode) : Type 0 where
    pub was : h file owner b ≡ Some mode
    pub not_its : ((o.file == file) && same_owner (process_owner p) owner) ≡ false
    pub still : (is_open fewer o.description ≡ true) ⊎ (same_owner (description_owner p o.description) owner ≡ false)

  is_left : (file : ℕ) (owner : Owner) (b : ℕ) (mode : Mode) → locks_left file owner b ≡ Some mode → IsLeft file owner b mode
  is_left file owner b mode = elim (is_open fewer o.description) as (λ t. is_open fewer o.description ≡ t → (if t then its_locks else without_owner_anywhere its_locks (description_owner p o.description)) file owner b ≡ Some mode → IsLeft file owner b mode) [
    | true ↦ λ opened held.
        let one = left ((o.file == file) && same_owner (process_owner p) owner) (h file owner) b mode held in
        record { was = one.1; not_its = one.0; still = inl opened }
    | false ↦ λ opened held.
        let one = left (same_owner (description_owner p o.description) owner) (its_locks file owner) b mode held in
        let two = left ((o.file == file) && same_owner (process_owner p) owner) (h file owner) b mode one.1 in
        record { was = two.1; not_its = two.0; still = inr one.0 }
  ] refl

  hangs_still : (file : ℕ) (kind : Kind) (number : ℕ) → ((o.file == file) && same_owner (process_owner p) (record { node = n; incarnation = i; kind = kind; number = number })) ≡ false → (is_open fewer o.description ≡ true) ⊎ (same_owner (description_owner p o.description) (record { node = n; incarnation = i; kind = kind; number = number }) ≡ false) → Hangs ps file kind number → Hangs fewer file kind number
  hangs_still file OfProcess number not_its still (fd', x, opened, of) = elim (is_this number fd') [
    | inl same ↦
        let is = the_same number fd' x opened same in
        let files : o.file ≡ file = ap (λ (y : Opened). y.file) (sym is) ∙ of in
        let owner : Owner = record { node = n; incarnation = i; kind = OfProcess; number = number } in
        let mine : same_owner (process_owner p) owner ≡ true = ap (λ (k : ℕ). same_owner (record { node = n; incarnation = i; kind = OfProcess; number = k }) owner) (sym same.0) ∙ owner_refl owner in
        absurd (both_ways ((o.file == file) && same_owner (process_owner p) owner) not_its (and_from (o.file == file) (same_owner (process_owner p) owner) (eq-eqb o.file file files) mine))
    | inr other ↦ (fd', x, stays_open number fd' x opened other, of)
  ]
  hangs_still file OfDescription number not_its still (q, fd', x, opened, numbered, of) = elim (is_this q fd') [
    | inl same ↦
        let is = the_same q fd' x opened same in
        let description : o.description ≡ number = ap (λ (y : Opened). y.description) (sym is) ∙ numbered in
        let files : o.file ≡ file = ap (λ (y : Opened). y.file) (sym is) ∙ of in
        let owner : Owner = record { node = n; incarnation = i; kind = OfDescription; number = number } in
        elim still [
          | inl opens ↦
              let r = open_refers fewer o.description opens in
              let old = left_open ((r.0 == pid) && (r.1 == fd)) (ps.opened r.0 r.1) r.2 r.3 in
              let one = a.agree r.0 r.1 pid fd r.2 o old.1 there r.4 in
              (r.0, r.1, r.2, r.3, r.4 ∙ description, ap (λ (y : Opened). y.file) one ∙ files)
          | inr other ↦
              let its : same_owner (description_owner p o.description) owner ≡ true = ap (λ (k : ℕ). same_owner (record { node = n; incarnation = i; kind = OfDescription; number = k }) owner) description ∙ owner_refl owner in
              absurd (both_ways (same_owner (description_owner p o.description) owner) other its)
        ]
    | inr other ↦ (q, fd', x, stays_open q fd' x opened other, numbered, of)
  ]

  pub close_anchored : AreAnchored fewer locks_left n i
  close_anchored = record {
    numbers = a.numbers;
    descriptors = λ q k x is. a.descriptors q k x (left_open ((q == pid) && (k == fd)) (ps.opened q k) x is).1;
    agree = λ q k r j x y one two. a.agree q k r j x y (left_open ((q == pid) && (k == fd)) (ps.opened q k) x one).1 (left_open ((r == pid) && (j == fd)) (ps.opened r j) y two).1;
    locks = λ file owner b mode node incarnation held.
        let l = is_left file owner b mode held in
        let same : record { node = n; incarnation = i; kind = owner.kind; number = owner.number } ≡ owner = λ j. record { node = sym node j; incarnation = sym incarnation j; kind = owner.kind; number = owner.number } in
        hangs_still file owner.kind owner.number
        (subst (λ (x : Owner). ((o.file == file) && same_owner (process_owner p) x) ≡ false) (sym same) l.not_its)
        (subst (λ (x : Owner). (is_open fewer o.description ≡ true) ⊎ (same_owner (description_owner p o.description) x ≡ false)) (sym same) l.still)
        (a.locks file owner b mode node incarnation l.was);
  }

-- another node or incarnation than the one that the steps below are about
abbrev IsElsewhere : ℕ → ℕ → ℕ → ℕ → Type 0
IsElsewhere n i m k = ((m == n) && (k == i)) ≡ false

-- what closes and exits of one node keep of the table
pub record Leaves (n i : ℕ) (t u : Table) : Type 0 where
  pub anchored : IsAnchored u n i
  pub others : (m k : ℕ) → IsElsewhere n i m k → u.on m k ≡ t.on m k
  pub fewer : (q fd : ℕ) (x : Opened) → (u.on n i).opened q fd ≡ Some x → (t.on n i).opened q fd ≡ Some x
  pub their_locks : (file : ℕ) (owner : Owner) → IsElsewhere n i owner.node owner.incarnation → u.locks file owner ≡ t.locks file owner

leaves_same : (n i : ℕ) (t : Table) → IsAnchored t n i → Leaves n i t t
leaves_same n i t a = record { anchored = a; others = λ m k h. refl; fewer = λ q fd x h. h; their_locks = λ file owner h. refl }

leaves_then : (n i : ℕ) (t u v : Table) → Leaves n i t u → Leaves n i u v → Leaves n i t v
leaves_then n i t u v a b = record {
  anchored = b.anchored;
  others = λ m k h. b.others m k h ∙ a.others m k h;
  fewer = λ q fd x h. a.fewer q fd x (b.fewer q fd x h);
  their_locks = λ file owner h. b.their_locks file owner h ∙ a.their_locks file owner h;
}

not_its_owner : (n i pid file f : ℕ) (owner : Owner) (kind : Kind) (number : ℕ) → IsElsewhere n i owner.node owner.incarnation → same_owner (record { node = n; incarnation = i; kind = kind; number = number }) owner ≡ false
not_its_owner n i pid file f owner kind number h = elim (cases_Bool (same_owner (record { node = n; incarnation = i; kind = kind; number = number }) owner)) [
  | inl same ↦
      let is = owner_exact (record { node = n; incarnation = i; kind = kind; number = number }) owner same in
      let node : owner.node ≡ n = ap (λ (x : Owner). x.node) (sym is) in
      let incarnation : owner.incarnation ≡ i = ap (λ (x : Owner). x.incarnation) (sym is) in
      absurd (both_ways ((owner.node == n) && (owner.incarnation == i)) h (and_from (owner.node == n) (owner.incarnation == i) (eq-eqb owner.node n node) (eq-eqb owner.incarnation i incarnation)))
  | inr other ↦ other
]

locks_chosen : (b : Bool) (x : Table) (h : Locks) → (if b then x else record x { locks = h }).locks ≡ (if b then x.locks else h)
locks_chosen true x h = refl
locks_chosen false x h = refl

on_chosen : (b : Bool) (x : Table) (h : Locks) (m k : ℕ) → (if b then x else record x { locks = h }).on m k ≡ x.on m k
on_chosen true x h m k = refl
on_chosen false x h m k = refl

and_false : (a b : Bool) → b ≡ false → (a && b) ≡ false
and_false true b h = h
and_false false b h = refl

-- one descriptor of a process is closed
module _ (t : Table) (n i pid fd : ℕ) (o : Opened) (a : IsAnchored t n i) (there : (t.on n i).opened pid fd ≡ Some o) where
  abbrev its : Process
  its = record { node = n; incarnation = i; pid = pid }

  abbrev mid : Table
  mid = record (with_processes t its (with_descriptor (around t its) pid fd None)) { locks = without_owner t.locks o.file (process_owner its) }

  abbrev its_fewer : Processes
  its_fewer = with_descriptor (t.on n i) pid fd None

  mid_on : mid.on n i ≡ its_fewer
  mid_on = rw (itself n i) refl

  shut_on : (closed t its fd o).on n i ≡ its_fewer
  shut_on = on_chosen (is_open (around mid its) o.description) mid (without_owner_anywhere mid.locks (description_owner its o.description)) n i ∙ mid_on

  shut_locks : (closed t its fd o).locks ≡ locks_left (t.on n i) t.locks n i a pid fd o there
  shut_locks =
      locks_chosen (is_open (around mid its) o.description) mid (without_owner_anywhere mid.locks (description_owner its o.description))
      ∙ ap (λ (ps : Processes). if is_open ps o.description then mid.locks else without_owner_anywhere mid.locks (description_owner its o.description)) mid_on

  shut_opened : (q k : ℕ) (x : Opened) → ((closed t its fd o).on n i).opened q k ≡ Some x → (((q == pid) && (k == fd)) ≡ false) × ((t.on n i).opened q k ≡ Some x)
  shut_opened q k x h = left_open ((q == pid) && (k == fd)) ((t.on n i).opened q k) x (ap (λ (ps : Processes). ps.opened q k) (sym shut_on) ∙ h)

  pub closed_leaves : Leaves n i t (closed t its fd o)
  closed_leaves = record {
    anchored =
        let after = close_anchored (t.on n i) t.locks n i a pid fd o there in
        subst (λ (ps : Processes). AreAnchored ps (closed t its fd o).locks n i) (sym shut_on)
        (subst (λ (h : Locks). AreAnchored its_fewer h n i) (sym shut_locks) after);
    others = λ m k h. on_chosen (is_open (around mid its) o.description) mid (without_owner_anywhere mid.locks (description_owner its o.description)) m k ∙ rw h refl;
    fewer = λ q k x h. (shut_opened q k x h).1;
    their_locks = λ file owner h.
        let one : mid.locks file owner ≡ t.locks file owner = no_more file owner (not_its_owner n i pid file o.file owner OfProcess pid h) in
        ap (λ (x : Locks). x file owner) (locks_chosen (is_open (around mid its) o.description) mid (without_owner_anywhere mid.locks (description_owner its o.description)))
        ∙ (apart (is_open (around mid its) o.description) file owner (not_its_owner n i pid file o.file owner OfDescription o.description h) ∙ one);
  }
    where
      no_more : (file : ℕ) (owner : Owner) → same_owner (process_owner its) owner ≡ false → mid.locks file owner ≡ t.locks file owner
      no_more file owner other = ap (λ (b : Bool). if b then nothing else t.locks file owner) (and_false (o.file == file) (same_owner (process_owner its) owner) other)

      apart : (b : Bool) (file : ℕ) (owner : Owner) → same_owner (description_owner its o.description) owner ≡ false → (if b then mid.locks else without_owner_anywhere mid.locks (description_owner its o.description)) file owner ≡ mid.locks file owner
      apart true file owner other = refl
      apart false file owner other = rw other refl

  shut_runs : (q : ℕ) → ((closed t its fd o).on n i).runs q ≡ (t.on n i).runs q
  shut_runs q = ap (λ (ps : Processes). ps.runs q) shut_on

  pub shut_goes_on : (q : ℕ) → (q ≡ pid → ⊥) → GoesOn (t.on n i) ((closed t its fd o).on n i) q
  shut_goes_on q other = subst (λ (ps : Processes). GoesOn (t.on n i) ps q) (sym shut_on) (record {
    runs = λ h. h;
    opened = λ k x h. stays_open (t.on n i) t.locks n i a pid fd o there q k x h (λ both. other both.0);
  })

closed_below-zero : (t : Table) (p : Process) → closed_below t p zero ≡ t
unfolding closed_below
closed_below-zero t p = refl

closed_below-more : (t : Table) (p : Process) (k : ℕ) → closed_below t p (suc k) ≡ closed_if (closed_below t p k) p k (descriptor (closed_below t p k) p k)
unfolding closed_below
closed_below-more t p k = refl

exited_to-zero : (t : Table) (n i : ℕ) → exited_to t n i zero ≡ t
unfolding exited_to
exited_to-zero t n i = refl

exited_to-more : (t : Table) (n i k : ℕ) → exited_to t n i (suc k) ≡ exited_if (exited_to t n i k) (record { node = n; incarnation = i; pid = suc k })
unfolding exited_to
exited_to-more t n i k = refl

-- the table after the descriptors of a process with numbers below k are closed
pub record IsShut (n i pid k : ℕ) (t u : Table) : Type 0 where
  pub leaves : Leaves n i t u
  pub runs : (q : ℕ) → (u.on n i).runs q ≡ (t.on n i).runs q
  pub shut : (fd : ℕ) → fd < k → (u.on n i).opened pid fd ≡ None
  pub others : (q : ℕ) → (q ≡ pid → ⊥) → GoesOn (t.on n i) (u.on n i) q

module _ (n i pid : ℕ) where
  abbrev who : Process
  who = record { node = n; incarnation = i; pid = pid }

  shut_more : (k : ℕ) (t u : Table) (x : Option Opened) → (u.on n i).opened pid k ≡ x → IsShut n i pid k t u → IsShut n i pid (suc k) t (closed_if u who k x)
  shut_more k t u None is s = record {
    leaves = s.leaves;
    runs = s.runs;
    others = s.others;
    shut = λ fd lt. elim (cases_eq fd k) [
      | inl same ↦ ap (λ (j : ℕ). (u.on n i).opened pid j) same ∙ is
      | inr other ↦ s.shut fd (omega arith)
    ];
  }
  shut_more k t u (Some o) is s =
      let a = s.leaves.anchored in
      let v = closed u who k o in
      let opened : (fd : ℕ) (x : Opened) → (v.on n i).opened pid fd ≡ Some x → (((pid == pid) && (fd == k)) ≡ false) × ((u.on n i).opened pid fd ≡ Some x) = λ fd x h. shut_opened u n i pid k o a is pid fd x h in
      record {
        leaves = leaves_then n i t u v s.leaves (closed_leaves u n i pid k o a is);
        runs = λ q. shut_runs u n i pid k o a is q ∙ s.runs q;
        others = λ q other. goes_then (t.on n i) (u.on n i) (v.on n i) q (s.others q other) (shut_goes_on u n i pid k o a is q other);
        shut = λ fd lt. none_of ((v.on n i).opened pid fd) (λ x h.
            let old = opened fd x h in
            elim (cases_eq fd k) [
              | inl same ↦ both_ways ((pid == pid) && (fd == k)) old.0 (and_from (pid == pid) (fd == k) (eq-eqb pid pid refl) (eq-eqb fd k same))
              | inr other ↦ none-some x (sym (s.shut fd (omega arith)) ∙ old.1)
            ]);
      }
    where
      none_of : (y : Option Opened) → ((x : Opened) → y ≡ Some x → ⊥) → y ≡ None
      none_of None none = refl
      none_of (Some x) none = absurd (none x refl)

  shut_below : (k : ℕ) (t : Table) → IsAnchored t n i → IsShut n i pid k t (closed_below t who k)
  shut_below zero t a = subst (IsShut n i pid zero t) (sym (closed_below-zero t who)) (record { leaves = leaves_same n i t a; runs = λ q. refl; shut = λ fd lt. absurd (omega arith); others = λ q other. same_goes_on (t.on n i) (t.on n i) q refl })
  shut_below (suc k) t a =
      let u = closed_below t who k in
      subst (IsShut n i pid (suc k) t) (sym (closed_below-more t who k)) (shut_more k t u (descriptor u who k) refl (shut_below k t a))

  -- the table after a process exits
  pub record HasExited (t u : Table) : Type 0 where
    pub leaves : Leaves n i t u
    pub stopped : (u.on n i).runs pid ≡ false
    pub others_run : (q : ℕ) → (u.on n i).runs q ≡ true → (t.on n i).runs q ≡ true
    pub others : (q : ℕ) → (q ≡ pid → ⊥) → GoesOn (t.on n i) (u.on n i) q

  pub exits : (t : Table) → IsAnchored t n i → HasExited t (exited t who)
  exits t a =
      let u = closed_below t who most_descriptors in
      let s = shut_below most_descriptors t a in
      let b = s.leaves.anchored in
      let before = u.on n i in
      let after = with_process before pid false (λ fd. None) in
      let v = with_processes u who (with_process (around u who) pid false (λ fd. None)) in
      let here : v.on n i ≡ after = rw (itself n i) refl in
      let gone_from : (fd : ℕ) (x : Opened) → before.opened pid fd ≡ Some x → ⊥ = λ fd x h. none-some x (sym (s.shut fd (b.descriptors pid fd x h).1) ∙ h) in
      let stays : (q fd : ℕ) (x : Opened) → before.opened q fd ≡ Some x → after.opened q fd ≡ Some x = λ q fd x h. elim (cases_eq q pid) [
        | inl same ↦ absurd (gone_from fd x (subst (λ (k : ℕ). before.opened k fd ≡ Some x) same h))
        | inr other ↦ rw (ne_eqb q pid other) h
      ] in
      let anchored : AreAnchored after u.locks n i = record {
        numbers = λ q r. b.numbers q (ran (q == pid) (before.runs q) r).1;
        descriptors = λ q fd x h.
            let old = left_open (q == pid) (before.opened q fd) x h in
            let was = b.descriptors q fd x old.1 in
            (ap (λ (c : Bool). if c then false else before.runs q) old.0 ∙ was.0, was.1);
        agree = λ q fd r k x y one two. b.agree q fd r k x y (left_open (q == pid) (before.opened q fd) x one).1 (left_open (r == pid) (before.opened r k) y two).1;
        locks = λ file owner byte mode node incarnation held. hangs_on file owner.kind owner.number before after stays (b.locks file owner byte mode node incarnation held);
      } in
      record {
        leaves = record {
          anchored = subst (λ (ps : Processes). AreAnchored ps u.locks n i) (sym here) anchored;
          others = λ m k h. rw h (s.leaves.others m k h);
          fewer = λ q fd x h. s.leaves.fewer q fd x (left_open (q == pid) (before.opened q fd) x (ap (λ (ps : Processes). ps.opened q fd) (sym here) ∙ h)).1;
          their_locks = s.leaves.their_locks;
        };
        stopped = ap (λ (ps : Processes). ps.runs pid) here ∙ ap (λ (c : Bool). if c then false else before.runs pid) (eq-eqb pid pid refl);
        others_run = λ q r. sym (s.runs q) ∙ (ran (q == pid) (before.runs q) (ap (λ (ps : Processes). ps.runs q) (sym here) ∙ r)).1;
        others = λ q other. subst (λ (ps : Processes). GoesOn (t.on n i) ps q) (sym here) (goes_then (t.on n i) before after q (s.others q other) (record {
          runs = λ r. rw (ne_eqb q pid other) r;
          opened = λ fd x h. rw (ne_eqb q pid other) h;
        }));
      }
    where
      ran : (c x : Bool) → (if c then false else x) ≡ true → (c ≡ false) × (x ≡ true)
      ran true x h = absurd (cc)
      ran false x h = (refl, h)

  exits_if : (t : Table) → IsAnchored t n i → HasExited t (exited_if t who)
  exits_if t a = elim (is_running t who) as (λ b. is_running t who ≡ b → HasExited t (if b then exited t who else t)) [
    | true ↦ λ h. exits t a
    | false ↦ λ h. record { leaves = leaves_same n i t a; stopped = h; others_run = λ q r. r; others = λ q other. same_goes_on (t.on n i) (t.on n i) q refl }
  ] refl

-- the table after the processes with numbers up to k exit
pub record HaveExited (n i k : ℕ) (t u : Table) : Type 0 where
  pub leaves : Leaves n i t u
  pub stopped : (q : ℕ) → 1 ≤ q → q ≤ k → (u.on n i).runs q ≡ false

exit_all : (n i k : ℕ) (t : Table) → IsAnchored t n i → HaveExited n i k t (exited_to t n i k)
exit_all n i zero t a = subst (HaveExited n i zero t) (sym (exited_to-zero t n i)) (record { leaves = leaves_same n i t a; stopped = λ q least most. absurd (omega arith) })
exit_all n i (suc k) t a =
    let u = exited_to t n i k in
    let before = exit_all n i k t a in
    let p : Process = record { node = n; incarnation = i; pid = suc k } in
    let v = exited_if u p in
    let e = exits_if n i (suc k) u before.leaves.anchored in
    subst (HaveExited n i (suc k) t) (sym (exited_to-more t n i k)) (record {
      leaves = leaves_then n i t u v before.leaves e.leaves;
      stopped = λ q least most. elim (cases_eq q (suc k)) [
        | inl same ↦ ap (λ (j : ℕ). (v.on n i).runs j) same ∙ e.stopped
        | inr other ↦ false_from_ne_true ((v.on n i).runs q) (λ r. both_ways ((u.on n i).runs q) (before.stopped q least (omega arith)) (e.others_run q r))
      ];
    })

-- the table without the processes and locks of a node's incarnation
abbrev pub without_host : Table → ℕ → ℕ → Table
without_host t n i = record {
  limit = t.limit;
  on = λ m k. if (m == n) && (k == i) then no_processes else t.on m k;
  locks = λ file owner. if (owner.node == n) && (owner.incarnation == i) then nothing else t.locks file owner;
}

-- all processes of a node exit: the table without that node's incarnation is left
module _ (t : Table) (n i : ℕ) (a : IsAnchored t n i) where
  abbrev last : Table
  last = gone t n i

  all_left : HaveExited n i most_processes t last
  all_left = exit_all n i most_processes t a

  abbrev kept : IsAnchored last n i
  kept = all_left.leaves.anchored

  none_runs : (q : ℕ) → (last.on n i).runs q ≡ false
  none_runs q = false_from_ne_true ((last.on n i).runs q) (λ r.
      let number = kept.numbers q r in
      both_ways ((last.on n i).runs q) (all_left.stopped q number.0 number.1) r)

  none_opened : (q fd : ℕ) → (last.on n i).opened q fd ≡ None
  none_opened q fd = elim ((last.on n i).opened q fd) as (λ x. (last.on n i).opened q fd ≡ x → x ≡ None) [
    | None ↦ λ h. refl
    | Some x ↦ λ h. absurd (both_ways ((last.on n i).runs q) (none_runs q) (kept.descriptors q fd x h).0)
  ] refl

  hangs_nowhere : (file : ℕ) (kind : Kind) (number : ℕ) → Hangs (last.on n i) file kind number → ⊥
  hangs_nowhere file OfProcess number (fd, x, h, of) = none-some x (sym (none_opened number fd) ∙ h)
  hangs_nowhere file OfDescription number (q, fd, x, h, description, of) = none-some x (sym (none_opened q fd) ∙ h)

  none_locked : (file : ℕ) (owner : Owner) → owner.node ≡ n → owner.incarnation ≡ i → (b : ℕ) → last.locks file owner b ≡ None
  none_locked file owner node incarnation b = elim (last.locks file owner b) as (λ x. last.locks file owner b ≡ x → x ≡ None) [
    | None ↦ λ h. refl
    | Some mode ↦ λ h. absurd (hangs_nowhere file owner.kind owner.number (kept.locks file owner b mode node incarnation h))
  ] refl

  on_left : (m k : ℕ) → last.on m k ≡ (without_host t n i).on m k
  on_left m k = elim ((m == n) && (k == i)) as (λ b. ((m == n) && (k == i)) ≡ b → last.on m k ≡ (if b then no_processes else t.on m k)) [
    | true ↦ λ h.
        let both = and_parts (m == n) (k == i) h in
        let node = eqb-true m n both.0 in
        let incarnation = eqb-true k i both.1 in
        (λ j. last.on (node j) (incarnation j)) ∙ (λ j. record { runs = λ q. none_runs q j; opened = λ q fd. none_opened q fd j })
    | false ↦ λ h. all_left.leaves.others m k h
  ] refl

  locks_left_at : (file : ℕ) (owner : Owner) → last.locks file owner ≡ (without_host t n i).locks file owner
  locks_left_at file owner = elim ((owner.node == n) && (owner.incarnation == i)) as (λ b. ((owner.node == n) && (owner.incarnation == i)) ≡ b → last.locks file owner ≡ (if b then nothing else t.locks file owner)) [
    | true ↦ λ h.
        let both = and_parts (owner.node == n) (owner.incarnation == i) h in
        let none = none_locked file owner (eqb-true owner.node n both.0) (eqb-true owner.incarnation i both.1) in
        (λ j b. none b j)
    | false ↦ λ h. all_left.leaves.their_locks file owner h
  ] refl

  pub gone_is : gone t n i ≡ without_host t n i
  gone_is = λ j. record { limit = gone_limit t n i j; on = λ m k. on_left m k j; locks = λ file owner. locks_left_at file owner j }
