-- Closes and exits: their deeds lead from the locks before to those after, and no lock outlives its descriptors.
use Rattle.std.proofs.Common.{◌≡◌, ℕ, zero, suc, true, false, if◌then◌else◌, ◌&&◌, ◌==◌, inl, inr, refl, sym, ◌∙◌, ap, subst, Option, Some, None, Bool, List, [], ◌∷◌, ◌++◌}
use Rattle.std.proofs.lemmas.Bool.{and_parts, eqb-true, cases_Bool, false≢true, eq-eqb, both_ways}
use Rattle.std.proofs.lemmas.Option.{none-some}
use Rattle.model.specs.declared.mode.Mode.{Mode}
use Rattle.model.specs.declared.owner.Owner.{Owner}
use Rattle.model.specs.declared.opened.Opened.{Opened}
use Rattle.model.specs.declared.process.Process.{Process}
use Rattle.model.specs.rule.Limits.{IsHost, IsNumber, most_descriptions, most_descriptors}
use Rattle.model.specs.rule.Locks.{Locks, without_owner, without_owner_anywhere}
use Rattle.model.specs.rule.Descriptors.{Processes, no_processes, with_descriptor, is_open}
use Rattle.model.specs.rule.Table.{Table, empty_table, descriptor, is_running, closed, closed_if, closed_below, exited, exited_if, exited_to, gone, around, with_processes}
use Rattle.model.specs.rule.Anchors.{AreAnchored as AreAnchoredOn, IsAnchored}
use Rattle.model.proofs.Hanging.{anchored_none, itself}
use Rattle.model.proofs.Anchors.{Leaves, closed_leaves, exits, gone_is, without_host, left}
use Rattle.run_clients.specs.code.Times.{AreAnchored}
use Rattle.intervals.specs.rule.Bytes.{nothing}
use Rattle.model.specs.rule.Owners.{same_owner, process_owner, description_owner}
use Rattle.model.proofs.OwnerLaws.{owner_exact}
use Rattle.run_clients.specs.rule.Seen.{DeedsLead, drop, drop_description, closing, closings_below, exit_deeds, exit_deeds_if, exits_to}
use Rattle.run_clients.specs.declared.deed.Deed.{Deed}

-- a step of a node keeps the processes and locks of other nodes
pub record KeepsOthers (n i : ℕ) (t u : Table) : Type 0 where
  pub others : (m k : ℕ) → ((m == n) && (k == i)) ≡ false → u.on m k ≡ t.on m k
  pub their_locks : (file : ℕ) (owner : Owner) → ((owner.node == n) && (owner.incarnation == i)) ≡ false → u.locks file owner ≡ t.locks file owner

pub keeps_same : (n i : ℕ) (t u : Table) → u ≡ t → KeepsOthers n i t u
keeps_same n i t u same = subst (KeepsOthers n i t) (sym same) (record { others = λ m k h. refl; their_locks = λ file owner h. refl })

pub keeps_then : (n i : ℕ) (t u v : Table) → KeepsOthers n i t u → KeepsOthers n i u v → KeepsOthers n i t v
keeps_then n i t u v a b = record {
  others = λ m k h. b.others m k h ∙ a.others m k h;
  their_locks = λ file owner h. b.their_locks file owner h ∙ a.their_locks file owner h;
}

leaves_keep : (n i : ℕ) (t u : Table) → Leaves n i t u → KeepsOthers n i t u
leaves_keep n i t u l = record { others = l.others; their_locks = l.their_locks }

-- other nodes' locks hang on their descriptors after the step
others_anchored : (n i : ℕ) (t u : Table) → KeepsOthers n i t u → (m k : ℕ) → ((m == n) && (k == i)) ≡ false → IsAnchored t m k → IsAnchored u m k
others_anchored n i t u keeps m k other a =
    let locked : AreAnchoredOn (t.on m k) u.locks m k = record {
      numbers = a.numbers;
      descriptors = a.descriptors;
      agree = a.agree;
      locks = λ file owner b mode node incarnation held.
          let theirs : ((owner.node == n) && (owner.incarnation == i)) ≡ false = ap (λ (x : ℕ). (x == n) && (owner.incarnation == i)) node ∙ (ap (λ (x : ℕ). (m == n) && (x == i)) incarnation ∙ other) in
          a.locks file owner b mode node incarnation (ap (λ (f : ℕ → Option Mode). f b) (sym (keeps.their_locks file owner theirs)) ∙ held);
    } in
    subst (λ (ps : Processes). AreAnchoredOn ps u.locks m k) (sym (keeps.others m k other)) locked

-- no lock of any node outlives its descriptors after the step, where none of its own node does
pub step_keeps : (n i : ℕ) (t u : Table) → AreAnchored t → KeepsOthers n i t u → ((pid : ℕ) → (u.on n i).runs pid ≡ true → IsHost n i) → ((pid fd : ℕ) (o : Opened) → (u.on n i).opened pid fd ≡ Some o → IsNumber most_descriptions o.description) → IsAnchored u n i → AreAnchored u
step_keeps n i t u a keeps host numbered own = record {
  descriptions = λ m k pid fd o opened. elim (cases_Bool ((m == n) && (k == i))) [
    | inl same ↦
        let both = and_parts (m == n) (k == i) same in
        numbered pid fd o (subst (λ (x : ℕ). (u.on n x).opened pid fd ≡ Some o) (eqb-true k i both.1) (subst (λ (x : ℕ). (u.on x k).opened pid fd ≡ Some o) (eqb-true m n both.0) opened))
    | inr other ↦ a.descriptions m k pid fd o (ap (λ (ps : Processes). ps.opened pid fd) (sym (keeps.others m k other)) ∙ opened)
  ];
  hosts = λ m k pid runs. elim (cases_Bool ((m == n) && (k == i))) [
    | inl same ↦
        let both = and_parts (m == n) (k == i) same in
        let node = eqb-true m n both.0 in
        let incarnation = eqb-true k i both.1 in
        subst (λ (x : ℕ). IsHost x k) (sym node) (subst (IsHost n) (sym incarnation) (host pid (subst (λ (x : ℕ). (u.on n x).runs pid ≡ true) incarnation (subst (λ (x : ℕ). (u.on x k).runs pid ≡ true) node runs))))
    | inr other ↦ a.hosts m k pid (ap (λ (ps : Processes). ps.runs pid) (sym (keeps.others m k other)) ∙ runs)
  ];
  anchored = λ m k. elim (cases_Bool ((m == n) && (k == i))) [
    | inl same ↦
        let both = and_parts (m == n) (k == i) same in
        subst (λ (x : ℕ). IsAnchored u x k) (sym (eqb-true m n both.0)) (subst (IsAnchored u n) (sym (eqb-true k i both.1)) own)
    | inr other ↦ others_anchored n i t u keeps m k other (a.anchored m k)
  ];
}

-- in the empty table nothing runs, and no lock outlives its descriptors
pub empty_anchored : (limit : ℕ) → AreAnchored (empty_table limit)
empty_anchored limit = record {
  hosts = λ n i pid runs. absurd (false≢true runs);
  descriptions = λ n i pid fd o opened. absurd (none-some o opened);
  anchored = λ n i. anchored_none (empty_table limit).locks n i (λ file owner b mode h. none-some mode h);
}

pub closed_below-zero : (t : Table) (p : Process) → closed_below t p zero ≡ t
unfolding closed_below
closed_below-zero t p = refl

pub closed_below-suc : (t : Table) (p : Process) (k : ℕ) → closed_below t p (suc k) ≡ closed_if (closed_below t p k) p k (descriptor (closed_below t p k) p k)
unfolding closed_below
closed_below-suc t p k = refl

pub exited_to-zero : (t : Table) (n i : ℕ) → exited_to t n i zero ≡ t
unfolding exited_to
exited_to-zero t n i = refl

pub exited_to-suc : (t : Table) (n i k : ℕ) → exited_to t n i (suc k) ≡ exited_if (exited_to t n i k) (record { node = n; incarnation = i; pid = suc k })
unfolding exited_to
exited_to-suc t n i k = refl

module _ (p : Process) where
  -- a descriptor is closed
  pub closed_keeps : (t : Table) (fd : ℕ) (o : Opened) → AreAnchored t → descriptor t p fd ≡ Some o → IsHost p.node p.incarnation → AreAnchored (closed t p fd o)
  closed_keeps t fd o a there host =
      let leaves = closed_leaves t p.node p.incarnation p.pid fd o (a.anchored p.node p.incarnation) there in
      step_keeps p.node p.incarnation t (closed t p fd o) a (leaves_keep p.node p.incarnation t (closed t p fd o) leaves) (λ pid runs. host) (λ q k x opened. a.descriptions p.node p.incarnation q k x (leaves.fewer q k x opened)) leaves.anchored

  pub closed_if_keeps : (t : Table) (fd : ℕ) (x : Option Opened) → AreAnchored t → descriptor t p fd ≡ x → IsHost p.node p.incarnation → AreAnchored (closed_if t p fd x)
  closed_if_keeps t fd None a there host = a
  closed_if_keeps t fd (Some o) a there host = closed_keeps t fd o a there host

  pub shut_keeps : (t : Table) (k : ℕ) → AreAnchored t → IsHost p.node p.incarnation → AreAnchored (closed_below t p k)
  shut_keeps t zero a host = subst AreAnchored (sym (closed_below-zero t p)) a
  shut_keeps t (suc k) a host =
      let u = closed_below t p k in
      subst AreAnchored (sym (closed_below-suc t p k)) (closed_if_keeps u k (descriptor u p k) (shut_keeps t k a host) refl host)

  pub exit_keeps : (t : Table) → AreAnchored t → IsHost p.node p.incarnation → AreAnchored (exited t p)
  exit_keeps t a host =
      let e = exits p.node p.incarnation p.pid t (a.anchored p.node p.incarnation) in
      step_keeps p.node p.incarnation t (exited t p) a (leaves_keep p.node p.incarnation t (exited t p) e.leaves) (λ pid runs. host) (λ q k x opened. a.descriptions p.node p.incarnation q k x (e.leaves.fewer q k x opened)) e.leaves.anchored

  pub exit_if_keeps : (t : Table) → AreAnchored t → IsHost p.node p.incarnation → AreAnchored (exited_if t p)
  exit_if_keeps t a host = elim (is_running t p) as (λ b. AreAnchored (if b then exited t p else t)) [ true ↦ exit_keeps t a host | false ↦ a ]

-- the processes of a node up to a number exit
pub exits_keep : (n i : ℕ) (t : Table) (k : ℕ) → AreAnchored t → IsHost n i → AreAnchored (exited_to t n i k)
exits_keep n i t zero a host = subst AreAnchored (sym (exited_to-zero t n i)) a
exits_keep n i t (suc k) a host =
    let u = exited_to t n i k in
    subst AreAnchored (sym (exited_to-suc t n i k)) (exit_if_keeps (record { node = n; incarnation = i; pid = suc k }) u (exits_keep n i t k a host) host)

-- a node fails
pub gone_keeps : (t : Table) (n i : ℕ) → AreAnchored t → AreAnchored (gone t n i)
gone_keeps t n i a =
    let u = without_host t n i in
    let here : u.on n i ≡ no_processes = rw (itself n i) refl in
    subst AreAnchored (sym (gone_is t n i (a.anchored n i))) (step_keeps n i t u a
    (record { others = λ m k h. rw h refl; their_locks = λ file owner h. rw h refl })
    (λ pid runs. absurd (false≢true (ap (λ (ps : Processes). ps.runs pid) (sym here) ∙ runs)))
    (λ pid fd o opened. absurd (none-some o (ap (λ (ps : Processes). ps.opened pid fd) (sym here) ∙ opened)))
    (subst (λ (ps : Processes). AreAnchoredOn ps u.locks n i) (sym here) (none_left n i (λ file owner. t.locks file owner))))
  where
    none_left : (m k : ℕ) (h : Locks) → AreAnchoredOn no_processes (λ file owner. if (owner.node == m) && (owner.incarnation == k) then (λ b. None) else h file owner) m k
    none_left m k h = record {
      numbers = λ pid r. absurd (false≢true r);
      descriptors = λ pid fd o r. absurd (none-some o r);
      agree = λ pid fd qid j o x r. absurd (none-some o r);
      locks = λ file owner b mode node incarnation held.
          let mine : ((owner.node == m) && (owner.incarnation == k)) ≡ true = ap (λ (x : ℕ). (x == m) && (owner.incarnation == k)) node ∙ (ap (λ (x : ℕ). (m == m) && (x == k)) incarnation ∙ itself m k) in
          absurd (none-some mode (rw mine at held));
    }

-- deeds that lead on from where others led, lead on from where those began
pub leads_then : (a b c : Locks) (ds es : List Deed) → DeedsLead a ds b → DeedsLead b es c → DeedsLead a (ds ++ es) c
leads_then a b c [] es one two = subst (λ (h : Locks). DeedsLead h es c) (sym one) two
leads_then a b c (d ∷ ds) es one two = (one.0, one.1, leads_then one.0 b c ds es one.2 two)

-- one descriptor is closed
module _ (t : Table) (p : Process) (fd : ℕ) (o : Opened) (a : IsAnchored t p.node p.incarnation) (there : descriptor t p fd ≡ Some o) where
  abbrev mid : Table
  mid = record (with_processes t p (with_descriptor (around t p) p.pid fd None)) { locks = without_owner t.locks o.file (process_owner p) }

  abbrev last : Table
  last = record mid { locks = without_owner_anywhere mid.locks (description_owner p o.description) }

  -- a lock of the description is in its file
  in_its_file : (file b : ℕ) (mode : Mode) → t.locks file (description_owner p o.description) b ≡ Some mode → o.file ≡ file
  in_its_file file b mode held =
      let hangs = a.locks file (description_owner p o.description) b mode refl refl held in
      let same = a.agree p.pid fd hangs.0 hangs.1 o hangs.2 there hangs.3 (sym hangs.4) in
      ap (λ (x : Opened). x.file) same ∙ hangs.5

  none_elsewhere : (file : ℕ) (owner : Owner) (b : ℕ) → (o.file == file) ≡ false → same_owner (description_owner p o.description) owner ≡ true → mid.locks file owner b ≡ None
  none_elsewhere file owner b other its = elim (mid.locks file owner b) as (λ x. mid.locks file owner b ≡ x → x ≡ None) [
    | None ↦ λ h. refl
    | Some mode ↦ λ h.
        let was = (left ((o.file == file) && same_owner (process_owner p) owner) (t.locks file owner) b mode h).1 in
        let owns = owner_exact (description_owner p o.description) owner its in
        let files = in_its_file file b mode (ap (λ (x : Owner). t.locks file x b) owns ∙ was) in
        absurd (both_ways (o.file == file) other (eq-eqb o.file file files))
  ] refl

  dropped : (file : ℕ) (owner : Owner) (b : ℕ) (x y : Bool) → (o.file == file) ≡ x → same_owner (description_owner p o.description) owner ≡ y → (if x && y then nothing else mid.locks file owner) b ≡ (if y then nothing else mid.locks file owner) b
  dropped file owner b true y files its = refl
  dropped file owner b false false files its = refl
  dropped file owner b false true files its = none_elsewhere file owner b files its

  -- the last close of a description drops all locks that the description has
  all_dropped : without_owner mid.locks o.file (description_owner p o.description) ≡ last.locks
  all_dropped = λ j file owner b. dropped file owner b (o.file == file) (same_owner (description_owner p o.description) owner) refl refl j

  abbrev chosen : Bool → Table
  chosen b = if b then mid else last

  same_around : (b : Bool) → is_open (around (chosen b) p) o.description ≡ is_open (around mid p) o.description
  same_around true = refl
  same_around false = refl

  abbrev deeds_if : Bool → List Deed
  deeds_if b = drop o.file p ∷ (if b then [] else drop_description o.file p o.description ∷ [])

  leads_if : (b : Bool) → DeedsLead t.locks (deeds_if b) (chosen b).locks
  leads_if true = (mid.locks, refl, refl)
  leads_if false = (mid.locks, refl, (without_owner mid.locks o.file (description_owner p o.description), refl, all_dropped))

  pub close_leads : DeedsLead t.locks (closing t p fd (Some o)) (closed t p fd o).locks
  close_leads =
      let b = is_open (around mid p) o.description in
      subst (λ (c : Bool). DeedsLead t.locks (deeds_if c) (closed t p fd o).locks) (sym (same_around b)) (leads_if b)

pub closings-zero : (t : Table) (p : Process) → closings_below t p zero ≡ []
unfolding closings_below
closings-zero t p = refl

pub closings-suc : (t : Table) (p : Process) (k : ℕ) → closings_below t p (suc k) ≡ closings_below t p k ++ closing (closed_below t p k) p k (descriptor (closed_below t p k) p k)
unfolding closings_below
closings-suc t p k = refl

pub exits_to-zero : (t : Table) (n i : ℕ) → exits_to t n i zero ≡ []
unfolding exits_to
exits_to-zero t n i = refl

pub exits_to-suc : (t : Table) (n i k : ℕ) → exits_to t n i (suc k) ≡ exits_to t n i k ++ exit_deeds_if (exited_to t n i k) (record { node = n; incarnation = i; pid = suc k })
unfolding exits_to
exits_to-suc t n i k = refl

-- deeds led to a table in which no lock of the node outlives its descriptors
pub record LedTo (n i : ℕ) (old : Locks) (deeds : List Deed) (new : Table) : Type 0 where
  pub anchored : IsAnchored new n i
  pub leads : DeedsLead old deeds new.locks

module _ (n i : ℕ) where
  -- deeds with those of one more step lead on
  more : (old : Locks) (ds es : List Deed) (mid new : Table) → LedTo n i old ds mid → IsAnchored new n i → DeedsLead mid.locks es new.locks → LedTo n i old (ds ++ es) new
  more old ds es mid new before anchored leads = record { anchored = anchored; leads = leads_then old mid.locks new.locks ds es before.leads leads }

  module _ (pid : ℕ) where
    abbrev who : Process
    who = record { node = n; incarnation = i; pid = pid }

    close_more : (old : Locks) (ds : List Deed) (u : Table) (k : ℕ) (x : Option Opened) → descriptor u who k ≡ x → LedTo n i old ds u → LedTo n i old (ds ++ closing u who k x) (closed_if u who k x)
    close_more old ds u k None none before = more old ds [] u u before before.anchored refl
    close_more old ds u k (Some o) there before = more old ds (closing u who k (Some o)) u (closed u who k o) before (closed_leaves u n i pid k o before.anchored there).anchored (close_leads u who k o before.anchored there)

    -- the descriptors below a number are closed
    closed_below_leads : (t : Table) (k : ℕ) → IsAnchored t n i → LedTo n i t.locks (closings_below t who k) (closed_below t who k)
    closed_below_leads t zero a =
        subst (λ (ds : List Deed). LedTo n i t.locks ds (closed_below t who zero)) (sym (closings-zero t who)) (subst (LedTo n i t.locks []) (sym (closed_below-zero t who)) (record { anchored = a; leads = refl }))
    closed_below_leads t (suc k) a =
        let u = closed_below t who k in
        subst (λ (ds : List Deed). LedTo n i t.locks ds (closed_below t who (suc k))) (sym (closings-suc t who k))
        (subst (LedTo n i t.locks (closings_below t who k ++ closing u who k (descriptor u who k))) (sym (closed_below-suc t who k))
        (close_more t.locks (closings_below t who k) u k (descriptor u who k) refl (closed_below_leads t k a)))

    -- the process exits
    pub exit_leads : (t : Table) → IsAnchored t n i → LedTo n i t.locks (exit_deeds t who) (exited t who)
    exit_leads t a = record { anchored = (exits n i pid t a).leaves.anchored; leads = (closed_below_leads t most_descriptors a).leads }

    exit_if_leads : (t : Table) → IsAnchored t n i → LedTo n i t.locks (exit_deeds_if t who) (exited_if t who)
    exit_if_leads t a = elim (is_running t who) as (λ b. LedTo n i t.locks (if b then exit_deeds t who else []) (if b then exited t who else t)) [
      | true ↦ exit_leads t a
      | false ↦ record { anchored = a; leads = refl }
    ]

  -- the processes up to a number exit
  pub exits_lead : (t : Table) (k : ℕ) → IsAnchored t n i → LedTo n i t.locks (exits_to t n i k) (exited_to t n i k)
  exits_lead t zero a =
      subst (λ (ds : List Deed). LedTo n i t.locks ds (exited_to t n i zero)) (sym (exits_to-zero t n i)) (subst (LedTo n i t.locks []) (sym (exited_to-zero t n i)) (record { anchored = a; leads = refl }))
  exits_lead t (suc k) a =
      let u = exited_to t n i k in
      let p : Process = record { node = n; incarnation = i; pid = suc k } in
      let before = exits_lead t k a in
      let one = exit_if_leads (suc k) u before.anchored in
      subst (λ (ds : List Deed). LedTo n i t.locks ds (exited_to t n i (suc k))) (sym (exits_to-suc t n i k))
      (subst (LedTo n i t.locks (exits_to t n i k ++ exit_deeds_if u p)) (sym (exited_to-suc t n i k))
      (more t.locks (exits_to t n i k) (exit_deeds_if u p) u (exited_if u p) before one.anchored one.leads))
