-- The locks of a cluster, node by node and file by file.
use Rattle.std.specs.Prelude.{◌≡◌, ℕ, ◌+◌, ◌<◌, ◌≤◌, true, false, ◌==◌, nat_le, if◌then◌else◌, List, [], ◌++◌, map}
use Rattle.std.proofs.Common.{refl, sym, ap, ◌∙◌, subst, inl, inr, arith}
use Rattle.std.proofs.lemmas.Bool.{and_left, and_right, cases_Bool, cases_order, le-leb, lt-leb, leb-true, leb-false, both_ways}
use Rattle.std.proofs.lemmas.List.Elements.{All-weaker}
use Rattle.intervals.specs.rule.Bytes.{nothing}
use Rattle.model.specs.declared.owner.Owner.{Owner}
use Rattle.model.specs.declared.lock_info.LockInfo.{LockInfo}
use Rattle.model.specs.rule.Locks.{FileLocks, IsRegion, IsOfNode}
use Rattle.lock_table.specs.rule.Tables.{IsListing, ListsRegions}
use Rattle.lock_table.proofs.BlockerLemmas.{IsJoin}
use Rattle.lock_table.proofs.ListingLemmas.{lists_none, lists_join, lists_listing}
use Rattle.node_core.specs.rule.State.{NodeState}
use Rattle.cluster_core.specs.declared.held_lock.HeldLock.{HeldLock}
use Rattle.cluster_core.specs.rule.World.{WorldState, has_node, has_file, is_live}
use Rattle.cluster_core.specs.rule.Union.{union}
use Rattle.cluster_core.specs.rule.Listings.{Lists, Adds, IsHeld, IsHeldBefore, IsLockListing, held_lock}
use Rattle.cluster_core.proofs.common.Numbered.{within_is}
use Rattle.cluster_core.proofs.history.Unions.{live_at, none_held}
use Rattle.cluster_core.proofs.common.Lists.{lists_map, adds_all, IsUpTo, adds_first, adds_next, adds_last}

-- the locks of the first nodes' owners in a file
abbrev pub first_locks : WorldState → ℕ → ℕ → FileLocks
first_locks w file i o = if nat_le o.node i then (union w).locks file o else nothing

-- an owner of a node that is not there holds nothing
none_there : (w : WorldState) (file : ℕ) (o : Owner) → has_node w o.node ≡ false → (union w).locks file o ≡ nothing
none_there w file o out = rw (and_left (has_node w o.node) (o.incarnation == (w.nodes o.node).incarnation) out) refl

below_all : (w : WorldState) (n : ℕ) → n < 1 → has_node w n ≡ false
below_all w n lt = and_left (nat_le 1 n) (nat_le n w.shape.nodes) (lt-leb 1 n lt)

past_all : (w : WorldState) (n : ℕ) → w.shape.nodes < n → has_node w n ≡ false
past_all w n lt = and_right (nat_le 1 n) (nat_le n w.shape.nodes) (lt-leb n w.shape.nodes lt)

pub no_regions : (w : WorldState) (file : ℕ) → ListsRegions (first_locks w file 0) []
no_regions w file = subst (λ (h : FileLocks). ListsRegions h []) (λ i o. none o i) lists_none
  where
    none : (o : Owner) → nothing ≡ first_locks w file 0 o
    none o = elim (cases_Bool (nat_le o.node 0)) [
      | inl h ↦ rw h (sym (none_there w file o (below_all w o.node (let le = leb-true o.node 0 h in omega arith))))
      | inr h ↦ rw h refl
    ]

-- the locks of one more node
module _ (w : WorldState) (file i : ℕ) (there : has_node w (i + 1) ≡ true) (named : (w.nodes (i + 1)).node ≡ i + 1) (own : IsOfNode ((w.nodes (i + 1)).table.locks file) (w.nodes (i + 1)).node (w.nodes (i + 1)).incarnation) where
  abbrev own_locks : FileLocks
  own_locks = (w.nodes (i + 1)).table.locks file

  others : (o : Owner) → (o.node ≡ i + 1 → ⊥) → own_locks o ≡ nothing
  others o other = sym (none_held own_locks (w.nodes (i + 1)).node (w.nodes (i + 1)).incarnation o own (λ node incarnation. other (node ∙ named)))

  dead : (o : Owner) → is_live w o.node o.incarnation ≡ false → o.node ≡ (w.nodes (i + 1)).node → o.incarnation ≡ (w.nodes (i + 1)).incarnation → ⊥
  dead o not_live node incarnation =
      let same : o.node ≡ i + 1 = node ∙ named in
      both_ways (is_live w o.node o.incarnation) not_live (live_at w (i + 1) o.node o.incarnation there same incarnation)

  of_node : (o : Owner) → o.node ≡ i + 1 → (union w).locks file o ≡ own_locks o
  of_node o is = elim (cases_Bool (is_live w o.node o.incarnation)) [
    | inl live ↦ rw live (ap (λ (j : ℕ). (w.nodes j).table.locks file o) is)
    | inr not_live ↦ rw not_live (none_held own_locks (w.nodes (i + 1)).node (w.nodes (i + 1)).incarnation o own (dead o not_live))
  ]

  join : IsJoin (first_locks w file i) own_locks (first_locks w file (i + 1))
  join o = elim (cases_order o.node (i + 1)) [
    | inl is ↦ inr (rw (le-leb o.node (i + 1) (omega (arith, is))) (of_node o is), rw (lt-leb o.node i (omega (arith, is))) refl)
    | inr (inl lt) ↦ inl (rw (le-leb o.node (i + 1) (omega arith), le-leb o.node i (omega arith)) refl, others o (λ is. absurd (omega (arith, is))))
    | inr (inr gt) ↦ inl (rw (lt-leb o.node (i + 1) gt, lt-leb o.node i (omega arith)) refl, others o (λ is. absurd (omega (arith, is))))
  ]

  next_regions : (xs ys : List LockInfo) → ListsRegions (first_locks w file i) xs → IsListing own_locks ys → ListsRegions (first_locks w file (i + 1)) (xs ++ ys)
  next_regions xs ys p q = lists_join (first_locks w file i) own_locks (first_locks w file (i + 1)) xs ys join p (lists_listing own_locks ys q)

pub more_regions : (w : WorldState) (file i : ℕ) (s : NodeState) (xs ys zs : List LockInfo) → has_node w (i + 1) ≡ true → (w.nodes (i + 1)).node ≡ i + 1 → s ≡ w.nodes (i + 1) → IsOfNode (s.table.locks file) s.node s.incarnation → IsListing (s.table.locks file) ys → ListsRegions (first_locks w file i) xs → zs ≡ xs ++ ys → ListsRegions (first_locks w file (i + 1)) zs
more_regions w file i s xs ys zs there named is own listing lists made =
    let owners = subst (λ (x : NodeState). IsOfNode (x.table.locks file) x.node x.incarnation) is own in
    let regions = subst (λ (x : NodeState). IsListing (x.table.locks file) ys) is listing in
    subst (ListsRegions (first_locks w file (i + 1))) (sym made) (next_regions w file i there named owners xs ys lists regions)

pub all_regions : (w : WorldState) (file i : ℕ) (xs : List LockInfo) → w.shape.nodes ≤ i → ListsRegions (first_locks w file i) xs → ListsRegions ((union w).locks file) xs
all_regions w file i xs past lists = subst (λ (h : FileLocks). ListsRegions h xs) (λ j o. all o j) lists
  where
    all : (o : Owner) → first_locks w file i o ≡ (union w).locks file o
    all o = elim (cases_Bool (nat_le o.node i)) [
      | inl h ↦ rw h refl
      | inr h ↦ rw h (sym (none_there w file o (past_all w o.node (let lt = leb-false o.node i h in omega arith))))
    ]

-- a lock of one file
abbrev pub IsHeldIn : WorldState → ℕ → HeldLock → Type 0
IsHeldIn w file h = IsHeld w h × (h.file ≡ file)

file_lists : (w : WorldState) (file : ℕ) (locks : List LockInfo) → has_file w file ≡ true → IsListing ((union w).locks file) locks → Lists (IsHeldIn w file) IsHeldBefore (map (held_lock file) locks)
file_lists w file locks within l = lists_map (IsHeldIn w file) IsHeldBefore (held_lock file) (λ h. h.lock) locks
    (All-weaker (IsRegion ((union w).locks file)) (λ lock. IsHeldIn w file (held_lock file lock)) (λ lock region. (record { file_in = within; region = region }, refl)) locks l.regions)
    (λ h is. (l.complete h.lock (subst (λ (f : ℕ). IsRegion ((union w).locks f) h.lock) is.1 is.0.region), let same = sym is.1 in λ i. record { file = same i; lock = h.lock }))
    (λ i j d lt inside. inr (refl, l.rises i j d lt inside))

pub adds_locks : (w : WorldState) (file : ℕ) (locks : List LockInfo) (old new : List HeldLock) → has_file w file ≡ true → IsListing ((union w).locks file) locks → new ≡ old ++ map (held_lock file) locks → Adds (IsHeldIn w file) IsHeldBefore old new
adds_locks w file locks old new within l made = (map (held_lock file) locks, made, file_lists w file locks within l)

-- a lock of one of the first files
abbrev pub IsHeldInFirst : WorldState → ℕ → HeldLock → Type 0
IsHeldInFirst w = IsUpTo (IsHeld w) (λ (h : HeldLock). h.file)

pub held_none : (w : WorldState) (old : List HeldLock) → Adds (IsHeldInFirst w 0) IsHeldBefore old old
held_none w old = adds_first (IsHeld w) (λ (h : HeldLock). h.file) IsHeldBefore old (λ h is. (within_is w.shape.files h.file is.file_in).0)

pub held_next : (w : WorldState) (i : ℕ) (old mid new : List HeldLock) → Adds (IsHeldInFirst w i) IsHeldBefore old mid → Adds (IsHeldIn w (i + 1)) IsHeldBefore mid new → Adds (IsHeldInFirst w (i + 1)) IsHeldBefore old new
held_next w i old mid new = adds_next (IsHeld w) (λ (h : HeldLock). h.file) IsHeldBefore i old mid new (λ h k is next lt. inl lt)

pub held_all : (w : WorldState) (i : ℕ) (locks : List HeldLock) → w.shape.files ≤ i → Adds (IsHeldInFirst w i) IsHeldBefore [] locks → IsLockListing w locks
held_all w i locks past adds =
    adds_all (IsHeld w) IsHeldBefore locks
    (adds_last (IsHeld w) (λ (h : HeldLock). h.file) IsHeldBefore i [] locks (λ h is. let most = (within_is w.shape.files h.file is.file_in).1 in omega arith) adds)
