-- The locks that block a call, of all in order.
use Rattle.std.specs.Prelude.{◌≡◌, ◌⊎◌, ℕ, zero, suc, ◌<◌, Bool, true, false, not, ◌&&◌, ◌==◌, nat_le, List, [], ◌∷◌, All, Contains, filter, get_or, length}
use Rattle.std.proofs.Common.{cond, refl, sym, ap, ◌∙◌, subst, inl, inr, arith}
use Rattle.std.proofs.lemmas.Bool.{both_ways, not-true, and_parts, and_from, not_from_false, false_from_ne_true, eqb-true, eq-eqb, leb-true, le-leb}
use Rattle.std.proofs.lemmas.List.Elements.{All-filter, All-weaker, filter_passes}
use Rattle.std.proofs.lemmas.List.Kept.{AllPairs-filter}
use Rattle.model.specs.declared.lock_info.LockInfo.{LockInfo}
use Rattle.model.specs.declared.owner.Owner.{Owner}
use Rattle.model.specs.rule.Locks.{excludes, IsRegion}
use Rattle.model.specs.rule.Owners.{same_owner}
use Rattle.model.proofs.OwnerLaws.{owner_exact, owner_refl}
use Rattle.lock_table.specs.rule.Tables.{IsBefore}
use Rattle.node_core.specs.declared.open_call.OpenCall.{OpenCall}
use Rattle.cluster_core.specs.declared.held_lock.HeldLock.{HeldLock}
use Rattle.cluster_core.specs.rule.World.{WorldState, has_file}
use Rattle.cluster_core.specs.rule.Union.{union}
use Rattle.cluster_core.specs.rule.Listings.{Lists, IsHeld, IsHeldBefore, IsLockListing, held_lock}
use Rattle.cluster_core.proofs.common.Lists.{All-both, lists_map}
use Rattle.states.specs.rule.States.{IsBlocker}
use Rattle.states.specs.code.Blockers.{blocking_of, is_blocker}

-- what is in a list and passes the test is in what a filter keeps
Contains-filter : {X : Type 0} (p : X → Bool) (xs : List X) (x : X) → Contains xs x → p x ≡ true → Contains (filter p xs) x
Contains-filter p [] x found passes = absurd (let none = found.1 in omega arith)
Contains-filter {X} p (y ∷ ys) x found passes = by found.0 found.1 found.2 (λ later. Contains-filter p ys x later passes)
  where
    front : (b : Bool) → b ≡ true → Contains (cond b (y ∷ filter p ys) (filter p ys)) y
    front true here = (0, omega arith, refl)
    front false here = absurd (both_ways false refl here)

    behind : (b : Bool) → Contains (filter p ys) x → Contains (cond b (y ∷ filter p ys) (filter p ys)) x
    behind true later = (suc later.0, let lt = later.1 in omega arith, later.2)
    behind false later = later

    by : (k : ℕ) → k < length (y ∷ ys) → get_or (y ∷ ys) k x ≡ x → (Contains ys x → Contains (filter p ys) x) → Contains (filter p (y ∷ ys)) x
    by zero lt is rest = subst (λ (z : X). Contains (cond (p y) (y ∷ filter p ys) (filter p ys)) z) is (front (p y) (ap p is ∙ passes))
    by (suc k) lt is rest = behind (p y) (rest (k, omega arith, is))

-- what passes is of the call's file, and blocks it
blocks : (w : WorldState) (c : OpenCall) (h : HeldLock) → IsHeld w h → is_blocker c h ≡ true → (h.file ≡ c.file) × IsBlocker w c h.lock
blocks w c h held is =
    let span_test = nat_le h.lock.span.lo c.span.hi && nat_le c.span.lo h.lock.span.hi in
    let mode_test = excludes h.lock.mode c.mode && span_test in
    let owner_test = not (same_owner h.lock.owner c.owner) && mode_test in
    let file = and_parts (h.file == c.file) owner_test is in
    let other = and_parts (not (same_owner h.lock.owner c.owner)) mode_test file.1 in
    let mode = and_parts (excludes h.lock.mode c.mode) span_test other.1 in
    let span = and_parts (nat_le h.lock.span.lo c.span.hi) (nat_le c.span.lo h.lock.span.hi) mode.1 in
    let same : h.file ≡ c.file = eqb-true h.file c.file file.0 in (
      same,
      record {
        file_in = subst (λ (f : ℕ). has_file w f ≡ true) same held.file_in;
        blocks = record {
          is_other = λ e. both_ways (same_owner h.lock.owner c.owner) (not-true (same_owner h.lock.owner c.owner) other.0) (ap (λ (o : Owner). same_owner o c.owner) e ∙ owner_refl c.owner);
          region = subst (λ (f : ℕ). IsRegion ((union w).locks f) h.lock) same held.region;
          conflicts = mode.0;
          starts = leb-true h.lock.span.lo c.span.hi span.0;
          ends = leb-true c.span.lo h.lock.span.hi span.1;
        };
      },
    )

-- what blocks the call passes
passes : (w : WorldState) (c : OpenCall) (lock : LockInfo) → IsBlocker w c lock → is_blocker c (held_lock c.file lock) ≡ true
passes w c lock b =
    let span_test = nat_le lock.span.lo c.span.hi && nat_le c.span.lo lock.span.hi in
    let mode_test = excludes lock.mode c.mode && span_test in
    let owner_test = not (same_owner lock.owner c.owner) && mode_test in
    let other : same_owner lock.owner c.owner ≡ false = false_from_ne_true (same_owner lock.owner c.owner) (λ e. b.blocks.is_other (owner_exact lock.owner c.owner e)) in
    and_from (c.file == c.file) owner_test (eq-eqb c.file c.file refl)
    (and_from (not (same_owner lock.owner c.owner)) mode_test (not_from_false (same_owner lock.owner c.owner) other)
    (and_from (excludes lock.mode c.mode) span_test b.blocks.conflicts
    (and_from (nat_le lock.span.lo c.span.hi) (nat_le c.span.lo lock.span.hi) (le-leb lock.span.lo c.span.hi b.blocks.starts) (le-leb c.span.lo lock.span.hi b.blocks.ends))))

-- of one file, what comes before begins before, or is of a lesser owner
in_file : (file : ℕ) (a b : HeldLock) → a.file ≡ file → b.file ≡ file → IsHeldBefore a b → IsBefore a.lock b.lock
in_file file a b first second (inl lt) = absurd (omega (arith, lt, first, second))
in_file file a b first second (inr same) = same.1

pub lists_blockers : (w : WorldState) (c : OpenCall) (hs : List HeldLock) → IsLockListing w hs → Lists (IsBlocker w c) IsBefore (blocking_of c hs)
lists_blockers w c hs l =
    let kept : List HeldLock = filter (is_blocker c) hs in
    let all : All (λ (h : HeldLock). (h.file ≡ c.file) × IsBlocker w c h.lock) kept =
    All-both (IsHeld w) (λ (h : HeldLock). is_blocker c h ≡ true) (λ (h : HeldLock). (h.file ≡ c.file) × IsBlocker w c h.lock) (blocks w c) kept (All-filter (is_blocker c) (IsHeld w) hs l.each) (filter_passes (is_blocker c) hs) in
    lists_map (IsBlocker w c) IsBefore (λ (h : HeldLock). h.lock) (held_lock c.file) kept
    (All-weaker (λ (h : HeldLock). (h.file ≡ c.file) × IsBlocker w c h.lock) (λ (h : HeldLock). IsBlocker w c h.lock) (λ h p. p.1) kept all)
    (λ lock b. (Contains-filter (is_blocker c) hs (held_lock c.file lock) (l.complete (held_lock c.file lock) (record { file_in = b.file_in; region = b.blocks.region })) (passes w c lock b), refl))
    (λ i j d lt within. in_file c.file (get_or kept i d) (get_or kept j d) (all i d (omega arith)).0 (all j d within).0 (AllPairs-filter IsHeldBefore (is_blocker c) hs l.rises i j d lt within))
