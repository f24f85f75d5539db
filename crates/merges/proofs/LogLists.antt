-- A log in a list of logs.
use Rattle.std.proofs.Common.{◌≡◌, ℕ, zero, suc, ◌<◌, Bool, true, false, ◌&&◌, if◌then◌else◌, refl, sym, subst, ◌∙◌, ap, arith, List, [], ◌∷◌, length, All, slice_get, Some}
use Rattle.std.proofs.lemmas.Bool.{and_parts, and_from, both_ways, eqb-true, eq-eqb}
use Rattle.std.proofs.lemmas.Option.{slice_get_within, get_or_from_slice_get}
use Rattle.std.proofs.lemmas.List.Elements.{All-head, All-tail}
use Rattle.std.proofs.lemmas.List.{length-set}
use Rattle.std.specs.Prelude.{◌==◌, slice_set, slice_index_or}
use Rattle.messages.specs.declared.actor.Actor.{Actor}
use Rattle.merges.specs.declared.logged.LoggedEntry.{LoggedEntry}
use Rattle.merges.specs.rule.Merges.{LogFields, AreOfDifferent, same_actor, is_of, log_of}
use Rattle.merges.specs.code.Merging.{with_left, with_entries}
use Rattle.merges.proofs.Counts.{same_is, is_same}
use Rattle.merges.proofs.Swaps.{if_swapped}

others_different : (l : LogFields) (ls : List LogFields) → AreOfDifferent (l ∷ ls) → AreOfDifferent ls
others_different l ls h i j d before within = h (suc i) (suc j) d (omega arith) (omega arith)

first_different : (l : LogFields) (ls : List LogFields) (k : ℕ) (m : LogFields) → AreOfDifferent (l ∷ ls) → slice_get ls k ≡ Some m → is_of l m.actor m.incarnation ≡ false
first_different l ls k m h there =
    let within : k < length ls = slice_get_within ls k m there in
    subst (λ (z : LogFields). is_of l z.actor z.incarnation ≡ false) (get_or_from_slice_get ls k m m there) (h zero (suc k) m (omega arith) (omega arith))

itself : (l : LogFields) → is_of l l.actor l.incarnation ≡ true
itself l = and_from (same_actor l.actor l.actor) (l.incarnation == l.incarnation) (is_same l.actor l.actor refl) (eq-eqb l.incarnation l.incarnation refl)

-- a log that is the same one's
pub named_is : (l : LogFields) (a : Actor) (i : ℕ) → is_of l a i ≡ true → (l.actor ≡ a) × (l.incarnation ≡ i)
named_is l a i h = let two = and_parts (same_actor l.actor a) (l.incarnation == i) h in (same_is l.actor a two.0, eqb-true l.incarnation i two.1)

-- a log in the list is what the list has of its actor and incarnation
pub log_there : (ls : List LogFields) (k : ℕ) (l : LogFields) → AreOfDifferent ls → slice_get ls k ≡ Some l → log_of ls l.actor l.incarnation ≡ l.entries
log_there [] k l h there = let within = slice_get_within [] k l there in absurd (omega arith)
log_there (m ∷ ls) zero l h there =
    let same : m ≡ l = cc in
    subst (λ (z : LogFields). (if is_of m z.actor z.incarnation then m.entries else log_of ls z.actor z.incarnation) ≡ z.entries) same (ap (λ (t : Bool). if t then m.entries else log_of ls m.actor m.incarnation) (itself m))
log_there (m ∷ ls) (suc k) l h there =
    ap (λ (t : Bool). if t then m.entries else log_of ls l.actor l.incarnation) (first_different m ls k l h there) ∙ log_there ls k l (others_different m ls h) there

-- the list with that log's rest in its place
pub log_put : (ls : List LogFields) (k : ℕ) (l : LogFields) (xs : List LoggedEntry) → AreOfDifferent ls → slice_get ls k ≡ Some l → (b : Actor) (j : ℕ) → log_of (slice_set ls k (with_entries l xs)) b j ≡ with_left (log_of ls) l.actor l.incarnation xs b j
log_put [] k l xs h there b j = let within = slice_get_within [] k l there in absurd (omega arith)
log_put (m ∷ ls) zero l xs h there b j =
    let same : m ≡ l = cc in
    subst (λ (z : LogFields). (if is_of z b j then xs else log_of ls b j) ≡ (if is_of z b j then xs else (if is_of m b j then m.entries else log_of ls b j))) same
    (elim (is_of m b j) as (λ t. (if t then xs else log_of ls b j) ≡ (if t then xs else (if t then m.entries else log_of ls b j))) [ true ↦ refl | false ↦ refl ])
log_put (m ∷ ls) (suc k) l xs h there b j =
    ap (λ (ys : List LoggedEntry). if is_of m b j then m.entries else ys) (log_put ls k l xs (others_different m ls h) there b j)
    ∙ sym (if_swapped (is_of l b j) (is_of m b j) xs m.entries (log_of ls b j)
    (λ one two.
    let l_is = named_is l b j one in
    let m_is : is_of m l.actor l.incarnation ≡ true = subst (λ (a : Actor). is_of m a l.incarnation ≡ true) (sym l_is.0) (subst (λ (i : ℕ). is_of m b i ≡ true) (sym l_is.1) two) in
    both_ways (is_of m l.actor l.incarnation) (first_different m ls k l h there) m_is))

-- what holds of no entries, and of each log, holds of what the list has
pub of_logs : (P : List LoggedEntry → Type 0) (ls : List LogFields) → P [] → All (λ (l : LogFields). P l.entries) ls → (a : Actor) (i : ℕ) → P (log_of ls a i)
of_logs P [] none all a i = none
of_logs P (l ∷ ls) none all a i =
    elim (is_of l a i) as (λ t. P (if t then l.entries else log_of ls a i)) [
      | true ↦ All-head (λ (m : LogFields). P m.entries) l ls all
      | false ↦ of_logs P ls none (All-tail (λ (m : LogFields). P m.entries) l ls all) a i
    ]

-- where the list has entries of an actor and an incarnation, it has the log
pub log_at : (ls : List LogFields) (a : Actor) (i : ℕ) (x : LoggedEntry) (xs : List LoggedEntry) → log_of ls a i ≡ x ∷ xs → (k : ℕ) × (l : LogFields) × (slice_get ls k ≡ Some l) × (l.actor ≡ a) × (l.incarnation ≡ i)
log_at [] a i x xs is = absurd (cc)
log_at (l ∷ ls) a i x xs is =
    elim (is_of l a i) as (λ t. is_of l a i ≡ t → (if t then l.entries else log_of ls a i) ≡ x ∷ xs → (k : ℕ) × (m : LogFields) × (slice_get (l ∷ ls) k ≡ Some m) × (m.actor ≡ a) × (m.incarnation ≡ i)) [
      | true ↦ λ here found. let named = named_is l a i here in (zero, l, refl, named.0, named.1)
      | false ↦ λ other found. let rest = log_at ls a i x xs found in (suc rest.0, rest.1, rest.2, rest.3, rest.4)
    ] refl is

-- a log in its place keeps its name
name_kept : (ls : List LogFields) (k : ℕ) (l : LogFields) (xs : List LoggedEntry) → slice_get ls k ≡ Some l → (i : ℕ) (d : LogFields)
    → ((slice_index_or (slice_set ls k (with_entries l xs)) i d).actor ≡ (slice_index_or ls i d).actor) × ((slice_index_or (slice_set ls k (with_entries l xs)) i d).incarnation ≡ (slice_index_or ls i d).incarnation)
name_kept [] k l xs there i d = let within = slice_get_within [] k l there in absurd (omega arith)
name_kept (m ∷ ls) zero l xs there zero d = let same : m ≡ l = cc in (ap (λ (z : LogFields). z.actor) (sym same), ap (λ (z : LogFields). z.incarnation) (sym same))
name_kept (m ∷ ls) zero l xs there (suc i) d = (refl, refl)
name_kept (m ∷ ls) (suc k) l xs there zero d = (refl, refl)
name_kept (m ∷ ls) (suc k) l xs there (suc i) d = name_kept ls k l xs there i d

pub different_put : (ls : List LogFields) (k : ℕ) (l : LogFields) (xs : List LoggedEntry) → AreOfDifferent ls → slice_get ls k ≡ Some l → AreOfDifferent (slice_set ls k (with_entries l xs))
different_put ls k l xs h there i j d before within =
    let one = name_kept ls k l xs there i d in
    let other = name_kept ls k l xs there j d in
    let inside : j < length ls = subst (λ (n : ℕ). j < n) (length-set ls k (with_entries l xs)) within in
    (λ t. same_actor (one.0 t) (other.0 t) && (one.1 t == other.1 t)) ∙ h i j d before inside

-- what holds of all that is left of a log holds of all that is left of it behind its next entry
pub later_put : (ls : List LogFields) (k : ℕ) (l : LogFields) (x : LoggedEntry) (xs : List LoggedEntry) → slice_get ls k ≡ Some l → l.entries ≡ x ∷ xs → (i : ℕ) (d : LogFields) (P : LoggedEntry → Type 0)
    → All P (slice_index_or ls i d).entries → All P (slice_index_or (slice_set ls k (with_entries l xs)) i d).entries
later_put [] k l x xs there first i d P all = let within = slice_get_within [] k l there in absurd (omega arith)
later_put (m ∷ ls) zero l x xs there first zero d P all =
    let same : m ≡ l = cc in
    All-tail P x xs (subst (λ (ys : List LoggedEntry). All P ys) (ap (λ (z : LogFields). z.entries) same ∙ first) all)
later_put (m ∷ ls) zero l x xs there first (suc i) d P all = all
later_put (m ∷ ls) (suc k) l x xs there first zero d P all = all
later_put (m ∷ ls) (suc k) l x xs there first (suc i) d P all = later_put ls k l x xs there first i d P all
