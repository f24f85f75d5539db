-- The merges of what is left are the ways in which it comes.
use Rattle.std.proofs.Common.{◌≡◌, ℕ, ◌+◌, ◌≤◌, Bool, true, false, ◌&&◌, if◌then◌else◌, refl, sym, subst, ◌∙◌, ap, arith, eq-eqb, List, [], ◌∷◌, All, Option, Some, None, Ok}
use Rattle.std.proofs.lemmas.Bool.{eqb-true}
use Rattle.std.specs.Prelude.{◌==◌}
use Rattle.messages.specs.rule.Shapes.{ShapeFields}
use Rattle.messages.specs.rule.Messages.{addressee}
use Rattle.messages.specs.declared.actor.Actor.{Actor}
use Rattle.messages.specs.declared.actor.Actor.TheVariants.{Node as ANode, Server as AServer}
use Rattle.messages.specs.declared.event.Event.{Event}
use Rattle.messages.specs.declared.event.Event.TheVariants.{AtNode, AtServer, Deliver, Member}
use Rattle.messages.specs.declared.event.MemberEvent.{MemberEvent}
use Rattle.cluster_core.specs.rule.World.{WorldState, first_world}
use Rattle.cluster_core.specs.rule.Next.{next}
use Rattle.merges.specs.declared.logged.Interval.{Interval}
use Rattle.merges.specs.declared.logged.LoggedEntry.{LoggedEntry}
use Rattle.merges.specs.declared.logged.LoggedChange.{LoggedChange}
use Rattle.merges.specs.rule.Merges.{same_actor, takes, ends, part, change_before, changes_of, Logs, IsMerge}
use Rattle.merges.specs.code.Merging.{Merging, begun, current, next_of, Allows, with_left, EntryComes, ChangeComes, Comes, IsDone, MergesFrom}
use Rattle.merges.proofs.Counts.{counts, same_is, is_same, taken_by}
use Rattle.merges.proofs.Parts.{no_change, step_ends_not, part_own, part_other, part_beside, part_past, all_part, all_changes, all_of_parts}

-- what began at that moment may stand before what has these readings
abbrev IsLate : ℕ → ℕ → Interval → Type 0
IsLate skew moment interval = moment ≤ interval.ended + skew

-- the part of an actor that does not take the entry stands behind it
beside : (w : WorldState) (x : LoggedEntry) (v : WorldState) (xs : List LoggedEntry) (b : Actor) (j : ℕ) → next w x.entry.event ≡ Ok (v, x.entry) → takes b x.entry.event ≡ false → part b j (current w b) (x ∷ xs) ≡ part b j (current v b) xs
beside w x v xs b j step other = part_beside b x xs (current w b) j other ∙ ap (λ (k : ℕ). part b j k xs) (sym (counts w x.entry.event (v, x.entry) b step))

-- the actor that takes an entry stays in its incarnation
stays : (w : WorldState) (x : LoggedEntry) (v : WorldState) (a b : Actor) → next w x.entry.event ≡ Ok (v, x.entry) → takes a x.entry.event ≡ true → current v b ≡ current w b
stays w x v a b step own = counts w x.entry.event (v, x.entry) b step ∙ ap (λ (t : Bool). if t then current w b + 1 else current w b) (step_ends_not a b x.entry.event own)

-- another actor does not take it
takes_not : (a b : Actor) (event : Event) → takes a event ≡ true → same_actor a b ≡ false → takes b event ≡ false
takes_not a b event own other =
    elim (takes b event) as (λ t. takes b event ≡ t → t ≡ false) [
      | true ↦ λ is. let clash : true ≡ false = sym (is_same a b ((taken_by a event own).0 ∙ sym (taken_by b event is).0)) ∙ other in absurd (cc)
      | false ↦ λ is. refl
    ] refl

allowed : (skew : ℕ) (m : Merging) (x : LoggedEntry) (xs : List LoggedEntry) → ((a : Actor) (i : ℕ) → part a i (current m.world a) (x ∷ xs) ≡ m.left a i) → changes_of (x ∷ xs) ≡ m.changes → All (λ (y : LoggedEntry). IsLate skew x.interval.began y.interval) (x ∷ xs) → Allows skew m x.interval.began
allowed skew m x xs parts declares late = record {
  entries = λ a i. subst (λ (ys : List LoggedEntry). All (λ (y : LoggedEntry). IsLate skew x.interval.began y.interval) ys) (parts a i) (all_part (λ (y : LoggedEntry). IsLate skew x.interval.began y.interval) a i (current m.world a) (x ∷ xs) late);
  changes = subst (λ (cs : List LoggedChange). All (λ (c : LoggedChange). IsLate skew x.interval.began c.interval) cs) declares (all_changes (IsLate skew x.interval.began) (x ∷ xs) late);
}

late_all : (skew : ℕ) (m : Merging) (x : LoggedEntry) (xs : List LoggedEntry) → ((a : Actor) (i : ℕ) → part a i (current m.world a) (x ∷ xs) ≡ m.left a i) → changes_of (x ∷ xs) ≡ m.changes → Allows skew m x.interval.began → All (λ (y : LoggedEntry). IsLate skew x.interval.began y.interval) (x ∷ xs)
late_all skew m x xs parts declares allows =
    all_of_parts (IsLate skew x.interval.began) (x ∷ xs) (current m.world)
    (λ a i. subst (λ (ys : List LoggedEntry). All (λ (y : LoggedEntry). IsLate skew x.interval.began y.interval) ys) (sym (parts a i)) (allows.entries a i))
    (subst (λ (cs : List LoggedChange). All (λ (c : LoggedChange). IsLate skew x.interval.began c.interval) cs) (sym declares) allows.changes)

-- an entry of an actor
module _ (skew : ℕ) (m : Merging) (a : Actor) (x : LoggedEntry) (v : WorldState) (xs : List LoggedEntry) (own : takes a x.entry.event ≡ true) (step : next m.world x.entry.event ≡ Ok (v, x.entry)) where
  -- the parts behind it are what is left without it, if the parts with it are what is left
  parts_behind : ((b : Actor) (j : ℕ) → part b j (current m.world b) (x ∷ xs) ≡ m.left b j) → (b : Actor) (j : ℕ) → part b j (current v b) xs ≡ with_left m.left a (current m.world a) (part a (current m.world a) (current m.world a) xs) b j
  parts_behind parts b j =
      elim (same_actor a b) as (λ t. same_actor a b ≡ t → part b j (current v b) xs ≡ (if t && (current m.world a == j) then part a (current m.world a) (current m.world a) xs else m.left b j)) [
        | true ↦ λ is.
            subst (λ (c : Actor). part c j (current v c) xs ≡ (if current m.world a == j then part a (current m.world a) (current m.world a) xs else m.left c j)) (same_is a b is)
            (elim (current m.world a == j) as (λ t. (current m.world a == j) ≡ t → part a j (current v a) xs ≡ (if t then part a (current m.world a) (current m.world a) xs else m.left a j)) [
              | true ↦ λ here. (λ i. part a (sym (eqb-true (current m.world a) j here) i) (stays m.world x v a a step own i) xs)
              | false ↦ λ other. ap (λ (k : ℕ). part a j k xs) (stays m.world x v a a step own) ∙ sym (part_other a x xs (current m.world a) j own other) ∙ parts a j
            ] refl)
        | false ↦ λ other. sym (beside m.world x v xs b j step (takes_not a b x.entry.event own other)) ∙ parts b j
      ] refl

  -- and the other way round
  parts_with : (rest : List LoggedEntry) → next_of m a ≡ x ∷ rest → ((b : Actor) (j : ℕ) → part b j (current v b) xs ≡ with_left m.left a (current m.world a) rest b j) → (b : Actor) (j : ℕ) → part b j (current m.world b) (x ∷ xs) ≡ m.left b j
  parts_with rest first parts b j =
      elim (same_actor a b) as (λ t. same_actor a b ≡ t → part b j (current v b) xs ≡ (if t && (current m.world a == j) then rest else m.left b j) → part b j (current m.world b) (x ∷ xs) ≡ m.left b j) [
        | true ↦ λ is.
            subst (λ (c : Actor). part c j (current v c) xs ≡ (if current m.world a == j then rest else m.left c j) → part c j (current m.world c) (x ∷ xs) ≡ m.left c j) (same_is a b is)
            (elim (current m.world a == j) as (λ t. (current m.world a == j) ≡ t → part a j (current v a) xs ≡ (if t then rest else m.left a j) → part a j (current m.world a) (x ∷ xs) ≡ m.left a j) [
              | true ↦ λ here behind.
                  let there : current m.world a ≡ j = eqb-true (current m.world a) j here in
                  let behind_now : part a (current m.world a) (current m.world a) xs ≡ rest = (λ i. part a (there i) (sym (stays m.world x v a a step own) i) xs) ∙ behind in
                  let whole : part a (current m.world a) (current m.world a) (x ∷ xs) ≡ m.left a (current m.world a) = part_own a x xs (current m.world a) own ∙ ap (λ (ys : List LoggedEntry). x ∷ ys) behind_now ∙ sym first in
                  subst (λ (k : ℕ). part a k (current m.world a) (x ∷ xs) ≡ m.left a k) there whole
              | false ↦ λ other behind. part_other a x xs (current m.world a) j own other ∙ ap (λ (k : ℕ). part a j k xs) (sym (stays m.world x v a a step own)) ∙ behind
            ] refl)
        | false ↦ λ other behind. beside m.world x v xs b j step (takes_not a b x.entry.event own other) ∙ behind
      ] refl (parts b j)

peel_entry : (skew : ℕ) (m : Merging) (a : Actor) (x : LoggedEntry) (xs : List LoggedEntry) → takes a x.entry.event ≡ true → MergesFrom skew m (x ∷ xs) → (n : Merging) × EntryComes skew m a x n × MergesFrom skew n xs
peel_entry skew m a x xs own merges =
    let v = merges.leads.0 in
    let now = current m.world a in
    let rest = part a now now xs in
    let n : Merging = record { world = v; left = with_left m.left a now rest; changes = m.changes } in
    let same : changes_of (x ∷ xs) ≡ changes_of xs = no_change a x.entry.event x.interval (changes_of xs) own in (
      n,
      record {
        rest = rest;
        first = sym (merges.parts a now) ∙ part_own a x xs now own;
        own = own;
        allows = allowed skew m x xs merges.parts merges.declares merges.agrees.0;
        step = merges.leads.1;
        left = refl;
        changes = refl;
      },
      record {
        world = merges.world;
        leads = merges.leads.2;
        parts = parts_behind skew m a x v xs own merges.leads.1 merges.parts;
        declares = sym same ∙ merges.declares;
        agrees = merges.agrees.1;
      },
    )

peel_change : (skew : ℕ) (m : Merging) (change : MemberEvent) (x : LoggedEntry) (xs : List LoggedEntry) → x.entry.event ≡ Member change → MergesFrom skew m (x ∷ xs) → (n : Merging) × ChangeComes skew m x n × MergesFrom skew n xs
peel_change skew m change x xs is merges =
    let v = merges.leads.0 in
    let other = λ (b : Actor). ap (takes b) is in (
      record { world = v; left = m.left; changes = changes_of xs },
      record {
        event = change;
        is = is;
        rest = changes_of xs;
        first = sym merges.declares ∙ ap (λ (e : Event). change_before x.interval e (changes_of xs)) is;
        used_up = λ b ended.
            sym (merges.parts b (current m.world b)) ∙ part_beside b x xs (current m.world b) (current m.world b) (other b)
            ∙ ap (λ (t : Bool). part b (current m.world b) (if t then current m.world b + 1 else current m.world b) xs) (ap (ends b) is ∙ ended)
            ∙ part_past b (current m.world b) (current m.world b + 1) xs (omega arith);
        allows = allowed skew m x xs merges.parts merges.declares merges.agrees.0;
        step = ap (next m.world) (sym is) ∙ merges.leads.1;
        left = refl;
        changes = refl;
      },
      record {
        world = merges.world;
        leads = merges.leads.2;
        parts = λ b j. sym (beside m.world x v xs b j merges.leads.1 (other b)) ∙ merges.parts b j;
        declares = refl;
        agrees = merges.agrees.1;
      },
    )

peel_by : (skew : ℕ) (m : Merging) (event : Event) (x : LoggedEntry) (xs : List LoggedEntry) → x.entry.event ≡ event → MergesFrom skew m (x ∷ xs) → (list : Option Actor) × (n : Merging) × Comes skew m list x n × MergesFrom skew n xs
peel_by skew m (AtNode n input) x xs is merges = let it = peel_entry skew m (ANode n) x xs (ap (takes (ANode n)) is ∙ eq-eqb n n refl) merges in (Some (ANode n), it.0, it.1, it.2)
peel_by skew m (AtServer f input) x xs is merges = let it = peel_entry skew m (AServer f) x xs (ap (takes (AServer f)) is ∙ eq-eqb f f refl) merges in (Some (AServer f), it.0, it.1, it.2)
peel_by skew m (Deliver message) x xs is merges = let it = peel_entry skew m (addressee message) x xs (ap (takes (addressee message)) is ∙ is_same (addressee message) (addressee message) refl) merges in (Some (addressee message), it.0, it.1, it.2)
peel_by skew m (Member change) x xs is merges = let it = peel_change skew m change x xs is merges in (None, it.0, it.1, it.2)

-- the first entry of a merge of what is left may come, and the others are a merge of what is left then
pub peel : (skew : ℕ) (m : Merging) (x : LoggedEntry) (xs : List LoggedEntry) → MergesFrom skew m (x ∷ xs) → (list : Option Actor) × (n : Merging) × Comes skew m list x n × MergesFrom skew n xs
peel skew m x xs merges = peel_by skew m x.entry.event x xs refl merges

put_entry : (skew : ℕ) (m n : Merging) (a : Actor) (x : LoggedEntry) (xs : List LoggedEntry) → EntryComes skew m a x n → MergesFrom skew n xs → MergesFrom skew m (x ∷ xs)
put_entry skew m n a x xs c merges =
    let parts = parts_with skew m a x n.world xs c.own c.step c.rest c.first (λ b j. merges.parts b j ∙ ap (λ (left : Logs). left b j) c.left) in
    let declares : changes_of (x ∷ xs) ≡ m.changes = no_change a x.entry.event x.interval (changes_of xs) c.own ∙ merges.declares ∙ c.changes in
    record {
      world = merges.world;
      leads = (n.world, c.step, merges.leads);
      parts = parts;
      declares = declares;
      agrees = (late_all skew m x xs parts declares c.allows, merges.agrees);
    }

put_change : (skew : ℕ) (m n : Merging) (x : LoggedEntry) (xs : List LoggedEntry) → ChangeComes skew m x n → MergesFrom skew n xs → MergesFrom skew m (x ∷ xs)
put_change skew m n x xs c merges =
    let step : next m.world x.entry.event ≡ Ok (n.world, x.entry) = ap (next m.world) c.is ∙ c.step in
    let parts = λ (b : Actor) (j : ℕ). beside m.world x n.world xs b j step (ap (takes b) c.is) ∙ merges.parts b j ∙ ap (λ (left : Logs). left b j) c.left in
    let declares : changes_of (x ∷ xs) ≡ m.changes =
    ap (λ (e : Event). change_before x.interval e (changes_of xs)) c.is ∙ ap (λ (cs : List LoggedChange). record { event = c.event; interval = x.interval } ∷ cs) (merges.declares ∙ c.changes) ∙ sym c.first in
    record {
      world = merges.world;
      leads = (n.world, step, merges.leads);
      parts = parts;
      declares = declares;
      agrees = (late_all skew m x xs parts declares c.allows, merges.agrees);
    }

-- and the other way round
pub put : (skew : ℕ) (m n : Merging) (list : Option Actor) (x : LoggedEntry) (xs : List LoggedEntry) → Comes skew m list x n → MergesFrom skew n xs → MergesFrom skew m (x ∷ xs)
put skew m n None x xs c merges = put_change skew m n x xs c merges
put skew m n (Some a) x xs c merges = put_entry skew m n a x xs c merges

-- where nothing is left, no entries are a merge
pub done_merges : (skew : ℕ) (m : Merging) → IsDone m → MergesFrom skew m []
done_merges skew m done = record { world = m.world; leads = refl; parts = λ a i. sym (done.left a i); declares = sym done.changes; agrees = tt }

pub merged_done : (skew : ℕ) (m : Merging) → MergesFrom skew m [] → IsDone m
merged_done skew m merges = record { left = λ a i. sym (merges.parts a i); changes = sym merges.declares }

first_current : (shape : ShapeFields) (a : Actor) → current (first_world shape) a ≡ 1
first_current shape (ANode n) = refl
first_current shape (AServer f) = refl

pub from_merge : (shape : ShapeFields) (skew : ℕ) (logs : Logs) (declared : List LoggedChange) (xs : List LoggedEntry) → IsMerge shape skew logs declared xs → MergesFrom skew (begun shape logs declared) xs
from_merge shape skew logs declared xs merge = record {
  world = merge.run.0;
  leads = merge.run.1;
  parts = λ a i. ap (λ (k : ℕ). part a i k xs) (first_current shape a) ∙ merge.parts a i;
  declares = merge.declares;
  agrees = merge.agrees;
}

pub to_merge : (shape : ShapeFields) (skew : ℕ) (logs : Logs) (declared : List LoggedChange) (xs : List LoggedEntry) → MergesFrom skew (begun shape logs declared) xs → IsMerge shape skew logs declared xs
to_merge shape skew logs declared xs merges = record {
  run = (merges.world, merges.leads);
  parts = λ a i. ap (λ (k : ℕ). part a i k xs) (sym (first_current shape a)) ∙ merges.parts a i;
  declares = merges.declares;
  agrees = merges.agrees;
}
