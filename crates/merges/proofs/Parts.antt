-- The parts of the entries of a run, and their first entries.
use Rattle.std.proofs.Common.{◌≡◌, ℕ, ◌+◌, ◌<◌, Bool, true, false, if◌then◌else◌, refl, sym, subst, ◌∙◌, ap, arith, eq-eqb, List, [], ◌∷◌, All}
use Rattle.std.proofs.lemmas.Bool.{ne_eqb}
use Rattle.std.proofs.lemmas.List.Elements.{All-nil, All-cons, All-head, All-tail}
use Rattle.std.specs.Prelude.{◌==◌}
use Rattle.messages.specs.rule.Messages.{addressee}
use Rattle.messages.specs.declared.actor.Actor.{Actor}
use Rattle.messages.specs.declared.actor.Actor.TheVariants.{Node as ANode, Server as AServer}
use Rattle.messages.specs.declared.event.Event.{Event}
use Rattle.messages.specs.declared.event.Event.TheVariants.{AtNode, AtServer, Deliver, Member}
use Rattle.cluster_core.proofs.common.Choices.{if_either}
use Rattle.merges.specs.declared.logged.Interval.{Interval}
use Rattle.merges.specs.declared.logged.LoggedEntry.{LoggedEntry}
use Rattle.merges.specs.declared.logged.LoggedChange.{LoggedChange}
use Rattle.merges.specs.rule.Merges.{takes, ends, part, change_before, changes_of}
use Rattle.merges.proofs.Counts.{is_same}

-- a step ends nobody
pub step_ends_not : (a b : Actor) (event : Event) → takes a event ≡ true → ends b event ≡ false
step_ends_not a b (AtNode n input) own = refl
step_ends_not a b (AtServer f input) own = refl
step_ends_not a b (Deliver m) own = refl
step_ends_not a b (Member change) own = absurd (cc)

pub no_change : (a : Actor) (event : Event) (interval : Interval) (rest : List LoggedChange) → takes a event ≡ true → change_before interval event rest ≡ rest
no_change a (AtNode n input) interval rest own = refl
no_change a (AtServer f input) interval rest own = refl
no_change a (Deliver m) interval rest own = refl
no_change a (Member change) interval rest own = absurd (cc)

-- the incarnation after an event, from the one before it
abbrev pub after : Actor → Event → ℕ → ℕ
after a event now = if ends a event then now + 1 else now

pub part_own : (a : Actor) (x : LoggedEntry) (xs : List LoggedEntry) (now : ℕ) → takes a x.entry.event ≡ true → part a now now (x ∷ xs) ≡ x ∷ part a now now xs
part_own a x xs now own = λ i. if own i then (if eq-eqb now now refl i then x ∷ part a now now xs else part a now now xs) else part a now (after a x.entry.event now) xs

pub part_other : (a : Actor) (x : LoggedEntry) (xs : List LoggedEntry) (now j : ℕ) → takes a x.entry.event ≡ true → (now == j) ≡ false → part a j now (x ∷ xs) ≡ part a j now xs
part_other a x xs now j own other = λ i. if own i then (if other i then x ∷ part a j now xs else part a j now xs) else part a j (after a x.entry.event now) xs

pub part_beside : (a : Actor) (x : LoggedEntry) (xs : List LoggedEntry) (now j : ℕ) → takes a x.entry.event ≡ false → part a j now (x ∷ xs) ≡ part a j (after a x.entry.event now) xs
part_beside a x xs now j other = λ i. if other i then (if now == j then x ∷ part a j now xs else part a j now xs) else part a j (after a x.entry.event now) xs

below_after : (i now : ℕ) (b : Bool) → i < now → i < (if b then now + 1 else now)
below_after i now true below = omega arith
below_after i now false below = below

different : (i now : ℕ) → i < now → now ≡ i → ⊥
different i now below same = omega arith

-- of an incarnation that is over nothing comes
pub part_past : (a : Actor) (i now : ℕ) (xs : List LoggedEntry) → i < now → part a i now xs ≡ []
part_past a i now [] below = refl
part_past a i now (x ∷ xs) below =
    elim (takes a x.entry.event) as (λ t. takes a x.entry.event ≡ t → part a i now (x ∷ xs) ≡ []) [
      | true ↦ λ own. part_other a x xs now i own (ne_eqb now i (different i now below)) ∙ part_past a i now xs below
      | false ↦ λ other. part_beside a x xs now i other ∙ part_past a i (after a x.entry.event now) xs (below_after i now (ends a x.entry.event) below)
    ] refl

-- what holds of all holds of each part
pub all_part : (P : LoggedEntry → Type 0) (a : Actor) (i now : ℕ) (xs : List LoggedEntry) → All P xs → All P (part a i now xs)
all_part P a i now [] all = All-nil P
all_part P a i now (x ∷ xs) all =
    let rest = All-tail P x xs all in
    let here = all_part P a i now xs rest in
    if_either (λ (ys : List LoggedEntry). All P ys) (takes a x.entry.event) (if now == i then x ∷ part a i now xs else part a i now xs) (part a i (after a x.entry.event now) xs)
    (if_either (λ (ys : List LoggedEntry). All P ys) (now == i) (x ∷ part a i now xs) (part a i now xs) (All-cons P x (part a i now xs) (All-head P x xs all) here) here)
    (all_part P a i (after a x.entry.event now) xs rest)

-- what holds of two readings of a clock holds at an entry, and at a declaration or a start
module _ (P : Interval → Type 0) where
  abbrev pub OfEntries : List LoggedEntry → Type 0
  OfEntries xs = All (λ (y : LoggedEntry). P y.interval) xs

  abbrev pub OfChanges : List LoggedChange → Type 0
  OfChanges cs = All (λ (c : LoggedChange). P c.interval) cs

  change_holds : (interval : Interval) (event : Event) (cs : List LoggedChange) → P interval → OfChanges cs → OfChanges (change_before interval event cs)
  change_holds interval (AtNode n input) cs here all = all
  change_holds interval (AtServer f input) cs here all = all
  change_holds interval (Deliver m) cs here all = all
  change_holds interval (Member change) cs here all = All-cons (λ (c : LoggedChange). P c.interval) (record { event = change; interval = interval }) cs here all

  pub all_changes : (xs : List LoggedEntry) → OfEntries xs → OfChanges (changes_of xs)
  all_changes [] all = All-nil (λ (c : LoggedChange). P c.interval)
  all_changes (x ∷ xs) all = change_holds x.interval x.entry.event (changes_of xs) (All-head (λ (y : LoggedEntry). P y.interval) x xs all) (all_changes xs (All-tail (λ (y : LoggedEntry). P y.interval) x xs all))

  changes_behind : (interval : Interval) (event : Event) (cs : List LoggedChange) → OfChanges (change_before interval event cs) → OfChanges cs
  changes_behind interval (AtNode n input) cs all = all
  changes_behind interval (AtServer f input) cs all = all
  changes_behind interval (Deliver m) cs all = all
  changes_behind interval (Member change) cs all = All-tail (λ (c : LoggedChange). P c.interval) (record { event = change; interval = interval }) cs all

  part_behind : (a : Actor) (x : LoggedEntry) (xs : List LoggedEntry) (now i : ℕ) → OfEntries (part a i now (x ∷ xs)) → OfEntries (part a i (after a x.entry.event now) xs)
  part_behind a x xs now i all =
      elim (takes a x.entry.event) as (λ t. takes a x.entry.event ≡ t → OfEntries (part a i (after a x.entry.event now) xs)) [
        | true ↦ λ own.
            let same : now ≡ after a x.entry.event now = λ k. if sym (step_ends_not a a x.entry.event own) k then now + 1 else now in
            elim (now == i) as (λ t. (now == i) ≡ t → OfEntries (part a i (after a x.entry.event now) xs)) [
              | true ↦ λ here.
                  let first : part a i now (x ∷ xs) ≡ x ∷ part a i now xs = λ k. if own k then (if here k then x ∷ part a i now xs else part a i now xs) else part a i (after a x.entry.event now) xs in
                  subst (λ (k : ℕ). OfEntries (part a i k xs)) same (All-tail (λ (y : LoggedEntry). P y.interval) x (part a i now xs) (subst OfEntries first all))
              | false ↦ λ other. subst (λ (k : ℕ). OfEntries (part a i k xs)) same (subst OfEntries (part_other a x xs now i own other) all)
            ] refl
        | false ↦ λ other. subst OfEntries (part_beside a x xs now i other) all
      ] refl

  first_of : (a : Actor) (x : LoggedEntry) (xs : List LoggedEntry) (now : ℕ) → takes a x.entry.event ≡ true → OfEntries (part a now now (x ∷ xs)) → P x.interval
  first_of a x xs now own all = All-head (λ (y : LoggedEntry). P y.interval) x (part a now now xs) (subst OfEntries (part_own a x xs now own) all)

  first_holds : (x : LoggedEntry) (xs : List LoggedEntry) (now : Actor → ℕ) (event : Event) → x.entry.event ≡ event → ((a : Actor) (i : ℕ) → OfEntries (part a i (now a) (x ∷ xs))) → OfChanges (change_before x.interval event (changes_of xs)) → P x.interval
  first_holds x xs now (AtNode n input) is parts changes = first_of (ANode n) x xs (now (ANode n)) (ap (takes (ANode n)) is ∙ eq-eqb n n refl) (parts (ANode n) (now (ANode n)))
  first_holds x xs now (AtServer f input) is parts changes = first_of (AServer f) x xs (now (AServer f)) (ap (takes (AServer f)) is ∙ eq-eqb f f refl) (parts (AServer f) (now (AServer f)))
  first_holds x xs now (Deliver m) is parts changes = first_of (addressee m) x xs (now (addressee m)) (ap (takes (addressee m)) is ∙ is_same (addressee m) (addressee m) refl) (parts (addressee m) (now (addressee m)))
  first_holds x xs now (Member change) is parts changes = All-head (λ (c : LoggedChange). P c.interval) (record { event = change; interval = x.interval }) (changes_of xs) changes

  -- what holds of all parts, and of the declarations and starts, holds of all
  pub all_of_parts : (xs : List LoggedEntry) (now : Actor → ℕ) → ((a : Actor) (i : ℕ) → OfEntries (part a i (now a) xs)) → OfChanges (changes_of xs) → OfEntries xs
  all_of_parts [] now parts changes = All-nil (λ (y : LoggedEntry). P y.interval)
  all_of_parts (x ∷ xs) now parts changes =
      All-cons (λ (y : LoggedEntry). P y.interval) x xs
      (first_holds x xs now x.entry.event refl parts changes)
      (all_of_parts xs (λ a. after a x.entry.event (now a)) (λ a i. part_behind a x xs (now a) i (parts a i)) (changes_behind x.interval x.entry.event (changes_of xs) changes))
