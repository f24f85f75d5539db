-- What blocks say, one behind the other.
use Rattle.std.proofs.Common.{◌≡◌, ℕ, ◌+◌, ◌<◌, ◌==◌, Bool, true, false, List, [], ◌∷◌, ◌++◌, Option, Some, None, refl, sym, ap, subst, ◌∙◌, append-nil, append_assoc, arith, if◌then◌else◌, inl, inr, ◌≤◌}
use Rattle.std.specs.Prelude.{OnOk, Result, Ok, Err}
use Rattle.messages.specs.declared.actor.Actor.{Actor}
use Rattle.merges.specs.declared.logged.LoggedChange.{LoggedChange}
use Rattle.merges.specs.declared.logged.LoggedEntry.{LoggedEntry}
use Rattle.merges.specs.rule.Merges.{LogFields, is_of, log_of, same_actor}
use Rattle.messages.specs.declared.actor.Actor.TheVariants.{Node, Server}
use Rattle.std.proofs.lemmas.Bool.{eq-eqb, eqb-true}
use Rattle.std.proofs.lemmas.Bool.Decides.{eqb_tells}
use Rattle.std.proofs.Math.Bool.{and-false}
use Rattle.std.proofs.lemmas.List.{map-append}
use Rattle.std.proofs.lemmas.List.Elements.{All-head, All-push, All-tail}
use Rattle.seat_text.specs.declared.block.Block.{Block}
use Rattle.seat_text.specs.rule.Logs.{steps_of, AreMadeThere, behind, change_of, changed, changes_of, entries_in, interval_of, logged, now_behind, where_in}
use Rattle.seat_text.specs.declared.block.LogChange.{LogChange}
use Rattle.seat_text.specs.declared.block.LogStep.{LogStep}
use Rattle.merges.specs.declared.logged.Interval.{Interval}
use Rattle.seat_text.specs.code.Parts.{AreParts, Changes, IsOpen, Lacks, Makes, Moves, Takes, held, now_after}
use Rattle.seat_text.specs.declared.parts.Parts.{Parts}

-- what comes of a result that is the last one
pub on_ok : {T E : Type 0} (r : Result T E) (P Q : Type 0) → (P → Q) → OnOk r P → OnOk r Q
on_ok (Ok x) P Q f p = f p
on_ok (Err e) P Q f p = tt

if_append : (b : Bool) (xs ys : List LoggedEntry) → (if b then xs ++ ys else []) ≡ (if b then xs else []) ++ (if b then ys else [])
if_append true xs ys = refl
if_append false xs ys = refl

pub where_append : (now : Option ℕ) (i : ℕ) (xs ys : List LoggedEntry) → where_in now i (xs ++ ys) ≡ where_in now i xs ++ where_in now i ys
where_append None i xs ys = refl
where_append (Some n) i xs ys = if_append (n == i) xs ys

if_nothing : (b : Bool) (xs : List LoggedEntry) → xs ≡ [] → (if b then xs else []) ≡ []
if_nothing true xs none = none
if_nothing false xs none = refl

pub where_nothing : (now : Option ℕ) (i : ℕ) (xs : List LoggedEntry) → xs ≡ [] → where_in now i xs ≡ []
where_nothing None i xs none = refl
where_nothing (Some n) i xs none = if_nothing (n == i) xs none

pub now_more : (a : Actor) (now : Option ℕ) (bs : List Block) (b : Block) → now_after a now (bs ++ b ∷ []) ≡ now_behind a (now_after a now bs) (change_of b.said)
now_more a now [] b = refl
now_more a now (x ∷ bs) b = now_more a (now_behind a now (change_of x.said)) bs b

pub changes_more : (bs : List Block) (b : Block) → changes_of (bs ++ b ∷ []) ≡ changes_of bs ++ changes_of (b ∷ [])
changes_more [] b = refl
changes_more (x ∷ bs) b = rw (changes_more bs b) (sym (append_assoc _ (changes_of bs) (changes_of (b ∷ []))))

pub entries_more : (a : Actor) (now : Option ℕ) (i : ℕ) (bs : List Block) (b : Block) → entries_in a now i (bs ++ b ∷ []) ≡ entries_in a now i bs ++ entries_in a (now_after a now bs) i (b ∷ [])
entries_more a now i [] b = refl
entries_more a now i (x ∷ bs) b =
    let here : Option ℕ = now_behind a now (change_of x.said) in
    rw (entries_more a here i bs b) (sym (append_assoc _ (entries_in a here i bs) (entries_in a (now_after a here bs) i (b ∷ []))))

pub there_more : (a : Actor) (now : Option ℕ) (bs : List Block) (b : Block) → AreMadeThere a now bs → AreMadeThere a (now_after a now bs) (b ∷ []) → AreMadeThere a now (bs ++ b ∷ [])
there_more a now [] b all last = last
there_more a now (x ∷ bs) b all last = (all.0, there_more a (now_behind a now (change_of x.said)) bs b all.1 last)

pub takes_none : (a : Parts) → AreParts a → Takes a [] a
takes_none a good = record { same_actor = refl; now_is = refl; told = sym (append-nil a.changes.items); made = λ i. sym (append-nil (held a i)); there = tt; good = good }

pub takes_more : (a b c : Parts) (bs : List Block) (x : Block) → Takes a bs b → Takes b (x ∷ []) c → Takes a (bs ++ x ∷ []) c
takes_more a b c bs x first last =
    let actor = first.same_actor in
    let now = first.now_is in
    record {
      same_actor = last.same_actor ∙ actor;
      now_is = last.now_is ∙ rw (actor, now) (sym (now_more a.actor a.current bs x));
      told = last.told ∙ rw first.told (append_assoc a.changes.items (changes_of bs) (changes_of (x ∷ [])) ∙ ap (λ (r : List LoggedChange). a.changes.items ++ r) (sym (changes_more bs x)));
      made = λ i.
          last.made i
          ∙ ap (λ (r : List LoggedEntry). r ++ entries_in b.actor b.current i (x ∷ [])) (first.made i)
          ∙ ap (λ (y : Actor). (held a i ++ entries_in a.actor a.current i bs) ++ entries_in y b.current i (x ∷ [])) actor
          ∙ ap (λ (y : Option ℕ). (held a i ++ entries_in a.actor a.current i bs) ++ entries_in a.actor y i (x ∷ [])) now
          ∙ append_assoc (held a i) (entries_in a.actor a.current i bs) (entries_in a.actor (now_after a.actor a.current bs) i (x ∷ []))
          ∙ ap (λ (r : List LoggedEntry). held a i ++ r) (sym (entries_more a.actor a.current i bs x));
      there = there_more a.actor a.current bs x first.there (rw (actor, now) at last.there);
      good = last.good;
    }

pub takes_block : (a m b : Parts) (x : Block) → Changes a (interval_of x.clock) (change_of x.said) m → Makes m (interval_of x.clock) (steps_of x.said) b → Takes a (x ∷ []) b
takes_block a m b x ch made =
    record {
      same_actor = made.same_actor ∙ ch.same_actor;
      now_is = made.same_now ∙ ch.now_is;
      told = made.same_changes ∙ ch.told ∙ ap (λ (r : List LoggedChange). a.changes.items ++ r) (sym (append-nil (changed (interval_of x.clock) (change_of x.said))));
      made = λ i.
          made.made i
          ∙ ap (λ (r : List LoggedEntry). r ++ where_in m.current i (logged (interval_of x.clock) (steps_of x.said))) (ch.same_entries i)
          ∙ ap (λ (y : Option ℕ). held a i ++ where_in y i (logged (interval_of x.clock) (steps_of x.said))) ch.now_is
          ∙ ap (λ (r : List LoggedEntry). held a i ++ r) (sym (append-nil (where_in (now_behind a.actor a.current (change_of x.said)) i (logged (interval_of x.clock) (steps_of x.said)))));
      there = ((λ none. made.there (ch.now_is ∙ none)), tt);
      good = made.good;
    }

-- what a block says was taken
pub takes_did : (a m b : Parts) (x : Block) (interval : Interval) (change : Option LogChange) (steps : List LogStep) → interval ≡ interval_of x.clock → change_of x.said ≡ change → steps_of x.said ≡ steps
    → Changes a interval change m → Makes m interval steps b → Takes a (x ∷ []) b
takes_did a m b x interval change steps when told made ch mk =
    let changes : Changes a (interval_of x.clock) (change_of x.said) m =
    subst (λ (i : Interval). Changes a i (change_of x.said) m) when (subst (λ (o : Option LogChange). Changes a interval o m) (sym told) ch) in
    let makes : Makes m (interval_of x.clock) (steps_of x.said) b = subst (λ (i : Interval). Makes m i (steps_of x.said) b) when (subst (λ (l : List LogStep). Makes m interval l b) (sym made) mk) in
    takes_block a m b x changes makes

-- a block without anything in it
pub takes_nothing : (a : Parts) (x : Block) → AreParts a → change_of x.said ≡ None → steps_of x.said ≡ [] → Takes a (x ∷ []) a
takes_nothing a x good no_change no_step =
    takes_block a a a x
    (record { same_actor = refl; now_is = rw no_change refl; told = rw no_change (sym (append-nil a.changes.items)); same_entries = λ i. refl; good = good })
    (record {
      same_actor = refl;
      same_now = refl;
      same_changes = refl;
      made = λ i. rw (no_step, where_nothing a.current i (logged (interval_of x.clock) []) refl) (sym (append-nil (held a i)));
      there = λ none. no_step;
      good = good;
    })

-- a declaration or a start that is told, and then moves the actor
pub changes_by : (a p b : Parts) (interval : Interval) (change : LogChange) (now : Option ℕ)
    → p ≡ record a { changes = p.changes } → p.changes.items ≡ a.changes.items ++ changed interval (Some change) → Moves p now b → behind a.actor a.current change.event change.incarnation ≡ now → Changes a interval (Some change) b
changes_by a p b interval change now same told moves is =
    record {
      same_actor = moves.same_actor ∙ ap (λ (q : Parts). q.actor) same;
      now_is = moves.now_is ∙ sym is;
      told = moves.same_changes ∙ told;
      same_entries = λ i. moves.same_entries i ∙ ap (λ (q : Parts). held q i) same;
      good = moves.good;
    }

-- a log more is found by its name, where none before it has that name
pub log_more : (ls : List LogFields) (l : LogFields) (a : Actor) (i : ℕ) → Lacks a ls i → log_of (ls ++ l ∷ []) a i ≡ log_of (l ∷ []) a i
log_more [] l a i none = refl
log_more (k ∷ ls) l a i none = rw (All-head (λ (x : LogFields). is_of x a i ≡ false) k ls none) (log_more ls l a i (All-tail (λ (x : LogFields). is_of x a i ≡ false) k ls none))

-- and by no other
pub log_other : (ls : List LogFields) (l : LogFields) (a : Actor) (i : ℕ) → is_of l a i ≡ false → log_of (ls ++ l ∷ []) a i ≡ log_of ls a i
log_other [] l a i other = rw other refl
log_other (k ∷ ls) l a i other = rw (log_other ls l a i other) refl

pub none_found : (ls : List LogFields) (a : Actor) (i : ℕ) → Lacks a ls i → log_of ls a i ≡ []
none_found [] a i none = refl
none_found (k ∷ ls) a i none = rw (All-head (λ (x : LogFields). is_of x a i ≡ false) k ls none) (none_found ls a i (All-tail (λ (x : LogFields). is_of x a i ≡ false) k ls none))

is_same : (a b : Actor) → a ≡ b → same_actor a b ≡ true
is_same (Node n) b is = subst (λ (c : Actor). same_actor (Node n) c ≡ true) is (eq-eqb n n refl)
is_same (Server f) b is = subst (λ (c : Actor). same_actor (Server f) c ≡ true) is (eq-eqb f f refl)

log_here : (ls : List LogFields) (l : LogFields) (a : Actor) (i : ℕ) (t : Bool) → same_actor l.actor a ≡ true → (l.incarnation == i) ≡ t → (t ≡ true → Lacks a ls i)
    → log_of (ls ++ l ∷ []) a i ≡ log_of ls a i ++ (if t then l.entries else [])
log_here ls l a i true own same lacks =
    let here : is_of l a i ≡ true = rw (own, same) refl in
    log_more ls l a i (lacks refl) ∙ rw (here, none_found ls a i (lacks refl)) refl
log_here ls l a i false own same lacks =
    let other : is_of l a i ≡ false = rw (own, same) refl in
    log_other ls l a i other ∙ sym (append-nil (log_of ls a i))

-- a log of an incarnation that had none is what is found of it
pub log_pushed : (ls : List LogFields) (l : LogFields) (a : Actor) (i : ℕ) → l.actor ≡ a → Lacks a ls l.incarnation → log_of (ls ++ l ∷ []) a i ≡ log_of ls a i ++ where_in (Some l.incarnation) i l.entries
log_pushed ls l a i own lacks =
    log_here ls l a i (l.incarnation == i) (is_same l.actor a own) refl
    (λ same. subst (λ (k : ℕ). Lacks a ls k) (eqb-true l.incarnation i same) lacks)

other_later : (l : LogFields) (a : Actor) (last i : ℕ) → l.incarnation ≤ last → last < i → is_of l a i ≡ false
other_later l a last i within later = elim (eqb_tells l.incarnation i) [
  | inl same ↦ absurd (omega (arith, same.1, within, later))
  | inr differs ↦ rw differs.0 (and-false (same_actor l.actor a))
]

-- what the actor made in its incarnation becomes a log
pub closes : (a b : Parts) (k : ℕ) (l : LogFields) → AreParts a → a.current ≡ Some k → l ≡ record { actor = a.actor; incarnation = k; entries = a.entries.items }
    → b.actor ≡ a.actor → b.current ≡ None → b.entries.items ≡ [] → b.last ≡ a.last → b.changes.items ≡ a.changes.items → b.logs.items ≡ a.logs.items ++ l ∷ [] → Moves a None b
closes a b k l good was is actor now none last changes logs =
    let open_was : (k ≤ a.last) × Lacks a.actor a.logs.items k = subst (λ (n : Option ℕ). IsOpen a.actor a.logs.items a.last a.entries.items n) was good.open_now in
    let own : l.actor ≡ a.actor = ap (λ (m : LogFields). m.actor) is in
    let number : l.incarnation ≡ k = ap (λ (m : LogFields). m.incarnation) is in
    let entries : l.entries ≡ a.entries.items = ap (λ (m : LogFields). m.entries) is in
    record {
      same_actor = actor;
      now_is = now;
      same_changes = changes;
      same_entries = λ i.
          ap (λ (n : Option ℕ). log_of b.logs.items b.actor i ++ where_in n i b.entries.items) now
          ∙ append-nil (log_of b.logs.items b.actor i)
          ∙ ap (λ (ls : List LogFields). log_of ls b.actor i) logs
          ∙ ap (λ (y : Actor). log_of (a.logs.items ++ l ∷ []) y i) actor
          ∙ log_pushed a.logs.items l a.actor i own (subst (λ (n : ℕ). Lacks a.actor a.logs.items n) (sym number) open_was.1)
          ∙ ap (λ (n : ℕ). log_of a.logs.items a.actor i ++ where_in (Some n) i l.entries) number
          ∙ ap (λ (es : List LoggedEntry). log_of a.logs.items a.actor i ++ where_in (Some k) i es) entries
          ∙ ap (λ (n : Option ℕ). log_of a.logs.items a.actor i ++ where_in n i a.entries.items) (sym was);
      good = record {
        own = rw (logs, actor) (All-push (λ (m : LogFields). m.actor ≡ a.actor) a.logs.items l good.own own);
        none_later = λ i later. rw (logs, actor) (All-push (λ (m : LogFields). is_of m a.actor i ≡ false) a.logs.items l (good.none_later i (subst (λ (n : ℕ). n < i) last later)) (other_later l a.actor a.last i (subst (λ (n : ℕ). n ≤ a.last) (sym number) open_was.0) (subst (λ (n : ℕ). n < i) last later)));
        open_now = subst (λ (n : Option ℕ). IsOpen b.actor b.logs.items b.last b.entries.items n) (sym now) none;
      };
    }

pub makes_none : (a : Parts) (interval : Interval) → AreParts a → Makes a interval [] a
makes_none a interval good = record {
  same_actor = refl;
  same_now = refl;
  same_changes = refl;
  made = λ i. sym (append-nil (held a i)) ∙ ap (λ (r : List LoggedEntry). held a i ++ r) (sym (where_nothing a.current i [] refl));
  there = λ none. refl;
  good = good;
}

open_still : (a : Actor) (ls : List LogFields) (last : ℕ) (xs ys : List LoggedEntry) (now : Option ℕ) → (now ≡ None → ⊥) → IsOpen a ls last xs now → IsOpen a ls last ys now
open_still a ls last xs ys None there was = absurd (there refl)
open_still a ls last xs ys (Some k) there was = was

-- an entry more
pub makes_more : (a b c : Parts) (interval : Interval) (ss : List LogStep) (s : LogStep) → Makes a interval ss b → (b.current ≡ None → ⊥)
    → c ≡ record b { entries = c.entries } → c.entries.items ≡ b.entries.items ++ record { entry = s.entry; interval = interval } ∷ [] → Makes a interval (ss ++ s ∷ []) c
makes_more a b c interval ss s m there same more =
    let actor : c.actor ≡ b.actor = ap (λ (p : Parts). p.actor) same in
    let now : c.current ≡ b.current = ap (λ (p : Parts). p.current) same in
    let logs : c.logs.items ≡ b.logs.items = ap (λ (p : Parts). p.logs.items) same in
    let last : c.last ≡ b.last = ap (λ (p : Parts). p.last) same in
    let one : List LoggedEntry = logged interval (s ∷ []) in
    record {
      same_actor = actor ∙ m.same_actor;
      same_now = now ∙ m.same_now;
      same_changes = ap (λ (p : Parts). p.changes.items) same ∙ m.same_changes;
      made = λ i.
          ap (λ (y : Actor). log_of c.logs.items y i ++ where_in c.current i c.entries.items) actor
          ∙ ap (λ (ls : List LogFields). log_of ls b.actor i ++ where_in c.current i c.entries.items) logs
          ∙ ap (λ (n : Option ℕ). log_of b.logs.items b.actor i ++ where_in n i c.entries.items) now
          ∙ ap (λ (es : List LoggedEntry). log_of b.logs.items b.actor i ++ where_in b.current i es) more
          ∙ ap (λ (r : List LoggedEntry). log_of b.logs.items b.actor i ++ r) (where_append b.current i b.entries.items one)
          ∙ sym (append_assoc (log_of b.logs.items b.actor i) (where_in b.current i b.entries.items) (where_in b.current i one))
          ∙ ap (λ (r : List LoggedEntry). r ++ where_in b.current i one) (m.made i)
          ∙ ap (λ (n : Option ℕ). (held a i ++ where_in a.current i (logged interval ss)) ++ where_in n i one) m.same_now
          ∙ append_assoc (held a i) (where_in a.current i (logged interval ss)) (where_in a.current i one)
          ∙ ap (λ (r : List LoggedEntry). held a i ++ r) (sym (where_append a.current i (logged interval ss) one))
          ∙ ap (λ (r : List LoggedEntry). held a i ++ where_in a.current i r) (sym (map-append (λ (x : LogStep). record { entry = x.entry; interval = interval }) ss (s ∷ [])));
      there = λ none. absurd (there (m.same_now ∙ none));
      good = record {
        own = rw (logs, actor) m.good.own;
        none_later = λ i later. rw (logs, actor) (m.good.none_later i (subst (λ (n : ℕ). n < i) last later));
        open_now = open_still c.actor c.logs.items c.last b.entries.items c.entries.items c.current (λ none. there (sym now ∙ none)) (rw (logs, actor, last, now) m.good.open_now);
      };
    }
