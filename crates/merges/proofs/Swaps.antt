-- The next of two lists may come in either order.
use Rattle.std.proofs.Common.{◌≡◌, ℕ, ◌+◌, ◌≤◌, Bool, true, false, ◌&&◌, if◌then◌else◌, refl, sym, subst, ◌∙◌, ap, List, [], ◌∷◌, ◌++◌, All, Ok}
use Rattle.std.proofs.lemmas.Bool.{and_parts, both_ways}
use Rattle.std.proofs.lemmas.List.Elements.{All-tail}
use Rattle.std.specs.Prelude.{◌==◌}
use Rattle.messages.specs.rule.Messages.{is_among}
use Rattle.messages.specs.declared.actor.Actor.{Actor}
use Rattle.messages.specs.declared.actor.Actor.TheVariants.{Node as ANode, Server as AServer}
use Rattle.messages.specs.declared.message.Message.{Message}
use Rattle.messages.specs.declared.event.Event.{Event}
use Rattle.messages.specs.declared.event.Event.TheVariants.{Member}
use Rattle.messages.specs.declared.event.MemberEvent.{MemberEvent}
use Rattle.messages.specs.declared.entry.Entry.{Entry}
use Rattle.cluster_core.specs.rule.World.{WorldState}
use Rattle.cluster_core.specs.rule.Next.{next}
use Rattle.cluster_core.specs.rule.Actors.{member_of}
use Rattle.cluster_core.proofs.common.Choices.{at_number, if_either}
use Rattle.cluster_core.proofs.steps.KnownMessages.{sent_before}
use Rattle.merges.specs.declared.logged.LoggedEntry.{LoggedEntry}
use Rattle.merges.specs.declared.logged.LoggedChange.{LoggedChange}
use Rattle.merges.specs.rule.Merges.{same_actor, ends, Logs}
use Rattle.merges.specs.code.Merging.{Merging, current, stands, Allows, with_left, EntryComes, ChangeComes}
use Rattle.merges.proofs.Worlds.{actor_of, patched, IsSame, Sees, HasNodes, alone, patches}
use Rattle.merges.proofs.Counts.{step_keeps, kept_current, counts, declared_stays, same_is, taken_by, stands_that_steps, stopped_that_begins}
use Rattle.merges.proofs.Alike.{sending_more, AreSame, same_swapped, AreAlike, sent_is}

pub patched_shape : (w : WorldState) (a : Actor) (v : WorldState) (sends : List Message) → (patched w a v sends).shape ≡ w.shape
patched_shape w (ANode n) v sends = refl
patched_shape w (AServer f) v sends = refl

-- the others are as they were
patched_own : (w : WorldState) (a b : Actor) (v : WorldState) (sends : List Message) → (a ≡ b → ⊥) → IsSame b w (patched w a v sends)
patched_own w (ANode n) (ANode k) v sends other = (
  at_number k n (λ b. (if b then v.nodes n else w.nodes k) ≡ w.nodes k) (λ same. absurd (other (ap ANode (sym same)))) (λ _. refl),
  at_number k n (λ b. (if b then v.alive n else w.alive k) ≡ w.alive k) (λ same. absurd (other (ap ANode (sym same)))) (λ _. refl),
)
patched_own w (ANode n) (AServer f) v sends other = (refl, refl)
patched_own w (AServer f) (ANode n) v sends other = (refl, refl)
patched_own w (AServer f) (AServer g) v sends other = (
  at_number g f (λ b. (if b then v.servers f else w.servers g) ≡ w.servers g) (λ same. absurd (other (ap AServer (sym same)))) (λ _. refl),
  at_number g f (λ b. (if b then v.working f else w.working g) ≡ w.working g) (λ same. absurd (other (ap AServer (sym same)))) (λ _. refl),
)

-- two values put at two places may be put in either order
put_swapped : {A : Type 0} (f : ℕ → A) (n m : ℕ) (x y : A) → (n ≡ m → ⊥) → (k : ℕ) → (if k == n then x else (if k == m then y else f k)) ≡ (if k == m then y else (if k == n then x else f k))
put_swapped f n m x y other k =
    at_number k n (λ b. (if b then x else (if k == m then y else f k)) ≡ (if k == m then y else (if b then x else f k)))
    (λ here. at_number k m (λ b. x ≡ (if b then y else x)) (λ there. absurd (other (sym here ∙ there))) (λ _. refl))
    (λ _. refl)

patched_swapped : (w : WorldState) (a b : Actor) (u v : WorldState) (ss ts : List Message) → (a ≡ b → ⊥) → patched (patched w b v ts) a u ss ≡ sending_more (patched (patched w a u ss) b v ts) ((w.sent ++ ts) ++ ss)
patched_swapped w (ANode n) (ANode m) u v ss ts other =
    let different : n ≡ m → ⊥ = λ same. other (ap ANode same) in
    λ i. record w {
      nodes = λ k. put_swapped w.nodes n m (u.nodes n) (v.nodes m) different k i;
      alive = λ k. put_swapped w.alive n m (u.alive n) (v.alive m) different k i;
      sent = (w.sent ++ ts) ++ ss;
      length = w.length + 1 + 1;
    }
patched_swapped w (ANode n) (AServer f) u v ss ts other = refl
patched_swapped w (AServer f) (ANode n) u v ss ts other = refl
patched_swapped w (AServer f) (AServer g) u v ss ts other =
    let different : f ≡ g → ⊥ = λ same. other (ap AServer same) in
    λ i. record w {
      servers = λ k. put_swapped w.servers f g (u.servers f) (v.servers g) different k i;
      working = λ k. put_swapped w.working f g (u.working f) (v.working g) different k i;
      sent = (w.sent ++ ts) ++ ss;
      length = w.length + 1 + 1;
    }

module _ (w : WorldState) (e f : Event) (q r : WorldState × Entry) (h : next w e ≡ Ok q) (g : next w f ≡ Ok r) (other : actor_of e ≡ actor_of f → ⊥) where
  sees_after : Sees (actor_of f) w q.0
  sees_after = record {
    shape = ap (λ (v : WorldState). v.shape) (patches w e q h) ∙ patched_shape w (actor_of e) q.0 q.1.sends;
    own = subst (IsSame (actor_of f) w) (sym (patches w e q h)) (patched_own w (actor_of e) (actor_of f) q.0 q.1.sends other);
    sent = λ m was. ap (λ (ss : List Message). is_among ss m) (sent_is w e q h) ∙ sent_before w.sent q.1.sends m was;
    declared = declared_stays w e q h;
  }

  -- the second comes behind the first as it would have come before it
  pub second : ((change : MemberEvent) → f ≡ Member change → HasNodes w q.0) → next q.0 f ≡ Ok (patched q.0 (actor_of f) r.0 r.1.sends, r.1)
  second nodes = alone w q.0 f r g sees_after nodes

  worlds_swap : patched r.0 (actor_of e) q.0 q.1.sends ≡ sending_more (patched q.0 (actor_of f) r.0 r.1.sends) ((w.sent ++ r.1.sends) ++ q.1.sends)
  worlds_swap =
      ap (λ (z : WorldState). patched z (actor_of e) q.0 q.1.sends) (patches w f r g)
      ∙ patched_swapped w (actor_of e) (actor_of f) q.0 r.0 q.1.sends r.1.sends other
      ∙ ap (λ (z : WorldState). sending_more (patched z (actor_of f) r.0 r.1.sends) ((w.sent ++ r.1.sends) ++ q.1.sends)) (sym (patches w e q h))

  patched_sends : (z : WorldState) (a : Actor) (v : WorldState) (sends : List Message) → (patched z a v sends).sent ≡ z.sent ++ sends
  patched_sends z (ANode n) v sends = refl
  patched_sends z (AServer n) v sends = refl

  same_sent : AreSame ((w.sent ++ r.1.sends) ++ q.1.sends) (patched q.0 (actor_of f) r.0 r.1.sends).sent
  same_sent m = same_swapped w.sent q.1.sends r.1.sends m ∙ ap (λ (ss : List Message). is_among ss m) ((λ i. sym (sent_is w e q h) i ++ r.1.sends) ∙ sym (patched_sends q.0 (actor_of f) r.0 r.1.sends))

not_same : (a b : Actor) → (a ≡ b → ⊥) → same_actor a b ≡ false
not_same a b other = elim (same_actor a b) as (λ t. same_actor a b ≡ t → t ≡ false) [ true ↦ λ is. absurd (other (same_is a b is)) | false ↦ λ is. refl ] refl

pub with_left_other : (left : Logs) (a b : Actor) (i j : ℕ) (rest : List LoggedEntry) → (a ≡ b → ⊥) → with_left left a i rest b j ≡ left b j
with_left_other left a b i j rest other = ap (λ (t : Bool). if t && (i == j) then rest else left b j) (not_same a b other)

pub if_swapped : {A : Type 0} (p q : Bool) (x y z : A) → (p ≡ true → q ≡ true → ⊥) → (if p then x else (if q then y else z)) ≡ (if q then y else (if p then x else z))
if_swapped true true x y z apart = absurd (apart refl refl)
if_swapped true false x y z apart = refl
if_swapped false q x y z apart = refl

with_left_swapped : (left : Logs) (a b : Actor) (i j : ℕ) (xs ys : List LoggedEntry) → (a ≡ b → ⊥) → with_left (with_left left b j ys) a i xs ≡ with_left (with_left left a i xs) b j ys
with_left_swapped left a b i j xs ys other = λ t. λ c. λ k.
    if_swapped (same_actor a c && (i == k)) (same_actor b c && (j == k)) xs ys (left c k)
    (λ one two. other (same_is a c (and_parts (same_actor a c) (i == k) one).0 ∙ sym (same_is b c (and_parts (same_actor b c) (j == k) two).0))) t

-- less is left, so what was allowed is
pub allows_entry : (skew : ℕ) (m : Merging) (a : Actor) (x : LoggedEntry) (n : Merging) (moment : ℕ) → EntryComes skew m a x n → Allows skew m moment → Allows skew n moment
allows_entry skew m a x n moment comes allows =
    let behind : All (λ (y : LoggedEntry). moment ≤ y.interval.ended + skew) comes.rest = All-tail (λ (y : LoggedEntry). moment ≤ y.interval.ended + skew) x comes.rest (subst (All (λ (y : LoggedEntry). moment ≤ y.interval.ended + skew)) comes.first (allows.entries a (current m.world a))) in
    record {
      entries = λ c k. subst (λ (left : Logs). All (λ (y : LoggedEntry). moment ≤ y.interval.ended + skew) (left c k)) (sym comes.left)
          (if_either (All (λ (y : LoggedEntry). moment ≤ y.interval.ended + skew)) (same_actor a c && (current m.world a == k)) comes.rest (m.left c k) behind (allows.entries c k));
      changes = subst (All (λ (c : LoggedChange). moment ≤ c.interval.ended + skew)) (sym comes.changes) allows.changes;
    }

pub allows_change : (skew : ℕ) (m : Merging) (x : LoggedEntry) (n : Merging) (moment : ℕ) → ChangeComes skew m x n → Allows skew m moment → Allows skew n moment
allows_change skew m x n moment comes allows = record {
  entries = λ c k. subst (λ (left : Logs). All (λ (y : LoggedEntry). moment ≤ y.interval.ended + skew) (left c k)) (sym comes.left) (allows.entries c k);
  changes = subst (All (λ (c : LoggedChange). moment ≤ c.interval.ended + skew)) (sym comes.changes)
      (All-tail (λ (c : LoggedChange). moment ≤ c.interval.ended + skew) (record { event = comes.event; interval = x.interval }) comes.rest (subst (All (λ (c : LoggedChange). moment ≤ c.interval.ended + skew)) comes.first allows.changes));
}

-- the entry put behind n, which stood beside it
abbrev pub entry_behind : Merging → Merging → Actor → LoggedEntry → Merging → List LoggedEntry → Merging
entry_behind m n b y p rest = record { world = patched n.world (actor_of y.entry.event) p.world y.entry.sends; left = with_left n.left b (current m.world b) rest; changes = n.changes }

abbrev pub change_behind : Merging → LoggedEntry → Merging → List LoggedChange → Merging
change_behind n y p rest = record { world = patched n.world (actor_of y.entry.event) p.world y.entry.sends; left = n.left; changes = rest }

-- two entries
module _ (skew : ℕ) (m n p : Merging) (a b : Actor) (x y : LoggedEntry) (other : a ≡ b → ⊥) (c : EntryComes skew m a x n) (d : EntryComes skew m b y p) where
  apart : actor_of x.entry.event ≡ actor_of y.entry.event → ⊥
  apart same = other ((taken_by a x.entry.event c.own).0 ∙ same ∙ sym (taken_by b y.entry.event d.own).0)

  pub entry_after_entry : EntryComes skew n b y (entry_behind m n b y p d.rest)
  entry_after_entry =
      let keeps = step_keeps m.world x.entry.event (n.world, x.entry) (taken_by a x.entry.event c.own).1 c.step in
      let now : current n.world b ≡ current m.world b = kept_current m.world n.world b keeps in
      let stays : n.left b (current m.world b) ≡ m.left b (current m.world b) = ap (λ (left : Logs). left b (current m.world b)) c.left ∙ with_left_other m.left a b (current m.world a) (current m.world b) c.rest other in
      record {
        rest = d.rest;
        first = ap (n.left b) now ∙ stays ∙ d.first;
        own = d.own;
        allows = allows_entry skew m a x n y.interval.began c d.allows;
        step = second m.world x.entry.event y.entry.event (n.world, x.entry) (p.world, y.entry) c.step d.step apart (λ change is. absurd ((taken_by b y.entry.event d.own).1 change is));
        left = λ i. with_left n.left b (sym now i) d.rest;
        changes = refl;
      }

  pub entries_alike : AreAlike (entry_behind m n b y p d.rest) (entry_behind m p a x n c.rest)
  entries_alike =
      let worlds = worlds_swap m.world x.entry.event y.entry.event (n.world, x.entry) (p.world, y.entry) c.step d.step apart in
      let lefts : with_left p.left a (current m.world a) c.rest ≡ with_left n.left b (current m.world b) d.rest
      = ap (λ (left : Logs). with_left left a (current m.world a) c.rest) d.left ∙ with_left_swapped m.left a b (current m.world a) (current m.world b) c.rest d.rest other ∙ ap (λ (left : Logs). with_left left b (current m.world b) d.rest) (sym c.left) in
      let changes : p.changes ≡ n.changes = d.changes ∙ sym c.changes in (
        (m.world.sent ++ y.entry.sends) ++ x.entry.sends,
        (λ i. record { world = worlds i; left = lefts i; changes = changes i }),
        same_sent m.world x.entry.event y.entry.event (n.world, x.entry) (p.world, y.entry) c.step d.step apart,
      )

-- an entry, and a declaration or a start
module _ (skew : ℕ) (m n p : Merging) (a : Actor) (x y : LoggedEntry) (c : EntryComes skew m a x n) (d : ChangeComes skew m y p) where
  no_end : ends a (Member d.event) ≡ true → ⊥
  no_end ended = let both : [] ≡ x ∷ c.rest = sym (d.used_up a ended) ∙ c.first in absurd (cc)

  ends_not : ends a (Member d.event) ≡ false
  ends_not = elim (ends a (Member d.event)) as (λ t. ends a (Member d.event) ≡ t → t ≡ false) [ true ↦ λ is. absurd (no_end is) | false ↦ λ is. refl ] refl

  beside : a ≡ member_of d.event → ⊥
  beside same =
      let stops : stands m.world (member_of d.event) ≡ false = stopped_that_begins m.world d.event (p.world, y.entry) d.step (subst (λ (b : Actor). ends b (Member d.event) ≡ false) same ends_not) in
      both_ways (stands m.world a) (ap (stands m.world) same ∙ stops) (stands_that_steps m.world a x.entry.event (n.world, x.entry) c.own c.step)

  apart_change : actor_of x.entry.event ≡ actor_of y.entry.event → ⊥
  apart_change same = beside ((taken_by a x.entry.event c.own).0 ∙ same ∙ ap actor_of d.is)

  step_of_change : next m.world y.entry.event ≡ Ok (p.world, y.entry)
  step_of_change = ap (next m.world) d.is ∙ d.step

  pub change_after_entry : ChangeComes skew n y (change_behind n y p d.rest)
  change_after_entry =
      let keeps = step_keeps m.world x.entry.event (n.world, x.entry) (taken_by a x.entry.event c.own).1 c.step in
      let step : next n.world y.entry.event ≡ Ok (patched n.world (actor_of y.entry.event) p.world y.entry.sends, y.entry)
      = second m.world x.entry.event y.entry.event (n.world, x.entry) (p.world, y.entry) c.step step_of_change apart_change (λ change is. record { alive = keeps.alive; incarnation = keeps.incarnation }) in
      record {
        event = d.event;
        is = d.is;
        rest = d.rest;
        first = c.changes ∙ d.first;
        used_up = λ b ended.
            let unlike : a ≡ b → ⊥ = λ same. no_end (subst (λ (z : Actor). ends z (Member d.event) ≡ true) (sym same) ended) in
            ap (n.left b) (kept_current m.world n.world b keeps) ∙ ap (λ (left : Logs). left b (current m.world b)) c.left
            ∙ with_left_other m.left a b (current m.world a) (current m.world b) c.rest unlike ∙ d.used_up b ended;
        allows = allows_entry skew m a x n y.interval.began c d.allows;
        step = ap (next n.world) (sym d.is) ∙ step;
        left = refl;
        changes = refl;
      }

  pub entry_after_change : EntryComes skew p a x (entry_behind m p a x n c.rest)
  entry_after_change =
      let now : current p.world a ≡ current m.world a = counts m.world (Member d.event) (p.world, y.entry) a d.step ∙ ap (λ (t : Bool). if t then current m.world a + 1 else current m.world a) ends_not in
      record {
        rest = c.rest;
        first = ap (p.left a) now ∙ ap (λ (left : Logs). left a (current m.world a)) d.left ∙ c.first;
        own = c.own;
        allows = allows_change skew m y p x.interval.began d c.allows;
        step = second m.world y.entry.event x.entry.event (p.world, y.entry) (n.world, x.entry) step_of_change c.step (λ same. apart_change (sym same)) (λ change is. absurd ((taken_by a x.entry.event c.own).1 change is));
        left = λ i. with_left p.left a (sym now i) c.rest;
        changes = refl;
      }

  pub change_alike : AreAlike (change_behind n y p d.rest) (entry_behind m p a x n c.rest)
  change_alike =
      let worlds = worlds_swap m.world x.entry.event y.entry.event (n.world, x.entry) (p.world, y.entry) c.step step_of_change apart_change in
      let lefts : with_left p.left a (current m.world a) c.rest ≡ n.left = ap (λ (left : Logs). with_left left a (current m.world a) c.rest) d.left ∙ sym c.left in (
        (m.world.sent ++ y.entry.sends) ++ x.entry.sends,
        (λ i. record { world = worlds i; left = lefts i; changes = d.changes i }),
        same_sent m.world x.entry.event y.entry.event (n.world, x.entry) (p.world, y.entry) c.step step_of_change apart_change,
      )
