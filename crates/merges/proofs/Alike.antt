-- Merges under way that differ in the order of what was sent alone.
use Rattle.std.proofs.Common.{◌≡◌, ℕ, Bool, true, false, ◌||◌, refl, sym, subst, ◌∙◌, ap, List, ◌++◌, Option, Some, None, Ok}
use Rattle.messages.specs.rule.Messages.{is_among}
use Rattle.messages.specs.declared.actor.Actor.{Actor}
use Rattle.messages.specs.declared.actor.Actor.TheVariants.{Node as ANode, Server as AServer}
use Rattle.messages.specs.declared.message.Message.{Message}
use Rattle.messages.specs.declared.event.Event.{Event}
use Rattle.messages.specs.declared.event.Event.TheVariants.{Member}
use Rattle.messages.specs.declared.entry.Entry.{Entry}
use Rattle.cluster_core.specs.rule.World.{WorldState}
use Rattle.cluster_core.specs.rule.Next.{next}
use Rattle.cluster_core.proofs.steps.KnownMessages.{is_among-append}
use Rattle.merges.specs.declared.logged.LoggedEntry.{LoggedEntry}
use Rattle.merges.specs.code.Merging.{Merging, current, with_left, EntryComes, ChangeComes, Comes}
use Rattle.merges.proofs.Worlds.{actor_of, patched, IsSame, alone, patches}

-- the same world, where these messages were sent
abbrev pub sending_more : WorldState → List Message → WorldState
sending_more w more = record w { sent = more }

-- the same messages are in both lists
abbrev pub AreSame : List Message → List Message → Type 0
AreSame xs ys = (m : Message) → is_among xs m ≡ is_among ys m

same_more : (xs ys zs : List Message) → AreSame xs ys → AreSame (xs ++ zs) (ys ++ zs)
same_more xs ys zs same m = is_among-append xs zs m ∙ (λ i. same m i || is_among zs m) ∙ sym (is_among-append ys zs m)

or_swapped : (a b c : Bool) → ((a || b) || c) ≡ ((a || c) || b)
or_swapped true b c = refl
or_swapped false true true = refl
or_swapped false true false = refl
or_swapped false false true = refl
or_swapped false false false = refl

pub same_swapped : (ss xs ys : List Message) → AreSame ((ss ++ ys) ++ xs) ((ss ++ xs) ++ ys)
same_swapped ss xs ys m =
    is_among-append (ss ++ ys) xs m ∙ (λ i. is_among-append ss ys m i || is_among xs m) ∙ or_swapped (is_among ss m) (is_among ys m) (is_among xs m)
    ∙ (λ i. sym (is_among-append ss xs m) i || is_among ys m) ∙ sym (is_among-append (ss ++ xs) ys m)

-- the same merge under way, where these messages were sent
abbrev pub with_more : Merging → List Message → Merging
with_more s more = record { world = sending_more s.world more; left = s.left; changes = s.changes }

-- both are the same but for the order of what was sent
abbrev pub AreAlike : Merging → Merging → Type 0
AreAlike s t = (more : List Message) × (t ≡ with_more s more) × AreSame more s.world.sent

pub alike_itself : (s : Merging) → AreAlike s s
alike_itself s = (s.world.sent, refl, λ m. refl)

pub current_more : (w : WorldState) (more : List Message) (a : Actor) → current (sending_more w more) a ≡ current w a
current_more w more (ANode n) = refl
current_more w more (AServer f) = refl

own_more : (w : WorldState) (more : List Message) (a : Actor) → IsSame a w (sending_more w more)
own_more w more (ANode n) = (refl, refl)
own_more w more (AServer f) = (refl, refl)

patched_more : (w : WorldState) (more : List Message) (a : Actor) (v : WorldState) (sends : List Message) → patched (sending_more w more) a v sends ≡ sending_more (patched w a v sends) (more ++ sends)
patched_more w more (ANode n) v sends = refl
patched_more w more (AServer f) v sends = refl

patched_sent : (w : WorldState) (a : Actor) (v : WorldState) (sends : List Message) → (patched w a v sends).sent ≡ w.sent ++ sends
patched_sent w (ANode n) v sends = refl
patched_sent w (AServer f) v sends = refl

pub sent_is : (w : WorldState) (event : Event) (q : WorldState × Entry) → next w event ≡ Ok q → q.0.sent ≡ w.sent ++ q.1.sends
sent_is w event q h = ap (λ (v : WorldState). v.sent) (patches w event q h) ∙ patched_sent w (actor_of event) q.0 q.1.sends

-- what happens in a world happens in the same way where the same was sent in another order
pub next_more : (w : WorldState) (event : Event) (q : WorldState × Entry) (more : List Message) → AreSame more w.sent → next w event ≡ Ok q → next (sending_more w more) event ≡ Ok (sending_more q.0 (more ++ q.1.sends), q.1)
next_more w event q more same h =
    let there = alone w (sending_more w more) event q h (record { shape = refl; own = own_more w more (actor_of event); sent = λ m was. same m ∙ was; declared = λ n i was. was }) (λ change is. record { alive = λ k. refl; incarnation = λ k. refl }) in
    let is : patched (sending_more w more) (actor_of event) q.0 q.1.sends ≡ sending_more q.0 (more ++ q.1.sends)
    = patched_more w more (actor_of event) q.0 q.1.sends ∙ ap (λ (v : WorldState). sending_more v (more ++ q.1.sends)) (sym (patches w event q h)) in
    there ∙ (λ i. Ok (is i, q.1))

pub sent_alike : (w : WorldState) (event : Event) (q : WorldState × Entry) (more : List Message) → AreSame more w.sent → next w event ≡ Ok q → AreSame (more ++ q.1.sends) q.0.sent
sent_alike w event q more same h m = same_more more w.sent q.1.sends same m ∙ ap (λ (ss : List Message). is_among ss m) (sym (sent_is w event q h))

entry_more : (skew : ℕ) (s : Merging) (a : Actor) (x : LoggedEntry) (m : Merging) (more : List Message) → AreSame more s.world.sent → EntryComes skew s a x m → EntryComes skew (with_more s more) a x (with_more m (more ++ x.entry.sends))
entry_more skew s a x m more same comes =
    let now = current_more s.world more a in
    record {
      rest = comes.rest;
      first = ap (s.left a) now ∙ comes.first;
      own = comes.own;
      allows = record { entries = comes.allows.entries; changes = comes.allows.changes };
      step = next_more s.world x.entry.event (m.world, x.entry) more same comes.step;
      left = comes.left ∙ (λ i. with_left s.left a (sym now i) comes.rest);
      changes = comes.changes;
    }

change_more : (skew : ℕ) (s : Merging) (x : LoggedEntry) (m : Merging) (more : List Message) → AreSame more s.world.sent → ChangeComes skew s x m → ChangeComes skew (with_more s more) x (with_more m (more ++ x.entry.sends))
change_more skew s x m more same comes = record {
  event = comes.event;
  is = comes.is;
  rest = comes.rest;
  first = comes.first;
  used_up = λ a ended. ap (s.left a) (current_more s.world more a) ∙ comes.used_up a ended;
  allows = record { entries = comes.allows.entries; changes = comes.allows.changes };
  step = next_more s.world (Member comes.event) (m.world, x.entry) more same comes.step;
  left = comes.left;
  changes = comes.changes;
}

comes_more : (skew : ℕ) (s : Merging) (list : Option Actor) (x : LoggedEntry) (m : Merging) (more : List Message) → AreSame more s.world.sent → Comes skew s list x m → Comes skew (with_more s more) list x (with_more m (more ++ x.entry.sends))
comes_more skew s None x m more same comes = change_more skew s x m more same comes
comes_more skew s (Some a) x m more same comes = entry_more skew s a x m more same comes

pub step_of : (skew : ℕ) (s : Merging) (list : Option Actor) (x : LoggedEntry) (m : Merging) → Comes skew s list x m → next s.world x.entry.event ≡ Ok (m.world, x.entry)
step_of skew s None x m comes = ap (next s.world) comes.is ∙ comes.step
step_of skew s (Some a) x m comes = comes.step

-- alike merges under way take the same steps
pub comes_alike : (skew : ℕ) (s t m : Merging) (list : Option Actor) (x : LoggedEntry) → AreAlike s t → Comes skew s list x m → (n : Merging) × Comes skew t list x n × AreAlike m n
comes_alike skew s t m list x alike comes =
    let more = alike.0 in
    let same = alike.2 in
    let n = with_more m (more ++ x.entry.sends) in
    (n, subst (λ (z : Merging). Comes skew z list x n) (sym alike.1) (comes_more skew s list x m more same comes), (more ++ x.entry.sends, refl, sent_alike s.world x.entry.event (m.world, x.entry) more same (step_of skew s list x m comes)))
