-- Steps of a merge, as the code makes them.
use Rattle.std.proofs.Common.{◌≡◌, ℕ, suc, ◌+◌, ◌-◌, ◌<◌, ◌≤◌, true, refl, sym, subst, ◌∙◌, ap, arith, append-nil, append_assoc, length-append, List, [], ◌∷◌, ◌++◌, length, map, slice_get, Some, None, Ok}
use Rattle.std.proofs.lemmas.Bool.{and_from, and_parts}
use Rattle.std.proofs.lemmas.List.{length-set}
use Rattle.std.proofs.lemmas.Option.{slice_get_within}
use Rattle.std.specs.Prelude.{slice_set, slice_index_or, All}
use Rattle.messages.specs.rule.Messages.{addressee, is_among}
use Rattle.messages.specs.declared.actor.Actor.{Actor}
use Rattle.messages.specs.declared.actor.Actor.TheVariants.{Node as ANode, Server as AServer}
use Rattle.messages.specs.declared.event.Event.{Event}
use Rattle.messages.specs.declared.event.Event.TheVariants.{AtNode, AtServer, Deliver, Member}
use Rattle.messages.specs.declared.entry.Entry.{Entry}
use Rattle.cluster_core.specs.rule.World.{WorldState, has_node, has_file, journal_limit}
use Rattle.cluster_core.specs.rule.Next.{has_actor, is_true, fits_shape, next}
use Rattle.cluster_core.specs.rule.Parts.{world_state}
use Rattle.cluster_core.specs.rule.Journals.{RunFields, GoesOn}
use Rattle.cluster_core.proofs.steps.Steps.{next_taken, kept_taken}
use Rattle.merges.specs.declared.logged.LoggedEntry.{LoggedEntry}
use Rattle.merges.specs.declared.logged.LoggedChange.{LoggedChange}
use Rattle.merges.specs.declared.merge_error.MergeError.{MergeError}
use Rattle.merges.specs.declared.merge_error.MergeError.TheVariants.{NoMemory, TwoLogs, JournalFull, NoOrder}
use Rattle.merges.specs.rule.Merges.{LogFields, AreOfDifferent, log_of, takes}
use Rattle.merges.specs.code.Merging.{current, stands, is_there, with_left, EntryComes, Leads, IsDone, MergesFrom, MergerFields, IsMerger, MayBeTried, PutsOn, NoneFrom, TooLongFrom, IsStuck, LastAndNext, Longer, Fails, CannotCome, NoChangeComes, IsExact, with_entries, merging_of}
use Rattle.merges.proofs.Counts.{same_is, stands_that_steps}
use Rattle.merges.proofs.Greedy.{merge_ends, ends_merge, ends_behind, leads_append}
use Rattle.merges.proofs.Peeling.{peel, merged_done}
use Rattle.merges.proofs.Tries.{never_ends}
use Rattle.merges.proofs.Swaps.{allows_entry}
use Rattle.merges.proofs.LogLists.{log_there, log_put, log_at, different_put, later_put}

actor_there : (w : WorldState) (a : Actor) (event : Event) (q : WorldState × Entry) → takes a event ≡ true → next w event ≡ Ok q → has_actor w a ≡ true
actor_there w a (AtNode n input) q own h =
    let known = and_parts (has_node w n) (fits_shape w.shape input) (next_taken w (AtNode n input) q h).0 in
    ap (has_actor w) (same_is a (ANode n) own) ∙ known.0
actor_there w a (AtServer f input) q own h =
    let known = and_parts (has_file w f) (is_true w input) (next_taken w (AtServer f input) q h).0 in
    ap (has_actor w) (same_is a (AServer f) own) ∙ known.0
actor_there w a (Deliver m) q own h =
    let known = and_parts (has_actor w (addressee m)) (is_among w.sent m) (next_taken w (Deliver m) q h).0 in
    ap (has_actor w) (same_is a (addressee m) own) ∙ known.0
actor_there w a (Member change) q own h = absurd (cc)

-- an actor that takes a step is there
pub there_that_steps : (w : WorldState) (a : Actor) (event : Event) (q : WorldState × Entry) → takes a event ≡ true → next w event ≡ Ok q → is_there w a ≡ true
there_that_steps w a event q own h = and_from (has_actor w a) (stands w a) (actor_there w a event q own h) (stands_that_steps w a event q own h)

-- what is tried, and made as it was logged, is put
pub entry_put : (m n : MergerFields) (k : ℕ) (event : Event) (t : MayBeTried m k event) → AreOfDifferent m.logs → next (world_state m.run.world) event ≡ Ok (world_state n.run.world, t.entry.entry) → n.logs ≡ slice_set m.logs k (with_entries t.log t.rest) → n.changes ≡ m.changes
    → EntryComes m.skew (merging_of m) t.log.actor t.entry (merging_of n)
entry_put m n k event t different step logs changes = record {
  rest = t.rest;
  first = ap (log_of m.logs t.log.actor) t.now ∙ log_there m.logs k t.log different t.there ∙ t.first;
  own = subst (λ (e : Event). takes t.log.actor e ≡ true) t.is t.own;
  allows = t.allows;
  step = ap (next (world_state m.run.world)) (sym t.is) ∙ step;
  left = ap log_of logs ∙ (λ i. λ b. λ j. log_put m.logs k t.log t.rest different t.there b j i) ∙ (λ i. with_left (log_of m.logs) t.log.actor (sym t.now i) t.rest);
  changes = changes;
}

-- nothing is put
pub puts_none : (m : MergerFields) → IsMerger m → PutsOn m m
puts_none m good = record { good = good; count = refl; skew = refl; put = []; leads = refl; entries = sym (append-nil m.run.entries); later = λ k d moment h. h }

-- the floor alone is another
pub puts_raised : (m n : MergerFields) → n ≡ record m { floor = n.floor } → IsMerger n → PutsOn m n
puts_raised m n is good = record {
  good = good;
  count = ap (λ (z : MergerFields). length z.logs) is;
  skew = ap (λ (z : MergerFields). z.skew) is;
  put = [];
  leads = ap merging_of (sym is);
  entries = ap (λ (z : MergerFields). z.run.entries) is ∙ sym (append-nil m.run.entries);
  later = λ k d moment. subst (λ (z : MergerFields). All (λ (y : LoggedEntry). moment ≤ y.interval.ended) (slice_index_or z.logs k d).entries) (sym is);
}

map_append : (xs ys : List LoggedEntry) → map (λ (x : LoggedEntry). x.entry) (xs ++ ys) ≡ map (λ (x : LoggedEntry). x.entry) xs ++ map (λ (x : LoggedEntry). x.entry) ys
map_append [] ys = refl
map_append (x ∷ xs) ys = ap (λ (es : List Entry). x.entry ∷ es) (map_append xs ys)

map_length : (xs : List LoggedEntry) → length (map (λ (x : LoggedEntry). x.entry) xs) ≡ length xs
map_length [] = refl
map_length (x ∷ xs) = ap suc (map_length xs)

pub puts_both : (l m n : MergerFields) → PutsOn l m → PutsOn m n → PutsOn l n
puts_both l m n p q = record {
  good = q.good;
  count = q.count ∙ p.count;
  skew = q.skew ∙ p.skew;
  put = p.put ++ q.put;
  leads = leads_append l.skew p.put (merging_of l) (merging_of m) (merging_of n) q.put p.leads (subst (λ (s : ℕ). Leads s (merging_of m) q.put (merging_of n)) p.skew q.leads);
  entries = q.entries ∙ ap (λ (es : List Entry). es ++ map (λ (x : LoggedEntry). x.entry) q.put) p.entries
      ∙ append_assoc l.run.entries (map (λ (x : LoggedEntry). x.entry) p.put) (map (λ (x : LoggedEntry). x.entry) q.put) ∙ ap (λ (es : List Entry). l.run.entries ++ es) (sym (map_append p.put q.put));
  later = λ k d moment h. q.later k d moment (p.later k d moment h);
}

-- a merge of what was left is one of what is left, without what was put
behind : (m n : MergerFields) (p : PutsOn m n) (xs : List LoggedEntry) → MergesFrom m.skew (merging_of m) xs → (zs : List LoggedEntry) × MergesFrom n.skew (merging_of n) zs × (length xs ≡ length p.put + length zs)
behind m n p xs merges =
    let ends = ends_behind m.skew p.put (merging_of m) (merging_of n) (length xs) p.leads (merge_ends m.skew (merging_of m) xs merges) in
    let rest = ends_merge m.skew ends.0 (merging_of n) ends.2 in
    (rest.0, subst (λ (s : ℕ). MergesFrom s (merging_of n) rest.0) (sym p.skew) rest.1, ends.1 ∙ ap (λ (k : ℕ). length p.put + k) (sym rest.2))

pub none_before : (m n : MergerFields) → PutsOn m n → NoneFrom n → NoneFrom m
none_before m n p none xs merges = let it = behind m n p xs merges in none it.0 it.1

pub too_long_before : (m n : MergerFields) → PutsOn m n → TooLongFrom n → TooLongFrom m
too_long_before m n p long xs merges =
    let it = behind m n p xs merges in
    let more = long it.0 it.1 in
    let count : length n.run.entries ≡ length m.run.entries + length p.put =
    ap length p.entries ∙ length-append m.run.entries (map (λ (x : LoggedEntry). x.entry) p.put) ∙ ap (λ (k : ℕ). length m.run.entries + k) (map_length p.put) in
    let whole : length xs ≡ length p.put + length it.0 = it.2 in
    omega arith

-- an error of a later merge is one of an earlier one
pub fails_before : (m n : MergerFields) (e : MergeError) → PutsOn m n → Fails e n → Fails e m
fails_before m n NoMemory p f = tt
fails_before m n (TwoLogs a i) p f = f
fails_before m n JournalFull p f = too_long_before m n p f
fails_before m n NoOrder p f = none_before m n p f

-- where nothing may be put and something is left, there is no merge
pub stuck_none : (m : MergerFields) → IsStuck m → (IsDone (merging_of m) → ⊥) → NoneFrom m
stuck_none m stuck left [] merges = left (merged_done m.skew (merging_of m) merges)
stuck_none m stuck left (x ∷ xs) merges = let it = peel m.skew (merging_of m) x xs merges in stuck it.0 x it.1 it.2

-- where the event of a next entry makes another entry, there is no merge
pub other_none : (m : MergerFields) (k : ℕ) (event : Event) (t : MayBeTried m k event) (made : Entry) (v : WorldState) → AreOfDifferent m.logs → next (world_state m.run.world) event ≡ Ok (v, made) → (made ≡ t.entry.entry → ⊥) → NoneFrom m
other_none m k event t made v different step other xs merges =
    never_ends m.skew (length xs) (merging_of m) t.log.actor t.entry t.rest made v (merge_ends m.skew (merging_of m) xs merges)
    (record {
      first = ap (log_of m.logs t.log.actor) t.now ∙ log_there m.logs k t.log different t.there ∙ t.first;
      own = subst (λ (e : Event). takes t.log.actor e ≡ true) t.is t.own;
      step = ap (next (world_state m.run.world)) (sym t.is) ∙ step;
    }) other

-- where something is left and the journal is full, each merge is too long
pub entry_full : (m : MergerFields) (k : ℕ) (event : Event) (t : MayBeTried m k event) → AreOfDifferent m.logs → journal_limit ≤ length m.run.entries → TooLongFrom m
entry_full m k event t different full [] merges =
    let none = merged_done m.skew (merging_of m) merges in
    let both : [] ≡ t.entry ∷ t.rest = sym (none.left t.log.actor t.log.incarnation) ∙ log_there m.logs k t.log different t.there ∙ t.first in
    absurd (cc)
entry_full m k event t different full (x ∷ xs) merges = omega arith

pub change_full : (m : MergerFields) (c : LoggedChange) (cs : List LoggedChange) → m.changes ≡ c ∷ cs → journal_limit ≤ length m.run.entries → TooLongFrom m
change_full m c cs first full [] merges =
    let none = merged_done m.skew (merging_of m) merges in
    let both : [] ≡ c ∷ cs = sym none.changes ∙ first in
    absurd (cc)
change_full m c cs first full (x ∷ xs) merges = omega arith

-- where no log's next entry may be put, nor the next declaration or start, nothing may
pub all_stuck : (m : MergerFields) → IsExact m → ((k : ℕ) → k < length m.logs → CannotCome m k) → NoChangeComes m → IsStuck m
all_stuck m exact entries changes None x n comes = changes exact x n comes
all_stuck m exact entries changes (Some a) x n comes =
    let there = log_at m.logs a (current (world_state m.run.world) a) x comes.rest comes.first in
    entries there.0 (slice_get_within m.logs there.0 there.1 there.2) exact there.1 there.2 (ap (current (world_state m.run.world)) there.3 ∙ sym there.4) x n (subst (λ (b : Actor). EntryComes m.skew (merging_of m) b x n) (sym there.3) comes)

-- the last of a list
there_last : (before : List Entry) (made : Entry) → slice_get (before ++ made ∷ []) (length before) ≡ Some made
there_last [] made = refl
there_last (e ∷ before) made = there_last before made

last_is : (es before : List Entry) (made z : Entry) → es ≡ before ++ made ∷ [] → slice_get es (length es - 1) ≡ Some z → made ≡ z
last_is es before made z is last =
    let count : length es ≡ length before + 1 = ap length is ∙ length-append before (made ∷ []) in
    let place : length es - 1 ≡ length before = omega (arith, count) in
    let both : Some made ≡ Some z = sym (there_last before made) ∙ (λ i. slice_get (sym is i) (sym place i)) ∙ last in
    cc

-- the last entry that was made compared with the next one of a log
pub compared : (m : MergerFields) (k : ℕ) (both : LastAndNext m k) (log : LogFields) (x : LoggedEntry) (xs : List LoggedEntry) (z : Entry) → slice_get m.logs k ≡ Some log → log.entries ≡ x ∷ xs → slice_get m.run.entries (length m.run.entries - 1) ≡ Some z → (both.made ≡ z) × (both.entry ≡ x)
compared m k both log x xs z there first last =
    let logs : Some both.log ≡ Some log = sym both.there ∙ there in
    let one : both.log ≡ log = cc in
    let heads : both.entry ∷ both.rest ≡ x ∷ xs = sym both.first ∙ ap (λ (l : LogFields). l.entries) one ∙ first in
    (last_is m.run.entries both.before both.made z both.last last, cc)

-- the event of the entry was taken, and the run is r
module _ (m : MergerFields) (k : ℕ) (event : Event) (t : MayBeTried m k event) (r : RunFields) (good : IsMerger m) (goes : GoesOn m.run event r) where
  went : (world_state m.run.world).length < journal_limit
  went = (kept_taken (world_state m.run.world) event (world_state r.world, goes.0) goes.1).0

  next_is : next (world_state m.run.world) event ≡ Ok (world_state r.world, goes.0)
  next_is = (kept_taken (world_state m.run.world) event (world_state r.world, goes.0) goes.1).1

  abbrev passed : MergerFields
  passed = record { run = r; logs = slice_set m.logs k (with_entries t.log t.rest); changes = m.changes; skew = m.skew; floor = m.floor }

  entry_comes : goes.0 ≡ t.entry.entry → EntryComes m.skew (merging_of m) t.log.actor t.entry (merging_of passed)
  entry_comes same = entry_put m passed k event t good.different (next_is ∙ (λ i. Ok (world_state r.world, same i))) refl refl

  entry_puts : goes.0 ≡ t.entry.entry → PutsOn m passed
  entry_puts same = record {
    good = record {
      different = different_put m.logs k t.log t.rest good.different t.there;
      lower = λ moment below. allows_entry m.skew (merging_of m) t.log.actor t.entry (merging_of passed) moment (entry_comes same) (good.lower moment below);
    };
    count = length-set m.logs k (with_entries t.log t.rest);
    skew = refl;
    put = t.entry ∷ [];
    leads = (Some t.log.actor, merging_of passed, entry_comes same, refl);
    entries = goes.2 ∙ ap (λ (e : Entry). m.run.entries ++ e ∷ []) same;
    later = λ j d moment. later_put m.logs k t.log t.entry t.rest t.there t.first j d (λ (y : LoggedEntry). moment ≤ y.interval.ended);
  }

  abbrev pub to_compare : LastAndNext (record m { run = r }) k
  to_compare = record { before = m.run.entries; made = goes.0; last = goes.2; log = t.log; there = t.there; entry = t.entry; rest = t.rest; first = t.first }

  pub entry_done : (n : MergerFields) → goes.0 ≡ t.entry.entry → n ≡ record { run = r; logs = slice_set m.logs k (with_entries t.log t.rest); changes = m.changes; skew = m.skew; floor = m.floor } → PutsOn m n
  entry_done n same is = subst (λ (z : MergerFields). PutsOn m z) (sym is) (entry_puts same)

  pub entry_other : (goes.0 ≡ t.entry.entry → ⊥) → NoneFrom m
  entry_other other = other_none m k event t goes.0 (world_state r.world) good.different next_is other

grows_by_one : (r s : RunFields) (event : Event) → GoesOn r event s → length s.entries ≡ length r.entries + 1
grows_by_one r s event goes = ap length goes.2 ∙ length-append r.entries (goes.0 ∷ [])

pub longer_by_one : (m n : MergerFields) (event : Event) (r : RunFields) → length m.run.entries < journal_limit → GoesOn m.run event r → n.run ≡ r → Longer m n
longer_by_one m n event r room goes is =
    let one = grows_by_one m.run r event goes in
    let same : length n.run.entries ≡ length r.entries = ap (λ (z : RunFields). length z.entries) is in
    (room, omega arith)

-- entries are not lost
pub at_least : (m n : MergerFields) → PutsOn m n → length m.run.entries ≤ length n.run.entries
at_least m n p =
    let count : length n.run.entries ≡ length m.run.entries + length (map (λ (x : LoggedEntry). x.entry) p.put) = ap length p.entries ∙ length-append m.run.entries (map (λ (x : LoggedEntry). x.entry) p.put) in
    omega (arith, count)

pub longer_then : (l m n : MergerFields) → Longer l m → PutsOn m n → Longer l n
longer_then l m n longer p = let more = at_least m n p in (longer.0, omega (arith, longer.1, more))

pub then_longer : (l m n : MergerFields) → PutsOn l m → Longer m n → Longer l n
then_longer l m n p longer = let more = at_least l m p in (omega (arith, longer.0, more), omega (arith, longer.1, more))

pub shrinks : (m n : MergerFields) → Longer m n → journal_limit - length n.run.entries < journal_limit - length m.run.entries
shrinks m n longer = omega (arith, longer.0, longer.1)
