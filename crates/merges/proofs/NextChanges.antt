-- The next declaration or start, put or not.
use Rattle.std.proofs.Common.{◌≡◌, ℕ, true, refl, sym, subst, ◌∙◌, ap, List, [], ◌∷◌, slice_get, Some, None, Ok}
use Rattle.std.proofs.lemmas.Bool.{and_from, and_parts}
use Rattle.messages.specs.rule.Shapes.{may_rebuild}
use Rattle.messages.specs.declared.actor.Actor.{Actor}
use Rattle.messages.specs.declared.actor.Actor.TheVariants.{Node as ANode, Server as AServer}
use Rattle.messages.specs.declared.event.Event.{Event}
use Rattle.messages.specs.declared.event.Event.TheVariants.{Member}
use Rattle.messages.specs.declared.event.MemberEvent.{MemberEvent}
use Rattle.messages.specs.declared.event.MemberEvent.TheVariants.{Declare, Restart, FailServer, StartServer}
use Rattle.messages.specs.declared.entry.Entry.{Entry}
use Rattle.cluster_core.specs.rule.World.{WorldState, has_node, has_file}
use Rattle.cluster_core.specs.rule.Next.{next}
use Rattle.cluster_core.specs.rule.Parts.{world_state}
use Rattle.cluster_core.specs.rule.Journals.{RunFields, GoesOn}
use Rattle.cluster_core.proofs.steps.Steps.{next_taken, kept_taken, next_step, declare_step, fail_step}
use Rattle.merges.specs.declared.logged.LoggedEntry.{LoggedEntry}
use Rattle.merges.specs.declared.logged.LoggedChange.{LoggedChange}
use Rattle.merges.specs.rule.Merges.{LogFields, AreOfDifferent, log_of, ends}
use Rattle.merges.specs.code.Merging.{Merging, current, is_there, next_of, Allows, ChangeComes, MergerFields, IsMerger, PutsOn, NoChangeComes, IsExact, merging_of}
use Rattle.merges.proofs.Counts.{same_is}
use Rattle.merges.proofs.Swaps.{allows_change}
use Rattle.merges.proofs.LogLists.{log_there, log_at}

-- an entry has the event that made it
event_is : (w : WorldState) (event : Event) (q : WorldState × Entry) → next w event ≡ Ok q → q.1.event ≡ event
event_is w event q h =
    next_step w (λ p. p.1.event ≡ event) event q (λ n step done is. refl) (λ n step done is. refl) (λ n is alive. refl) (λ n is dead few. refl) (λ n is works. refl) (λ n is stopped few. refl) h

-- what is declared failed is there
there_that_ends : (w : WorldState) (a : Actor) (change : MemberEvent) (q : WorldState × Entry) → ends a (Member change) ≡ true → next w (Member change) ≡ Ok q → is_there w a ≡ true
there_that_ends w a (Declare n) q ended h =
    let alive : w.alive n ≡ true = declare_step w (λ p. w.alive n ≡ true) n q (λ m is alive. let same : n ≡ m = cc in ap w.alive same ∙ alive) (next_taken w (Member (Declare n)) q h).1 in
    subst (λ (b : Actor). is_there w b ≡ true) (sym (same_is a (ANode n) ended)) (and_from (has_node w n) (w.alive n) (next_taken w (Member (Declare n)) q h).0 alive)
there_that_ends w a (FailServer f) q ended h =
    let works : w.working f ≡ true = fail_step w (λ p. w.working f ≡ true) f q (λ m is works. let same : f ≡ m = cc in ap w.working same ∙ works) (next_taken w (Member (FailServer f)) q h).1 in
    let known = and_parts (may_rebuild w.shape.version) (has_file w f) (next_taken w (Member (FailServer f)) q h).0 in
    subst (λ (b : Actor). is_there w b ≡ true) (sym (same_is a (AServer f) ended)) (and_from (has_file w f) (w.working f) known.1 works)
there_that_ends w a (Restart n) q ended h = absurd (cc)
there_that_ends w a (StartServer f) q ended h = absurd (cc)

pub no_change_left : (m : MergerFields) → m.changes ≡ [] → NoChangeComes m
no_change_left m none exact x n c = let both : [] ≡ record { event = c.event; interval = x.interval } ∷ c.rest = sym none ∙ c.first in absurd (cc)

module _ (m : MergerFields) (change : LoggedChange) (rest : List LoggedChange) (first : m.changes ≡ change ∷ rest) where
  same_change : (x : LoggedEntry) (n : Merging) (c : ChangeComes m.skew (merging_of m) x n) → ◌≡◌ {A = LoggedChange} (record { event = c.event; interval = x.interval }) change
  same_change x n c = let both : record { event = c.event; interval = x.interval } ∷ c.rest ≡ change ∷ rest = sym c.first ∙ first in cc

  pub change_late : (IsExact m → Allows m.skew (merging_of m) change.interval.began → ⊥) → NoChangeComes m
  change_late late exact x n c = late exact (subst (λ (z : LoggedChange). Allows m.skew (merging_of m) z.interval.began) (same_change x n c) c.allows)

  pub change_early : (((a : Actor) → ends a (Member change.event) ≡ true → next_of (merging_of m) a ≡ []) → ⊥) → NoChangeComes m
  change_early early exact x n c = early (subst (λ (z : LoggedChange). (a : Actor) → ends a (Member z.event) ≡ true → next_of (merging_of m) a ≡ []) (same_change x n c) c.used_up)

  pub change_refused : ((made : WorldState × Entry) → next (world_state m.run.world) (Member change.event) ≡ Ok made → ⊥) → NoChangeComes m
  change_refused refused exact x n c = refused (n.world, x.entry) (ap (λ (z : LoggedChange). next (world_state m.run.world) (Member z.event)) (sym (same_change x n c)) ∙ c.step)

  -- the event was taken, and the run is r
  module _ (r : RunFields) (good : IsMerger m) (allows : Allows m.skew (merging_of m) change.interval.began) (used : (a : Actor) → ends a (Member change.event) ≡ true → is_there (world_state m.run.world) a ≡ true → next_of (merging_of m) a ≡ []) (goes : GoesOn m.run (Member change.event) r) where
    step_is : next (world_state m.run.world) (Member change.event) ≡ Ok (world_state r.world, goes.0)
    step_is = (kept_taken (world_state m.run.world) (Member change.event) (world_state r.world, goes.0) goes.1).1

    change_comes : ChangeComes m.skew (merging_of m) (record { entry = goes.0; interval = change.interval }) (merging_of (record m { run = r; changes = rest }))
    change_comes = record {
      event = change.event;
      is = event_is (world_state m.run.world) (Member change.event) (world_state r.world, goes.0) step_is;
      rest = rest;
      first = first;
      used_up = λ a ended. used a ended (there_that_ends (world_state m.run.world) a change.event (world_state r.world, goes.0) ended step_is);
      allows = allows;
      step = step_is;
      left = refl;
      changes = refl;
    }

    pub change_done : (n : MergerFields) → n ≡ record m { run = r; changes = rest } → PutsOn m n
    change_done n is =
        subst (λ (z : MergerFields). PutsOn m z) (sym is) (record {
          good = record {
            different = good.different;
            lower = λ moment below. allows_change m.skew (merging_of m) (record { entry = goes.0; interval = change.interval }) (merging_of (record m { run = r; changes = rest })) moment change_comes (good.lower moment below);
          };
          count = refl;
          skew = refl;
          put = (record { entry = goes.0; interval = change.interval }) ∷ [];
          leads = (None, merging_of (record m { run = r; changes = rest }), change_comes, refl);
          entries = goes.2;
          later = λ k d moment h. h;
        })

-- the logs of ended incarnations
module _ (w : WorldState) (logs : List LogFields) (different : AreOfDifferent logs) (change : MemberEvent) where
  pub used_by_all : ((k : ℕ) (l : LogFields) → slice_get logs k ≡ Some l → ends l.actor (Member change) ≡ true → is_there w l.actor ≡ true → current w l.actor ≡ l.incarnation → l.entries ≡ [])
      → (a : Actor) → ends a (Member change) ≡ true → is_there w a ≡ true → log_of logs a (current w a) ≡ []
  used_by_all used a ended there =
      elim (log_of logs a (current w a)) as (λ xs. log_of logs a (current w a) ≡ xs → xs ≡ []) [
        | [] ↦ λ is. refl
        | x ∷ xs ↦ λ is.
            let it = log_at logs a (current w a) x xs is in
            let none = used it.0 it.1 it.2 (subst (λ (b : Actor). ends b (Member change) ≡ true) (sym it.3) ended) (subst (λ (b : Actor). is_there w b ≡ true) (sym it.3) there) (ap (current w) it.3 ∙ sym it.4) in
            let found : log_of logs a (current w a) ≡ it.1.entries = (λ i. log_of logs (sym it.3 i) (sym it.4 i)) ∙ log_there logs it.0 it.1 different it.2 in
            sym is ∙ found ∙ none
      ] refl

  pub not_used : (k : ℕ) (l : LogFields) → slice_get logs k ≡ Some l → (l.entries ≡ [] → ⊥) → ends l.actor (Member change) ≡ true → current w l.actor ≡ l.incarnation → ((a : Actor) → ends a (Member change) ≡ true → log_of logs a (current w a) ≡ []) → ⊥
  not_used k l there some ended now all = some (sym (log_there logs k l different there) ∙ ap (log_of logs l.actor) (sym now) ∙ all l.actor ended)
