-- Why the next entry of a log may not be put.
use Rattle.std.proofs.Common.{◌≡◌, ℕ, true, false, sym, subst, ◌∙◌, ap, List, [], ◌∷◌, slice_get, Some, None, Ok}
use Rattle.std.proofs.lemmas.Bool.{both_ways}
use Rattle.messages.specs.declared.event.Event.{Event}
use Rattle.messages.specs.declared.entry.Entry.{Entry}
use Rattle.cluster_core.specs.rule.World.{WorldState}
use Rattle.cluster_core.specs.rule.Next.{next}
use Rattle.cluster_core.specs.rule.Parts.{world_state}
use Rattle.merges.specs.declared.logged.LoggedEntry.{LoggedEntry}
use Rattle.merges.specs.rule.Merges.{LogFields, AreOfDifferent, log_of, takes}
use Rattle.merges.specs.code.Merging.{Merging, current, is_there, Allows, EntryComes, MergerFields, MayBeTried, CannotCome, IsExact, merging_of}
use Rattle.merges.proofs.LogLists.{log_there}
use Rattle.merges.proofs.Mergers.{there_that_steps}

module _ (m : MergerFields) (k : ℕ) (different : AreOfDifferent m.logs) where
  pub no_log : slice_get m.logs k ≡ None → CannotCome m k
  no_log none exact l there now x n comes = let both : None ≡ Some l = sym none ∙ there in absurd (cc)

  -- the next entry of the log is the one that comes
  pub comes_first : (l : LogFields) → slice_get m.logs k ≡ Some l → current (world_state m.run.world) l.actor ≡ l.incarnation → (x : LoggedEntry) (n : Merging) (c : EntryComes m.skew (merging_of m) l.actor x n) → l.entries ≡ x ∷ c.rest
  comes_first l there now x n c = sym (log_there m.logs k l different there) ∙ ap (log_of m.logs l.actor) (sym now) ∙ c.first

  module _ (log : LogFields) (there : slice_get m.logs k ≡ Some log) where
    same_log : (l : LogFields) → slice_get m.logs k ≡ Some l → l ≡ log
    same_log l here = let both : Some l ≡ Some log = sym here ∙ there in cc

    pub no_entry : log.entries ≡ [] → CannotCome m k
    no_entry none exact l here now x n c =
        let first = comes_first l here now x n c in
        let both : [] ≡ x ∷ c.rest = sym none ∙ ap (λ (z : LogFields). z.entries) (sym (same_log l here)) ∙ first in
        absurd (cc)

    module _ (y : LoggedEntry) (ys : List LoggedEntry) (next_is : log.entries ≡ y ∷ ys) where
      same_entry : (l : LogFields) → slice_get m.logs k ≡ Some l → current (world_state m.run.world) l.actor ≡ l.incarnation → (x : LoggedEntry) (n : Merging) → EntryComes m.skew (merging_of m) l.actor x n → x ≡ y
      same_entry l here now x n c =
          let both : x ∷ c.rest ≡ y ∷ ys = sym (comes_first l here now x n c) ∙ ap (λ (z : LogFields). z.entries) (same_log l here) ∙ next_is in
          cc

      pub not_own : takes log.actor y.entry.event ≡ false → CannotCome m k
      not_own other exact l here now x n c =
          both_ways (takes log.actor y.entry.event) other
          (subst (λ (z : LogFields). takes z.actor y.entry.event ≡ true) (same_log l here) (subst (λ (z : LoggedEntry). takes l.actor z.entry.event ≡ true) (same_entry l here now x n c) c.own))

      pub not_allowed : (IsExact m → Allows m.skew (merging_of m) y.interval.began → ⊥) → CannotCome m k
      not_allowed late exact l here now x n c = late exact (subst (λ (z : LoggedEntry). Allows m.skew (merging_of m) z.interval.began) (same_entry l here now x n c) c.allows)

    pub not_current : (is_there (world_state m.run.world) log.actor ≡ true → current (world_state m.run.world) log.actor ≡ log.incarnation → ⊥) → CannotCome m k
    not_current other exact l here now x n c =
        let same = same_log l here in
        let is_there_l = there_that_steps (world_state m.run.world) l.actor x.entry.event (n.world, x.entry) c.own c.step in
        other (subst (λ (z : LogFields). is_there (world_state m.run.world) z.actor ≡ true) same is_there_l) (subst (λ (z : LogFields). current (world_state m.run.world) z.actor ≡ z.incarnation) same now)

-- an event that is refused brings no entry
pub not_taken : (m : MergerFields) (k : ℕ) (event : Event) (t : MayBeTried m k event) → AreOfDifferent m.logs → ((made : WorldState × Entry) → next (world_state m.run.world) event ≡ Ok made → ⊥) → CannotCome m k
not_taken m k event t different refused exact l here now x n c =
    let same = same_entry m k different t.log t.there t.entry t.rest t.first l here now x n c in
    refused (n.world, x.entry) (ap (next (world_state m.run.world)) (t.is ∙ ap (λ (z : LoggedEntry). z.entry.event) (sym same)) ∙ c.step)
