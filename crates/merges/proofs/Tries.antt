-- An entry that comes out otherwise than its log has it does so in every order.
use Rattle.std.proofs.Common.{◌≡◌, ℕ, zero, suc, ◌+◌, Bool, true, false, if◌then◌else◌, refl, sym, subst, ◌∙◌, ap, List, [], ◌∷◌, Some, None, Result, Ok}
use Rattle.std.proofs.lemmas.Bool.{both_ways}
use Rattle.messages.specs.declared.actor.Actor.{Actor}
use Rattle.messages.specs.declared.event.Event.TheVariants.{Member}
use Rattle.messages.specs.declared.entry.Entry.{Entry}
use Rattle.messages.specs.declared.refusal.Refused.{Refused}
use Rattle.cluster_core.specs.rule.World.{WorldState}
use Rattle.cluster_core.specs.rule.Next.{next}
use Rattle.cluster_core.specs.rule.Actors.{member_of}
use Rattle.cluster_core.proofs.common.Refusals.{ok_is}
use Rattle.merges.specs.declared.logged.LoggedEntry.{LoggedEntry}
use Rattle.merges.specs.rule.Merges.{same_actor, takes, ends, Logs}
use Rattle.merges.specs.code.Merging.{Merging, current, stands, next_of, EntryComes, ChangeComes}
use Rattle.merges.proofs.Worlds.{actor_of, patched}
use Rattle.merges.proofs.Counts.{step_keeps, kept_current, counts, same_is, is_same, taken_by, stands_that_steps, stopped_that_begins}
use Rattle.merges.proofs.Swaps.{second, with_left_other}
use Rattle.merges.proofs.Confluence.{Puts}
use Rattle.merges.proofs.Greedy.{EndsIn}

-- the event of the actor's next entry makes this entry
pub record Tries (m : Merging) (a : Actor) (x : LoggedEntry) (rest : List LoggedEntry) (made : Entry) (v : WorldState) : Type 0 where
  pub first : next_of m a ≡ x ∷ rest
  pub own : takes a x.entry.event ≡ true
  pub step : next m.world x.entry.event ≡ Ok (v, made)

tries_after_entry : (skew : ℕ) (m n : Merging) (a b : Actor) (x y : LoggedEntry) (rest : List LoggedEntry) (made : Entry) (v : WorldState) → (b ≡ a → ⊥) → EntryComes skew m b y n → Tries m a x rest made v → Tries n a x rest made (patched n.world (actor_of x.entry.event) v made.sends)
tries_after_entry skew m n a b x y rest made v other c t =
    let by = taken_by b y.entry.event c.own in
    let own = taken_by a x.entry.event t.own in
    let now : current n.world a ≡ current m.world a = kept_current m.world n.world a (step_keeps m.world y.entry.event (n.world, y.entry) by.1 c.step) in
    record {
      first = ap (n.left a) now ∙ ap (λ (left : Logs). left a (current m.world a)) c.left ∙ with_left_other m.left b a (current m.world b) (current m.world a) c.rest other ∙ t.first;
      own = t.own;
      step = second m.world y.entry.event x.entry.event (n.world, y.entry) (v, made) c.step t.step (λ same. other (by.0 ∙ same ∙ sym own.0)) (λ change is. absurd (own.1 change is));
    }

tries_after_change : (skew : ℕ) (m n : Merging) (a : Actor) (x y : LoggedEntry) (rest : List LoggedEntry) (made : Entry) (v : WorldState) → ChangeComes skew m y n → Tries m a x rest made v → Tries n a x rest made (patched n.world (actor_of x.entry.event) v made.sends)
tries_after_change skew m n a x y rest made v d t =
    let own = taken_by a x.entry.event t.own in
    let ends_not : ends a (Member d.event) ≡ false = elim (ends a (Member d.event)) as (λ b. ends a (Member d.event) ≡ b → b ≡ false) [
      | true ↦ λ ended. let both : [] ≡ x ∷ rest = sym (d.used_up a ended) ∙ t.first in absurd (cc)
      | false ↦ λ is. refl
    ] refl in
    let now : current n.world a ≡ current m.world a = counts m.world (Member d.event) (n.world, y.entry) a d.step ∙ ap (λ (b : Bool). if b then current m.world a + 1 else current m.world a) ends_not in
    let apart : member_of d.event ≡ a → ⊥ = λ same.
    let stops : stands m.world (member_of d.event) ≡ false = stopped_that_begins m.world d.event (n.world, y.entry) d.step (subst (λ (b : Actor). ends b (Member d.event) ≡ false) (sym same) ends_not) in
    both_ways (stands m.world a) (ap (stands m.world) (sym same) ∙ stops) (stands_that_steps m.world a x.entry.event (v, made) t.own t.step) in
    record {
      first = ap (n.left a) now ∙ ap (λ (left : Logs). left a (current m.world a)) d.left ∙ t.first;
      own = t.own;
      step = second m.world (Member d.event) x.entry.event (n.world, y.entry) (v, made) d.step t.step (λ same. apart (same ∙ sym own.0)) (λ change is. absurd (own.1 change is));
    }

-- what comes is as it is made
as_made : (skew : ℕ) (m n : Merging) (a b : Actor) (x y : LoggedEntry) (rest : List LoggedEntry) (made : Entry) (v : WorldState) → b ≡ a → EntryComes skew m b y n → Tries m a x rest made v → made ≡ x.entry
as_made skew m n a b x y rest made v same c t =
    let both : y ∷ c.rest ≡ x ∷ rest = sym c.first ∙ ap (next_of m) same ∙ t.first in
    let one : y ≡ x = cc in
    let steps : ◌≡◌ {A = Result (WorldState × Entry) Refused} (Ok (n.world, y.entry)) (Ok (v, made)) = sym c.step ∙ ap (λ (z : LoggedEntry). next m.world z.entry.event) one ∙ t.step in
    sym (ap (λ (q : WorldState × Entry). q.1) (ok_is (n.world, y.entry) (v, made) steps)) ∙ ap (λ (z : LoggedEntry). z.entry) one

-- where the event of an actor's next entry makes another entry, nothing that is put ends the merge
pub never_ends : (skew : ℕ) (k : ℕ) (m : Merging) (a : Actor) (x : LoggedEntry) (rest : List LoggedEntry) (made : Entry) (v : WorldState) → EndsIn skew m k → Tries m a x rest made v → (made ≡ x.entry → ⊥) → ⊥
never_ends skew zero m a x rest made v done t other = let both : [] ≡ x ∷ rest = sym (done.left a (current m.world a)) ∙ t.first in absurd (cc)
never_ends skew (suc k) m a x rest made v ends t other =
    elim ends.0 as (λ l. Puts skew m l ends.1 → ⊥) [
      | None ↦ λ puts. never_ends skew k ends.1 a x rest made (patched ends.1.world (actor_of x.entry.event) v made.sends) ends.3 (tries_after_change skew m ends.1 a x puts.0 rest made v puts.1 t) other
      | Some b ↦ λ puts.
          elim (same_actor b a) as (λ same. same_actor b a ≡ same → ⊥) [
            | true ↦ λ is. other (as_made skew m ends.1 a b x puts.0 rest made v (same_is b a is) puts.1 t)
            | false ↦ λ is.
                let unlike : b ≡ a → ⊥ = λ same. both_ways (same_actor b a) is (is_same b a same) in
                never_ends skew k ends.1 a x rest made (patched ends.1.world (actor_of x.entry.event) v made.sends) ends.3 (tries_after_entry skew m ends.1 a b x puts.0 rest made v unlike puts.1 t) other
          ] refl
    ] ends.2
