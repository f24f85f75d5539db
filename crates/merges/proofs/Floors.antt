-- The floor of a merge, and what is left of it.
use Rattle.std.proofs.Common.{◌≡◌, ℕ, ◌+◌, ◌-◌, ◌<◌, ◌≤◌, inl, inr, refl, subst, ◌∙◌, ap, arith, List, [], length, All}
use Rattle.std.proofs.lemmas.Bool.{cases_lt}
use Rattle.std.proofs.lemmas.Option.{slice_get-get_or}
use Rattle.std.proofs.lemmas.List.{get_or_default}
use Rattle.std.proofs.lemmas.List.Elements.{All-nil, All-weaker}
use Rattle.std.specs.Prelude.{slice_index_or}
use Rattle.messages.specs.rule.Shapes.{ShapeFields}
use Rattle.messages.specs.declared.actor.Actor.{Actor}
use Rattle.cluster_core.specs.rule.World.{first_world}
use Rattle.cluster_core.specs.rule.Parts.{world_state}
use Rattle.cluster_core.specs.rule.Journals.{RunFields}
use Rattle.merges.specs.declared.logged.LoggedEntry.{LoggedEntry}
use Rattle.merges.specs.declared.logged.LoggedChange.{LoggedChange}
use Rattle.merges.specs.rule.Merges.{LogFields, AreOfDifferent, log_of}
use Rattle.merges.specs.code.Merging.{begun, Allows, IsDone, MergerFields, IsMerger, IsExact, last_moment, merging_of, EndsFrom}
use Rattle.merges.proofs.LogLists.{log_there, of_logs}

every : {A : Type 0} (P : A → Type 0) → ((x : A) → P x) → (xs : List A) → All P xs
every P h xs = λ k d within. h (slice_index_or xs k d)

-- a merge of which nothing is put, with the first moment as its floor
pub begun_good : (run : RunFields) (logs : List LogFields) (changes : List LoggedChange) (skew : ℕ) → AreOfDifferent logs → IsMerger (record { run = run; logs = logs; changes = changes; skew = skew; floor = 0 })
begun_good run logs changes skew different = record {
  different = different;
  lower = λ moment below. record {
    entries = λ a i. every (λ (y : LoggedEntry). moment ≤ y.interval.ended + skew) (λ y. omega (arith, below)) (log_of logs a i);
    changes = every (λ (c : LoggedChange). moment ≤ c.interval.ended + skew) (λ c. omega (arith, below)) changes;
  };
}

pub begun_is : (run : RunFields) (logs : List LogFields) (changes : List LoggedChange) (skew floor : ℕ) (shape : ShapeFields) → world_state run.world ≡ first_world shape → merging_of (record { run = run; logs = logs; changes = changes; skew = skew; floor = floor }) ≡ begun shape (log_of logs) changes
begun_is run logs changes skew floor shape world = λ i. record { world = world i; left = log_of logs; changes = changes }

pub allows_yes : (m : MergerFields) (moment : ℕ) → IsMerger m → moment - m.skew ≤ m.floor → Allows m.skew (merging_of m) moment
allows_yes m moment good below = good.lower moment (omega (arith, below))

pub allows_no : (m : MergerFields) (moment : ℕ) → moment ≤ last_moment → m.floor < moment - m.skew → IsExact m → Allows m.skew (merging_of m) moment → ⊥
allows_no m moment last above exact allows = let most = exact moment last allows in omega (arith, most, above)

-- what ends from a moment, with one log more, ends from an earlier one
pub ends_more : (floor least moment k : ℕ) (logs : List LogFields) (log : LogFields) → moment ≤ floor → moment ≤ least → k < length logs → log ≡ slice_index_or logs k log → EndsFrom floor k logs → All (λ (y : LoggedEntry). least ≤ y.interval.ended) log.entries → EndsFrom moment (k + 1) logs
ends_more floor least moment k logs log one two within is before here j d below = elim (cases_lt j k) [
  | inl earlier ↦ All-weaker (λ (y : LoggedEntry). floor ≤ y.interval.ended) (λ (y : LoggedEntry). moment ≤ y.interval.ended) (λ y h. omega (arith, one, h)) (slice_index_or logs j d).entries (before j d earlier)
  | inr later ↦
      let same : k ≡ j = omega (arith, later, below) in
      let log_is : log ≡ slice_index_or logs j d = is ∙ get_or_default logs k log d within ∙ ap (λ (i : ℕ). slice_index_or logs i d) same in
      subst (λ (l : LogFields). All (λ (y : LoggedEntry). moment ≤ y.interval.ended) l.entries) log_is
      (All-weaker (λ (y : LoggedEntry). least ≤ y.interval.ended) (λ (y : LoggedEntry). moment ≤ y.interval.ended) (λ y h. omega (arith, two, h)) log.entries here)
]

-- all that is left in the logs ended no earlier, by clocks that differ by the skew
abbrev pub EndsAbout : ℕ → ℕ → ℕ → List LogFields → Type 0
EndsAbout skew moment count logs = (k : ℕ) (d : LogFields) → k < count → All (λ (y : LoggedEntry). moment ≤ y.interval.ended + skew) (slice_index_or logs k d).entries

pub raised_good : (m : MergerFields) (floor : ℕ) → IsMerger m → All (λ (c : LoggedChange). floor ≤ c.interval.ended) m.changes → EndsFrom floor (length m.logs) m.logs → IsMerger (record m { floor = floor })
raised_good m floor good changes logs = record {
  different = good.different;
  lower = λ moment below.
      let later : (ended : ℕ) → floor ≤ ended → moment ≤ ended + m.skew = λ ended h. omega (arith, below, h) in
      record {
        entries = of_logs (λ (ys : List LoggedEntry). All (λ (y : LoggedEntry). moment ≤ y.interval.ended + m.skew) ys) m.logs (All-nil (λ (y : LoggedEntry). moment ≤ y.interval.ended + m.skew))
            (λ k d within. All-weaker (λ (y : LoggedEntry). floor ≤ y.interval.ended) (λ (y : LoggedEntry). moment ≤ y.interval.ended + m.skew) (λ y h. later y.interval.ended h) (slice_index_or m.logs k d).entries (logs k d within));
        changes = All-weaker (λ (c : LoggedChange). floor ≤ c.interval.ended) (λ (c : LoggedChange). moment ≤ c.interval.ended + m.skew) (λ c h. later c.interval.ended h) m.changes changes;
      };
}

-- what holds of all that is left holds of each log
pub each_log : (m : MergerFields) (P : List LoggedEntry → Type 0) → AreOfDifferent m.logs → ((a : Actor) (i : ℕ) → P (log_of m.logs a i)) → (k : ℕ) (d : LogFields) → k < length m.logs → P (slice_index_or m.logs k d).entries
each_log m P different all k d within =
    subst P (log_there m.logs k (slice_index_or m.logs k d) different (slice_get-get_or m.logs k d within)) (all (slice_index_or m.logs k d).actor (slice_index_or m.logs k d).incarnation)

pub raised_exact : (m : MergerFields) (floor : ℕ) → IsMerger m → ((moment : ℕ) → moment ≤ last_moment → All (λ (c : LoggedChange). moment ≤ c.interval.ended + m.skew) m.changes → EndsAbout m.skew moment (length m.logs) m.logs → moment ≤ floor + m.skew) → IsExact (record m { floor = floor })
raised_exact m floor good exact moment last allows =
    exact moment last allows.changes (each_log m (λ (ys : List LoggedEntry). All (λ (y : LoggedEntry). moment ≤ y.interval.ended + m.skew) ys) good.different allows.entries)

pub all_done : (m : MergerFields) → ((k : ℕ) (d : LogFields) → k < length m.logs → (slice_index_or m.logs k d).entries ≡ []) → m.changes ≡ [] → IsDone (merging_of m)
all_done m logs changes = record { left = of_logs (λ (ys : List LoggedEntry). ys ≡ []) m.logs refl (λ k d within. logs k d within); changes = changes }

pub log_done : (m : MergerFields) → AreOfDifferent m.logs → IsDone (merging_of m) → (k : ℕ) (d : LogFields) → k < length m.logs → (slice_index_or m.logs k d).entries ≡ []
log_done m different done = each_log m (λ (ys : List LoggedEntry). ys ≡ []) different done.left
