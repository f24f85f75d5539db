use Rattle.std.proofs.Common.{◌≡◌, ℕ, max, ◌+◌, List, ◌∷◌, Some, ap, subst, ◌∙◌, arith}
use Rattle.intervals.specs.declared.byte_run.ByteRun.{ByteRun}
use Rattle.intervals.specs.rule.Bytes.{greatest, put}
use Rattle.intervals.specs.code.Runs.{AreRuns, EndsBelow, EndsFrom}
use Rattle.intervals.specs.rule.Runs.{value_at}
use Rattle.intervals.proofs.Runs.{ends_below_le}
use Rattle.intervals.proofs.Written.{ends_below-both}
use Rattle.intervals.proofs.Pieces.{none_left, moved-runs, moved-inside, moved-under}
use Rattle.intervals.proofs.byte_run.writes.append_above.Given.{Over}
use Rattle.intervals.proofs.byte_run.writes.append_above.Goals as goal

pub append-requires-clause-below : goal.append-requires-clause-below
append-requires-clause-below g c = ends_below_le _ c.args.from _ (omega (arith, c.max.ensures)) c.requires.below

-- the runs are their first one and the rest
all_runs : (g : Over) (c : goal.After-append_all g) → AreRuns (c.in-Some.run'.now ∷ c.in-Some.rest.now)
all_runs g c = subst (λ (l : List (ByteRun _)). AreRuns l) c.in-Some.ensures.cases.0 c.requires.runs

-- the first of the runs ends at `from` or above it
first_reached : (g : Over) (c : goal.After-append_all g) → EndsFrom (c.in-Some.run'.now ∷ c.in-Some.rest.now) c.args.from
first_reached g c = subst (λ (l : List (ByteRun _)). EndsFrom l c.args.from) c.in-Some.ensures.cases.0 c.requires.reached

-- the values after the first run is added
first_added : (g : Over) (c : goal.After-append_all g) (b : ℕ) → value_at c.append.new.runs.items b ≡ put (value_at c.args.new.now.items) (record { lo = max c.in-Some.run'.now.lo c.args.from; hi = c.in-Some.run'.now.hi }) (Some c.in-Some.run'.now.value) b
first_added g c b = c.append.ensures.bytes b ∙ ap (λ (lo : ℕ). put (value_at c.args.new.now.items) (record { lo = lo; hi = c.in-Some.run'.now.hi }) (Some c.in-Some.run'.now.value) b) c.max.ensures

pub returns-in-Some-clause-made : goal.returns-in-Some-clause-made
returns-in-Some-clause-made g c =
    rw c.append_all.ensures.items (moved-runs c.args.new.now.items _ _ c.in-Some.run'.now c.args.from (all_runs g c) c.requires.below (first_reached g c) c.append.ensures.made c.append.ensures.below (first_added g c))

pub returns-in-Some-clause-below : goal.returns-in-Some-clause-below
returns-in-Some-clause-below g c =
    let bounded : EndsBelow (c.in-Some.run'.now ∷ c.in-Some.rest.now) (greatest + 1) = subst (λ (l : List (ByteRun _)). EndsBelow l (greatest + 1)) c.in-Some.ensures.cases.0 c.requires.bounded in
    rw c.append_all.ensures.items (ends_below-both _ _ _ (ends_below_le _ (c.in-Some.run'.now.hi + 1) _ (omega (arith, bounded.0)) c.append.ensures.below) bounded.1)

pub returns-in-Some-clause-inside : goal.returns-in-Some-clause-inside
returns-in-Some-clause-inside g c b le =
    rw (c.append_all.ensures.items, c.in-Some.ensures.cases.0) (moved-inside c.args.new.now.items _ _ c.in-Some.run'.now c.args.from (all_runs g c) c.requires.below (first_reached g c) c.append.ensures.made c.append.ensures.below (first_added g c) b le)

pub returns-in-Some-clause-under : goal.returns-in-Some-clause-under
returns-in-Some-clause-under g c b lt =
    rw c.append_all.ensures.items (moved-under c.args.new.now.items _ _ c.in-Some.run'.now c.args.from (all_runs g c) c.requires.below (first_reached g c) c.append.ensures.made c.append.ensures.below (first_added g c) b lt)

pub returns-in_default-clause-below : goal.returns-in_default-clause-below
returns-in_default-clause-below g c = ends_below_le _ c.args.from _ c.requires.start c.requires.below

pub returns-in_default-clause-inside : goal.returns-in_default-clause-inside
returns-in_default-clause-inside g c b le = none_left _ _ c.args.from c.in_default.ensures.cases c.requires.below b le
