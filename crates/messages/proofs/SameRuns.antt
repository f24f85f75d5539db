-- The test of lists of token runs decides equality.
use Rattle.std.specs.Prelude.{true, List, [], ◌∷◌}
use Rattle.std.proofs.Common.{◌≡◌, Decides, refl, subst, eq-eqb}
use Rattle.std.proofs.lemmas.Bool.{and_parts, and_from, eqb-true, false≢true}
use Rattle.intervals.specs.rule.Bytes.{Range}
use Rattle.model.specs.declared.level.Level.{Level}
use Rattle.model.specs.declared.level.Level.TheVariants.{Shared, Exclusive}
use Rattle.messages.specs.declared.token_run.TokenRun.{TokenRun}
use Rattle.messages.specs.rule.TokenRuns.{same_range, same_level, same_run, same_runs}

pub range_exact : (a b : Range) → same_range a b ≡ true → a ≡ b
range_exact a b h =
    let parts = and_parts _ _ h in
    let starts = eqb-true _ _ parts.0 in
    let ends = eqb-true _ _ parts.1 in
    λ i. record { lo = starts i; hi = ends i }

pub range_refl : (a : Range) → same_range a a ≡ true
range_refl a = and_from _ _ (eq-eqb a.lo a.lo refl) (eq-eqb a.hi a.hi refl)

pub level_exact : (a b : Level) → same_level a b ≡ true → a ≡ b
level_exact Shared Shared h = refl
level_exact Exclusive Exclusive h = refl
level_exact _ _ h = absurd (false≢true h)

pub level_refl : (a : Level) → same_level a a ≡ true
level_refl Shared = refl
level_refl Exclusive = refl

pub run_exact : (a b : TokenRun) → same_run a b ≡ true → a ≡ b
run_exact a b h =
    let both = and_parts _ _ h in
    let spans = range_exact _ _ both.0 in
    let levels = level_exact _ _ both.1 in
    λ i. record { span = spans i; level = levels i }

pub run_refl : (a : TokenRun) → same_run a a ≡ true
run_refl a = and_from _ _ (range_refl a.span) (level_refl a.level)

pub runs_exact : (a b : List TokenRun) → same_runs a b ≡ true → a ≡ b
runs_exact [] [] h = refl
runs_exact (x ∷ xs) (y ∷ ys) h =
    let both = and_parts _ _ h in
    let firsts = run_exact x y both.0 in
    let rest = runs_exact xs ys both.1 in
    λ i. firsts i ∷ rest i
runs_exact _ _ h = absurd (false≢true h)

pub runs_refl : (a : List TokenRun) → same_runs a a ≡ true
runs_refl [] = refl
runs_refl (x ∷ xs) = and_from _ _ (run_refl x) (runs_refl xs)

-- the test of lists of runs decides equality
pub runs_decide : (a b : List TokenRun) → Decides (same_runs a b) (a ≡ b)
runs_decide a b = (runs_exact a b, λ e. subst (λ (x : List TokenRun). same_runs a x ≡ true) e (runs_refl a))
