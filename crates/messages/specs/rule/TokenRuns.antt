-- The longest runs of a token as a list, and the two ranges of a token request.
use Rattle.std.specs.Prelude.{◌+◌, Bool, true, false, not, ◌&&◌, ◌==◌, nat_lt, List, [], ◌∷◌}
use Rattle.intervals.specs.rule.Bytes.{Range}
use Rattle.model.specs.declared.level.Level.{Level}
use Rattle.model.specs.declared.level.Level.TheVariants.{Shared, Exclusive}
use Rattle.messages.specs.declared.token_run.TokenRun.{TokenRun}

abbrev pub same_range : Range → Range → Bool
same_range a b = (a.lo == b.lo) && (a.hi == b.hi)

abbrev pub same_level : Level → Level → Bool
same_level Shared Shared = true
same_level Exclusive Exclusive = true
same_level _ _ = false

abbrev pub same_run : TokenRun → TokenRun → Bool
same_run a b = same_range a.span b.span && same_level a.level b.level

abbrev pub same_runs : List TokenRun → List TokenRun → Bool
same_runs [] [] = true
same_runs (x ∷ xs) (y ∷ ys) = same_run x y && same_runs xs ys
same_runs _ _ = false

-- whether run b may come next behind run a: it begins past the end of a, and has another level where the two are adjacent
abbrev pub may_follow : TokenRun → TokenRun → Bool
may_follow a b = nat_lt a.span.hi b.span.lo && not ((b.span.lo == a.span.hi + 1) && same_level b.level a.level)

-- whether the runs may come behind run a
abbrev pub go_on_after : TokenRun → List TokenRun → Bool
go_on_after a [] = true
go_on_after a (b ∷ rest) = may_follow a b

-- whether these are the longest runs of a token: each begins past the end of the one before, with another level where the two are adjacent
abbrev pub are_longest : List TokenRun → Bool
are_longest [] = true
are_longest (a ∷ rest) = go_on_after a rest && are_longest rest

-- the run of a span and its level
abbrev pub run_of : Range × Level → TokenRun
run_of r = record { span = r.0; level = r.1 }

pub record Wants : Type 0 where
  pub required : Range
  pub desired : Range
