-- Tokens that let a node lock no more than others do.
use Rattle.std.proofs.Common.{◌≡◌, ℕ, true, refl, subst, Option, Some, None}
use Rattle.intervals.specs.rule.Bytes.{Range}
use Rattle.model.specs.declared.mode.Mode.{Mode}
use Rattle.model.specs.declared.mode.Mode.TheVariants.{Read, Write}
use Rattle.model.specs.declared.level.Level.{Level}
use Rattle.model.specs.declared.level.Level.TheVariants.{Shared, Exclusive}
use Rattle.token_set.specs.rule.Tokens.{Token, raised, raised_level, level_conflicts, IsAtMost}
use Rattle.token_set.proofs.TokenLaws.{raised-at, exclusive-conflicts}
use Rattle.token_set.proofs.ReleaseLaws.{at_most-none, at_most-exclusive}
use Rattle.cluster_core.specs.rule.Safe.{Excludes}

-- at no byte does the one token let its node lock more than the other
abbrev pub IsWithin : Token → Token → Type 0
IsWithin t u = (b : ℕ) → IsAtMost (t b) (u b)

at_most-same : (x : Option Level) → IsAtMost x x
at_most-same None = tt
at_most-same (Some Shared) = refl
at_most-same (Some Exclusive) = refl

at_most-raised : (x : Option Level) (mode : Mode) → IsAtMost x (raised_level x mode)
at_most-raised None mode = tt
at_most-raised (Some Shared) Read = refl
at_most-raised (Some Shared) Write = refl
at_most-raised (Some Exclusive) Read = refl
at_most-raised (Some Exclusive) Write = refl

-- a lower level that conflicts with a mode does so at a higher level
at_most-conflicts : (x y : Option Level) (mode : Mode) → IsAtMost x y → level_conflicts x mode ≡ true → level_conflicts y mode ≡ true
at_most-conflicts None y mode low h = absurd (cc)
at_most-conflicts (Some Shared) y Read low h = absurd (cc)
at_most-conflicts (Some Shared) None Write low h = low
at_most-conflicts (Some Shared) (Some Shared) Write low h = refl
at_most-conflicts (Some Shared) (Some Exclusive) Write low h = refl
at_most-conflicts (Some Exclusive) y mode low h = exclusive-conflicts y mode low

pub within_itself : (t : Token) → IsWithin t t
within_itself t b = at_most-same (t b)

pub within_same : (t u : Token) → t ≡ u → IsWithin t u
within_same t u same = subst (IsWithin t) same (within_itself t)

pub within_raised : (t : Token) (span : Range) (mode : Mode) → IsWithin t (raised t span mode)
within_raised t span mode b = raised-at (IsAtMost (t b)) t span mode b (λ here. at_most-raised (t b) mode) (at_most-same (t b))

pub within_conflicts : (t u : Token) (b : ℕ) (mode : Mode) → IsWithin t u → level_conflicts (t b) mode ≡ true → level_conflicts (u b) mode ≡ true
within_conflicts t u b mode low h = at_most-conflicts (t b) (u b) mode (low b) h

-- tokens within two that exclude each other exclude each other
pub within_excludes : (s t u v : Token) → IsWithin s u → IsWithin t v → Excludes u v → Excludes s t
within_excludes s t u v in_u in_v apart b exclusive = at_most-none (t b) (v b) (in_v b) (apart b (at_most-exclusive (s b) (u b) (in_u b) exclusive))
