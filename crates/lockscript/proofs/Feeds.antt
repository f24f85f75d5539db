-- The line feeds of a text that is split at its first one.
use Rattle.std.proofs.Common.{◌≡◌, ◌≢◌, ℕ, suc, ◌+◌, ◌<◌, ◌++◌, List, [], ◌∷◌, length, get_or, Option, Some, None, MatchOption, Bor, refl, arith, eqb, cond}
use Rattle.std.proofs.lemmas.List.Sums.{sum_by-append, sum_by-cons}
use Rattle.texts.specs.rule.LineFeeds.{line_feed, line_feeds, BeginsWithLine}
use Rattle.texts.specs.rule.Reads.{Lacks}

-- a text has no line feed where no byte of it is one
pub none_is-line_feeds : (bs : List ℕ) → ((i : ℕ) → i < length bs → get_or bs i 0 ≢ line_feed) → line_feeds bs ≡ 0
none_is-line_feeds [] none = refl
none_is-line_feeds (b ∷ bs) none = grind (arith, none 0, none_is-line_feeds bs (λ i lt. none (suc i) (omega (arith, lt))))

-- a split of a text at its first line feed
pub split-line : (bs : List ℕ) (r : Option (Bor (List ℕ) × Bor (List ℕ)))
    → MatchOption r (Lacks line_feed bs) (λ x. Lacks line_feed x.0.now × (bs ≡ x.0.now ++ line_feed ∷ x.1.now))
    → MatchOption r (line_feeds bs ≡ 0) (λ x. BeginsWithLine bs x.0.now x.1.now)
split-line bs None lacks = none_is-line_feeds bs lacks
split-line bs (Some x) parts = record { parts = parts.1; one_line = none_is-line_feeds x.0.now parts.0 }

-- a text has one line feed more than what is behind its first line
pub line_feeds-line : (text line rest : List ℕ) → BeginsWithLine text line rest → line_feeds text ≡ line_feeds rest + 1
line_feeds-line text line rest begins = rw begins.parts (omega (arith, sum_by-append (λ b. cond (eqb b line_feed) 1 0) line (line_feed ∷ rest), sum_by-cons (λ b. cond (eqb b line_feed) 1 0) line_feed rest, begins.one_line))
