-- The first bad line of a text that should consist of lines of some kind, such as the lines of a script or of a journal.
use Rattle.std.specs.Prelude.{◌≡◌, ℕ, ◌+◌, List, [], ◌∷◌, ◌++◌, All, flat_map, length}
use Rattle.texts.specs.rule.LineFeeds.{line_feed, line_feeds, BeginsWithLine}

-- the text is these whole lines, and then the rest
pub record Passes (text : List ℕ) (lines : List (List ℕ)) (rest : List ℕ) : Type 0 where
  pub parts : text ≡ flat_map (λ line. line ++ line_feed ∷ []) lines ++ rest
  pub single : All (λ line. line_feeds line ≡ 0) lines

-- some list of lines of the kind begins with these lines
abbrev pub Begins : (List (List ℕ) → Type 0) → List (List ℕ) → Type 0
Begins Are lines = (more : List (List ℕ)) × Are (lines ++ more)

-- the next line is bad: no whole line is left and the text may not end here, or no lines of the kind go on with the next line
pub data IsBadNext (Are : List (List ℕ) → Type 0) (lines : List (List ℕ)) (rest : List ℕ) : Type 0 where
  has_no_line : line_feeds rest ≡ 0 → (rest ≡ [] → Are lines → ⊥) → IsBadNext Are lines rest
  stands_wrong : (line after : List ℕ) → BeginsWithLine rest line after → (Begins Are (lines ++ line ∷ []) → ⊥) → IsBadNext Are lines rest

-- the line with this number is the first bad one: lines of the kind begin with the lines before it, and it is bad behind them
pub record IsFirstBadOf (Are : List (List ℕ) → Type 0) (text : List ℕ) (number : ℕ) : Type 0 where
  pub lines : List (List ℕ)
  pub rest : List ℕ
  pub before : Passes text lines rest
  pub counted : number ≡ length lines + 1
  pub good : Begins Are lines
  pub bad : IsBadNext Are lines rest
