-- The lines of texts, and which of them say something.
use Rattle.std.specs.Prelude.{◌≡◌, ℕ, ◌+◌, ◌==◌, Bool, true, false, if◌then◌else◌, List, [], ◌∷◌, ◌++◌, All, count_by, flat_map, length}

abbrev pub line_feed : ℕ
line_feed = 10

-- the byte `#`, with which a comment begins
abbrev pub hash : ℕ
hash = 35

-- the number of line feeds in the text
abbrev pub line_feeds : List ℕ → ℕ
line_feeds text = count_by (λ b. b == line_feed) text

-- the text begins with this line and its line feed, and then has the rest
pub record BeginsWithLine (text line rest : List ℕ) : Type 0 where
  pub parts : text ≡ line ++ line_feed ∷ rest
  pub one_line : line_feeds line ≡ 0

-- whether a line says nothing: it is empty, or a comment
abbrev pub is_skipped : List ℕ → Bool
is_skipped [] = true
is_skipped (b ∷ bs) = b == hash

-- the lines that say something, each with its number, where the first line has the given number
abbrev pub kept_lines : ℕ → List (List ℕ) → List (ℕ × List ℕ)
kept_lines number [] = []
kept_lines number (line ∷ lines) = if is_skipped line then kept_lines (number + 1) lines else (number, line) ∷ kept_lines (number + 1) lines

-- the text is whole lines, of which `kept` are the ones that say something, with their numbers, and then the rest;
-- `taken` lines stand before the text, and `passed` lines stand before the rest
pub record PassesLines (text : List ℕ) (taken : ℕ) (kept : List (ℕ × List ℕ)) (rest : List ℕ) (passed : ℕ) : Type 0 where
  pub lines : List (List ℕ)
  pub parts : text ≡ flat_map (λ line. line ++ line_feed ∷ []) lines ++ rest
  pub single : All (λ line. line_feeds line ≡ 0) lines
  pub counted : passed ≡ taken + length lines
  pub said : kept_lines (taken + 1) lines ≡ kept

-- the text has some lines that say nothing, then the line `line`, which says something and has the number `number`, and then the rest
pub record FindsLine (text : List ℕ) (taken number : ℕ) (line rest : List ℕ) : Type 0 where
  pub passed : ℕ
  pub from : List ℕ
  pub skips : PassesLines text taken [] from passed
  pub begins : BeginsWithLine from line rest
  pub counted : number ≡ passed + 1
  pub says : is_skipped line ≡ false
