-- The columns of listings.
use Rattle.std.specs.Prelude.{ℕ, ◌-◌, List, ◌++◌, length, replicate}
use Rattle.texts.specs.rule.Layout.{space}

-- the text at the right end of a column of this width, or the text itself where it is longer
unfoldable pub right_in : ℕ → List ℕ → List ℕ
right_in width text = replicate (width - length text) space ++ text

-- the text at the left end of a column of this width, or the text itself where it is longer
unfoldable pub left_in : ℕ → List ℕ → List ℕ
left_in width text = text ++ replicate (width - length text) space
