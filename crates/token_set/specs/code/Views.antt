-- Tokens for reading, as they are or as they will be after a planned write.
use Rattle.std.specs.Prelude.{◌≡◌, ℕ, true}
use Rattle.intervals.specs.rule.Bytes.{put}
use Rattle.model.specs.declared.mode.Mode.{Mode}
use Rattle.token_set.specs.rule.Tokens.{Token, level_conflicts}
use Rattle.token_set.specs.rule.Tokens.{token_of}
use Rattle.token_set.specs.declared.view.TokenView.{TokenView}
use Rattle.token_set.specs.declared.view.TokenView.TheVariants.{Now, With}

-- the token that is read
abbrev pub viewed : TokenView → Token
viewed (Now token) = token_of token.now
viewed (With token span level) = put (token_of token.now) span level

-- byte b of the token conflicts with a lock of the mode on another node
abbrev pub InWay : Token → Mode → ℕ → Type 0
InWay t mode b = level_conflicts (t b) mode ≡ true
