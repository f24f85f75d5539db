-- What a planned change makes of a token.
use Rattle.intervals.specs.declared.tree_map.TreeMap.{TreeMap}
use Rattle.intervals.specs.code.Edits.{written}
use Rattle.model.specs.declared.level.Level.{Level}
use Rattle.token_set.specs.rule.Tokens.{Token}
use Rattle.token_set.specs.rule.Tokens.{token_of}
use Rattle.token_set.specs.declared.edit.TokenEdit.{TokenEdit}
use Rattle.token_set.specs.declared.edit.TokenEdit.TheVariants.{Same, Write, Whole}

-- the token after the change is made
abbrev pub edited : TokenEdit → TreeMap Level → Token
edited Same levels = token_of levels
edited (Write e) levels = written e levels
edited (Whole token) levels = token_of token
