-- What a token server knows of a node, and of the outstanding command to it.
use Rattle.std.specs.Prelude.{ℕ, Bool, false, true, ◌==◌, nat_le, if◌then◌else◌, List, Option, Some, None}
use Rattle.token_set.specs.rule.Tokens.{Token, no_token, conflicts, level_conflicts}
use Rattle.messages.specs.declared.message.Message.{Message}
use Rattle.messages.specs.declared.message.Message.TheVariants.{Hello, Grant, Revoke}
use Rattle.intervals.specs.rule.Bytes.{Range}
use Rattle.model.specs.declared.mode.Mode.{Mode}
use Rattle.std.specs.List.{filter_map, range_with_len}

-- The commands to a node in one incarnation: the number of the last one sent (before the first, the epoch's base), and that command while no answer has come.
pub record Commands : Type 0 where
  pub incarnation : ℕ
  pub number : ℕ
  pub outstanding : Option Message

-- The row of a node: incarnation, token, number of the last command sent to it (before the first, the epoch's base), and that command while no answer has come.
pub record Row : Type 0 where
  pub incarnation : ℕ
  pub token : Token
  pub number : ℕ
  pub outstanding : Option Message

abbrev pub empty_row : ℕ → ℕ → Row
empty_row number incarnation = record { incarnation = incarnation; token = no_token; number = number; outstanding = None }

-- the row of a node that was asked for its token and has not reported it
abbrev pub awaited_row : ℕ → ℕ → ℕ → ℕ → Row
awaited_row file number node incarnation =
    record { incarnation = incarnation; token = no_token; number = number; outstanding = Some (Hello file number (record { node = node; incarnation = incarnation })) }

-- the outstanding command to a node, if there is one
abbrev pub outstanding_of : Option Row → Option Message
outstanding_of None = None
outstanding_of (Some row) = row.outstanding

-- the outstanding commands to nodes 1 to n, by rising node
abbrev pub outstanding_to : (ℕ → Option Row) → ℕ → List Message
outstanding_to rows n = filter_map (λ node. outstanding_of (rows node)) (range_with_len 1 n)

-- the outstanding command is a Hello: the node was asked for its token
abbrev pub is_hello : Option Message → Bool
is_hello None = false
is_hello (Some (Hello file number holder)) = true
is_hello (Some _) = false

abbrev pub is_awaited : Option Row → Bool
is_awaited None = false
is_awaited (Some row) = is_hello row.outstanding

-- the outstanding command is the Grant with that number
abbrev pub is_grant : ℕ → Option Message → Bool
is_grant number (Some (Grant file k call mode span)) = k == number
is_grant number _ = false

-- the mode that the outstanding command revokes, if it is the Revoke with that number
abbrev pub revoked_mode : ℕ → Option Message → Option Mode
revoked_mode number (Some (Revoke file k holder call mode wanted)) = if k == number then Some mode else None
revoked_mode number _ = None

-- the outstanding command is the Hello with that number
abbrev pub asks_token : ℕ → Option Message → Bool
asks_token number (Some (Hello file k holder)) = k == number
asks_token number _ = false

abbrev pub row_above : ℕ → Option Row → Option Row
row_above incarnation None = None
row_above incarnation (Some row) = if nat_le row.incarnation incarnation then None else Some row

-- the row, if it is of that incarnation
abbrev pub row_of_incarnation : ℕ → Option Row → Option Row
row_of_incarnation incarnation None = None
row_of_incarnation incarnation (Some row) = if row.incarnation == incarnation then Some row else None

abbrev pub row_conflicts : Option Row → Range → Mode → Bool
row_conflicts None s mode = false
row_conflicts (Some row) s mode = conflicts row.token s mode

abbrev pub row_conflicts_at : Option Row → ℕ → Mode → Bool
row_conflicts_at None b mode = false
row_conflicts_at (Some row) b mode = level_conflicts (row.token b) mode
