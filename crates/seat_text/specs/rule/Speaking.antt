-- What a seat says to a line.
use Rattle.std.specs.Prelude.{◌≡◌, ◌≢◌, ◌+◌, ◌<◌, ◌≤◌, ◌⊎◌, ℕ, List, Result, IsUtf8, length}
use Rattle.messages.specs.declared.refusal.Refused.{Refused}
use Rattle.seats.specs.declared.order.Order.{Order}
use Rattle.seats.specs.declared.seat_step.SeatStep.{SeatStep}
use Rattle.seat_text.specs.rule.Talks.{longest_line}
use Rattle.seat_text.specs.declared.seat_line.SeatLine.{SeatLine}
use Rattle.seat_text.specs.rule.Blocks.{Ledger, bad_line, block}
use Rattle.seat_text.specs.rule.SeatLines.{column_of, IsServedLine, line_text, order_of, tag_of}

-- who has the seat, and what was written
pub record Speaking (S : Type 0) : Type 0 where
  pub seat : S
  pub ledger : Ledger

-- what one does as it is told, and what it is then
abbrev pub Doing : Type 0 → Type 1
Doing S = S → Order → Result (List SeatStep) Refused → S → Type 0

-- the line tells the seat something, which it does or refuses, and the block tells what came of that
pub record Obeys {S : Type 0} (does : Doing S) (a : Speaking S) (line said : List ℕ) (b : Speaking S) : Type 0 where
  pub told : SeatLine
  pub done : Result (List SeatStep) Refused
  pub served : IsServedLine told
  pub text : line ≡ line_text told
  pub short : length line ≤ longest_line
  pub did : does a.seat (order_of told) done b.seat
  pub says : block (tag_of told) a.ledger done ≡ (b.ledger, said)

-- the bytes are too many
pub record IsTooLong (line : List ℕ) (column : ℕ) : Type 0 where
  pub long : longest_line < length line
  pub column_is : column ≡ longest_line + 1

-- the bytes are no text
pub record IsNoText (line : List ℕ) (column : ℕ) : Type 0 where
  pub short : length line ≤ longest_line
  pub no_text : ¬ IsUtf8 line
  pub column_is : column ≡ 1

-- the text is that of no line
pub record IsNoLine (line : List ℕ) (column : ℕ) : Type 0 where
  pub short : length line ≤ longest_line
  pub is_text : IsUtf8 line
  pub no_line : (told : SeatLine) → IsServedLine told → line ≢ line_text told
  pub column_is : column ≡ column_of line

-- the line is none, and this column tells where
abbrev pub IsBad : List ℕ → ℕ → Type 0
IsBad line column = IsTooLong line column ⊎ (IsNoText line column ⊎ IsNoLine line column)

-- the line is none, and nothing happens
pub record Refuses {S : Type 0} (a : Speaking S) (line said : List ℕ) (b : Speaking S) : Type 0 where
  pub column : ℕ
  pub bad : IsBad line column
  pub says : said ≡ bad_line column
  pub same : b ≡ a

-- what a seat says to a line, and what it is then
abbrev pub Says : {S : Type 0} → Doing S → Speaking S → List ℕ → List ℕ → Speaking S → Type 0
Says does a line said b = Obeys does a line said b ⊎ Refuses a line said b
