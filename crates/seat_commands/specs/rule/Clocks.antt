-- Answers that tell when they came about.
use Rattle.std.specs.Prelude.{◌≡◌, ◌≤◌, ℕ, List, [], ◌++◌, Option, Some, None, codes, decimal}
use Rattle.seat_text.specs.rule.Talks.{Saying}

-- the greatest moment, in microseconds since 1970
abbrev pub greatest_moment : ℕ
greatest_moment = 9223372036854775807

-- the line of two readings of a clock
abbrev pub at_line : ℕ → ℕ → List ℕ
at_line began ended = codes "at " ++ decimal began ++ codes " " ++ decimal ended ++ codes "\n"

abbrev pub interval_text : Option (ℕ × ℕ) → List ℕ
interval_text None = []
interval_text (Some i) = at_line i.0 i.1

-- two readings of a clock, the last reading of which was `last`: it did not go back
pub record IsInterval (last began ended : ℕ) : Type 0 where
  pub rises : last ≤ began
  pub in_order : began ≤ ended
  pub within : ended ≤ greatest_moment

-- who answers lines, and the last reading of the clock
pub record Timing (A : Type 0) : Type 0 where
  pub who : A
  pub last : ℕ

-- what one says to a line comes behind two readings of the clock
pub record SaysTimed {A : Type 0} (says : Saying A) (a : Timing A) (line said : List ℕ) (b : Timing A) : Type 0 where
  pub began : ℕ
  pub inner : List ℕ
  pub read : IsInterval a.last began b.last
  pub says_it : says a.who line inner b.who
  pub behind : said ≡ at_line began b.last ++ inner

-- one reading, if a clock is read: it has this last reading before, and then this
abbrev pub IsMoment : Option ℕ → Option ℕ → Option ℕ → Type 0
IsMoment None moment now = (moment ≡ None) × (now ≡ None)
IsMoment (Some last) moment now = (m : ℕ) × (last ≤ m) × (m ≤ greatest_moment) × (moment ≡ Some m) × (now ≡ Some m)

-- two readings, if a clock is read: it has this last reading before, and then this
abbrev pub MayRead : Option ℕ → Option (ℕ × ℕ) → Option ℕ → Type 0
MayRead None interval now = (interval ≡ None) × (now ≡ None)
MayRead (Some last) interval now = (began : ℕ) × (ended : ℕ) × IsInterval last began ended × (interval ≡ Some (began, ended)) × (now ≡ Some ended)
