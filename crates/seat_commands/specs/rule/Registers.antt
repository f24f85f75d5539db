-- What the list of declarations and starts answers.
use Rattle.std.specs.Prelude.{◌≡◌, ◌≢◌, ◌⊎◌, ◌+◌, ◌≤◌, ℕ, Bool, true, false, nat_eq, List, [], ◌∷◌, ◌++◌, Option, Some, None, Ok, Err, IsUtf8, codes, length}
use Rattle.std.specs.Cmp.Lexicographic.{pointwise}
use Rattle.std.specs.Io.KnownBytes.{Appends}
use Rattle.std.specs.List.{list_any}
use Rattle.std.specs.Option.{option_zip}
use Rattle.messages.specs.declared.event.MemberEvent.{MemberEvent}
use Rattle.messages.specs.declared.event.MemberEvent.TheVariants as change
use Rattle.messages.specs.declared.refusal.Refused.{Refused}
use Rattle.messages.specs.rule.Entries.{number_of}
use Rattle.texts.specs.rule.Layout.{space}
use Rattle.texts.specs.rule.Reads.{Lacks}
use Rattle.seat_text.specs.rule.Talks.{longest_line}
use Rattle.seat_text.specs.declared.seat_line.SeatLine.{SeatLine}
use Rattle.seat_text.specs.declared.seat_line.SeatLine.TheVariants.{Declare, Restart, FailServer, StartServer}
use Rattle.seat_text.specs.rule.Blocks.{bad_line, refused_line}
use Rattle.seat_text.specs.rule.SeatLines.{IsServedLine, line_text}
use Rattle.seat_text.specs.rule.Speaking.{IsNoText, IsTooLong}
use Rattle.seat_commands.specs.declared.register.Inquiry.{Inquiry}
use Rattle.seat_commands.specs.declared.register.Inquiry.TheVariants.{Change, List as AllOfThem}
use Rattle.seat_commands.specs.rule.Changes.{ListParts, list_rule, list_state, noted_text, told_text}
use Rattle.seat_commands.specs.rule.Clocks.{IsMoment, MayRead}

-- a list, the last reading of the clock, if one is read, and what keeps the list
pub record Registry (K : Type 0) : Type 0 where
  pub list : ListParts
  pub last : Option ℕ
  pub keeper : K

-- the change of members that a line tells a seat of
abbrev pub change_of : SeatLine → Option MemberEvent
change_of (Declare n) = Some (change.Declare n)
change_of (Restart n) = Some (change.Restart n)
change_of (FailServer file) = Some (change.FailServer file)
change_of (StartServer file) = Some (change.StartServer file)
change_of _ = None

-- the line tells of the change
pub record Asks (line : List ℕ) (change : MemberEvent) : Type 0 where
  pub told : SeatLine
  pub served : IsServedLine told
  pub text : line ≡ line_text told
  pub asks : change_of told ≡ Some change

-- the change is the next one of the list, by the rules of members; its block is kept, and said
pub record Adds {K : Type 0} (kept : K → Option (List ℕ)) (change : MemberEvent) (a : Registry K) (said : List ℕ) (b : Registry K) : Type 0 where
  pub incarnation : ℕ
  pub interval : Option (ℕ × ℕ)
  pub added : list_rule (list_state a.list) change ≡ Ok (list_state b.list, incarnation)
  pub read : MayRead a.last interval b.last
  pub says : said ≡ noted_text (record { change = change; incarnation = incarnation; interval = interval }) (length b.list.changes)
  pub keeps : Appends (kept a.keeper) (kept b.keeper) said

-- the rules of members refuse the change; the list stays
pub record Refuses {K : Type 0} (change : MemberEvent) (a : Registry K) (said : List ℕ) (b : Registry K) : Type 0 where
  pub refusal : Refused
  pub refused : list_rule (list_state a.list) change ≡ Err refusal
  pub says : said ≡ refused_line (number_of refusal)
  pub list_stays : b.list ≡ a.list
  pub keeper_stays : b.keeper ≡ a.keeper

-- what the list answers to a change
abbrev pub AnswersChange : {K : Type 0} → (K → Option (List ℕ)) → MemberEvent → Registry K → List ℕ → Registry K → Type 0
AnswersChange kept change a said b = Adds kept change a said b ⊎ Refuses change a said b

-- the block of a change that was added is kept, and said; the clock was read before that
pub record Notes {K : Type 0} (kept : K → Option (List ℕ)) (change : MemberEvent) (incarnation : ℕ) (began : Option ℕ) (a : Registry K) (said : List ℕ) (b : Registry K) : Type 0 where
  pub ended : Option ℕ
  pub read : IsMoment a.last ended b.last
  pub list_stays : b.list ≡ a.list
  pub says : said ≡ noted_text (record { change = change; incarnation = incarnation; interval = option_zip began ended }) (length a.list.changes)
  pub keeps : Appends (kept a.keeper) (kept b.keeper) said

-- the line asks what was told so far
pub record Lists {K : Type 0} (a : Registry K) (line said : List ℕ) (b : Registry K) : Type 0 where
  pub asked : line ≡ codes "list"
  pub says : said ≡ told_text a.list.changes
  pub same : b ≡ a

-- what a text asks
abbrev pub IsInquiryOf : List ℕ → Option Inquiry → Type 0
IsInquiryOf line None = ((change : MemberEvent) → Asks line change → ⊥) × (line ≢ codes "list")
IsInquiryOf line (Some (Change change)) = Asks line change
IsInquiryOf line (Some AllOfThem) = line ≡ codes "list"

-- the words with which lines with an operand begin
abbrev pub change_words : List (List ℕ)
change_words = codes "declare" ∷ codes "restart" ∷ codes "fail-server" ∷ codes "start-server" ∷ []

-- whether lines with an operand begin with the word
abbrev pub is_change_word : List ℕ → Bool
is_change_word word = list_any (pointwise nat_eq word) change_words

-- the byte of a line, from 1, at which what may not stand there begins: the operand behind its first word, where such a line has one
pub record IsAtOperand (line : List ℕ) (column : ℕ) : Type 0 where
  pub word : List ℕ
  pub rest : List ℕ
  pub first : Lacks space word
  pub parts : line ≡ word ++ space ∷ rest
  pub has_one : is_change_word word ≡ true
  pub column_is : column ≡ length word + 2

-- or else that word
pub record IsAtWord (line : List ℕ) (column : ℕ) : Type 0 where
  pub no_operand : (word rest : List ℕ) → Lacks space word → line ≡ word ++ space ∷ rest → is_change_word word ≡ false
  pub column_is : column ≡ 1

abbrev pub IsColumnOf : List ℕ → ℕ → Type 0
IsColumnOf line column = IsAtOperand line column ⊎ IsAtWord line column

-- the bytes are a text that asks nothing
pub record AsksNothing (line : List ℕ) (column : ℕ) : Type 0 where
  pub short : length line ≤ longest_line
  pub is_text : IsUtf8 line
  pub nothing : IsInquiryOf line None
  pub column_is : IsColumnOf line column

-- the line is none, and this column tells where
abbrev pub IsBadFor : List ℕ → ℕ → Type 0
IsBadFor line column = IsTooLong line column ⊎ (IsNoText line column ⊎ AsksNothing line column)

-- the line is none, and nothing happens
pub record PassesOver {K : Type 0} (a : Registry K) (line said : List ℕ) (b : Registry K) : Type 0 where
  pub column : ℕ
  pub bad : IsBadFor line column
  pub says : said ≡ bad_line column
  pub same : b ≡ a

-- what the list answers to a line, and what it is then
abbrev pub SaysOfList : {K : Type 0} → (K → Option (List ℕ)) → Registry K → List ℕ → List ℕ → Registry K → Type 0
SaysOfList kept a line said b = ((change : MemberEvent) × Asks line change × AnswersChange kept change a said b) ⊎ (Lists a line said b ⊎ PassesOver a line said b)
