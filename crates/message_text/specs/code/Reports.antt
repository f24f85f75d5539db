-- The runs that the text of a report names, and that each text is of one message at most.
use Rattle.std.specs.Prelude.{◌≡◌, ℕ, ◌==◌, Bool, true, if◌then◌else◌, List, [], ◌∷◌, decimal, drop, Option, Some, None, ⊤, ◌≢◌, ◌≤◌}
use Rattle.std.specs.Str.Parse.{digits_value}
use Rattle.model.specs.declared.level.Level.{Level}
use Rattle.model.specs.declared.level.Level.TheVariants.{Shared, Exclusive}
use Rattle.messages.specs.rule.TokenRuns.{may_follow}
use Rattle.messages.specs.declared.token_run.TokenRun.{TokenRun}
use Rattle.texts.specs.rule.Layout.{space}
use Rattle.texts.specs.rule.Words.{level_text}
use Rattle.message_text.specs.rule.Texts.{AreServedRuns, IsFile, IsServedMessage, runs_text, message_text}
use Rattle.messages.specs.declared.message.Message.{Message}
use Rattle.messages.specs.declared.message.Message.TheVariants as message
use Rattle.message_text.specs.declared.written_message.WrittenForm.{WrittenForm}
use Rattle.message_text.specs.declared.written_message.WrittenForm.TheVariants.{Whole, Report}
use Rattle.messages.specs.rule.Shapes.{IsEpoch}
use Rattle.texts.specs.rule.Reads.{Both, Lacks, Reads}
use Rattle.messages.specs.declared.version.Version.{Version}
use Rattle.texts.specs.rule.LineFeeds.{line_feed}

-- the words with byte b added in front of the first one
abbrev pub with_byte : ℕ → List (List ℕ) → List (List ℕ)
with_byte b [] = (b ∷ []) ∷ []
with_byte b (word ∷ words) = (b ∷ word) ∷ words

-- the words of a text, which are separated by spaces
unfoldable pub words_of : List ℕ → List (List ℕ)
words_of [] = [] ∷ []
words_of (b ∷ bytes) = if b == space then [] ∷ words_of bytes else with_byte b (words_of bytes)

-- the words of a run: level, first byte, last byte
abbrev pub run_words : TokenRun → List (List ℕ)
run_words r = level_text r.level ∷ (decimal r.span.lo ∷ (decimal r.span.hi ∷ []))

-- whether the run may come next behind `before`, or is the first one
abbrev pub may_stand : Option TokenRun → TokenRun → Bool
may_stand None run = true
may_stand (Some before) run = may_follow before run

-- the level that a word names, which its first letter tells
abbrev pub level_of : List ℕ → Level
level_of [] = Exclusive
level_of (b ∷ bytes) = if b == 115 then Shared else Exclusive

-- the runs that the words name, three words each
abbrev pub runs_of_words : List (List ℕ) → List TokenRun
runs_of_words (level ∷ (lo ∷ (hi ∷ words))) = record { span = record { lo = digits_value 10 lo; hi = digits_value 10 hi }; level = level_of level } ∷ runs_of_words words
runs_of_words words = []

-- the runs that a text names behind their number
abbrev pub runs_in : List ℕ → List TokenRun
runs_in text = runs_of_words (drop 1 (words_of text))

-- the text is that of the longest runs of a token, with their number in front
abbrev pub IsRunsText : List ℕ → Type 0
IsRunsText text = (text ≡ runs_text (runs_in text)) × AreServedRuns (runs_in text)

abbrev pub message_in : WrittenForm → Message
message_in (Whole message) = message
message_in (Report file number holder runs) = message.Report file number holder (runs_in runs.now)

-- the text that stands for the runs of a report is a text of runs
abbrev pub IsForm : WrittenForm → Type 0
IsForm (Whole message) = ⊤
IsForm (Report file number holder runs) = IsRunsText runs.now

-- the byte `@`
abbrev pub at_sign : ℕ
at_sign = 64

-- the byte is no digit
abbrev pub IsNoDigit : ℕ → Type 0
IsNoDigit byte = (digit : ℕ) → 48 ≤ digit → digit ≤ 57 → digit ≢ byte

-- the number of a file and an epoch of its server are within their limits
abbrev pub AreServerParts : ℕ × ℕ → Type 0
AreServerParts = Both IsFile IsEpoch

-- two values within their limits that have one text are equal
abbrev pub HasOneValue : {A : Type 0} → (A → List ℕ) → (A → Type 0) → Type 0
HasOneValue text Fits = (x y : _) → Fits x → Fits y → text x ≡ text y → x ≡ y

-- in this version, two messages have two texts, what is read from a message's text is that message, and the text is one line
pub record MessagesHaveTexts (version : Version) : Type 0 where
  pub one_value : HasOneValue (message_text version) (IsServedMessage version)
  pub is_read : (m : Message) → IsServedMessage version m → (found : Option Message) → Reads (message_text version) (IsServedMessage version) (message_text version m) found → found ≡ Some m
  pub is_line : (m : Message) → IsServedMessage version m → Lacks line_feed (message_text version m)
