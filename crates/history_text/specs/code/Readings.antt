-- A history as far as its lines were read: the lives of owners, the calls of files, losses, and files that are read to their ends.
use Rattle.std.specs.Prelude.{◌≡◌, ℕ, ◌≤◌, List, slice_get, length, Some, IfSome, All, ◌+◌, ◌<◌, false, take, Option, None, true, ◌++◌, drop, sum_by, ⊤, max, flat_map, count_by}
use Rattle.model.specs.declared.owner.Owner.{Owner}
use Rattle.texts.specs.rule.Reads.{IsWithin, Lacks}
use Rattle.history_text.specs.declared.owners.Exit.{Exit}
use Rattle.history_text.specs.declared.owners.Life.{Life}
use Rattle.history_text.specs.rule.Owners.{IsTimed, AreDistinct, most_owners, owner_numbered}
use Rattle.history_text.specs.rule.Histories.{runs, calls_in, counted, is_call, with_feed}
use Rattle.client_history.specs.declared.client_call.ClientCall.{ClientCall}
use Rattle.history_text.specs.declared.file_calls.FileCalls.{FileCalls}
use Rattle.history_text.specs.declared.drops.Loss.{Loss}
use Rattle.history_text.specs.declared.drops.Losses.{Losses}
use Rattle.history_text.specs.declared.rule.Allowed.{Allowed}
use Rattle.client_history.specs.declared.act.Act.TheVariants.{Drops}
use Rattle.texts.specs.rule.LineFeeds.{line_feed}
use Rattle.history_text.specs.declared.known_names.CallBody.{CallBody}
use Rattle.history_text.specs.declared.known_names.CallBody.TheVariants.{Exits, Asks}
use Rattle.history_text.specs.declared.known_names.KnownNames.{KnownNames}
use Rattle.history_text.specs.declared.history_reader.HistoryReader.{HistoryReader}
use Rattle.history_text.specs.declared.steps.Steps.{Steps}
use Rattle.history_text.specs.declared.steps.Steps.TheVariants as steps

-- the exit stands in one of that many lines; the latest call of its owner, counting the exit, began at that time, no later than the exit ended
pub record IsExit (lines latest : ℕ) (exit : Exit) : Type 0 where
  pub line : IsWithin 1 lines exit.line
  pub begun : exit.begin ≤ latest
  pub last : IsTimed latest exit.end

abbrev pub IsLife : ℕ → Life → Type 0
IsLife lines life = IfSome life.exit (IsExit lines life.latest)

abbrev pub AreLives : ℕ → List Life → Type 0
AreLives lines lives = All (IsLife lines) lives

-- the names of owners are distinct, and each has a life
pub record AreOwners (names : List (List ℕ)) (lives : List Life) : Type 0 where
  pub distinct : AreDistinct names
  pub paired : length lives ≡ length names
  pub few : length names ≤ most_owners

-- what was known of a life stays so
pub record Grows (old new : Life) : Type 0 where
  pub latest : old.latest ≤ new.latest
  pub exit : (exit : Exit) → old.exit ≡ Some exit → new.exit ≡ Some exit

-- what was known of each owner's life stays so
abbrev pub Extends : List Life → List Life → Type 0
Extends old new = (k : ℕ) (life : Life) → slice_get old k ≡ Some life → (next : Life) × (slice_get new k ≡ Some next) × Grows life next

-- the owner of this number began a call at that time or later
abbrev pub HasBegun : List Life → ℕ → ℕ → Type 0
HasBegun lives number begin = (life : Life) × (slice_get lives number ≡ Some life) × (begin ≤ life.latest)

-- the owner has this life
abbrev pub HasLife : List Life → Owner → Life → Type 0
HasLife lives owner life = (k : ℕ) × (slice_get lives k ≡ Some life) × (owner ≡ owner_numbered k)

-- the owner has this exit
abbrev pub HasExit : List Life → Owner → Exit → Type 0
HasExit lives owner exit = (life : Life) × HasLife lives owner life × (life.exit ≡ Some exit)

-- a call of a known owner, which is no exit
pub record IsCallOf (lives : List Life) (call : ClientCall) : Type 0 where
  pub number : ℕ
  pub life : Life
  pub known : slice_get lives number ≡ Some life
  pub owner : call.owner ≡ owner_numbered number
  pub begun : call.begin ≤ life.latest
  pub timed : IsTimed call.begin call.end
  pub goes_on : call.is_last ≡ false

-- calls of one file, each with the number of its line, from 1 to that many
pub record IsFileOf (lives : List Life) (lines : ℕ) (file : FileCalls) : Type 0 where
  pub calls : All (IsCallOf lives) file.calls.items
  pub paired : length file.lines.items ≡ length file.calls.items
  pub within : All (IsWithin 1 lines) file.lines.items

abbrev pub AreFilesOf : List Life → ℕ → List FileCalls → Type 0
AreFilesOf lives lines files = All (IsFileOf lives lines) files

-- the number of lines of calls of the file that were read
abbrev pub lines_in : FileCalls → ℕ
lines_in file = runs file.lines.items

-- each call of the file has a line of its own
abbrev pub IsAlone : FileCalls → Type 0
IsAlone file = runs file.lines.items ≡ length file.lines.items

-- each line of a call is before that line
abbrev pub AreBefore : ℕ → List FileCalls → Type 0
AreBefore line files = All (λ (file : FileCalls). All (λ n. n < line) file.lines.items) files

-- the index, where there is an end
abbrev pub where_ended : Option ℕ → ℕ → Option ℕ
where_ended None first = None
where_ended (Some end) first = Some first

-- the call as the second step: it follows the call with that index, if it has ended
abbrev pub second_step : ℕ → ClientCall → ClientCall
second_step first call = record call { follows = where_ended call.end first }

-- a loss in one of that many lines, where the rules let losses count
pub record IsLoss (allowed : Allowed) (lines : ℕ) (loss : Loss) : Type 0 where
  pub counts : allowed.lost_at ≡ true
  pub within : IsWithin 1 lines loss.line
  pub timed : loss.begin ≤ loss.end

abbrev pub AreLosses : Allowed → ℕ → Losses → Type 0
AreLosses allowed lines losses = All (λ here. All (IsLoss allowed lines) here.items) losses.losses.items

-- there are as many names of files as lists of losses
abbrev pub ArePaired : Losses → Type 0
ArePaired losses = length losses.losses.items ≡ length losses.files

-- the call is the loss of an owner, whose exit did not end before the loss began
pub record IsLossOf (lives : List Life) (loss : Loss) (call : ClientCall) : Type 0 where
  pub life : Life
  pub known : HasLife lives call.owner life
  pub in_time : IfSome life.exit (λ exit. IsTimed loss.begin exit.end)
  pub begin : call.begin ≡ loss.begin
  pub end : call.end ≡ Some loss.end
  pub drops : call.act ≡ Drops
  pub goes_on : call.is_last ≡ false

-- a call of a known owner, which begins no later than the owner's exit ends; if it is an exit, it is that one
pub record IsCallAtEnd (lives : List Life) (call : ClientCall) : Type 0 where
  pub number : ℕ
  pub life : Life
  pub known : slice_get lives number ≡ Some life
  pub owner : call.owner ≡ owner_numbered number
  pub timed : IsTimed call.begin call.end
  pub in_time : (exit : Exit) → life.exit ≡ Some exit → IsTimed call.begin exit.end
  pub last : call.is_last ≡ true → (exit : Exit) × (life.exit ≡ Some exit) × (call.end ≡ exit.end)

-- a call that drops all that its owner has: an exit, unless a rule lets losses count
pub record IsDrop (allowed : Allowed) (lives : List Life) (call : ClientCall) : Type 0 where
  pub call_is : IsCallAtEnd lives call
  pub drops : call.act ≡ Drops
  pub exits : allowed.lost_at ≡ false → call.is_last ≡ true

-- calls that drop all were appended to those of the file
pub record Adds (allowed : Allowed) (lives : List Life) (lines : ℕ) (old new : FileCalls) : Type 0 where
  pub calls : List ClientCall
  pub numbers : List ℕ
  pub calls_are : new.calls.items ≡ old.calls.items ++ calls
  pub lines_are : new.lines.items ≡ old.lines.items ++ numbers
  pub told : new.told ≡ old.told
  pub paired : length numbers ≡ length calls
  pub drops : All (IsDrop allowed lives) calls
  pub within : All (IsWithin 1 lines) numbers

-- the file, where all calls so far are those of lines
abbrev pub with_told : FileCalls → FileCalls
with_told file = record file { told = length file.lines.items }

-- a file that is read to its end: first calls of lines, of which none is an exit, and behind them calls that drop all
pub record IsEnded (allowed : Allowed) (lives : List Life) (lines : ℕ) (file : FileCalls) : Type 0 where
  pub calls : All (IsCallAtEnd lives) file.calls.items
  pub paired : length file.lines.items ≡ length file.calls.items
  pub within : All (IsWithin 1 lines) file.lines.items
  pub told : file.told ≤ length file.calls.items
  pub go_on : All (λ call. call.is_last ≡ false) (take file.told file.calls.items)
  pub drops : All (IsDrop allowed lives) (drop file.told file.calls.items)

-- each call of a line has a line of its own
abbrev pub IsAloneAtEnd : FileCalls → Type 0
IsAloneAtEnd file = runs (take file.told file.lines.items) ≡ file.told

-- the files are read to their ends, with the calls of lines that they had
pub record AreEndedOf (allowed : Allowed) (lives : List Life) (lines : ℕ) (old new : List FileCalls) : Type 0 where
  pub files : All (IsEnded allowed lives lines) new
  pub calls : sum_by calls_in new ≡ sum_by lines_in old
  pub alone : All IsAlone old → All IsAloneAtEnd new

-- the names of owners are distinct and each has a life, and the names of files are distinct
pub record IsSound (known : KnownNames) : Type 0 where
  pub owners : AreOwners known.owners.names known.owners.lives.items
  pub files : AreDistinct known.files

-- what is known after words of the line of this number were read
pub record Learns (line : ℕ) (old new : KnownNames) : Type 0 where
  pub sound : IsSound new
  pub extends : Extends old.owners.lives.items new.owners.lives.items
  pub lives : (lines : ℕ) → IsWithin 1 lines line → AreLives lines old.owners.lives.items → AreLives lines new.owners.lives.items

-- a call was done in one step, or in none
abbrev pub IsWhole : Steps → Type 0
IsWhole steps.None = ⊤
IsWhole (steps.One act) = ⊤
IsWhole (steps.Two first second) = ⊥

-- the file of a call is one of those that were known before, or one more
abbrev pub NamesOf : CallBody → ℕ → ℕ → Type 0
NamesOf Exits before after = after ≡ before
NamesOf (Asks file asked) before after = (file ≤ before) × (after ≡ max before (file + 1))

-- the reader has read that many lines, where these rules are allowed
pub record IsRead (allowed : Allowed) (lines : ℕ) (reader : HistoryReader) : Type 0 where
  pub sound : IsSound reader.known
  pub lives : AreLives lines reader.known.owners.lives.items
  pub files : AreFilesOf reader.known.owners.lives.items lines reader.files.items
  pub calls : sum_by lines_in reader.files.items ≡ reader.counts.calls
  pub alone : allowed.wait_drops ≡ false → All IsAlone reader.files.items
  pub losses : AreLosses allowed lines reader.head.losses

-- there are as many names of files as lists of calls, and of losses
pub record IsPaired (reader : HistoryReader) : Type 0 where
  pub files : length reader.files.items ≡ length reader.known.files
  pub losses : ArePaired reader.head.losses

-- the reader has read that many lines of the text, and this rest is left
pub record HasRead (allowed : Allowed) (text rest : List ℕ) (count : ℕ) (reader : HistoryReader) : Type 0 where
  pub lines : List (List ℕ)
  pub parts : text ≡ flat_map with_feed lines ++ rest
  pub single : All (Lacks line_feed) lines
  pub count_is : count ≡ length lines
  pub read : IsRead allowed count reader
  pub paired : IsPaired reader
  pub counted_is : counted reader.counts ≡ count_by is_call lines
