-- The texts of logs, and what they say.
use Rattle.std.specs.Prelude.{ℕ, ◌+◌, List, [], ◌∷◌, ◌++◌, codes, decimal, length, Option, Some, None, ◌≡◌, ◌≢◌, All, ◌==◌, Bool, if◌then◌else◌, map}
use Rattle.messages.specs.declared.version.Version.TheVariants.{Second}
use Rattle.merges.specs.declared.logged.Interval.{Interval}
use Rattle.journal_text.specs.rule.Journals.{end_text, reply_line}
use Rattle.journal_text.specs.rule.Texts.{event_text, member_text}
use Rattle.seat_text.specs.rule.Blocks.{bad_line, first_block, refused_line, to_lines}
use Rattle.seat_text.specs.declared.block.Block.{Block}
use Rattle.seat_text.specs.declared.block.LogChange.{LogChange}
use Rattle.seat_text.specs.declared.block.LogStep.{LogStep}
use Rattle.seat_text.specs.declared.block.Said.{Said}
use Rattle.seat_text.specs.declared.block.Said.TheVariants.{Refused, NoLine, Did}
use Rattle.seat_text.specs.declared.block.LogHead.{LogHead}
use Rattle.texts.specs.rule.FirstBadLine.{Passes}
use Rattle.texts.specs.rule.LineFeeds.{line_feeds}
use Rattle.messages.specs.declared.actor.Actor.{Actor}
use Rattle.messages.specs.declared.actor.Actor.TheVariants.{Node, Server}
use Rattle.messages.specs.declared.event.MemberEvent.{MemberEvent}
use Rattle.messages.specs.declared.event.MemberEvent.TheVariants.{Declare, Restart, FailServer, StartServer}
use Rattle.merges.specs.declared.logged.LoggedChange.{LoggedChange}
use Rattle.merges.specs.declared.logged.LoggedEntry.{LoggedEntry}
use Rattle.merges.specs.rule.Merges.{LogFields, log_of}

-- the line of two readings of a clock, if there is one
abbrev pub clock_line : Option Interval → List ℕ
clock_line None = []
clock_line (Some i) = codes "at " ++ decimal i.began ++ codes " " ++ decimal i.ended ++ codes "\n"

abbrev pub tag_line : Option ℕ → List ℕ
tag_line None = []
tag_line (Some tag) = codes "tag " ++ decimal tag ++ codes "\n"

-- the lines of the entry of this position
abbrev pub step_text : ℕ → LogStep → List ℕ
step_text position s =
    codes "entry " ++ decimal position ++ codes " " ++ (event_text Second s.entry.event s.entry.incarnation s.entry.call ++ codes "\n")
    ++ reply_line s.entry.reply ++ tag_line s.tag ++ to_lines s.entry.sends

-- the lines of entries that come behind so many
abbrev pub steps_text : ℕ → List LogStep → List ℕ
steps_text count [] = []
steps_text count (s ∷ ss) = step_text (count + 1) s ++ steps_text (count + 1) ss

-- the lines of a declaration or a start, if there is one
abbrev pub change_text : Option LogChange → List ℕ
change_text None = []
change_text (Some c) = codes "member " ++ (member_text c.event c.incarnation ++ codes "\n") ++ to_lines c.sends

-- the entries of what a block says
abbrev pub steps_of : Said → List LogStep
steps_of (Did change steps) = steps.items
steps_of said = []

-- what a block says behind so many entries
abbrev pub said_text : ℕ → Said → List ℕ
said_text count (Refused code) = refused_line code
said_text count (NoLine column) = bad_line column
said_text count (Did change steps) = change_text change ++ steps_text count steps.items ++ (end_text (count + length steps.items) ++ codes "\n")

abbrev pub block_text : ℕ → Block → List ℕ
block_text count b = clock_line b.clock ++ said_text count b.said

-- the blocks that come behind so many entries
abbrev pub blocks_text : ℕ → List Block → List ℕ
blocks_text count [] = []
blocks_text count (b ∷ bs) = block_text count b ++ blocks_text (count + length (steps_of b.said)) bs

-- a log of these blocks, of whose actor the first one is
abbrev pub log_text : Option Interval → LogHead → List Block → List ℕ
log_text clock head bs = clock_line clock ++ first_block head.shape head.actor head.again ++ blocks_text 0 bs

-- the line ends no block
abbrev pub EndsNoBlock : List ℕ → Type 0
EndsNoBlock line = ((operands : List ℕ) → line ≢ codes "end " ++ operands) × ((operands : List ℕ) → line ≢ codes "refused " ++ operands)

-- no whole line of the text ends a block
pub record IsTorn (text : List ℕ) : Type 0 where
  pub lines : List (List ℕ)
  pub last : List ℕ
  pub passes : Passes text lines last
  pub unfinished : line_feeds last ≡ 0
  pub end_none : All EndsNoBlock lines

-- the text ends so, and it begins with the lines up to the last one that ends a block
pub record EndsTorn (text torn : List ℕ) : Type 0 where
  pub whole : List ℕ
  pub parts : text ≡ whole ++ torn
  pub is_torn : IsTorn torn

-- when a block with this line `at` came about; one without it, at any time
abbrev pub interval_of : Option Interval → Interval
interval_of None = record { began = 0; ended = 18446744073709551615 }
interval_of (Some i) = i

-- the declaration or the start of what a block says
abbrev pub change_of : Said → Option LogChange
change_of (Did change steps) = change
change_of said = None

abbrev pub changed : Interval → Option LogChange → List LoggedChange
changed interval None = []
changed interval (Some c) = record { event = c.event; interval = interval } ∷ []

-- the declarations and starts, in order
abbrev pub changes_of : List Block → List LoggedChange
changes_of [] = []
changes_of (b ∷ bs) = changed (interval_of b.clock) (change_of b.said) ++ changes_of bs

-- the incarnation, or the epoch, in which the actor is behind an event, where it was in `now`
abbrev pub behind : Actor → Option ℕ → MemberEvent → ℕ → Option ℕ
behind (Node n) now (Declare node) incarnation = if n == node then None else now
behind (Node n) now (Restart node) incarnation = if n == node then Some incarnation else now
behind (Server f) now (FailServer file) incarnation = if f == file then None else now
behind (Server f) now (StartServer file) incarnation = if f == file then Some incarnation else now
behind actor now event incarnation = now

-- the same, behind a declaration or a start, if there is one
abbrev pub now_behind : Actor → Option ℕ → Option LogChange → Option ℕ
now_behind actor now None = now
now_behind actor now (Some c) = behind actor now c.event c.incarnation

-- the entries, each with the interval of its block
abbrev pub logged : Interval → List LogStep → List LoggedEntry
logged interval ss = map (λ (s : LogStep). record { entry = s.entry; interval = interval }) ss

-- these entries, where they are of that incarnation
abbrev pub where_in : Option ℕ → ℕ → List LoggedEntry → List LoggedEntry
where_in None incarnation xs = []
where_in (Some now) incarnation xs = if now == incarnation then xs else []

-- the entries that the actor made in that incarnation, where it is in `now` before them
abbrev pub entries_in : Actor → Option ℕ → ℕ → List Block → List LoggedEntry
entries_in actor now incarnation [] = []
entries_in actor now incarnation (b ∷ bs) =
    where_in (now_behind actor now (change_of b.said)) incarnation (logged (interval_of b.clock) (steps_of b.said))
    ++ entries_in actor (now_behind actor now (change_of b.said)) incarnation bs

-- the actor made entries only where it was there
abbrev pub AreMadeThere : Actor → Option ℕ → List Block → Type 0
AreMadeThere actor now [] = Unit
AreMadeThere actor now (b ∷ bs) =
    (now_behind actor now (change_of b.said) ≡ None → steps_of b.said ≡ [])
    × AreMadeThere actor (now_behind actor now (change_of b.said)) bs

-- the incarnation in which the actor is before the first block
abbrev pub first_of : Bool → Option ℕ
first_of again = if again then None else Some 1

-- the text is a log of the actor: blocks, and perhaps a torn one behind them; these are its entries in each incarnation, and the declarations and starts that it was told of
pub record IsLog (text : List ℕ) (head : LogHead) (logs : List LogFields) (changes : List LoggedChange) : Type 0 where
  pub clock : Option Interval
  pub blocks : List Block
  pub torn : List ℕ
  pub parts : text ≡ log_text clock head blocks ++ torn
  pub is_torn : IsTorn torn
  pub entries : (incarnation : ℕ) → log_of logs head.actor incarnation ≡ entries_in head.actor (first_of head.again) incarnation blocks
  pub own : All (λ (l : LogFields). l.actor ≡ head.actor) logs
  pub there : AreMadeThere head.actor (first_of head.again) blocks
  pub told : changes ≡ changes_of blocks

-- a declaration or a start of a list, with the incarnation or the epoch that its line names, and what its line `at` says, where it has one
pub record ListedChange : Type 0 where
  pub clock : Option Interval
  pub event : MemberEvent
  pub incarnation : ℕ

-- the block with which a list begins
abbrev pub list_head : ℕ → ℕ → List ℕ
list_head nodes files = codes "members 2 nodes " ++ decimal nodes ++ codes " files " ++ decimal files ++ codes "\n" ++ (end_text 0 ++ codes "\n")

-- the block of a declaration or a start, which is the one of this number
abbrev pub listed_text : ℕ → ListedChange → List ℕ
listed_text number c = clock_line c.clock ++ codes "member " ++ (member_text c.event c.incarnation ++ codes "\n") ++ (end_text number ++ codes "\n")

-- the blocks of those that come behind so many
abbrev pub listed_texts : ℕ → List ListedChange → List ℕ
listed_texts count [] = []
listed_texts count (c ∷ cs) = listed_text (count + 1) c ++ listed_texts (count + 1) cs

abbrev pub listed_changes : List ListedChange → List LoggedChange
listed_changes cs = map (λ (c : ListedChange). record { event = c.event; interval = interval_of c.clock }) cs

-- the text is a list of a cluster with so many nodes and files: blocks, and perhaps a torn one behind them
pub record IsList (text : List ℕ) (nodes files : ℕ) (changes : List LoggedChange) : Type 0 where
  pub listed : List ListedChange
  pub torn : List ℕ
  pub parts : text ≡ list_head nodes files ++ listed_texts 0 listed ++ torn
  pub is_torn : IsTorn torn
  pub told : changes ≡ listed_changes listed
