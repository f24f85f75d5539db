-- What the commands do as the words of a line ask for it, and with which status they end.
use Rattle.std.specs.Prelude.{◌≡◌, ◌⊎◌, ℕ, ◌≢◌, ⊤, if◌then◌else◌, List, Option, Some, None, IfSome, string_bytes}
use Rattle.line_play.specs.declared.answering.PlayEnd.{PlayEnd}
use Rattle.line_play.specs.declared.stop.Stop.{Stop}
use Rattle.seat_text.specs.declared.talk.TalkEnd.{TalkEnd}
use denote.Ref.{Bor}
use Rattle.std.specs.Io.KnownBytes.{Appends}
use Rattle.seat_text.specs.rule.Talks.{Turned}
use Rattle.seat_commands.specs.declared.read_back.ReadBack.{ReadBack}
use Rattle.seat_commands.specs.rule.Changes.{list_head}
use Rattle.seat_commands.specs.rule.ListFiles.{IsReadBack}
use Rattle.seat_commands.specs.rule.Registers.{Registry, SaysOfList}
use Rattle.seat_commands.specs.rule.SeatTalks.{TalksFor}
use Rattle.seat_commands.specs.declared.lines.ActorLine.{ActorLine}
use Rattle.seat_commands.specs.declared.lines.MembersLine.{MembersLine}
use Rattle.clap.specs.Words.{Text}
use Rattle.command_line.specs.declared.refusal.Refusal.{Refusal}
use Rattle.command_line.specs.declared.refusal.Refusal.TheVariants.{Help}
use Rattle.line_play.specs.rule.Playing.{PlaysLines}
use Rattle.seat_commands.specs.rule.Merging.{MergesSo}
use Rattle.replay.specs.rule.Commands.{refusal_status}
use Rattle.replay.specs.rule.Stores.{Files, SameFiles}
use Rattle.seat_commands.specs.declared.lines.Asked.{Asked}
use Rattle.seat_commands.specs.declared.lines.Asked.TheVariants.{Seat, Members, Merge, Play}
use Rattle.seat_commands.specs.rule.Asking.{AsksFor, IsRefusal}
use Rattle.line_play.specs.declared.answering.PlayEnd.TheVariants as play
use Rattle.line_play.specs.declared.stop.Stop.TheVariants as stop
use Rattle.seat_text.specs.declared.talk.TalkEnd.TheVariants as end

-- a file, the input or the output is at fault, or memory is short
abbrev pub IsFaultStatus : ℕ → Type 0
IsFaultStatus status = (status ≡ 3) ⊎ (status ≡ 4)

-- the exit status of a talk that ended so
abbrev pub end_status : TalkEnd → ℕ
end_status end.AtEnd = 0
end_status end.CannotRead = 3
end_status end.CannotWrite = 3
end_status end.NoMemory = 4

-- the exit status where a line stopped the playing
abbrev pub stop_status : Stop → ℕ
stop_status (stop.BadLine number) = 3
stop_status stop.JournalFull = 4
stop_status stop.NoMemory = 4

-- the exit status of playing that ended so
abbrev pub play_status : PlayEnd → ℕ
play_status (play.Talk end) = end_status end
play_status (play.Line why) = stop_status why

-- where a file is the log, it has these bytes before and after, as far as they are known
abbrev pub IsLog : {F : Type 0} → (F → Option (List ℕ)) → Option (Bor (List ℕ)) → (before after : Option (List ℕ)) → Type 0
IsLog contents None before after = ⊤
IsLog {F} contents (Some path) before after = (f : F) × (g : F) × (before ≡ contents f) × (after ≡ contents g)

-- there was a talk with the seat of the line, and each block was in its log before it was written out
pub record HasSeat {F : Type 0} (contents : F → Option (List ℕ)) (line : ActorLine) (end : TalkEnd) (unread left out_before out : Option (List ℕ)) : Type 0 where
  pub before : Option (List ℕ)
  pub after : Option (List ℕ)
  pub log : IsLog contents line.log before after
  pub talks : TalksFor line line.actor end unread left before after out_before out

-- a file of these bytes has the list, to which it is cut; where it had no list, the first block is kept in it
pub record TakesUp {F : Type 0} (contents remaining : F → Option (List ℕ)) (line : MembersLine) (opened begun : F) (read : ReadBack) : Type 0 where
  pub bytes : List ℕ
  pub has : IfSome (remaining opened) (λ known. bytes ≡ known)
  pub list : IsReadBack line.shape bytes read
  pub taken : F
  pub begins : read.whole ≡ 0 → Appends (contents taken) (contents begun) (list_head line.shape)
  pub goes_on : read.whole ≢ 0 → begun ≡ taken

-- the list of such a file, which is kept in it
abbrev pub register_of : {F : Type 0} → MembersLine → F → ReadBack → Registry F
register_of line begun read = record { list = read.list; last = if line.clock then Some read.last else None; keeper = begun }

-- there was a talk with who keeps the list of the line's file: the block of each change was kept in the file before it was written out
pub record KeepsList {F : Type 0} (contents remaining : F → Option (List ℕ)) (line : MembersLine) (end : TalkEnd) (unread left out_before out : Option (List ℕ)) : Type 0 where
  pub opened : F
  pub begun : F
  pub read : ReadBack
  pub taken : TakesUp contents remaining line opened begun read
  pub now : Registry F
  pub before : Option (List ℕ)
  pub after : Option (List ℕ)
  pub talks : Turned (SaysOfList contents) (Some end) (register_of line begun read) now unread left before after out_before out

-- the status of a talk with who keeps a list: 3 also where the block of a change could not be kept, which was not answered
abbrev pub IsListStatus : TalkEnd → ℕ → Type 0
IsListStatus end.NoMemory status = IsFaultStatus status
IsListStatus end status = status ≡ end_status end

-- nothing was written: before that a file was at fault, or memory was short
abbrev pub WritesNothing : (out_before out : Option (List ℕ)) → ℕ → Type 0
WritesNothing out_before out status = (out ≡ out_before) × IsFaultStatus status

-- what is asked was done, with this status; `contents` and `remaining` tell what files have
abbrev pub DoesSo : {F : Type 0} → (contents remaining : F → Option (List ℕ)) → (old new : Files) → (unread out_before out : Option (List ℕ)) → Asked → ℕ → Type 0
DoesSo contents remaining old new unread out_before out (Seat line) status =
    ((end : TalkEnd) × (left : Option (List ℕ)) × HasSeat contents line end unread left out_before out × (status ≡ end_status end)) ⊎ WritesNothing out_before out status
DoesSo contents remaining old new unread out_before out (Members line) status =
    ((end : TalkEnd) × (left : Option (List ℕ)) × KeepsList contents remaining line end unread left out_before out × IsListStatus end status) ⊎ WritesNothing out_before out status
DoesSo contents remaining old new unread out_before out (Merge line) status = MergesSo old line new out_before out status
DoesSo contents remaining old new unread out_before out Play status =
    ((end : PlayEnd) × (left : Option (List ℕ)) × PlaysLines end unread left out_before out × (status ≡ play_status end)) ⊎ WritesNothing out_before out status

-- the words were refused, with this status: the help that they ask for was written out, or it could not be; else nothing was
abbrev pub RefusesSo : (out_before out : Option (List ℕ)) → Refusal → ℕ → Type 0
RefusesSo out_before out (Help text) status = ((status ≡ 0) × Appends out_before out (string_bytes text)) ⊎ (status ≡ 3)
RefusesSo out_before out refusal status = (out ≡ out_before) × (status ≡ refusal_status refusal)

-- what the words ask for was done, or they were refused, with this status
abbrev pub Attends : {F : Type 0} → (contents remaining : F → Option (List ℕ)) → (old new : Files) → (unread out_before out : Option (List ℕ)) → List Text → ℕ → Type 0
Attends contents remaining old new unread out_before out words status =
    ((asked : Asked) × AsksFor words asked × DoesSo contents remaining old new unread out_before out asked status)
    ⊎ ((refusal : Refusal) × IsRefusal words refusal × SameFiles old new × RefusesSo out_before out refusal status)
