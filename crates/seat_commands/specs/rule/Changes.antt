-- The list of declarations and starts.
use Rattle.std.specs.Prelude.{ℕ, List, [], ◌∷◌, ◌++◌, None, Result, Ok, Err, codes, decimal, flat_map, length}
use Rattle.messages.specs.declared.event.Event.TheVariants.{Member}
use Rattle.messages.specs.declared.event.MemberEvent.{MemberEvent}
use Rattle.messages.specs.declared.event.MemberEvent.TheVariants.{Declare, Restart, FailServer, StartServer}
use Rattle.messages.specs.declared.refusal.Refused.{Refused}
use Rattle.messages.specs.declared.version.Version.TheVariants.{Second}
use Rattle.messages.specs.rule.Shapes.{ShapeFields}
use Rattle.messages.specs.rule.Members.{MembersState, declared_failed, first_members, restarted, MembersParts, members_state}
use Rattle.journal_text.specs.rule.Journals.{end_text}
use Rattle.journal_text.specs.rule.Texts.{event_text}
use Rattle.seat_text.specs.declared.seat_line.SeatLine.{SeatLine}
use Rattle.seat_text.specs.declared.seat_line.SeatLine.TheVariants as line
use Rattle.seat_text.specs.rule.SeatLines.{line_text}
use Rattle.seat_commands.specs.declared.change_list.NotedChange.{NotedChange}
use Rattle.seat_commands.specs.rule.Clocks.{interval_text}

-- which nodes and token servers are alive, and the changes that led there
pub record ListState : Type 0 where
  pub nodes : MembersState
  pub servers : MembersState
  pub changes : List MemberEvent

-- the list of a cluster that begins
abbrev pub first_list : ShapeFields → ListState
first_list shape = record { nodes = first_members shape.nodes; servers = first_members shape.files; changes = [] }

abbrev pub Changed : Type 0
Changed = Result (ListState × ℕ) Refused

abbrev pub with_nodes : ListState → MemberEvent → Result (MembersState × ℕ) Refused → Changed
with_nodes s change (Ok r) = Ok (record s { nodes = r.0; changes = s.changes ++ change ∷ [] }, r.1)
with_nodes s change (Err e) = Err e

abbrev pub with_servers : ListState → MemberEvent → Result (MembersState × ℕ) Refused → Changed
with_servers s change (Ok r) = Ok (record s { servers = r.0; changes = s.changes ++ change ∷ [] }, r.1)
with_servers s change (Err e) = Err e

-- a change more, with the incarnation or the epoch that it ends or begins, by the rules of members; or why it is refused
abbrev pub list_rule : ListState → MemberEvent → Changed
list_rule s (Declare n) = with_nodes s (Declare n) (declared_failed s.nodes n)
list_rule s (Restart n) = with_nodes s (Restart n) (restarted s.nodes n)
list_rule s (FailServer file) = with_servers s (FailServer file) (declared_failed s.servers file)
list_rule s (StartServer file) = with_servers s (StartServer file) (restarted s.servers file)

-- what the code keeps of a list
pub record ListParts : Type 0 where
  pub members : MembersParts
  pub changes : List MemberEvent

abbrev pub list_with : MembersParts → List MemberEvent → ListState
list_with p changes = record { nodes = members_state p.nodes; servers = members_state p.servers; changes = changes }

abbrev pub list_state : ListParts → ListState
list_state p = list_with p.members p.changes

-- the line of a change
abbrev pub member_line : NotedChange → List ℕ
member_line n = codes "member " ++ (event_text Second (Member n.change) n.incarnation None ++ codes "\n")

-- the block of a change, which is the one of this number
abbrev pub noted_text : NotedChange → ℕ → List ℕ
noted_text n count = interval_text n.interval ++ (member_line n ++ (end_text count ++ codes "\n"))

abbrev pub counts_line : ℕ → ℕ → List ℕ
counts_line nodes files = decimal nodes ++ codes " files " ++ decimal files ++ codes "\n"

-- the line of a cluster's size
abbrev pub size_line : ℕ → ℕ → List ℕ
size_line nodes files = codes "members 2 nodes " ++ counts_line nodes files

-- the block with which a list begins
abbrev pub list_head : ShapeFields → List ℕ
list_head shape = size_line shape.nodes shape.files ++ (end_text 0 ++ codes "\n")

-- the line that tells a seat of a change
abbrev pub told_line : MemberEvent → SeatLine
told_line (Declare n) = line.Declare n
told_line (Restart n) = line.Restart n
told_line (FailServer file) = line.FailServer file
told_line (StartServer file) = line.StartServer file

abbrev pub told_lines : List MemberEvent → List ℕ
told_lines changes = flat_map (λ change. line_text (told_line change) ++ codes "\n") changes

-- all that a seat is to be told that begins later
abbrev pub told_text : List MemberEvent → List ℕ
told_text changes = told_lines changes ++ (end_text (length changes) ++ codes "\n")
