-- The outcomes of a script's lines on threads, which are refused, cut or denied, and the result of the run.
use Rattle.std.specs.Prelude.{◌≡◌, ⊤, ℕ, ◌-◌, ◌<◌, ◌≤◌, ◌==◌, ◌&&◌, nat_lt, not, Bool, true, false, List, Option, Some, None, filter, filter_map, map, slice_get, ◌≢◌, ◌⊎◌, All, ◌||◌, if◌then◌else◌, [], ◌∷◌, IsSome, Result, Ok, Err, IsOk, length}
use Rattle.std.specs.Option.{option_map}
use Rattle.std.specs.List.{enumerate_from}
use Rattle.book.specs.rule.States.{ReceiptFields}
use Rattle.lockscript.specs.declared.refused_line.RefusedLine.{RefusedLine}
use Rattle.lockscript.specs.declared.script_line.ScriptCommand.{ScriptCommand}
use Rattle.lockscript.specs.declared.script_line.ScriptCommand.TheVariants.{Call, Settle, Declare, Restart, FailServer, StartServer}
use Rattle.lockscript.specs.rule.Scripts.{LineFields, ScriptFields}
use Rattle.messages.specs.declared.entry.Entry.{Entry}
use Rattle.messages.specs.declared.event.Event.{Event}
use Rattle.messages.specs.declared.event.Event.TheVariants.{AtNode, Member}
use Rattle.messages.specs.declared.event.NodeInput.TheVariants as input
use Rattle.messages.specs.declared.event.MemberEvent.{MemberEvent}
use Rattle.messages.specs.declared.event.MemberEvent.TheVariants as change
use Rattle.messages.specs.rule.Entries as refusals
use Rattle.messages.specs.declared.refusal.Refused.{Refused as Refusal}
use Rattle.messages.specs.declared.refusal.Refused.TheVariants as refusal
use Rattle.thread_runs.specs.declared.indexed_command.IndexedCommand.{IndexedCommand}
use Rattle.actors.specs.declared.call_error.CallError.{CallError}
use Rattle.actors.specs.declared.call_error.CallError.TheVariants.{Stranger, Fenced, Killed}
use Rattle.thread_runs.specs.declared.line_outcome.LineOutcome.{LineOutcome}
use Rattle.thread_runs.specs.declared.line_outcome.LineOutcome.TheVariants.{Answered, Denied, Made, Refused, Settled, Open, Left}
use Rattle.thread_runs.specs.declared.played_line.PlayedLine.{PlayedLine}
use Rattle.actors.specs.rule.Clients.{number_of}
use Rattle.model.specs.declared.call.CallId.{CallId}
use Rattle.model.specs.declared.reply.Reply.{Reply}
use Rattle.model.specs.declared.op.Op.{Op}
use Rattle.messages.specs.rule.Messages.{is_within}
use Rattle.messages.specs.rule.Shapes.{ShapeFields, may_rebuild}
use Rattle.messages.specs.rule.Members.{MembersState, first_members, live_incarnation, declared_failed, restarted}
use Rattle.node_core.specs.rule.Calls.{is_pid, is_in_shape}
use Rattle.cluster_core.specs.rule.Histories.{HasOneHistory}
use Rattle.cluster_core.specs.rule.Journals.{JournalFields}
use Rattle.cluster_core.specs.rule.World.{journal_limit}

abbrev pub is_call : ScriptCommand → Bool
is_call (Call n pid op) = true
is_call _ = false

-- the command is a failure or a start, of a node or of a token server
abbrev pub is_change : ScriptCommand → Bool
is_change (Declare n) = true
is_change (Restart n) = true
is_change (FailServer f) = true
is_change (StartServer f) = true
is_change _ = false

-- the reasons why a call is denied while the run goes on: a process never has two open calls, journals fill before numbers end, and a position counts from 1
abbrev pub may_be_denied : CallError → Bool
may_be_denied Stranger = true
may_be_denied Fenced = true
may_be_denied (Killed at) = nat_lt 0 at
may_be_denied _ = false

-- the reasons for which a failure or a start is refused while the run goes on
abbrev pub may_be_refused : Refusal → Bool
may_be_refused refusal.NotAlive = true
may_be_refused refusal.NotDead = true
may_be_refused refusal.TooManyRestarts = true
may_be_refused refusal.Stranger = true
may_be_refused _ = false

-- the outcome fits: a call is answered, denied or open; a failure or start is made or refused; `settle` is done; positions count from 1; any line may be left
abbrev pub Fits : ScriptCommand → LineOutcome → Type 0
Fits command (Answered r) = command ≡ Call r.call.node r.pid r.op
Fits command (Denied why) = (is_call command ≡ true) × (may_be_denied why ≡ true)
Fits command (Made at) = (is_change command ≡ true) × (0 < at)
Fits command (Refused why) = (is_change command ≡ true) × (may_be_refused why ≡ true)
Fits command Settled = command ≡ Settle
Fits command (Open at) = (is_call command ≡ true) × (0 < at)
Fits command Left = ⊤

abbrev pub receipt_of : LineOutcome → Option ReceiptFields
receipt_of (Answered r) = Some r
receipt_of _ = None

abbrev pub code_of : LineOutcome → Option ℕ
code_of (Denied why) = Some (number_of why)
code_of (Refused why) = Some (refusals.number_of why)
code_of _ = None

abbrev pub receipt_in : PlayedLine → Option ReceiptFields
receipt_in l = receipt_of l.outcome

abbrev pub refused_in : PlayedLine → Option RefusedLine
refused_in l = option_map (λ code. record { line = l.line.number; code = code }) (code_of l.outcome)

-- the position of the call that ended without a reply
abbrev pub killed_at : CallError → Option ℕ
killed_at (Killed at) = Some at
killed_at _ = None

-- the position, from 1, of the entry that the line made, if it made one
abbrev pub begins : LineOutcome → Option ℕ
begins (Answered r) = Some r.call_at
begins (Denied why) = killed_at why
begins (Made at) = Some at
begins (Open at) = Some at
begins _ = None

-- the position of the last entry that belongs to the line: of a call, its reply, or the call itself where it has no reply
abbrev pub ends : LineOutcome → Option ℕ
ends (Answered r) = Some r.reply_at
ends (Denied why) = killed_at why
ends (Made at) = Some at
ends (Open at) = Some at
ends _ = None

-- the last entry of the one line stands before the first entry of the other
abbrev pub Precedes : PlayedLine → PlayedLine → Type 0
Precedes l m = (p q : ℕ) → ends l.outcome ≡ Some p → begins m.outcome ≡ Some q → p < q

-- the line separates phases: each that is no call does; with `no_join`, where lines of failures and starts don't join the clients, `settle` alone
abbrev pub parts : Bool → ScriptCommand → Bool
parts no_join Settle = true
parts no_join (Call n pid op) = false
parts no_join _ = not no_join

-- the lines stand in phases: of two lines with a separating one between them, or which is one of them, the first precedes the second
abbrev pub ArePhases : (ScriptCommand → Bool) → List PlayedLine → Type 0
ArePhases is_between lines =
    (i j k : ℕ) (l m n : PlayedLine) → i ≤ j → j ≤ k → i < k → slice_get lines i ≡ Some l → slice_get lines j ≡ Some m → slice_get lines k ≡ Some n → is_between m.line.command ≡ true → Precedes l n

-- the command of the line with the index, from 0, of the entry that it made, if it made one
abbrev pub made_by : PlayedLine → Option IndexedCommand
made_by l = option_map (λ at. record { index = at - 1; command = l.line.command }) (begins l.outcome)

-- the command of a line that asks for this change of a member
abbrev pub command_of : MemberEvent → ScriptCommand
command_of (change.Declare n) = Declare n
command_of (change.Restart n) = Restart n
command_of (change.FailServer f) = FailServer f
command_of (change.StartServer f) = StartServer f

-- the command of a line that asks for this event, if a line can ask for it
abbrev pub asked_by : Event → Option ScriptCommand
asked_by (AtNode n (input.Call pid op)) = Some (Call n pid op)
asked_by (Member event) = Some (command_of event)
asked_by _ = None

-- the command that asks for the entry's event, with the entry's index
abbrev pub asked_at : ℕ × Entry → Option IndexedCommand
asked_at at = option_map (λ command. record { index = at.0; command = command }) (asked_by at.1.event)

-- the commands that ask for the entries' events, each with the index of its entry, in order
abbrev pub asked_in : List Entry → List IndexedCommand
asked_in entries = filter_map asked_at (enumerate_from 0 entries)

-- the process that asks, by its node and its number, both from 1; 0 and 0 for a line that is no call
abbrev pub asker : ScriptCommand → ℕ × ℕ
asker (Call n pid op) = (n, pid)
asker _ = (0, 0)

-- the command has the same asker
abbrev pub has_asker : ScriptCommand → IndexedCommand → Bool
has_asker c a = (asker c).0 == (asker a.command).0 && (asker c).1 == (asker a.command).1

-- the entries that lines can ask for are exactly those that these lines made, those of each process in the order of its lines
abbrev pub AreMade : List Entry → List PlayedLine → Type 0
AreMade entries lines = (c : ScriptCommand) → filter (has_asker c) (asked_in entries) ≡ filter (has_asker c) (filter_map made_by lines)

-- the lines are those of the script with their outcomes, and made the entries that lines can ask for
pub record AreLinesOf (script : List LineFields) (entries : List Entry) (lines : List PlayedLine) : Type 0 where
  pub same : map (λ l. l.line) lines ≡ script
  pub made : AreMade entries lines

-- the outcome is that of an open call
abbrev pub is_open : LineOutcome → Bool
is_open (Open at) = true
is_open _ = false

-- only a run that was ended as stuck has such an outcome
abbrev pub is_cut : LineOutcome → Bool
is_cut (Open at) = true
is_cut Left = true
is_cut _ = false

abbrev pub name_of : Option Entry → Option CallId
name_of (Some e) = e.call
name_of None = None

-- the name of the call that the entry at this position, from 1, makes
abbrev pub name_at : List Entry → ℕ → Option CallId
name_at entries at = name_of (slice_get entries (at - 1))

-- the name of the line's call, if it is open
abbrev pub open_by : List Entry → LineOutcome → Option CallId
open_by entries (Open at) = name_at entries at
open_by entries _ = None

-- the name of the line's call, if it ended without a reply
abbrev pub killed_by : List Entry → LineOutcome → Option CallId
killed_by entries (Denied (Killed at)) = name_at entries at
killed_by entries _ = None

-- no entry replies to the call
abbrev pub IsUnanswered : List Entry → CallId → Type 0
IsUnanswered entries call = All (λ e. (reply : Reply) → e.reply ≢ Some (call, reply)) entries

-- a line that separates phases stands behind line i, and at j or before it
abbrev pub IsParted : (ScriptCommand → Bool) → List PlayedLine → ℕ → ℕ → Type 0
IsParted is_between lines i j = (k : ℕ) × (n : PlayedLine) × (i < k) × (k ≤ j) × (slice_get lines k ≡ Some n) × (is_between n.line.command ≡ true)

-- a call of an earlier line is open: one of the same process, or one before a line that separates phases
abbrev pub IsBarred : (ScriptCommand → Bool) → List PlayedLine → ℕ → PlayedLine → Type 0
IsBarred is_between lines j m =
    (i : ℕ) × (l : PlayedLine) × (i < j) × (slice_get lines i ≡ Some l) × (is_open l.outcome ≡ true) × ((asker l.line.command ≡ asker m.line.command) ⊎ IsParted is_between lines i j)

-- each line that was left stands behind an open call of its process, or behind one before a line that separates phases
abbrev pub AreBarred : (ScriptCommand → Bool) → List PlayedLine → Type 0
AreBarred is_between lines = (j : ℕ) (m : PlayedLine) → slice_get lines j ≡ Some m → m.outcome ≡ Left → IsBarred is_between lines j m

-- the members of a cluster: its nodes, and its token servers, whose incarnations are their epochs
pub record ClusterMembers : Type 0 where
  pub nodes : MembersState
  pub servers : MembersState

-- the members as the cluster begins: all are alive
abbrev pub first_of : ShapeFields → ClusterMembers
first_of shape = record { nodes = first_members shape.nodes; servers = first_members shape.files }

abbrev pub with_nodes : ClusterMembers → Result (MembersState × ℕ) Refusal → Result ClusterMembers Refusal
with_nodes m (Ok changed) = Ok (record m { nodes = changed.0 })
with_nodes m (Err why) = Err why

abbrev pub with_servers : ClusterMembers → Result (MembersState × ℕ) Refusal → Result ClusterMembers Refusal
with_servers m (Ok changed) = Ok (record m { servers = changed.0 })
with_servers m (Err why) = Err why

-- the members after a failure or a start, or why it is refused; in version 1 token servers have none
abbrev pub changed_by : ShapeFields → ClusterMembers → ScriptCommand → Result ClusterMembers Refusal
changed_by shape m (Declare n) = with_nodes m (declared_failed m.nodes n)
changed_by shape m (Restart n) = with_nodes m (restarted m.nodes n)
changed_by shape m (FailServer f) = if may_rebuild shape.version then with_servers m (declared_failed m.servers f) else Err refusal.Stranger
changed_by shape m (StartServer f) = if may_rebuild shape.version then with_servers m (restarted m.servers f) else Err refusal.Stranger
changed_by shape m _ = Ok m

abbrev pub if_made : ClusterMembers → Result ClusterMembers Refusal → LineOutcome → ClusterMembers
if_made m (Ok changed) (Made at) = changed
if_made m _ _ = m

-- the members behind a line: changed, if the line is a failure or a start that was made
abbrev pub after_line : ShapeFields → ClusterMembers → PlayedLine → ClusterMembers
after_line shape m l = if_made m (changed_by shape m l.line.command) l.outcome

-- the cluster has the node, and a node can have the process
abbrev pub has_process : ShapeFields → ℕ → ℕ → Bool
has_process shape n pid = is_within shape.nodes n && is_pid pid

-- the cluster has all that the call names: node, process, file and child
abbrev pub has_call : ShapeFields → ℕ → ℕ → Op → Bool
has_call shape n pid op = has_process shape n pid && is_in_shape shape op

-- the line declared the node failed, by an entry behind this position
abbrev pub declares : ℕ → ℕ → ScriptCommand → LineOutcome → Bool
declares n after (Declare m) (Made at) = (m == n) && nat_lt after at
declares n after _ _ = false

-- one of these lines, before the first that separates phases, declared the node failed by an entry behind this position
abbrev pub fails_in : (ScriptCommand → Bool) → ℕ → ℕ → List PlayedLine → Bool
fails_in is_between n after [] = false
fails_in is_between n after (l ∷ ls) = not (is_between l.line.command) && (declares n after l.line.command l.outcome || fails_in is_between n after ls)

-- A call may have this outcome, where the nodes are such and these lines stand behind it. A live incarnation answers it; `Stranger` alone names what the
-- cluster lacks; the node of `Fenced` is declared failed before it, or behind it in the phase, that of `Killed` behind it in the phase; that of an open call is
-- live.
abbrev pub MayCallCome : (ScriptCommand → Bool) → ShapeFields → MembersState → ℕ → ℕ → Op → LineOutcome → List PlayedLine → Type 0
MayCallCome is_between shape nodes n pid op (Answered r) behind = (has_call shape n pid op ≡ true) × (live_incarnation nodes n ≡ Some r.call.incarnation)
MayCallCome is_between shape nodes n pid op (Denied Stranger) behind = has_call shape n pid op ≡ false
MayCallCome is_between shape nodes n pid op (Denied Fenced) behind = (has_process shape n pid ≡ true) × ((live_incarnation nodes n ≡ None) ⊎ (fails_in is_between n 0 behind ≡ true))
MayCallCome is_between shape nodes n pid op (Denied (Killed at)) behind = (has_call shape n pid op ≡ true) × IsSome (live_incarnation nodes n) × (fails_in is_between n at behind ≡ true)
MayCallCome is_between shape nodes n pid op (Open at) behind = (has_call shape n pid op ≡ true) × IsSome (live_incarnation nodes n)
MayCallCome is_between shape nodes n pid op _ behind = ⊤

-- a failure or a start may have this outcome: it is made or refused as the members say
abbrev pub MayChangeCome : Result ClusterMembers Refusal → LineOutcome → Type 0
MayChangeCome changed (Made at) = IsOk changed
MayChangeCome changed (Refused why) = changed ≡ Err why
MayChangeCome changed _ = ⊤

-- a line may have this outcome with these members before it and these lines behind it
abbrev pub MayCome : (ScriptCommand → Bool) → ShapeFields → ClusterMembers → ScriptCommand → LineOutcome → List PlayedLine → Type 0
MayCome is_between shape m (Call n pid op) outcome behind = MayCallCome is_between shape m.nodes n pid op outcome behind
MayCome is_between shape m command outcome behind = MayChangeCome (changed_by shape m command) outcome

-- each line may have its outcome, with the members that the lines before it leave
abbrev pub MayAllCome : (ScriptCommand → Bool) → ShapeFields → ClusterMembers → List PlayedLine → Type 0
MayAllCome is_between shape m [] = ⊤
MayAllCome is_between shape m (l ∷ ls) = MayCome is_between shape m l.line.command l.outcome ls × MayAllCome is_between shape (after_line shape m l) ls

-- the result of a run: the journal, the lines with their outcomes, the receipts, the refused lines, and the calls that are open where it was ended as stuck
pub record ThreadRunFields : Type 0 where
  pub journal : JournalFields
  pub lines : List PlayedLine
  pub receipts : List ReceiptFields
  pub refused : List RefusedLine
  pub open_calls : List CallId

-- The run is of the script and its cluster. Each line has an outcome that fits it and may come of the lines around it. The lines made the entries that lines
-- can ask for, in phases. No entry answers a call that ended without a reply. Receipts, refused lines and open calls are the lines', in their order. Only a run
-- that may stop where it is stuck has open calls, which no entry answers, and lines left behind them.
pub record IsOfScript (script : ScriptFields) (no_join may_stop : Bool) (run : ThreadRunFields) : Type 0 where
  pub shape : run.journal.shape ≡ script.shape
  pub lines : AreLinesOf script.lines run.journal.entries run.lines
  pub fit : All (λ l. Fits l.line.command l.outcome) run.lines
  pub phases : ArePhases (parts no_join) run.lines
  pub come : MayAllCome (parts no_join) script.shape (first_of script.shape) run.lines
  pub killed : All (IsUnanswered run.journal.entries) (filter_map (λ l. killed_by run.journal.entries l.outcome) run.lines)
  pub receipts : run.receipts ≡ filter_map receipt_in run.lines
  pub refused : run.refused ≡ filter_map refused_in run.lines
  pub open_calls : run.open_calls ≡ filter_map (λ l. open_by run.journal.entries l.outcome) run.lines
  pub unanswered : All (IsUnanswered run.journal.entries) run.open_calls
  pub barred : AreBarred (parts no_join) run.lines
  pub whole : may_stop ≡ false → All (λ l. is_cut l.outcome ≡ false) run.lines

-- the journal is of a run of the script's cluster, has one history and no room for another entry; lines of the script, of each process in order, made it
pub record IsFullJournal (script : ScriptFields) (journal : JournalFields) : Type 0 where
  pub of_shape : journal.shape ≡ script.shape
  pub one_table : HasOneHistory journal.shape journal.entries
  pub full : journal_limit ≤ length journal.entries
  pub lines : List PlayedLine
  pub are_of : AreLinesOf script.lines journal.entries lines
