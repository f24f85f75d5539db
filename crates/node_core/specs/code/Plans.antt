-- What a planned step changes of a node, the rows of its files, and what hints say of open calls.
use Rattle.std.specs.Prelude.{ℕ, zero, suc, List, [], ◌∷◌, false, None, ◌≡◌, ◌≤◌, ◌%◌, true, get_or, ◌+◌, ◌-◌, ◌<◌, ◌==◌, Bool, not, if◌then◌else◌, ◌++◌, All, filter, length, Option, Some, Box}
use Rattle.node_core.specs.declared.file_row.FileRow.{FileRow}
use Rattle.node_core.specs.declared.hints.Hints.{Hints}
use Rattle.node_core.specs.declared.open_call.OpenCall.{OpenCall}
use Rattle.std.specs.Global.{Global}
use Rattle.std.specs.List.{slice_get}
use Rattle.std.specs.Vec.{vec_capacity}
use Rattle.model.specs.declared.host.Host.{Host}
use Rattle.model.specs.declared.opened.Opened.{Opened}
use Rattle.model.specs.rule.Descriptors.{Processes}
use Rattle.model.specs.rule.Limits.{IsNumber, most_processes}
use Rattle.model.specs.rule.Locks.{with_lock}
use Rattle.model.specs.rule.Table.{Table, descriptor, with_processes, closed_if, exited}
use Rattle.lock_table.specs.code.Rows.{Fits as LocksFit}
use Rattle.lock_table.specs.rule.Tables.{TableParts}
use Rattle.token_set.specs.code.Edits.{edited as token_edited}
use Rattle.messages.specs.rule.Messages.{greatest_number}
use Rattle.messages.specs.declared.message.Message.{Message}
use Rattle.descriptors.specs.declared.process_entry.ProcessEntry.{ProcessEntry}
use Rattle.descriptors.specs.code.Edits.{edited, Fits as ProcessFits}
use Rattle.node_core.specs.declared.effect.Effect.{Effect as EffectFields}
use Rattle.node_core.specs.declared.node_edit.NodeDraft.{NodeDraft}
use Rattle.fcntl_table.specs.rule.Hosts.{process_at}
use Rattle.node_core.specs.declared.node_edit.NodeEdit.{NodeEdit}
use Rattle.node_core.specs.declared.node_edit.NodeTableEdit.{NodeTableEdit}
use Rattle.node_core.specs.declared.node_edit.NodeTableEdit.TheVariants.{Nothing, OfProcess, OfLocks, Closes, Exits}
use Rattle.node_core.specs.declared.file_row.FileEdit.{FileEdit}
use Rattle.node_core.specs.declared.open_calls.CallsEdit.{CallsEdit}
use Rattle.node_core.specs.declared.open_calls.CallsEdit.TheVariants.{Same, Put, Gone, Left}
use Rattle.descriptors.specs.rule.Rows.{processes}
use Rattle.node_core.specs.rule.State.{FileState, NodeState, Effect, first_file, host}
use Rattle.node_core.specs.rule.Answers.{answer_of}
use Rattle.node_core.specs.rule.Anchors.{IsAnchored}
use Rattle.node_core.specs.rule.Parts.{NodeParts, node_state, IsCallOf}

-- the row of a file that the node knows nothing of
abbrev pub first_row : FileRow
first_row = record { token = []; last = 0; answer = None; owes_freed = false }

-- the rows of so many files: these, and then those that nothing is known of
abbrev pub rows_of : ℕ → List FileRow → List FileRow
rows_of zero rows = []
rows_of (suc n) [] = first_row ∷ rows_of n []
rows_of (suc n) (r ∷ rows) = r ∷ rows_of n rows

-- the hints allow the call: its number is at most the greatest, and its process has its flag set
pub record IsHinted (h : Hints) (c : OpenCall) : Type 0 where
  pub number : c.number ≤ h.greatest
  pub caller : get_or h.callers (c.pid % 256) false ≡ true

-- the number of calls that the node took, after one more call or after none
abbrev pub calls_after : ℕ → Bool → ℕ
calls_after calls true = calls + 1
calls_after calls false = calls

-- the node after a call takes the next number
abbrev pub numbered : NodeState → NodeState
numbered s = record s { calls = s.calls + 1 }

-- what the node knows of a file after a command's change
abbrev pub file_after : FileRow → FileEdit → FileState
file_after r e = record { token = token_edited e.token r.token; last = e.last; answer = answer_of e.answer; owes_freed = e.owes_freed }

abbrev pub row_after : Option FileRow → FileEdit → FileState
row_after None e = first_file
row_after (Some r) e = file_after r e

-- the change in the box, if there is one
abbrev pub edit_in : {Z : Type 0} → Option (Box FileEdit Z) → Option FileEdit
edit_in None = None
edit_in (Some boxed) = Some boxed.value

-- what the node knows of each file after a command's change, if there is one
abbrev pub files_after : (ℕ → FileState) → List FileRow → Option FileEdit → ℕ → FileState
files_after files rows None = files
files_after files rows (Some e) = λ f. if f == e.file then row_after (slice_get rows (e.file - 1)) e else files f

-- the files after a Freed is sent for one of them, which is owed none any longer
abbrev pub told : (ℕ → FileState) → ℕ → ℕ → FileState
told files file = λ f. if f == file then record (files file) { owes_freed = false } else files f

-- the files after a Freed is sent for each of these
abbrev pub files_told : (ℕ → FileState) → List ℕ → ℕ → FileState
files_told files [] = files
files_told files (file ∷ more) = files_told (told files file) more

-- the table after a change of the host's processes and locks
abbrev pub table_after : Host → Table → NodeTableEdit → Table
table_after h t Nothing = t
table_after h t (OfProcess e) = with_processes t (process_at h 0) (edited (t.on h.node h.incarnation) e)
table_after h t (OfLocks boxed) = let e = boxed.value in record t { locks = with_lock t.locks e.file e.owner e.write.span e.write.value }
table_after h t (Closes pid fd) = closed_if t (process_at h pid) fd (descriptor t (process_at h pid) fd)
table_after h t (Exits pid) = exited t (process_at h pid)

-- the open calls after a change of them
abbrev pub pending_after : List OpenCall → CallsEdit → List OpenCall
pending_after calls Same = calls
pending_after calls (Put call room) = calls ++ call ∷ []
pending_after calls (Gone number) = filter (λ c. not (c.number == number)) calls
pending_after calls (Left pid number) = filter (λ c. not (c.number == number)) (filter (λ c. not (c.pid == pid)) calls)

-- the state in which a call is tried: the node after the draft
abbrev pub drafted : NodeParts → NodeDraft → NodeState
drafted p d = record (node_state p) { calls = calls_after (node_state p).calls d.numbered; files = files_after (node_state p).files p.files (edit_in d.command) }

-- the node after a command's change at its file
abbrev pub commanded : NodeParts → FileEdit → NodeState
commanded p e = record (node_state p) { files = files_after (node_state p).files p.files (Some e) }

-- the open calls, with the call that is tried if it is new
abbrev pub opened_if : Bool → List OpenCall → OpenCall → List OpenCall
opened_if true calls c = calls ++ c ∷ []
opened_if false calls c = calls

abbrev pub trying : NodeParts → NodeDraft → OpenCall → NodeState
trying p d c = record (drafted p d) { pending = opened_if d.numbered (node_state p).pending c }

-- the state after these changes are made
abbrev pub made : NodeParts → NodeEdit → NodeState
made p e =
    let s = drafted p e.draft in
    record s {
      table = table_after (host s) s.table e.table;
      pending = pending_after s.pending e.calls;
      files = files_told s.files e.freed;
    }

-- the state that a planned step leads to
abbrev pub planned : NodeParts → Box NodeEdit Global → NodeState
planned p e = made p e.value

-- the effect that a planned step has
abbrev pub effect_of : NodeParts → EffectFields → Effect
effect_of p e = record { state = planned p e.edit; reply = e.reply; sends = e.sends }

-- the second effect sends that message for one more file, for which a Freed is owed no longer
abbrev pub TellsOf : ℕ → Message → EffectFields → EffectFields → Type 0
TellsOf file freed before after =
    (after.edit.value ≡ record before.edit.value { freed = before.edit.value.freed ++ file ∷ [] })
    × (after.reply ≡ before.reply)
    × (after.sends ≡ before.sends ++ freed ∷ [])

-- a call number is left, if the step takes one
abbrev pub NumberFits : ℕ → Bool → Type 0
NumberFits calls true = calls < greatest_number
NumberFits calls false = Unit {0}

-- the file of the command, if there is one, is of the shape
abbrev pub CommandFits : ℕ → Option FileEdit → Type 0
CommandFits files None = Unit {0}
CommandFits files (Some e) = IsNumber files e.file

abbrev pub DraftFits : NodeParts → NodeDraft → Type 0
DraftFits p d = NumberFits (node_state p).calls d.numbered × CommandFits (node_state p).shape.files (edit_in d.command)

-- the change of processes and locks can be made: rows are as planned, a new one has room, and a process that closes descriptors runs
abbrev pub RowsFit : List ProcessEntry → TableParts → NodeTableEdit → Type 0
RowsFit rows locks Nothing = Unit {0}
RowsFit rows locks (OfProcess e) = ProcessFits rows e
RowsFit rows locks (OfLocks e) = LocksFit locks e.value
RowsFit rows locks (Closes pid fd) = IsNumber most_processes pid × ((processes rows).runs pid ≡ true)
RowsFit rows locks (Exits pid) = IsNumber most_processes pid × ((processes rows).runs pid ≡ true)

-- after the change all open descriptors are of files of the shape
abbrev pub OpensWithin : ℕ → Processes → NodeTableEdit → Type 0
OpensWithin files ps (OfProcess e) = (pid fd : ℕ) (o : Opened) → (edited ps e).opened pid fd ≡ Some o → IsNumber files o.file
OpensWithin files ps _ = Unit {0}

abbrev pub TableFits : NodeParts → NodeTableEdit → Type 0
TableFits p e = RowsFit p.processes p.locks e × OpensWithin (node_state p).shape.files (processes p.processes) e

-- the list of open calls that the change brings has room for one more than n
abbrev pub HasRoom : ℕ → CallsEdit → Type 0
HasRoom n (Put call room) = (room.items ≡ []) × (n < vec_capacity room)
HasRoom n _ = Unit {0}

-- the call that becomes open is one of the node
abbrev pub IsPut : NodeParts → CallsEdit → Type 0
IsPut p (Put call room) = IsCallOf (node_state p) call
IsPut p _ = Unit {0}

abbrev pub CallsFit : NodeParts → CallsEdit → Type 0
CallsFit p e = HasRoom (length p.pending) e × IsPut p e

-- each of these changes can be made on the node that they were planned for
abbrev pub EditFits : NodeParts → NodeEdit → Type 0
EditFits p e =
    DraftFits p e.draft
    × TableFits p e.table
    × CallsFit p e.calls
    × All (IsNumber (node_state p).shape.files) e.freed

-- each part of the change can be made on the node that it was planned for
abbrev pub PartsFit : NodeParts → Box NodeEdit Global → Type 0
PartsFit p e = EditFits p e.value

-- the change can be made on the node, and leaves no lock without its descriptors
abbrev pub Fits : NodeParts → Box NodeEdit Global → Type 0
Fits p e = PartsFit p e × IsAnchored (planned p e)
