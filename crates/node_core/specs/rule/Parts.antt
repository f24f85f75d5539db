-- The parts that the code keeps of a node, and the state that they stand for.
use Rattle.std.specs.Prelude.{◌≡◌, ℕ, Bool, ◌&&◌, ◌||◌, ◌==◌, nat_le, if◌then◌else◌, List, All, length, Some}
use Rattle.intervals.specs.rule.Bytes.{Range}
use Rattle.model.specs.declared.opened.Opened.{Opened}
use Rattle.model.specs.declared.reply.Reply.{Reply}
use Rattle.model.specs.rule.Limits.{IsHost, IsNumber}
use Rattle.model.specs.rule.Descriptors.{no_processes, after}
use Rattle.model.specs.rule.Table.{Table, around, beside}
use Rattle.lock_table.specs.rule.Tables.{TableParts, held}
use Rattle.messages.specs.rule.Shapes.{ShapeFields}
use Rattle.messages.specs.declared.message.Message.{Message}
use Rattle.messages.specs.declared.message.Message.TheVariants.{Taken}
use Rattle.model.specs.declared.host.Host.{Host}
use Rattle.token_set.specs.rule.Tokens.{raised, after_giving_up}
use Rattle.token_set.specs.declared.gave_up.GaveUp.{GaveUp}
use Rattle.node_core.specs.declared.token_command.TokenCommand.{TokenCommand}
use Rattle.messages.specs.rule.Messages.{addressee, file_of, is_within, greatest_number}
use Rattle.descriptors.specs.declared.process_entry.ProcessEntry.{ProcessEntry}
use Rattle.node_core.specs.declared.file_row.FileRow.{FileRow}
use Rattle.node_core.specs.declared.open_call.OpenCall.{OpenCall}
use Rattle.model.specs.declared.op.ProcessCall.{ProcessCall}
use Rattle.descriptors.specs.rule.Rows.{processes}
pub use Rattle.fcntl_table.specs.rule.Tables.{IsOwn, IsSpan}
use Rattle.node_core.specs.rule.Files.{file_state}
use Rattle.node_core.specs.rule.Anchors.{AreAnchored}
use Rattle.node_core.specs.rule.State.{FileState, NodeState, Effect, with_file, quiet, host, process}
use Rattle.node_core.specs.rule.Commands.{remembered, answer_to, is_conflict, is_node}

pub record NodeParts : Type 0 where
  pub shape : ShapeFields
  pub node : ℕ
  pub incarnation : ℕ
  pub calls : ℕ
  pub processes : List ProcessEntry
  pub locks : TableParts
  pub pending : List OpenCall
  pub files : List FileRow

-- the one table, as far as the node knows it: its own processes and their locks
abbrev pub table_of : NodeParts → Table
table_of p = record {
  limit = p.locks.limit;
  on = λ node incarnation. if (node == p.node) && (incarnation == p.incarnation) then processes p.processes else no_processes;
  locks = held p.locks;
}

unfoldable pub node_state : NodeParts → NodeState
node_state p = record {
  shape = p.shape;
  node = p.node;
  incarnation = p.incarnation;
  calls = p.calls;
  table = table_of p;
  pending = p.pending;
  files = file_state p.files;
}

-- what holds of each open call: its number and file are in range, and it is about a lock of its node on bytes of a file
pub record IsOwnCall (files node incarnation : ℕ) (c : OpenCall) : Type 0 where
  pub number_in : IsNumber greatest_number c.number
  pub file_in : IsNumber files c.file
  pub own : IsOwn node incarnation c.owner
  pub span : IsSpan c.span

-- what holds of each node: its numbers are in range, its locks and open calls have their descriptors, and all files are of the shape
pub record IsNode (p : NodeParts) : Type 0 where
  pub host : IsHost p.node p.incarnation
  pub anchored : AreAnchored (table_of p) p.node p.incarnation p.pending
  pub files_in : length p.files ≡ p.shape.files
  pub opened_in : (pid fd : ℕ) (o : Opened) → (processes p.processes).opened pid fd ≡ Some o → IsNumber p.shape.files o.file
  pub calls_in : All (IsOwnCall p.shape.files p.node p.incarnation) p.pending

-- the table after a call that concerns only processes and descriptors, with the reply
abbrev pub asked : NodeState → ℕ → ProcessCall → Table × Reply
asked s pid call = beside s.table (process s pid) (after (around s.table (process s pid)) pid call)

-- the message is for this node, and about a file of the shape
abbrev pub is_for : NodeState → Message → Bool
is_for s m = is_node s.node (addressee m) && is_within s.shape.files (file_of m)

-- what holds of each open call of the node
abbrev pub IsCallOf : NodeState → OpenCall → Type 0
IsCallOf s c = IsOwnCall s.shape.files s.node s.incarnation c

-- the file after a grant is done
abbrev pub granted_file : FileState → TokenCommand → Range → FileState
granted_file f c span = record { token = raised f.token span c.mode; last = c.number; answer = Some (Taken c.file c.number c.call); owes_freed = f.owes_freed }

-- the file after a revoke is done, with the holder's answer
abbrev pub revoked_file : FileState → TokenCommand → Host → GaveUp → FileState
revoked_file f c holder gives =
    record { token = after_giving_up f.token c.mode gives; last = c.number; answer = Some (answer_to c.file c.number holder c.call gives); owes_freed = is_conflict gives || f.owes_freed }

-- a command that isn't the next one: the last one that was done is answered again, any other does nothing
abbrev pub out_of_order : NodeState → ℕ → ℕ → Effect
out_of_order s file number = if (number == (s.files file).last) && nat_le 1 number then remembered s (s.files file).answer else quiet s

-- the node after a grant is done
abbrev pub after_grant : NodeState → TokenCommand → Range → NodeState
after_grant s c span = with_file s c.file (granted_file (s.files c.file) c span)

abbrev pub after_revoke : NodeState → TokenCommand → GaveUp → NodeState
after_revoke s c gives = with_file s c.file (revoked_file (s.files c.file) c (host s) gives)
