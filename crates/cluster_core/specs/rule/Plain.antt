-- The plain history of a run: the calls whose replies name no lock, each at its reply, and the failed nodes.
use Rattle.std.specs.Prelude.{ℕ, ◌≤◌, List}
use Rattle.model.specs.declared.call.CallId.{CallId}
use Rattle.model.specs.declared.op.Op.{Op}
use Rattle.model.specs.declared.reply.Reply.{Reply}
use Rattle.model.specs.rule.Replay.{NamesNoLock}
use Rattle.messages.specs.rule.Shapes.{ShapeFields, IsShape}
use Rattle.messages.specs.declared.entry.Entry.{Entry}
use Rattle.cluster_core.specs.declared.item.Item.{Item}
use Rattle.cluster_core.specs.rule.World.{WorldState, first_world}
use Rattle.cluster_core.specs.rule.Runs.{Leads}
use Rattle.cluster_core.specs.rule.Histories.{FitsBy, IsCalledAt, IsHistory, IsRepliedAt}

-- the call was made before, and the entry at that position answers it with a reply that names no lock
pub record IsPlainAnswer (es : List Entry) (id : CallId) (pid : ℕ) (op : Op) (reply : Reply) (at : ℕ) : Type 0 where
  pub call_at : ℕ
  pub called : IsCalledAt es id pid op call_at
  pub after : call_at ≤ at
  pub replied : IsRepliedAt es id reply at
  pub names_none : NamesNoLock reply

-- the history has each answered call whose reply names no lock, at its reply
abbrev pub IsPlain : List Entry → List Item → Type 0
IsPlain es h = FitsBy (IsPlainAnswer es) NamesNoLock es h

-- the history is plain and legal, and ends with the union of the live nodes
abbrev pub IsPlainHistory : ShapeFields → List Entry → List Item → Type 0
IsPlainHistory shape es h = IsHistory IsPlain shape es h

abbrev pub HasPlainHistory : ShapeFields → List Entry → Type 0
HasPlainHistory shape es = (h : List Item) × IsPlainHistory shape es h

-- every run has a plain history
abbrev pub EveryRunHasAPlainHistory : Type 0
EveryRunHasAPlainHistory = (shape : ShapeFields) (es : List Entry) (w : WorldState) → IsShape shape → Leads (first_world shape) es w → HasPlainHistory shape es
