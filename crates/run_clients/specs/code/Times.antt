-- The times at which calls are made and answered, the last call of each process, and the references of descriptors.
use Rattle.std.specs.Prelude.{◌≡◌, ℕ, true, Some, ◌≤◌, cond, List, Option, None, Bool, if◌then◌else◌, ⊤, IsSome}
use Rattle.model.specs.declared.opened.Opened.{Opened}
use Rattle.model.specs.rule.Limits.{IsHost, IsNumber, most_descriptions, most_descriptors}
use Rattle.model.specs.rule.Table.{Table, LockTarget, descriptor, is_running}
use Rattle.model.specs.rule.Anchors.{IsAnchored}
use Rattle.std.specs.declared.hash.FoldHasher.{FoldHasher}
use Rattle.std.specs.declared.hash.BuildHasherDefault.{BuildHasherDefault}
use Rattle.std.specs.HashMap.{HashMap, get}
use Rattle.model.specs.declared.call.CallId.{CallId}
use Rattle.model.specs.declared.op.Op.{Op}
use Rattle.model.specs.declared.process.Process.{Process}
use Rattle.messages.specs.declared.event.Event.{Event}
use Rattle.messages.specs.declared.event.Event.TheVariants.{AtNode}
use Rattle.messages.specs.declared.event.NodeInput.TheVariants.{Call}
use Rattle.messages.specs.declared.entry.Entry.{Entry}
use Rattle.cluster_core.specs.rule.Histories.{caller, IsCalledAt, IsRepliedAt}
use Rattle.run_clients.specs.contracts.made_call.ProcessNamePartialEq.TheImpl as derived
use Rattle.run_clients.specs.declared.made_call.MadeCall.{MadeCall}
use Rattle.run_clients.specs.declared.made_call.ProcessName.{ProcessName}
use Rattle.intervals.specs.rule.Bytes.{whole}
use Rattle.intervals.specs.rule.Search.{some_passes}
use Rattle.model.specs.rule.Owners.{description_owner}
use Rattle.model.specs.rule.Descriptors.{Processes, is_of}
use Rattle.model.specs.declared.reply.Reply.{Reply}
use Rattle.messages.specs.rule.Messages.{same_call}
use Rattle.cluster_core.specs.declared.item.Item.{Item}
use Rattle.cluster_core.specs.declared.item.Item.TheVariants.{Answered, Gone}
use Rattle.run_clients.specs.declared.call_times.CallTimes.{CallTimes}

-- processes run only on nodes that can exist, descriptions have possible numbers, and each lock of a node hangs on descriptors of the node
pub record AreAnchored (t : Table) : Type 0 where
  pub hosts : (node incarnation pid : ℕ) → (t.on node incarnation).runs pid ≡ true → IsHost node incarnation
  pub descriptions : (node incarnation pid fd : ℕ) (o : Opened) → (t.on node incarnation).opened pid fd ≡ Some o → IsNumber most_descriptions o.description
  pub anchored : (node incarnation : ℕ) → IsAnchored t node incarnation

-- the call that an event makes, which takes this name
abbrev pub made_by : Event → Option CallId → Option MadeCall
made_by (AtNode node (Call pid op)) (Some id) = Some (record { id = id; pid = pid; op = op })
made_by _ _ = None

abbrev pub name_of : Process → ProcessName
name_of p = record { node = p.node; incarnation = p.incarnation; pid = p.pid }

-- for each process, by its name: the position of an entry
abbrev pub LastCalls : Type 0
LastCalls = HashMap ProcessName ℕ (BuildHasherDefault FoldHasher)

abbrev pub last_of : LastCalls → ProcessName → Option ℕ
last_of kept name = get derived.ghosts.eq kept name

-- the position of the process is noted, and all others are as they were
abbrev pub NotesLast : LastCalls → ProcessName → ℕ → LastCalls → Type 0
NotesLast old name at new = (other : ProcessName) → last_of new other ≡ cond (derived.ghosts.eq name other) (Some at) (last_of old other)

-- the process makes a call at that position
abbrev pub IsCallBy : List Entry → Process → ℕ → Type 0
IsCallBy es p at = (id : CallId) × (op : Op) × (caller id p.pid ≡ p) × IsCalledAt es id p.pid op at

-- there is a position, and this one is not behind it
abbrev pub IsUpTo : ℕ → Option ℕ → Type 0
IsUpTo at noted = (last : ℕ) × (noted ≡ Some last) × (at ≤ last)

-- what is noted of a process is a call of it, and of its calls up to a position none is behind that
pub record AreLast (es : List Entry) (kept : LastCalls) (most : ℕ) : Type 0 where
  pub sound : (p : Process) (last : ℕ) → last_of kept (name_of p) ≡ Some last → IsCallBy es p last
  pub upper : (p : Process) (at : ℕ) → IsCallBy es p at → at ≤ most → IsUpTo at (last_of kept (name_of p))

-- the file and the description of a descriptor, with every byte
abbrev pub reference : Process → Option Opened → Option LockTarget
reference p None = None
reference p (Some o) = Some (record { file = o.file; owner = description_owner p o.description; span = whole })

abbrev pub refers : Table → Process → ℕ → Option LockTarget
refers t p fd = if is_running t p then reference p (descriptor t p fd) else None

-- the process has a descriptor of the description
abbrev pub has_description : Processes → ℕ → ℕ → Bool
has_description ps d pid = some_passes (λ fd. is_of d (ps.opened pid fd)) 0 most_descriptors

-- for each call, by its name: the position of an entry
abbrev pub Positions : Type 0
Positions = HashMap CallId ℕ (BuildHasherDefault FoldHasher)

abbrev pub position_of_call : Positions → CallId → Option ℕ
position_of_call kept id = get same_call kept id

-- the position of the call is noted, and all others are as they were
abbrev pub Notes : Positions → CallId → ℕ → Positions → Type 0
Notes old id at new = (other : CallId) → position_of_call new other ≡ (if same_call other id then Some at else position_of_call old other)

-- some entry makes the call at that position
abbrev pub IsMade : List Entry → CallId → ℕ → Type 0
IsMade es id at = (pid : ℕ) × (op : Op) × IsCalledAt es id pid op at

-- some entry answers the call at that position
abbrev pub IsAnswered : List Entry → CallId → ℕ → Type 0
IsAnswered es id at = (reply : Reply) × IsRepliedAt es id reply at

-- each noted position is true of its call, and each call of which one is true up to a position has one
pub record AreFound (IsSo : CallId → ℕ → Type 0) (kept : Positions) (most : ℕ) : Type 0 where
  pub sound : (id : CallId) (at : ℕ) → position_of_call kept id ≡ Some at → IsSo id at
  pub complete : (id : CallId) (at : ℕ) → IsSo id at → at ≤ most → IsSome (position_of_call kept id)

-- the positions of the calls and of the replies of the entries up to a position are noted, and of each process that of its last call
pub record AreTimes (es : List Entry) (times : CallTimes) (most : ℕ) : Type 0 where
  pub begins : AreFound (IsMade es) times.begins most
  pub ends : AreFound (IsAnswered es) times.ends most
  pub lasts : AreLast es times.lasts most

-- the positions at which the item's call was made and answered are noted
abbrev pub IsKnown : CallTimes → Item → Type 0
IsKnown times (Answered at id pid op reply) = IsSome (position_of_call times.begins id) × IsSome (position_of_call times.ends id)
IsKnown times (Gone at node incarnation) = ⊤

-- the noted positions of the item
abbrev pub IsKept : CallTimes → Item → ℕ → ℕ → Type 0
IsKept times (Answered at id pid op reply) begin end = (position_of_call times.begins id ≡ Some begin) × (position_of_call times.ends id ≡ Some end)
IsKept times (Gone at node incarnation) begin end = (begin ≡ at) × (end ≡ at)
