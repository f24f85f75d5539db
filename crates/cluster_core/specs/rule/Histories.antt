-- The one history of every run.
use Rattle.std.specs.Prelude.{◌≡◌, ℕ, ◌+◌, ◌≤◌, ◌<◌, Bool, true, false, ⊤, List, [], ◌∷◌, ◌++◌, slice_get, Option, Some, None}
use Rattle.std.specs.List.{list_any}
use Rattle.model.specs.declared.call.CallId.{CallId}
use Rattle.model.specs.declared.host.Host.{Host}
use Rattle.model.specs.declared.op.Op.{Op}
use Rattle.model.specs.declared.lock_info.LockInfo.{LockInfo}
use Rattle.model.specs.declared.reply.Reply.{Reply}
use Rattle.model.specs.declared.reply.Reply.TheVariants.{Again, Blocked}
use Rattle.model.specs.declared.process.Process.{Process}
use Rattle.model.specs.rule.Limits.{IsProcess}
use Rattle.model.specs.rule.Table.{Table, empty_table, gone}
use Rattle.model.specs.rule.Step.{Step}
use Rattle.messages.specs.declared.version.Version.{Version}
use Rattle.messages.specs.rule.Shapes.{most_regions, ShapeFields, IsShape}
use Rattle.messages.specs.rule.Messages.{is_conflict}
use Rattle.messages.specs.declared.message.Message.TheVariants.{Deny}
use Rattle.messages.specs.declared.event.Event.{Event}
use Rattle.messages.specs.declared.event.Event.TheVariants.{AtNode, Deliver, Member}
use Rattle.messages.specs.declared.event.NodeInput.TheVariants.{Call}
use Rattle.messages.specs.declared.event.MemberEvent.TheVariants.{Declare}
use Rattle.messages.specs.declared.entry.Entry.{Entry}
use Rattle.cluster_core.specs.declared.item.Item.{Item}
use Rattle.cluster_core.specs.declared.item.Item.TheVariants.{Answered, Gone}
use Rattle.cluster_core.specs.rule.World.{WorldState, first_world}
use Rattle.cluster_core.specs.rule.Runs.{Leads}
use Rattle.cluster_core.specs.rule.Union.{union, live_union}

abbrev pub position_of : Item → ℕ
position_of (Answered at id pid op reply) = at
position_of (Gone at node incarnation) = at

-- the name of the call that an item is of, if it is of a call
abbrev pub call_id : Item → Option CallId
call_id (Answered at id pid op reply) = Some id
call_id (Gone at node incarnation) = None

abbrev pub caller : CallId → ℕ → Process
caller id pid = record { node = id.node; incarnation = id.incarnation; pid = pid }

-- an item leads from one table to the next: a call as a single machine's fcntl() answers it, a failed node by the exit of all its processes
abbrev pub ItemStep : Table → Item → Table → Type 0
ItemStep old (Answered at id pid op reply) new = IsProcess (caller id pid) × Step old (caller id pid) op reply new
ItemStep old (Gone at node incarnation) new = new ≡ gone old node incarnation

-- the items lead from one table to another, one after the other
abbrev pub Legal : Table → List Item → Table → Type 0
Legal old [] new = old ≡ new
Legal old (i ∷ is) new = (mid : Table) × ItemStep old i mid × Legal mid is new

-- a history is legal: from the empty table, with the limit of its version, it leads to some table
abbrev pub IsLegal : Version → List Item → Type 0
IsLegal version h = (last : Table) × Legal (empty_table (most_regions version)) h last

-- an item leaves every table as it was that allows it
abbrev pub IsReadOnly : Item → Type 0
IsReadOnly i = (old new : Table) → ItemStep old i new → new ≡ old

-- the item at another position
abbrev pub moved : ℕ → Item → Item
moved to (Answered at id pid op reply) = Answered to id pid op reply
moved to (Gone at node incarnation) = Gone to node incarnation

-- items that lead from table to table still do where a read-only one moves earlier, if the table there allows it; the replies that name a lock are read-only
pub record QuietItemsMayStandEarlier : Type 0 where
  pub moves :
      (t m u : Table) (xs ys zs : List Item) (i : Item) (to : ℕ)
      → Legal t xs m
      → Legal m (ys ++ i ∷ zs) u
      → IsReadOnly i
      → ItemStep m (moved to i) m
      → Legal t (xs ++ moved to i ∷ (ys ++ zs)) u
  pub again : (at : ℕ) (id : CallId) (pid : ℕ) (op : Op) (lock : LockInfo) → IsReadOnly (Answered at id pid op (Again lock))
  pub blocked : (at : ℕ) (id : CallId) (pid : ℕ) (op : Op) (lock : LockInfo) → IsReadOnly (Answered at id pid op (Blocked lock))

-- the positions of the items rise strictly
abbrev pub Rising : List Item → Type 0
Rising h = (j k : ℕ) (a b : Item) → j < k → slice_get h j ≡ Some a → slice_get h k ≡ Some b → position_of a < position_of b

-- the entry at a position, where the first is 1
abbrev pub EntryAt : List Entry → ℕ → Entry → Type 0
EntryAt es at e = (k : ℕ) × (at ≡ k + 1) × (slice_get es k ≡ Some e)

-- the entry at that position makes the call
pub record IsCalledAt (es : List Entry) (id : CallId) (pid : ℕ) (op : Op) (at : ℕ) : Type 0 where
  pub calling : Entry
  pub there : EntryAt es at calling
  pub is_call : calling.event ≡ AtNode id.node (Call pid op)
  pub named : calling.call ≡ Some id

-- the entry at that position answers the call
pub record IsRepliedAt (es : List Entry) (id : CallId) (reply : Reply) (at : ℕ) : Type 0 where
  pub replying : Entry
  pub there : EntryAt es at replying
  pub is_reply : replying.reply ≡ Some (id, reply)

-- the position is in the open interval of a call: from the entry that makes it to the entry that answers it, both included
pub record IsOpenAt (es : List Entry) (id : CallId) (pid : ℕ) (op : Op) (reply : Reply) (at : ℕ) : Type 0 where
  pub call_at : ℕ
  pub reply_at : ℕ
  pub called : IsCalledAt es id pid op call_at
  pub replied : IsRepliedAt es id reply reply_at
  pub after : call_at ≤ at
  pub before : at ≤ reply_at

-- the entry at that position declares that incarnation of the node failed
pub record IsDeclaredAt (es : List Entry) (node incarnation at : ℕ) : Type 0 where
  pub declaring : Entry
  pub there : EntryAt es at declaring
  pub is_declare : declaring.event ≡ Member (Declare node)
  pub of : declaring.incarnation ≡ incarnation

-- an item stands where it may: a call where `Place` allows it, a failed node at its declaration
abbrev pub IsPlaced : (CallId → ℕ → Op → Reply → ℕ → Type 0) → List Entry → Item → Type 0
IsPlaced Place es (Answered at id pid op reply) = Place id pid op reply at
IsPlaced Place es (Gone at node incarnation) = IsDeclaredAt es node incarnation at

-- the history has an item of this call, with this reply
abbrev pub HasCall : List Item → CallId → Reply → Type 0
HasCall h id reply = (k : ℕ) × (at : ℕ) × (pid : ℕ) × (op : Op) × (slice_get h k ≡ Some (Answered at id pid op reply))

-- the history has the failure of that incarnation of the node, at that position
abbrev pub HasGone : List Item → ℕ → ℕ → ℕ → Type 0
HasGone h node incarnation at = (k : ℕ) × (slice_get h k ≡ Some (Gone at node incarnation))

-- the history has each answered call whose reply is kept exactly once, where `Place` allows it, each declared failure at its position, and nothing else
pub record FitsBy (Place : CallId → ℕ → Op → Reply → ℕ → Type 0) (IsKept : Reply → Type 0) (es : List Entry) (h : List Item) : Type 0 where
  pub rising : Rising h
  pub placed : (k : ℕ) (i : Item) → slice_get h k ≡ Some i → IsPlaced Place es i
  pub answered : (id : CallId) (reply : Reply) (at : ℕ) → IsRepliedAt es id reply at → IsKept reply → HasCall h id reply
  pub gone : (node incarnation at : ℕ) → IsDeclaredAt es node incarnation at → HasGone h node incarnation at
  pub once : (j k : ℕ) (a b : Item) (id : CallId) → slice_get h j ≡ Some a → slice_get h k ≡ Some b → call_id a ≡ Some id → call_id b ≡ Some id → j ≡ k

-- the history has each answered call inside its open interval
abbrev pub Fits : List Entry → List Item → Type 0
Fits es h = FitsBy (IsOpenAt es) (λ reply. ⊤) es h

-- a call has at most one reply
abbrev pub OneReply : List Entry → Type 0
OneReply es = (id : CallId) (r q : Reply) (j k : ℕ) → IsRepliedAt es id r j → IsRepliedAt es id q k → j ≡ k

-- a call is made at most once
abbrev pub OneCall : List Entry → Type 0
OneCall es = (id : CallId) (p q : ℕ) (o u : Op) (j k : ℕ) → IsCalledAt es id p o j → IsCalledAt es id q u k → j ≡ k

-- the history fits the run as `Fitting` says, is legal, and ends with the union of the live nodes
pub record IsHistory (Fitting : List Entry → List Item → Type 0) (shape : ShapeFields) (es : List Entry) (h : List Item) : Type 0 where
  pub world : WorldState
  pub leads : Leads (first_world shape) es world
  pub one_call : OneCall es
  pub one_reply : OneReply es
  pub fits : Fitting es h
  pub legal : Legal (empty_table (most_regions shape.version)) h (union world)
  pub lives : union world ≡ live_union world

abbrev pub HasHistory : ShapeFields → List Entry → List Item → Type 0
HasHistory shape es h = IsHistory Fits shape es h

-- the entry sends the server a conflict with a lock of the holder, as the answer to the revoke with that number
abbrev pub names_conflict : ℕ → Host → ℕ → Entry → Bool
names_conflict file holder number e = list_any (is_conflict file holder number) e.sends

-- the entry at that position is the first that sends the conflict: there the holder did that revoke
pub record IsRevokedAt (es : List Entry) (file : ℕ) (holder : Host) (number : ℕ) (at : ℕ) : Type 0 where
  pub revoking : Entry
  pub there : EntryAt es at revoking
  pub names : names_conflict file holder number revoking ≡ true
  pub first : (k : ℕ) (e : Entry) → k < at → EntryAt es k e → names_conflict file holder number e ≡ false

-- the place of a call that an entry answers: where the holder first did the revoke, if the entry delivers a server's denial that names it; else that entry
abbrev pub IsPlaceOf : List Entry → Event → ℕ → ℕ → Type 0
IsPlaceOf es (Deliver (Deny file call holder number lock)) reply_at at = IsRevokedAt es file holder number at
IsPlaceOf es _ reply_at at = at ≡ reply_at

pub record IsAtItsPlace (es : List Entry) (id : CallId) (pid : ℕ) (op : Op) (reply : Reply) (at : ℕ) : Type 0 where
  pub reply_at : ℕ
  pub replying : Entry
  pub there : EntryAt es reply_at replying
  pub is_reply : replying.reply ≡ Some (id, reply)
  pub place : IsPlaceOf es replying.event reply_at at

-- the history has each answered call at its place
abbrev pub EachAtItsPlace : List Entry → List Item → Type 0
EachAtItsPlace es h = FitsBy (IsAtItsPlace es) (λ reply. ⊤) es h

-- the run has one history for all nodes, files and calls, with each call at its place
abbrev pub HasOneHistory : ShapeFields → List Entry → Type 0
HasOneHistory shape es = (h : List Item) × HasHistory shape es h × EachAtItsPlace es h

-- every run has one history
abbrev pub EveryRunHasAHistory : Type 0
EveryRunHasAHistory = (shape : ShapeFields) (es : List Entry) (w : WorldState) → IsShape shape → Leads (first_world shape) es w → HasOneHistory shape es
