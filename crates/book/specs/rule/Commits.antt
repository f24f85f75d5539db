-- When a step is accepted and what its commit makes of a book, its receipts, and the failures and starts of actors.
use Rattle.std.specs.Prelude.{◌≡◌, ◌<◌, ◌≤◌, ◌-◌, ℕ, List, Option, Some, None, slice_get, ◌≢◌, ◌⊎◌, ◌+◌, true, false, length, nat_lt, if◌then◌else◌}
use Rattle.model.specs.declared.call.CallId.{CallId}
use Rattle.model.specs.declared.op.Op.{Op}
use Rattle.messages.specs.declared.event.Event.{Event}
use Rattle.messages.specs.declared.event.Event.TheVariants.{AtNode, Member}
use Rattle.messages.specs.declared.event.NodeInput.TheVariants.{Call}
use Rattle.messages.specs.declared.entry.Entry.{Entry}
use Rattle.cluster_core.specs.rule.Next.{entry, is_known}
use Rattle.book.specs.rule.States.{StampFields, ReceiptFields, SeatFields, seat_state, PreparedFields, actor_of, incarnation_of, StepsTo, HasState, is_declared, made_by}
use Rattle.cluster_core.specs.rule.World.{journal_limit, first_world}
use Rattle.cluster_core.specs.rule.Parts.{world_state}
use Rattle.cluster_core.specs.rule.Journals.{RunFields, GoesOn}
use Rattle.cluster_core.specs.rule.Actors.{Records, member_of}
use Rattle.book.specs.declared.commit_error.CommitError.{CommitError}
use Rattle.book.specs.declared.commit_error.CommitError.TheVariants.{JournalFull, Stale, Stranger, Fenced, NoMemory}
use Rattle.messages.specs.rule.Shapes.{ShapeFields}
use Rattle.messages.specs.declared.actor.Actor.{Actor}
use Rattle.messages.specs.declared.actor.Actor.TheVariants.{Node as ANode, Server as AServer}
use Rattle.messages.specs.declared.event.MemberEvent.{MemberEvent}
use Rattle.messages.specs.declared.event.MemberEvent.TheVariants.{Declare, Restart, FailServer, StartServer}

-- a call of that process with that name, if there is a name: the name, the process, and the operation
abbrev pub named_call : ℕ → Op → Option CallId → Option (CallId × ℕ × Op)
named_call pid op None = None
named_call pid op (Some id) = Some (id, pid, op)

abbrev pub call_in : Event → Option CallId → Option (CallId × ℕ × Op)
call_in (AtNode n (Call pid op)) call = named_call pid op call
call_in _ call = None

-- the stamp is of an entry of the journal with these entries
pub record IsStampOf (entries : List Entry) (s : StampFields) : Type 0 where
  pub from_one : 0 < s.position
  pub incarnation : ℕ
  pub there : slice_get entries (s.position - 1) ≡ Some (entry s.event incarnation s.outcome)

-- the receipt is of this call and this reply
pub record IsReceiptOf (call reply : StampFields) (r : ReceiptFields) : Type 0 where
  pub called : call_in call.event call.outcome.call ≡ Some (r.call, r.pid, r.op)
  pub replied : reply.outcome.reply ≡ Some (r.call, r.reply)
  pub seen : r.seen ≡ call.seen
  pub call_at : r.call_at ≡ call.position
  pub reply_at : r.reply_at ≡ reply.position
  pub order : call.position ≤ reply.position

-- the entries have the receipt's call and reply at its positions
pub record Holds (entries : List Entry) (r : ReceiptFields) : Type 0 where
  pub before : r.seen < r.call_at
  pub order : r.call_at ≤ r.reply_at
  pub call_entry : Entry
  pub call_there : slice_get entries (r.call_at - 1) ≡ Some call_entry
  pub called : call_in call_entry.event call_entry.call ≡ Some (r.call, r.pid, r.op)
  pub reply_entry : Entry
  pub reply_there : slice_get entries (r.reply_at - 1) ≡ Some reply_entry
  pub replied : reply_entry.reply ≡ Some (r.call, r.reply)

-- the step names the seat's actor, incarnation and number of commits
abbrev pub Names : PreparedFields → SeatFields → Type 0
Names p s = (p.actor ≡ actor_of (seat_state s)) × (p.incarnation ≡ incarnation_of (seat_state s)) × (p.commits ≡ s.commits)

-- the seat is of the book: its actor is alive, and in the seat's state
abbrev pub IsSeatOf : RunFields → SeatFields → Type 0
IsSeatOf b s = HasState (world_state b.world) (seat_state s)

-- the position of a mark, 0 for none
abbrev pub seen_at : Option ℕ → ℕ
seen_at None = 0
seen_at (Some position) = position

-- the step passes the first tests of a commit: there is room, it names the seat, its event is known, and its actor isn't fenced
pub record Passes (b : RunFields) (s : SeatFields) (p : PreparedFields) : Type 0 where
  pub room : length b.entries < journal_limit
  pub named : Names p s
  pub known : is_known (world_state b.world) p.event ≡ true
  pub free : is_declared (world_state b.world) (seat_state s) ≡ false

-- the step is accepted
abbrev pub Accepts : RunFields → SeatFields → PreparedFields → ℕ → Type 0
Accepts b s p seen = Passes b s p × IsSeatOf b s × (seen ≤ length b.entries)

-- the condition of each refusal; no two hold at once
abbrev pub Refuses : RunFields → SeatFields → PreparedFields → ℕ → CommitError → Type 0
Refuses b s p seen JournalFull = journal_limit ≤ length b.entries
Refuses b s p seen Stale = ((length b.entries < journal_limit) × (Names p s → ⊥)) ⊎ (Passes b s p × (IsSeatOf b s → length b.entries < seen))
Refuses b s p seen Stranger = (length b.entries < journal_limit) × Names p s × (is_known (world_state b.world) p.event ≡ false)
Refuses b s p seen Fenced = (length b.entries < journal_limit) × Names p s × (is_known (world_state b.world) p.event ≡ true) × (is_declared (world_state b.world) (seat_state s) ≡ true)
Refuses b s p seen NoMemory = Accepts b s p seen

-- the step is next, its entry last; other actors' seats stay the book's, fenced seats stay fenced, and older stamps stay the book's
pub record Commits (b : RunFields) (s : SeatFields) (p : PreparedFields) (seen : ℕ) (b' : RunFields) (s' : SeatFields) (t : StampFields) : Type 0 where
  pub accepted : Accepts b s p seen
  pub goes : Records b p.event (made_by (world_state b.world) p.event (seat_state s') p.outcome) b'
  pub step : StepsTo (seat_state s) p.event (seat_state s') p.outcome
  pub commits : s'.commits ≡ s.commits + 1
  pub position : t.position ≡ length b'.entries
  pub event : t.event ≡ p.event
  pub outcome : t.outcome ≡ p.outcome
  pub seen_is : t.seen ≡ seen
  pub mine : IsSeatOf b' s'
  pub others : (o : SeatFields) → actor_of (seat_state o) ≢ actor_of (seat_state s) → IsSeatOf b o → IsSeatOf b' o
  pub fences : (o : SeatFields) → is_declared (world_state b.world) (seat_state o) ≡ true → is_declared (world_state b'.world) (seat_state o) ≡ true
  pub stamped : IsStampOf b'.entries t
  pub stamps : (o : StampFields) → IsStampOf b.entries o → IsStampOf b'.entries o

-- the actor at an index, from 0: the nodes come first, then the token servers
abbrev pub actor_at : ShapeFields → ℕ → Actor
actor_at shape k = if nat_lt k shape.nodes then ANode (k + 1) else AServer (k - shape.nodes + 1)

-- the seat is the first one of the actor at that index
abbrev pub IsFirstSeat : ShapeFields → ℕ → SeatFields → Type 0
IsFirstSeat shape k s = (actor_of (seat_state s) ≡ actor_at shape k) × (s.commits ≡ 0)

-- each seat is the first one of its index, with its actor as it begins
abbrev pub AreFirst : ShapeFields → List SeatFields → Type 0
AreFirst shape seats = (k : ℕ) (s : SeatFields) → slice_get seats k ≡ Some s → IsFirstSeat shape k s × HasState (first_world shape) (seat_state s)

-- the book goes on by the change of a member: fenced seats stay fenced, and stamps of the book and seats of other actors stay the book's
pub record Turns (b : RunFields) (event : MemberEvent) (b' : RunFields) : Type 0 where
  pub goes : GoesOn b (Member event) b'
  pub fences : (o : SeatFields) → is_declared (world_state b.world) (seat_state o) ≡ true → is_declared (world_state b'.world) (seat_state o) ≡ true
  pub stamps : (o : StampFields) → IsStampOf b.entries o → IsStampOf b'.entries o
  pub others : (o : SeatFields) → actor_of (seat_state o) ≢ member_of event → IsSeatOf b o → IsSeatOf b' o

-- the stamp is of the last entry, which this change made; its actor had seen nothing
pub record IsLastStamp (b : RunFields) (event : MemberEvent) (t : StampFields) : Type 0 where
  pub position : t.position ≡ length b.entries
  pub event_is : t.event ≡ Member event
  pub seen_is : t.seen ≡ 0
  pub stamped : IsStampOf b.entries t

-- each seat of the actor in that incarnation, or epoch, is fenced
abbrev pub AreFenced : RunFields → Actor → ℕ → Type 0
AreFenced b a i = (s : SeatFields) → actor_of (seat_state s) ≡ a → incarnation_of (seat_state s) ≡ i → 1 ≤ incarnation_of (seat_state s) → is_declared (world_state b.world) (seat_state s) ≡ true

-- the seat is that of the actor as it begins again
pub record BeginsAgain (b : RunFields) (a : Actor) (s : SeatFields) : Type 0 where
  pub actor : actor_of (seat_state s) ≡ a
  pub commits : s.commits ≡ 0
  pub mine : IsSeatOf b s

-- Declare: the incarnation in which the node was alive is fenced from here on
abbrev pub Declared : RunFields → ℕ → RunFields → StampFields → Type 0
Declared b n b' t = Turns b (Declare n) b' × IsLastStamp b' (Declare n) t × AreFenced b' (ANode n) ((world_state b.world).nodes n).incarnation

-- Restart: the node begins again
abbrev pub Restarted : RunFields → ℕ → RunFields → SeatFields → Type 0
Restarted b n b' s = Turns b (Restart n) b' × BeginsAgain b' (ANode n) s

-- FailServer: the epoch in which the token server of the file worked is fenced from here on
abbrev pub Failed : RunFields → ℕ → RunFields → StampFields → Type 0
Failed b f b' t = Turns b (FailServer f) b' × IsLastStamp b' (FailServer f) t × AreFenced b' (AServer f) ((world_state b.world).servers f).epoch

-- StartServer: the token server of the file begins again, and the stamp has the messages in which it asks the nodes for their tokens
abbrev pub Started : RunFields → ℕ → RunFields → SeatFields → StampFields → Type 0
Started b f b' s t = Turns b (StartServer f) b' × BeginsAgain b' (AServer f) s × IsLastStamp b' (StartServer f) t
