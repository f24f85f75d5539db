-- The evidence of each denial.
use Rattle.std.specs.Prelude.{◌≡◌, ◌⊎◌, ℕ, max, ◌+◌, ◌<◌, ◌≤◌, Bool, true, false, List, [], ◌∷◌, take, Some, None, Ok}
use Rattle.intervals.specs.rule.Bytes.{Range}
use Rattle.model.specs.declared.mode.Mode.{Mode}
use Rattle.model.specs.declared.call.CallId.{CallId}
use Rattle.model.specs.declared.host.Host.{Host}
use Rattle.model.specs.declared.lock_info.LockInfo.{LockInfo}
use Rattle.model.specs.declared.op.Op.{Op}
use Rattle.model.specs.declared.op.Op.TheVariants.{Lock}
use Rattle.model.specs.declared.op.LockCommand.{LockCommand}
use Rattle.model.specs.declared.op.LockCommand.TheVariants.{Wait}
use Rattle.model.specs.declared.process.Process.{Process}
use Rattle.model.specs.rule.Locks.{Blocks}
use Rattle.model.specs.rule.Table.{Table, LockTarget, call_target}
use Rattle.messages.specs.rule.Shapes.{ShapeFields, IsShape, begin_of}
use Rattle.messages.specs.rule.TokenRuns.{Wants}
use Rattle.messages.specs.declared.message.Message.TheVariants.{Grant, Revoke, Conflict, Deny}
use Rattle.messages.specs.declared.event.Event.TheVariants.{Deliver}
use Rattle.messages.specs.declared.entry.Entry.{Entry}
use Rattle.messages.specs.rule.Messages.{is_among}
use Rattle.node_core.specs.rule.State.{host}
use Rattle.cluster_core.specs.rule.World.{WorldState, first_world, has_node}
use Rattle.cluster_core.specs.rule.Runs.{Leads}
use Rattle.cluster_core.specs.rule.Union.{union}
use Rattle.cluster_core.specs.rule.Histories.{caller, IsCalledAt, IsRevokedAt}

-- the call passes its tests in the table: it asks for a lock of that mode on that target
abbrev pub IsAbout : Table → Process → Op → Mode → LockTarget → Type 0
IsAbout t p (Lock call) mode c = (call.mode ≡ mode) × (call_target t p call ≡ Ok c)
IsAbout t p _ mode c = ⊥

-- the call may wait for a lock to go
abbrev pub may_wait : LockCommand → Bool
may_wait Wait = true
may_wait _ = false

abbrev pub is_wait : Op → Bool
is_wait (Lock call) = may_wait call.command
is_wait _ = false

-- the world after the entry at a position
abbrev pub IsWorldAfter : ShapeFields → List Entry → ℕ → WorldState → Type 0
IsWorldAfter shape es at w = Leads (first_world shape) (take at es) w

-- a call of the run asks for a lock of that mode on these bytes of the file
pub record IsAsked (shape : ShapeFields) (es : List Entry) (file : ℕ) (call : CallId) (mode : Mode) (span : Range) : Type 0 where
  pub at : ℕ
  pub pid : ℕ
  pub op : Op
  pub called : IsCalledAt es call pid op at
  pub world : WorldState
  pub after : IsWorldAfter shape es at world
  pub about : LockTarget
  pub asks : IsAbout (union world) (caller call pid) op mode about
  pub file_is : about.file ≡ file
  pub span_is : about.span ≡ span

-- the call that a grant names asked for a lock of that mode on bytes that all are granted
pub record IsServedBy (shape : ShapeFields) (es : List Entry) (file : ℕ) (call : CallId) (mode : Mode) (span : Range) : Type 0 where
  pub required : Range
  pub asked : IsAsked shape es file call mode required
  pub starts : span.lo ≤ required.lo
  pub ends : required.hi ≤ span.hi

-- before the entry at that position the holder had not done the command of that number about the file: it was the next one of its epoch
pub record IsFirstDone (shape : ShapeFields) (es : List Entry) (file : ℕ) (holder : Host) (number at : ℕ) : Type 0 where
  pub place : ℕ
  pub at_is : at ≡ place + 1
  pub before : WorldState
  pub up_to : IsWorldAfter shape es place before
  pub there : has_node before holder.node ≡ true
  pub holder_is : host (before.nodes holder.node) ≡ holder
  pub is_next : max ((before.nodes holder.node).files file).last (begin_of number) + 1 ≡ number

-- after the call was made the holder first did the revoke of that number, and answered with this conflict: the lock was then its region and blocked the call
pub record HasEvidence (shape : ShapeFields) (es : List Entry) (file : ℕ) (call : CallId) (holder : Host) (number : ℕ) (lock : LockInfo) : Type 0 where
  pub mode : Mode
  pub wanted : Wants
  pub asked : IsAsked shape es file call mode wanted.required
  pub at : ℕ
  pub later : asked.at < at
  pub revoked : IsRevokedAt es file holder number at
  pub first_done : IsFirstDone shape es file holder number at
  pub does : revoked.revoking.event ≡ Deliver (Revoke file number holder call mode wanted)
  pub answer : revoked.revoking.sends ≡ Conflict file number holder call lock ∷ []
  pub no_reply : revoked.revoking.reply ≡ None
  pub world : WorldState
  pub after : IsWorldAfter shape es at world
  pub of_node : lock.owner.node ≡ holder.node
  pub of_incarnation : lock.owner.incarnation ≡ holder.incarnation
  pub blocks : Blocks ((union world).locks file) asked.about.owner wanted.required mode lock

-- a node of the world remembers the conflict as the answer to its last command about a file
abbrev pub IsRemembered : WorldState → ℕ → CallId → Host → ℕ → LockInfo → Type 0
IsRemembered w file call holder number lock = (node of : ℕ) × (has_node w node ≡ true) × (((w.nodes node).files of).answer ≡ Some (Conflict file number holder call lock))

-- the conflict was sent to a server, or a server sent a denial for it, or a node remembers it
abbrev pub IsTold : WorldState → ℕ → CallId → Host → ℕ → LockInfo → Type 0
IsTold w file call holder number lock = (is_among w.sent (Conflict file number holder call lock) ≡ true) ⊎ ((is_among w.sent (Deny file call holder number lock) ≡ true) ⊎ IsRemembered w file call holder number lock)

-- each conflict or denial in a world of the run has its evidence up to there: no call is denied for a lock that was not there
abbrev pub DenialsHaveEvidence : ShapeFields → List Entry → Type 0
DenialsHaveEvidence shape es =
    (at : ℕ) (w : WorldState) (file : ℕ) (call : CallId) (holder : Host) (number : ℕ) (lock : LockInfo)
    → IsWorldAfter shape es at w
    → IsTold w file call holder number lock
    → HasEvidence shape (take at es) file call holder number lock

-- after every run each denial has its evidence
abbrev pub EveryDenialHasEvidence : Type 0
EveryDenialHasEvidence = (shape : ShapeFields) (es : List Entry) → IsShape shape → DenialsHaveEvidence shape es

-- in no run does a server deny a call that waits
abbrev pub NoWaitIsDenied : Type 0
NoWaitIsDenied =
    (shape : ShapeFields) (es : List Entry) (w : WorldState) (file : ℕ) (call : CallId) (holder : Host) (number : ℕ) (lock : LockInfo) (pid : ℕ) (op : Op) (at : ℕ)
    → IsShape shape
    → Leads (first_world shape) es w
    → is_among w.sent (Deny file call holder number lock) ≡ true
    → IsCalledAt es call pid op at
    → is_wait op ≡ false

-- after every run each grant that was sent serves the call that it names
abbrev pub EveryGrantServes : Type 0
EveryGrantServes = (shape : ShapeFields) (es : List Entry) (w : WorldState) (file number : ℕ) (call : CallId) (mode : Mode) (span : Range) → IsShape shape → Leads (first_world shape) es w → is_among w.sent (Grant file number call mode span) ≡ true → IsServedBy shape es file call mode span
