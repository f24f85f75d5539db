-- Messages: their addressees, their equality, and the token that a node reports.
use Rattle.std.specs.Prelude.{◌≡◌, ℕ, Bool, true, false, ◌&&◌, ◌==◌, nat_le, ◌↔◌, IsTrue, List, None, zero, suc, ◌+◌, if◌then◌else◌, [], ◌∷◌, Option, Some}
use Rattle.std.specs.List.{list_any}
use Rattle.model.specs.rule.Owners.{same_mode, same_owner, host_of_call}
pub use Rattle.model.specs.rule.Owners.{same_host}
use Rattle.model.specs.declared.call.CallId.{CallId}
use Rattle.model.specs.declared.host.Host.{Host}
use Rattle.model.specs.declared.lock_info.LockInfo.{LockInfo}
use Rattle.messages.specs.rule.TokenRuns.{Wants, same_level}
use Rattle.messages.specs.declared.actor.Actor.{Actor}
use Rattle.messages.specs.declared.actor.Actor.TheVariants.{Node as ANode, Server as AServer}
use Rattle.messages.specs.declared.message.Blocking.{Blocking}
use Rattle.messages.specs.declared.message.Blocking.TheVariants.{No, Yes}
use Rattle.messages.specs.declared.message.Message.{Message}
use Rattle.messages.specs.declared.message.Message.TheVariants.{Request, Grant, Revoke, Taken, Released, Conflict, Deny, Freed, Hello, Report}
pub use Rattle.messages.specs.rule.TokenRuns.{same_range, same_runs}
use Rattle.messages.specs.declared.outcome.Outcome.{Outcome}
use Rattle.intervals.specs.rule.Bytes.{greatest, is_in}
use Rattle.model.specs.declared.level.Level.{Level}
use Rattle.messages.specs.declared.token_run.TokenRun.{TokenRun}

-- the actor that a message is for
abbrev pub addressee : Message → Actor
addressee (Request file call blocking mode wanted) = AServer file
addressee (Grant file number call mode span) = ANode call.node
addressee (Revoke file number holder call mode wanted) = ANode holder.node
addressee (Taken file number call) = AServer file
addressee (Released file number holder call span) = AServer file
addressee (Conflict file number holder call lock) = AServer file
addressee (Deny file call holder number lock) = ANode call.node
addressee (Freed file holder) = AServer file
addressee (Hello file number holder) = ANode holder.node
addressee (Report file number holder runs) = AServer file

-- the node, in its incarnation, that sends the message or receives it
abbrev pub host_of : Message → Host
host_of (Request file call blocking mode wanted) = host_of_call call
host_of (Grant file number call mode span) = host_of_call call
host_of (Revoke file number holder call mode wanted) = holder
host_of (Taken file number call) = host_of_call call
host_of (Released file number holder call span) = holder
host_of (Conflict file number holder call lock) = holder
host_of (Deny file call holder number lock) = host_of_call call
host_of (Freed file holder) = holder
host_of (Hello file number holder) = holder
host_of (Report file number holder runs) = holder

abbrev pub file_of : Message → ℕ
file_of (Request file call blocking mode wanted) = file
file_of (Grant file number call mode span) = file
file_of (Revoke file number holder call mode wanted) = file
file_of (Taken file number call) = file
file_of (Released file number holder call span) = file
file_of (Conflict file number holder call lock) = file
file_of (Deny file call holder number lock) = file
file_of (Freed file holder) = file
file_of (Hello file number holder) = file
file_of (Report file number holder runs) = file

-- the greatest number of a call or a command
abbrev pub greatest_number : ℕ
greatest_number = 4294967295

-- whether k is a number from 1 to n
abbrev pub is_within : ℕ → ℕ → Bool
is_within n k = nat_le 1 k && nat_le k n

-- the outcome that sends these messages, names no call and answers none
abbrev pub sending : List Message → Outcome
sending messages = record { call = None; reply = None; sends = messages }

abbrev pub same_call : CallId → CallId → Bool
same_call a b = (a.node == b.node) && ((a.incarnation == b.incarnation) && (a.number == b.number))

abbrev pub same_wants : Wants → Wants → Bool
same_wants a b = same_range a.required b.required && same_range a.desired b.desired

abbrev pub same_blocking : Blocking → Blocking → Bool
same_blocking No No = true
same_blocking Yes Yes = true
same_blocking _ _ = false

abbrev pub same_lock : LockInfo → LockInfo → Bool
same_lock a b = same_owner a.owner b.owner && (same_mode a.mode b.mode && same_range a.span b.span)

-- whether two messages are equal by value
abbrev pub same_message : Message → Message → Bool
same_message (Request f c u m w) (Request g d v n x) = (f == g) && (same_call c d && (same_blocking u v && (same_mode m n && same_wants w x)))
same_message (Grant f k c m s) (Grant g l d n t) = (f == g) && ((k == l) && (same_call c d && (same_mode m n && same_range s t)))
same_message (Revoke f k h c m w) (Revoke g l i d n x) = (f == g) && ((k == l) && (same_host h i && (same_call c d && (same_mode m n && same_wants w x))))
same_message (Taken f k c) (Taken g l d) = (f == g) && ((k == l) && same_call c d)
same_message (Released f k h c s) (Released g l i d t) = (f == g) && ((k == l) && (same_host h i && (same_call c d && same_range s t)))
same_message (Conflict f k h c a) (Conflict g l i d b) = (f == g) && ((k == l) && (same_host h i && (same_call c d && same_lock a b)))
same_message (Deny f c h k a) (Deny g d i l b) = (f == g) && (same_call c d && (same_host h i && ((k == l) && same_lock a b)))
same_message (Freed f h) (Freed g i) = (f == g) && same_host h i
same_message (Hello f k h) (Hello g l i) = (f == g) && ((k == l) && same_host h i)
same_message (Report f k h r) (Report g l i s) = (f == g) && ((k == l) && (same_host h i && same_runs r s))
same_message _ _ = false

-- whether the message is the holder's answer to the command with that number, and says that a lock of the holder is in the way
abbrev pub is_conflict : ℕ → Host → ℕ → Message → Bool
is_conflict file holder number (Conflict f k h call lock) = (f == file) && ((k == number) && same_host h holder)
is_conflict file holder number _ = false

-- whether the message is in the list
abbrev pub is_among : List Message → Message → Bool
is_among messages m = list_any (same_message m) messages

-- `same_message` holds exactly of two equal messages
abbrev pub SameMessageIsEquality : Type 0
SameMessageIsEquality = (a b : Message) → IsTrue (same_message a b) ↔ (a ≡ b)

-- the runs with one more byte, b, in front of them, which has the given level or none
abbrev pub joined : ℕ → Option Level → List TokenRun → List TokenRun
joined b None runs = runs
joined b (Some level) [] = record { span = record { lo = b; hi = b }; level = level } ∷ []
joined b (Some level) (r ∷ rest) =
    if (r.span.lo == b + 1) && same_level r.level level then record { span = record { lo = b; hi = r.span.hi }; level = level } ∷ rest
    else record { span = record { lo = b; hi = b }; level = level } ∷ (r ∷ rest)

-- the longest runs of the n bytes from b; never unfolded, since n is the number of all bytes
unfoldable pub runs_from : (ℕ → Option Level) → ℕ → ℕ → List TokenRun
runs_from t b zero = []
runs_from t b (suc n) = joined b (t b) (runs_from t (b + 1) n)

-- the longest runs of a token, in ascending order
abbrev pub runs_of : (ℕ → Option Level) → List TokenRun
runs_of t = runs_from t 0 (greatest + 1)

-- the token that a list of runs describes
abbrev pub reported : List TokenRun → ℕ → Option Level
reported [] b = None
reported (r ∷ rest) b = if is_in r.span b then Some r.level else reported rest b
