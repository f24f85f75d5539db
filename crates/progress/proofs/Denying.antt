-- What a token server sends for a message before it serves: a denial at most.
use Rattle.std.specs.Prelude.{if◌then◌else◌, IfSome, option_map}
use Rattle.std.proofs.Common.{ℕ, Bool, true, false, List, [], ◌∷◌, Option, Some, None}
use Rattle.model.specs.declared.call.CallId.{CallId}
use Rattle.model.specs.declared.host.Host.{Host}
use Rattle.model.specs.declared.lock_info.LockInfo.{LockInfo}
use Rattle.model.specs.declared.mode.Mode.{Mode}
use Rattle.model.specs.rule.Owners.{host_of_call}
use Rattle.token_set.specs.rule.Tokens.{lowered}
use Rattle.messages.specs.rule.Messages.{same_blocking, reported}
use Rattle.messages.specs.declared.message.Blocking.TheVariants.{No}
use Rattle.messages.specs.declared.message.Message.{Message}
use Rattle.messages.specs.declared.message.Message.TheVariants.{Request, Grant, Revoke, Taken, Released, Conflict, Deny, Freed, Hello, Report}
use Rattle.token_server.specs.declared.token_queue.token_request.TokenRequest.{TokenRequest}
use Rattle.token_server.specs.rule.Rows.{Row, is_grant, revoked_mode, asks_token}
use Rattle.token_server.specs.rule.State.{ServerState}
use Rattle.token_server.specs.rule.Server.{Change, request_of, acknowledged, ended, postponed, denial, taken, released, in_conflict, heard, row_of_host, delivered}

-- no message, or a denial alone
abbrev pub IsDenialAtMost : List Message → Type 0
IsDenialAtMost [] = Unit {0}
IsDenialAtMost (Deny file call holder number lock ∷ []) = Unit {0}
IsDenialAtMost _ = ⊥

abbrev Denies : Option Change → Type 0
Denies o = IfSome o (λ (c : Change). IsDenialAtMost c.1)

if_denies : (b : Bool) (c : Change) → IsDenialAtMost c.1 → Denies (if b then Some c else None)
if_denies true c denies = denies
if_denies false c denies = tt

mapped_denies : (f : Mode → Change) (o : Option Mode) → ((mode : Mode) → IsDenialAtMost (f mode).1) → Denies (option_map f o)
mapped_denies f None each = tt
mapped_denies f (Some mode) each = each mode

denial_alone : (file number : ℕ) (holder : Host) (call : CallId) (lock : LockInfo) (o : Option TokenRequest) → IsDenialAtMost (denial (Deny file call holder number lock) o)
denial_alone file number holder call lock None = tt
denial_alone file number holder call lock (Some r) = by (same_blocking r.blocking No)
  where
    by : (b : Bool) → IsDenialAtMost (if b then Deny file call holder number lock ∷ [] else [])
    by true = tt
    by false = tt

pub delivered_denies : (s : ServerState) (m : Message) → Denies (delivered s m)
delivered_denies s (Request file call blocking mode wanted) = tt
delivered_denies s (Taken file number call) = by (row_of_host s (host_of_call call))
  where
    by : (o : Option Row) → Denies (taken s number call o)
    by None = tt
    by (Some row) = if_denies (is_grant number row.outstanding) (ended call (acknowledged s call.node row row.token), []) tt
delivered_denies s (Released file number holder call span) = by (row_of_host s holder)
  where
    by : (o : Option Row) → Denies (released s number holder span o)
    by None = tt
    by (Some row) = mapped_denies (λ mode. (acknowledged s holder.node row (lowered row.token span mode), [])) (revoked_mode number row.outstanding) (λ mode. tt)
delivered_denies s (Conflict file number holder call lock) = by (row_of_host s holder)
  where
    by : (o : Option Row) → Denies (in_conflict s number holder call lock o)
    by None = tt
    by (Some row) = mapped_denies (λ mode. (postponed call (acknowledged s holder.node row row.token), denial (Deny s.file call holder number lock) (request_of call s.active))) (revoked_mode number row.outstanding) (λ mode. denial_alone s.file number holder call lock (request_of call s.active))
delivered_denies s (Report file number holder runs) = by (row_of_host s holder)
  where
    by : (o : Option Row) → Denies (heard s number holder runs o)
    by None = tt
    by (Some row) = if_denies (asks_token number row.outstanding) (acknowledged s holder.node row (reported runs), []) tt
delivered_denies s (Freed file holder) = tt
delivered_denies s (Grant file number call mode span) = tt
delivered_denies s (Revoke file number holder call mode wanted) = tt
delivered_denies s (Deny file call holder number lock) = tt
delivered_denies s (Hello file number holder) = tt
