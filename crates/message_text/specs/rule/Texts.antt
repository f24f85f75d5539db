-- The texts of names and messages, and the limits of what messages can hold.
use Rattle.std.specs.Prelude.{ℕ, List, ◌++◌, codes, decimal, Bool, false, true, ◌-◌, ◌∷◌, flat_map, length, ◌≡◌, ◌≤◌, All}
use Rattle.model.specs.declared.call.CallId.{CallId}
use Rattle.model.specs.declared.host.Host.{Host}
use Rattle.model.specs.declared.lock_info.LockInfo.{LockInfo}
use Rattle.model.specs.declared.owner.Kind.{Kind}
use Rattle.model.specs.declared.owner.Kind.TheVariants.{OfProcess, OfDescription}
use Rattle.model.specs.declared.owner.Owner.{Owner}
use Rattle.texts.specs.rule.Reads.{joined_text, pair_text}
use Rattle.texts.specs.rule.Words.{mode_text, level_text}
use Rattle.intervals.specs.rule.Bytes.{Range, greatest}
use Rattle.messages.specs.rule.Shapes.{begin_of, epoch_of, IsCommand, IsRebuilt, most_files, may_rebuild}
use Rattle.messages.specs.rule.TokenRuns.{Wants, are_longest}
use Rattle.messages.specs.declared.message.Message.{Message}
use Rattle.messages.specs.declared.message.Message.TheVariants.{Request, Grant, Revoke, Taken, Released, Conflict, Deny, Freed, Hello, Report}
use Rattle.messages.specs.declared.message.Blocking.{Blocking}
use Rattle.messages.specs.declared.message.Blocking.TheVariants.{No, Yes}
use Rattle.messages.specs.declared.token_run.TokenRun.{TokenRun}
use Rattle.messages.specs.declared.version.Version.{Version}
use Rattle.messages.specs.declared.version.Version.TheVariants.{First, Second}
use Rattle.texts.specs.rule.Layout.{space}
use Rattle.model.specs.rule.Limits.{IsCall, IsHost, IsNumber, IsOwner}
use Rattle.messages.specs.rule.Messages.{greatest_number}

-- the name of a node in an incarnation
abbrev pub host_text : ℕ → ℕ → List ℕ
host_text node incarnation = decimal node ++ codes "." ++ decimal incarnation

abbrev pub call_text : CallId → List ℕ
call_text c = host_text c.node c.incarnation ++ codes "." ++ decimal c.number

abbrev pub owner_letter : Kind → List ℕ
owner_letter OfProcess = codes "p"
owner_letter OfDescription = codes "d"

abbrev pub owner_text : Owner → List ℕ
owner_text o = owner_letter o.kind ++ decimal o.number ++ codes "@" ++ host_text o.node o.incarnation

abbrev pub lock_text : LockInfo → List ℕ
lock_text l = mode_text l.mode ++ codes " " ++ decimal l.span.lo ++ codes " " ++ decimal l.span.hi ++ codes " " ++ owner_text l.owner

abbrev pub holder_text : Host → List ℕ
holder_text h = host_text h.node h.incarnation

-- the byte `.`
abbrev pub dot : ℕ
dot = 46

-- the name of a file's server in an epoch
abbrev pub server_text : ℕ × ℕ → List ℕ
server_text = joined_text dot decimal decimal

abbrev pub blocking_text : Blocking → List ℕ
blocking_text No = codes "now"
blocking_text Yes = codes "wait"

-- a span: its first and its last byte
abbrev pub span_text : Range → List ℕ
span_text s = pair_text decimal decimal (s.lo, s.hi)

-- the two ranges of a request: the required span, then the desired one
abbrev pub wants_text : Wants → List ℕ
wants_text w = pair_text span_text span_text (w.required, w.desired)

-- the number of a command and the fields behind it; in version 2 with the epoch in front, and numbered within the epoch
abbrev pub command_text : {A : Type 0} → Version → (A → List ℕ) → ℕ × A → List ℕ
command_text First text c = pair_text decimal text c
command_text Second text c = pair_text decimal (pair_text decimal text) (epoch_of c.0, (c.0 - begin_of c.0, c.1))

-- the epoch whose commands begin after the number
abbrev pub epoch_text : ℕ → List ℕ
epoch_text number = decimal (epoch_of number)

-- a run: its level, its first byte and its last byte
abbrev pub run_text : TokenRun → List ℕ
run_text r = pair_text level_text span_text (r.level, r.span)

-- a list of runs: their number, then each of them
abbrev pub runs_text : List TokenRun → List ℕ
runs_text runs = decimal (length runs) ++ flat_map (λ r. space ∷ run_text r) runs

abbrev pub message_text : Version → Message → List ℕ
message_text version (Request file call blocking mode wanted) =
    codes "request " ++ pair_text decimal (pair_text call_text (pair_text blocking_text (pair_text mode_text wants_text))) (file, (call, (blocking, (mode, wanted))))
message_text version (Grant file number call mode span) =
    codes "grant " ++ pair_text decimal (command_text version (pair_text call_text (pair_text mode_text span_text))) (file, (number, (call, (mode, span))))
message_text version (Revoke file number holder call mode wanted) =
    codes "revoke " ++ pair_text decimal (command_text version (pair_text holder_text (pair_text call_text (pair_text mode_text wants_text)))) (file, (number, (holder, (call, (mode, wanted)))))
message_text version (Taken file number call) =
    codes "taken " ++ pair_text decimal (command_text version call_text) (file, (number, call))
message_text version (Released file number holder call span) =
    codes "released " ++ pair_text decimal (command_text version (pair_text holder_text (pair_text call_text span_text))) (file, (number, (holder, (call, span))))
message_text version (Conflict file number holder call lock) =
    codes "conflict " ++ pair_text decimal (command_text version (pair_text holder_text (pair_text call_text lock_text))) (file, (number, (holder, (call, lock))))
message_text version (Deny file call holder number lock) =
    codes "deny " ++ pair_text decimal (pair_text call_text (pair_text holder_text (command_text version lock_text))) (file, (call, (holder, (number, lock))))
message_text version (Freed file holder) =
    codes "freed " ++ pair_text decimal holder_text (file, holder)
message_text version (Hello file number holder) =
    codes "hello " ++ pair_text decimal (pair_text epoch_text holder_text) (file, (number, holder))
message_text version (Report file number holder runs) =
    codes "report " ++ pair_text decimal (pair_text epoch_text (pair_text holder_text runs_text)) (file, (number, (holder, runs)))

-- whether the message is a revoke, an answer to one, or a deny
abbrev pub is_about_revoke : Message → Bool
is_about_revoke (Revoke file number holder call mode wanted) = true
is_about_revoke (Released file number holder call span) = true
is_about_revoke (Conflict file number holder call lock) = true
is_about_revoke (Deny file call holder number lock) = true
is_about_revoke message = false

abbrev pub IsFile : ℕ → Type 0
IsFile = IsNumber most_files

-- the number of a call, or of a command within its epoch, is in range
abbrev pub IsCounted : ℕ → Type 0
IsCounted = IsNumber greatest_number

-- the number of a command is in range; in version 1 it is of the first epoch
abbrev pub IsCommandNumber : Version → ℕ → Type 0
IsCommandNumber First = IsCounted
IsCommandNumber Second = IsCommand

abbrev pub IsHolder : Host → Type 0
IsHolder h = IsHost h.node h.incarnation

abbrev pub IsServedSpan : Range → Type 0
IsServedSpan s = (s.lo ≤ s.hi) × (s.hi ≤ greatest)

abbrev pub AreServedWants : Wants → Type 0
AreServedWants w = (IsServedSpan w.required × IsServedSpan w.desired) × (w.desired.lo ≤ w.required.lo) × (w.required.hi ≤ w.desired.hi)

abbrev pub IsServedLock : LockInfo → Type 0
IsServedLock l = IsServedSpan l.span × IsOwner l.owner

-- the runs are the longest runs of a token, within the bytes of a file
abbrev pub AreServedRuns : List TokenRun → Type 0
AreServedRuns runs = All (λ r. IsServedSpan r.span) runs × (are_longest runs ≡ true)

-- a message is within its limits; a hello and a report are written only in a version in which servers can be rebuilt
abbrev pub IsServedMessage : Version → Message → Type 0
IsServedMessage version (Request file call blocking mode wanted) = IsFile file × IsCall call × AreServedWants wanted
IsServedMessage version (Grant file number call mode span) = IsFile file × IsCommandNumber version number × IsCall call × IsServedSpan span
IsServedMessage version (Revoke file number holder call mode wanted) = IsFile file × IsCommandNumber version number × IsHolder holder × IsCall call × AreServedWants wanted
IsServedMessage version (Taken file number call) = IsFile file × IsCommandNumber version number × IsCall call
IsServedMessage version (Released file number holder call span) = IsFile file × IsCommandNumber version number × IsHolder holder × IsCall call × IsServedSpan span
IsServedMessage version (Conflict file number holder call lock) = IsFile file × IsCommandNumber version number × IsHolder holder × IsCall call × IsServedLock lock
IsServedMessage version (Deny file call holder number lock) = IsFile file × IsCall call × IsHolder holder × IsCommandNumber version number × IsServedLock lock
IsServedMessage version (Freed file holder) = IsFile file × IsHolder holder
IsServedMessage version (Hello file number holder) = (may_rebuild version ≡ true) × IsFile file × IsRebuilt number × IsHolder holder
IsServedMessage version (Report file number holder runs) = (may_rebuild version ≡ true) × IsFile file × IsRebuilt number × IsHolder holder × AreServedRuns runs
