-- What the script of a file comes to, also on threads.
use Rattle.std.specs.Prelude.{◌≡◌, ℕ, ◌&&◌, ◌||◌, Bool, List, length, Option, is_some, ◌≢◌, true, false, [], ◌++◌, codes, decimal, flat_map, string_bytes, ◌⊎◌, ◌+◌, ◌∷◌}
use Rattle.cluster_core.specs.declared.held_lock.HeldLock.{HeldLock}
use Rattle.cluster_core.specs.declared.item.Item.{Item}
use Rattle.cluster_core.specs.declared.node_token_run.NodeTokenRun.{NodeTokenRun}
use Rattle.cluster_core.specs.rule.Histories.{HasHistory, EachAtItsPlace}
use Rattle.cluster_core.specs.rule.Listings.{IsTokenListing, IsLockListing}
use Rattle.cluster_core.specs.rule.Journals.{JournalFields}
use Rattle.cluster_core.specs.rule.Safe.{IsSafe}
use Rattle.player.specs.rule.Expectations.{breaks_behind}
use Rattle.lockscript.specs.rule.Listing.{listing_start, listing_text}
use Rattle.lockscript.specs.rule.Scripts.{ScriptFields, IsScript}
use Rattle.lockscript.specs.rule.ShapedScripts.{IsForShape}
use Rattle.messages.specs.declared.refusal.Refused.{Refused}
use Rattle.messages.specs.rule.Shapes.{ShapeFields}
use Rattle.player.specs.rule.Rounds.{Comes, GoesBehind, NoneStuck}
use Rattle.player.specs.rule.Progress.{PlayedState, ComesTo, GoesOnTo}
use Rattle.replay.specs.rule.Stores.{HasText}
use Rattle.model.specs.declared.call.CallId.{CallId}
use Rattle.thread_runs.specs.rule.Runs.{IsFullJournal, IsOfScript, ThreadRunFields}
use Rattle.book.specs.rule.Commits as receipts
use Rattle.cluster_core.specs.rule.Runs.{Leads}
use Rattle.cluster_core.specs.rule.World.{WorldState, first_world}
use Rattle.journal_text.specs.rule.Journals.{journal_text}
use Rattle.journal_text.specs.rule.Readings.{WritesJournal}
use Rattle.message_text.specs.rule.Texts.{call_text}
use Rattle.lockscript.specs.rule.ThreadLines.{IsForThreads}
use Rattle.replay.specs.declared.shown.Shown.{Shown}
use Rattle.replay.specs.declared.shown.Shown.TheVariants.{Text, Wanting, Partial, CutShort}

-- the file writes this script
abbrev pub HasScript : (Option (List ℕ) → Type 0) → ScriptFields → Type 0
HasScript Holds script = HasText Holds (λ text. IsScript text script)

-- and the script comes to this
abbrev pub HasRun : (Option (List ℕ) → Type 0) → PlayedState → Type 0
HasRun Holds played = (script : ScriptFields) × HasScript Holds script × ComesTo script.shape script.lines played

-- the same, and it is known whether something is told of it: that rounds are cut off, or that a reply of the run begins otherwise than the text of the script expects, where the two are compared
abbrev pub HasComparedRun : (Option (List ℕ) → Type 0) → Bool → Bool → PlayedState → Bool → Type 0
HasComparedRun Holds compares calm played telling =
    (script : ScriptFields) × (cut : Option Refused) × HasText Holds (λ text. IsScript text script × (telling ≡ (is_some cut || (compares && breaks_behind text script.lines 0 played)))) × Comes calm script.shape script.lines played cut

-- the file writes this script, of a cluster of this shape
abbrev pub HasScriptFor : (Option (List ℕ) → Type 0) → ShapeFields → ScriptFields → Type 0
HasScriptFor Holds shape script = HasText Holds (λ text. IsForShape shape text script)

-- and behind the run of the journal the script comes to this
abbrev pub HasRunBehind : (Option (List ℕ) → Type 0) → JournalFields → PlayedState → Type 0
HasRunBehind Holds j played = (script : ScriptFields) × HasScriptFor Holds j.shape script × GoesOnTo j script.lines played

-- the same, and it is known whether something is told of it: that rounds are cut off, or that a reply behind that journal begins otherwise than the text of the script expects, where the two are compared
abbrev pub HasComparedRunBehind : (Option (List ℕ) → Type 0) → JournalFields → Bool → Bool → PlayedState → Bool → Type 0
HasComparedRunBehind Holds j compares calm played telling =
    (script : ScriptFields) × (cut : Option Refused) × HasText Holds (λ text. IsForShape j.shape text script × (telling ≡ (is_some cut || (compares && breaks_behind text script.lines (length j.entries) played)))) × GoesBehind calm j script.lines played cut

-- what a listing of a run tells: the tokens and the locks at its end, which is safe, and a history of one table, each call of it at its place
pub record Lists (played : PlayedState) (tokens : List NodeTokenRun) (locks : List HeldLock) (history : List Item) : Type 0 where
  pub tokens_at_end : IsTokenListing played.world tokens
  pub locks_at_end : IsLockListing played.world locks
  pub safe_at_end : IsSafe played.world
  pub one_table : HasHistory played.journal.shape played.journal.entries history
  pub at_places : EachAtItsPlace played.journal.entries history

-- the listing of a run, with its refused lines and its entries
pub record IsListing (played : PlayedState) (text : List ℕ) : Type 0 where
  pub tokens : List NodeTokenRun
  pub locks : List HeldLock
  pub history : List Item
  pub lists : Lists played tokens locks history
  pub sections : text ≡ listing_text played.refused played.journal.entries tokens locks history

-- the listing of a run up to its history
pub record IsListingBegun (played : PlayedState) (text : List ℕ) : Type 0 where
  pub tokens : List NodeTokenRun
  pub locks : List HeldLock
  pub tokens_at_end : IsTokenListing played.world tokens
  pub locks_at_end : IsLockListing played.world locks
  pub safe_at_end : IsSafe played.world
  pub start : text ≡ listing_start played.refused played.journal.entries tokens locks

-- the file writes this script, and threads take its lines
abbrev pub HasThreadScript : (Option (List ℕ) → Type 0) → ScriptFields → Type 0
HasThreadScript Holds s = HasText Holds (λ text. IsForThreads text s)

-- there is a run of the script's cluster, its calls, failures and starts by lines of the script, that leaves its journal no room for another entry; resends alone make one
abbrev pub HasFullJournal : ScriptFields → Type 0
HasFullJournal s = (j : JournalFields) × IsFullJournal s j

-- the file writes such a script
abbrev pub IsTaken : (Option (List ℕ) → Type 0) → Type 0
IsTaken Holds = (s : ScriptFields) × HasThreadScript Holds s

-- and a run of it fills the journal
abbrev pub FillsOnThreads : (Option (List ℕ) → Type 0) → Type 0
FillsOnThreads Holds = (s : ScriptFields) × HasThreadScript Holds s × HasFullJournal s

-- the line of a call that is open where a run was ended as stuck
abbrev pub open_line : CallId → List ℕ
open_line call = codes "open " ++ call_text call ++ codes "\n"

-- what is told of a run on threads: its listing, its journal as text, how many of its calls were answered, of how many of these the journal holds the receipts, a line for each call that is open where it was ended, and whether one of them may be answered if it goes on
pub record ThreadedFields : Type 0 where
  pub listing : List ℕ
  pub journal : List ℕ
  pub answered : ℕ
  pub held : ℕ
  pub stuck : List ℕ
  pub may_go_on : Bool

-- so many of the items are so
abbrev pub IsCount : {A : Type 0} → (A → Type 0) → List A → ℕ → Type 0
IsCount Is [] count = count ≡ 0
IsCount Is (x ∷ xs) count = (Is x × ((less : ℕ) × (count ≡ less + 1) × IsCount Is xs less)) ⊎ (¬ (Is x) × IsCount Is xs count)

-- it tells of the run: its listing, its journal as text, which an audit reads as this very journal, how many of its calls were answered, of how many of these the journal holds the receipts, and which calls are open where it was ended. Where it says that none of them may be answered, no call is stuck: each that is open, at a live node and about a file whose server works, waits, and a lock blocks it
pub record Tells (run : ThreadRunFields) (t : ThreadedFields) : Type 0 where
  pub world : WorldState
  pub leads : Leads (first_world run.journal.shape) run.journal.entries world
  pub listed : IsListing (record { journal = run.journal; world = world; refused = run.refused }) t.listing
  pub printed : t.journal ≡ journal_text run.journal.shape run.journal.entries
  pub read : WritesJournal t.journal run.journal.shape run.journal.entries
  pub answered : t.answered ≡ length run.receipts
  pub held : IsCount (receipts.Holds run.journal.entries) run.receipts t.held
  pub stuck : t.stuck ≡ flat_map open_line run.open_calls
  pub none_stuck : run.open_calls ≢ [] → t.may_go_on ≡ false → NoneStuck world

-- of a run of the script, whose failures and starts may stand beside open calls, and which may have been ended where it was stuck
abbrev pub IsToldOf : ScriptFields → Bool → Bool → ThreadedFields → Type 0
IsToldOf s no_join may_stop t = (run : ThreadRunFields) × IsOfScript s no_join may_stop run × Tells run t

-- the file writes the script of that run, and threads take its lines
abbrev pub IsTold : (Option (List ℕ) → Type 0) → Bool → Bool → ThreadedFields → Type 0
IsTold Holds no_join may_stop t = (s : ScriptFields) × HasThreadScript Holds s × IsToldOf s no_join may_stop t

-- behind the listing stands how many receipts the journal holds, and that it is one of a run
abbrev pub threads_text : ThreadedFields → List ℕ
threads_text t = t.listing ++ codes "receipts " ++ decimal t.held ++ codes "\naudit yes\n"

-- what is shown of a run on threads, whether its journal holds each receipt or lacks one, or it was ended as stuck, or too early, as far as is known
abbrev pub ShowsThreads : ThreadedFields → Shown → Type 0
ShowsThreads t (Text text) = (t.stuck ≡ []) × (t.held ≡ t.answered) × (string_bytes text ≡ threads_text t)
ShowsThreads t (Wanting text) = (t.stuck ≡ []) × (t.held ≢ t.answered) × (string_bytes text ≡ threads_text t)
ShowsThreads t (Partial text told) = (t.stuck ≢ []) × (t.may_go_on ≡ false) × (string_bytes text ≡ threads_text t) × (string_bytes told ≡ t.stuck)
ShowsThreads t (CutShort text) = (t.stuck ≢ []) × (t.may_go_on ≡ true) × (string_bytes text ≡ threads_text t)
ShowsThreads t shown = ⊥

-- that is shown of it, and this is its journal
abbrev pub AreShown : ThreadedFields → Shown × JournalFields → Type 0
AreShown t made = ShowsThreads t made.0 × (journal_text made.1.shape made.1.entries ≡ t.journal)
