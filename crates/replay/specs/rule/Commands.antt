-- What a command comes to, its exit status, and what is told of a journal.
use Rattle.std.specs.Prelude.{◌≡◌, ℕ, ◌⊎◌, ⊤, List, codes, string_bytes, ◌≤◌, ◌++◌, decimal, length, take, Option, unwrap_or, Bool, true, false, [], Some, None}
use Rattle.replay.specs.declared.fault.Fault.{Fault}
use Rattle.replay.specs.declared.fault.Fault.TheVariants.{NoMemory, JournalFull, CannotWrite, CannotWriteOutput}
use Rattle.command_line.specs.declared.refusal.Refusal.{Refusal}
use Rattle.command_line.specs.declared.refusal.Refusal.TheVariants as refused
use Rattle.cluster_core.specs.rule.Journals.{JournalFields, IsFirstWrong}
use Rattle.cluster_core.specs.rule.Runs.{IsRun, Leads}
use Rattle.cluster_core.specs.rule.World.{WorldState, first_world}
use Rattle.states.specs.declared.cluster_state.ClusterState.{ClusterState}
use Rattle.states.specs.rule.States.{IsStateOf}
use Rattle.states.specs.rule.Texts.{IsStateText}
use Rattle.replay.specs.declared.shown.Shown.{Shown}
use Rattle.replay.specs.declared.shown.Shown.TheVariants.{Text, Wanting, No, Partial}
use Rattle.std.specs.Io.KnownBytes.{Appends}
use Rattle.command_line.specs.rule.Tasks.{Task, run, threads, audit, history, state, judge, journal_path}
use Rattle.journal_text.specs.rule.Journals.{journal_text}
use Rattle.journal_text.specs.rule.Readings.{WritesJournal}
use Rattle.replay.specs.rule.Audits.{HasJournal, HasNewJournal, IsAudit, IsHistory}
use Rattle.replay.specs.rule.Faults.{IsBehindFault, IsJournalFault, IsOldFault, IsScriptFault, IsThreadsFault, IsToolFault}
use Rattle.replay.specs.rule.Judging.{AreJudged, IsJudgedWith, allowed_of}
use Rattle.replay.specs.rule.Stores.{AppendsPart, shown_status, shown_text, Files, SameFiles, SameOthers}
use Rattle.player.specs.rule.Progress.{PlayedState}
use Rattle.replay.specs.rule.Scripts.{HasComparedRun, HasComparedRunBehind, HasRun, HasRunBehind, IsListing, IsTaken, IsTold, ShowsThreads, ThreadedFields}

-- 3: the input or the output is at fault; 4: the run needs more than there is
abbrev pub status_of : Fault → ℕ
status_of NoMemory = 4
status_of JournalFull = 4
status_of fault = 3

-- a status of a command whose words were taken; with 5 it is not known what was asked
abbrev pub IsStatus : ℕ → Type 0
IsStatus status = (status ≡ 0) ⊎ ((status ≡ 1) ⊎ ((status ≡ 3) ⊎ ((status ≡ 4) ⊎ (status ≡ 5))))

-- the words ask for help, or for the version
abbrev pub IsHelp : Refusal → Type 0
IsHelp (refused.Help text) = ⊤
IsHelp refusal = ⊥

-- what is shown
abbrev pub refusal_text : Refusal → List ℕ
refusal_text (refused.Help text) = string_bytes text
refusal_text (refused.Wrong text) = string_bytes text
refusal_text refused.NotText = codes "a word of the command line is not UTF-8\n"
refusal_text refused.NoMemory = codes "no memory\n"

-- the exit status
abbrev pub refusal_status : Refusal → ℕ
refusal_status (refused.Help text) = 0
refusal_status (refused.Wrong text) = 2
refusal_status refused.NotText = 2
refusal_status refused.NoMemory = 4

-- why the words could not be read; what they say is not known then
abbrev pub AreUnread : Refusal → Type 0
AreUnread refused.NotText = ⊤
AreUnread refused.NoMemory = ⊤
AreUnread refusal = ⊥

-- the position behind which a state is told: that of the last entry, where none is given
abbrev pub position_of : JournalFields → Option ℕ → ℕ
position_of j at = unwrap_or at (length j.entries)

-- the journal has the entry, if one is given
abbrev pub HasEntry : JournalFields → Option ℕ → Type 0
HasEntry j at = position_of j at ≤ length j.entries

-- that it has not, and the position of the last one
abbrev pub lack_text : ℕ → ℕ → List ℕ
lack_text position last = codes "no entry " ++ decimal position ++ codes ", the last is " ++ decimal last ++ codes "\n"

-- this is the state of the world to which the entries up to a position lead
abbrev pub IsStateBehind : JournalFields → ℕ → ClusterState → Type 0
IsStateBehind j position told = (w : WorldState) × Leads (first_world j.shape) (take position j.entries) w × IsStateOf w told

-- the text is that of this very state
abbrev pub TellsState : JournalFields → Option ℕ → List ℕ → Type 0
TellsState j at text = HasEntry j at × ((told : ClusterState) × IsStateBehind j (position_of j at) told × IsStateText j.shape.version (position_of j at) told text)

-- what is shown for a state: its text, or that there is no such entry, where the entries are a run, and else the first wrong entry
abbrev pub IsStateTold : JournalFields → Option ℕ → Shown → Type 0
IsStateTold j at (Text text) = IsRun j.shape j.entries × TellsState j at (string_bytes text)
IsStateTold j at (Wanting text) = IsRun j.shape j.entries × ¬ (HasEntry j at) × (string_bytes text ≡ lack_text (position_of j at) (length j.entries))
IsStateTold j at (No position) = IsFirstWrong j.shape j.entries position
IsStateTold j at shown = ⊥

-- the text of a journal is in the file of this path, and no other file changed; with no path none did
abbrev pub KeepsJournal : Files → Option (List ℕ) → List ℕ → Files → Type 0
KeepsJournal old None text new = SameFiles old new
KeepsJournal old (Some path) text new = new path (Some text) × SameOthers old new path

-- what is written of the journal to a file writes this very journal, as an audit reads it
abbrev pub IsReadFrom : Option (List ℕ) → JournalFields → Type 0
IsReadFrom None j = ⊤
IsReadFrom (Some path) j = WritesJournal (journal_text j.shape j.entries) j.shape j.entries

-- the text is the listing of a run; where that is left away there is none
abbrev pub IsRunText : PlayedState → Bool → List ℕ → Type 0
IsRunText played false text = IsListing played text
IsRunText played true text = text ≡ []

-- what is shown of a run is this text, and something is told beside it where its rounds are cut off, or a reply begins otherwise than expected
abbrev pub ShowsRun : PlayedState → Bool → Bool → Shown → Type 0
ShowsRun played telling quiet (Text text) = (telling ≡ false) × IsRunText played quiet (string_bytes text)
ShowsRun played telling quiet (Partial text told) = (telling ≡ true) × IsRunText played quiet (string_bytes text)
ShowsRun played telling quiet shown = ⊥

-- the run of a journal went on by the script: what is shown is of the whole, whose journal is kept
abbrev pub WentOn : Files → List ℕ → JournalFields → Option (List ℕ) → Bool → Bool → Bool → Files → Shown → Type 0
WentOn old script j to compares quiet calm new shown =
    (played : PlayedState) × (telling : Bool) × HasComparedRunBehind (old script) j compares calm played telling × ShowsRun played telling quiet shown × KeepsJournal old to (journal_text played.journal.shape played.journal.entries) new × IsReadFrom to played.journal

-- what is shown where a script goes on behind a journal: the first wrong entry of one that is no run, and no file changes, else what it came to
abbrev pub GoesOn : Files → List ℕ → JournalFields → Option (List ℕ) → Bool → Bool → Bool → Files → Shown → Type 0
GoesOn old script j to compares quiet calm new (No position) = IsFirstWrong j.shape j.entries position × SameFiles old new
GoesOn old script j to compares quiet calm new shown = IsRun j.shape j.entries × WentOn old script j to compares quiet calm new shown

-- what is shown of a task that is done, by the file that it reads, and the files that it leaves
abbrev pub Does : Files → Task → Files → Shown → Type 0
Does old (run script None to compares quiet calm) new shown = (played : PlayedState) × (telling : Bool) × HasComparedRun (old script) compares calm played telling × ShowsRun played telling quiet shown × KeepsJournal old to (journal_text played.journal.shape played.journal.entries) new × IsReadFrom to played.journal
Does old (run script (Some after) to compares quiet calm) new shown = (j : JournalFields) × HasNewJournal (old after) j × GoesOn old script j to compares quiet calm new shown
Does old (threads script seed may_stop no_join to) new shown = (t : ThreadedFields) × IsTold (old script) no_join may_stop t × ShowsThreads t shown × KeepsJournal old to t.journal new
Does old (audit path) new shown = (j : JournalFields) × HasJournal (old path) j × IsAudit j shown × SameFiles old new
Does old (history path as_clients) new shown = (j : JournalFields) × HasJournal (old path) j × IsHistory as_clients j shown × SameFiles old new
Does old (state path at) new shown = (j : JournalFields) × HasJournal (old path) j × IsStateTold j at shown × SameFiles old new
Does old (judge t) new shown = AreJudged old (allowed_of t.allowed) t.histories t.explains shown × SameFiles old new

-- it is shown behind what a writer took, with its status, and told so beside
abbrev pub Shows : (Shown → Type 0) → Option (List ℕ) → Option (List ℕ) → (Shown → Type 0) → ℕ → Type 0
Shows IsDone old new IsToldBeside status = (shown : Shown) × IsDone shown × (status ≡ shown_status shown) × Appends old new (shown_text shown) × IsToldBeside shown

-- no file but the one of this path, if there is one, changed
abbrev pub SameBut : Option (List ℕ) → Files → Files → Type 0
SameBut None old new = SameFiles old new
SameBut (Some path) old new = SameOthers old new path

-- the fault is in the journal behind which the script is to run, or that is a run and the fault is in the script
abbrev pub IsGoingFault : Files → Type 0 → List ℕ → List ℕ → Fault → Type 0
IsGoingFault old RanShort script after fault =
    IsOldFault (old after) RanShort after fault ⊎ ((j : JournalFields) × HasNewJournal (old after) j × IsRun j.shape j.entries × IsBehindFault j (old script) RanShort script fault)

-- the fault is in a file that the task reads, or memory is short where `RanShort` says it or for what the file holds; of a judgement it is looser (`IsToolFault`)
abbrev pub IsInputFault : Files → Type 0 → Task → Fault → Type 0
IsInputFault old RanShort (run script None to compares quiet calm) fault = IsScriptFault (old script) RanShort script fault
IsInputFault old RanShort (run script (Some after) to compares quiet calm) fault = IsGoingFault old RanShort script after fault
IsInputFault old RanShort (threads script seed may_stop no_join to) fault = IsThreadsFault (old script) RanShort script fault
IsInputFault old RanShort (audit path) fault = IsJournalFault (old path) RanShort path fault
IsInputFault old RanShort (history path as_clients) fault = IsJournalFault (old path) RanShort path fault
IsInputFault old RanShort (state path at) fault = IsJournalFault (old path) RanShort path fault
IsInputFault old RanShort (judge t) fault = IsToolFault old (IsJudgedWith t.histories t.explains) fault

-- there is a run of the task
abbrev pub HasRunOf : Files → Task → Type 0
HasRunOf old (run script None to compares quiet calm) = (played : PlayedState) × HasRun (old script) played
HasRunOf old (run script (Some after) to compares quiet calm) = (j : JournalFields) × HasNewJournal (old after) j × ((played : PlayedState) × HasRunBehind (old script) j played)
HasRunOf old (threads script seed may_stop no_join to) = IsTaken (old script)
HasRunOf old task = ⊥

-- the fault is there, and none that is looked for before it, with the files that it leaves: those that were there, but for the journal of a run, which is written before standard output
abbrev pub IsFault : Files → Type 0 → (List ℕ → Type 0) → Task → Files → Fault → Type 0
IsFault old RanShort Refuses task new (CannotWrite named reason) = (journal_path task ≡ Some named.now) × HasRunOf old task × Refuses named.now × SameOthers old new named.now
IsFault old RanShort Refuses task new CannotWriteOutput = (shown : Shown) × Does old task new shown
IsFault old RanShort Refuses task new fault = IsInputFault old RanShort task fault × SameFiles old new

-- the fault is there, or memory was short for the words of the command line, before any file was looked at
abbrev pub IsFaultOrShort : Files → Type 0 → (List ℕ → Type 0) → Task → Files → Fault → Type 0
IsFaultOrShort old RanShort Refuses task new fault = IsFault old RanShort Refuses task new fault ⊎ ((fault ≡ NoMemory) × SameFiles old new)

-- what a fault leaves on the writer of what is shown: a beginning of it where the writer failed, and else nothing
abbrev pub Leaves : (Shown → Type 0) → {O : Type 0} → (O → Option (List ℕ)) → (O → Type 0) → O → O → Fault → Type 0
Leaves IsDone taken has_failed old new CannotWriteOutput = has_failed new × ((shown : Shown) × IsDone shown × AppendsPart (taken old) (taken new) (shown_text shown))
Leaves IsDone taken has_failed old new fault = new ≡ old

-- a fault that is there and leaves this: the status and a line tell of it
abbrev pub TellsFault : (Fault → Type 0) → (Fault → Type 0) → (Fault → Type 0) → ℕ → Type 0
TellsFault IsThere LeavesThis IsTold status = (fault : Fault) × IsThere fault × LeavesThis fault × IsTold fault × (status ≡ status_of fault)

-- the lines that tell of faults are fixed, but for commands that say reasons; what those say is not said
abbrev pub says_why : Task → Bool
says_why (run script after to compares quiet calm) = false
says_why (threads script seed may_stop no_join to) = false
says_why (audit path) = false
says_why (history path as_clients) = false
says_why (state path at) = true
says_why (judge t) = true

-- what the task asks for may not be known in the end: a judgement, or a run on threads, whether it was ended too early
abbrev pub MayNotKnow : Task → Type 0
MayNotKnow (judge t) = ⊤
MayNotKnow (threads script seed may_stop no_join to) = ⊤
MayNotKnow task = ⊥
