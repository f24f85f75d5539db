-- What the journal of a file is.
use Rattle.std.specs.Prelude.{◌≡◌, ℕ, ⊤, ◌<◌, ◌≤◌, Bool, true, false, List, length, string_bytes, Option, Some, None}
use Rattle.cluster_core.specs.declared.item.Item.{Item}
use Rattle.cluster_core.specs.rule.Histories.{HasHistory, EachAtItsPlace}
use Rattle.cluster_core.specs.rule.Journals.{JournalFields, IsFirstWrong}
use Rattle.cluster_core.specs.rule.Runs.{IsRun, Leads}
use Rattle.cluster_core.specs.rule.World.{WorldState, first_world, journal_limit}
use Rattle.journal_text.specs.rule.Readings.{WritesJournal}
use Rattle.messages.specs.declared.entry.Entry.{Entry}
use Rattle.messages.specs.rule.Shapes.{ShapeFields}
use Rattle.messages.specs.declared.version.Version.TheVariants.{Second}
use Rattle.lockscript.specs.rule.Listing.{history_text}
use Rattle.replay.specs.declared.audit.Audited.{Audited}
use Rattle.replay.specs.declared.audit.Audited.TheVariants.{Run, Wrong}
use Rattle.replay.specs.declared.shown.Shown.{Shown}
use Rattle.replay.specs.declared.shown.Shown.TheVariants.{Text, Yes, No}
use Rattle.replay.specs.rule.Stores.{HasText}

-- the file writes a journal of these entries, whether they are a run or not
abbrev pub HasEntries : (Option (List ℕ) → Type 0) → JournalFields → Type 0
HasEntries Holds j = HasText Holds (λ text. WritesJournal text j.shape j.entries)

-- the text writes a journal of no more entries than a journal may have
abbrev pub WritesFew : List ℕ → JournalFields → Type 0
WritesFew text j = WritesJournal text j.shape j.entries × (length j.entries ≤ journal_limit)

-- and they are no more than a journal may have
abbrev pub HasJournal : (Option (List ℕ) → Type 0) → JournalFields → Type 0
HasJournal Holds j = HasEntries Holds j × (length j.entries ≤ journal_limit)

-- and the journal is of version 2, so that a run can go on behind it
abbrev pub HasNewJournal : (Option (List ℕ) → Type 0) → JournalFields → Type 0
HasNewJournal Holds j = HasJournal Holds j × (j.shape.version ≡ Second)

-- they are a run, of which this is the journal, or there is a first wrong one
abbrev pub IsAudited : JournalFields → Audited → Type 0
IsAudited j (Run journal) = (journal ≡ j) × IsRun j.shape j.entries
IsAudited j (Wrong position) = IsFirstWrong j.shape j.entries position

-- so many entries came, or more than a journal may have
abbrev pub Counts : ℕ → List Entry → Type 0
Counts taken es = (taken ≤ journal_limit → taken ≡ length es) × (journal_limit < taken → journal_limit < length es)

-- what an audit that goes on knows of the entries so far: that they lead to this world, or, of no more than a journal may have, the first wrong one
abbrev pub Tells : ShapeFields → WorldState → Option ℕ → List Entry → Type 0
Tells shape world None es = Leads (first_world shape) es world
Tells shape world (Some position) es = length es ≤ journal_limit → IsFirstWrong shape es position

-- and how many they are
abbrev pub Knows : ShapeFields → WorldState → ℕ → Option ℕ → List Entry → Type 0
Knows shape world taken wrong es = Counts taken es × Tells shape world wrong es

-- they are a run where no position is told, else the first wrong one is there
abbrev pub IsVerdict : JournalFields → Option ℕ → Type 0
IsVerdict j None = IsRun j.shape j.entries
IsVerdict j (Some position) = IsFirstWrong j.shape j.entries position

-- what an audit shows of the entries: that they are a run, or the first wrong one
abbrev pub IsAudit : JournalFields → Shown → Type 0
IsAudit j Yes = IsRun j.shape j.entries
IsAudit j (No position) = IsFirstWrong j.shape j.entries position
IsAudit j shown = ⊥

-- the text is the one history of the run
abbrev pub IsHistoryText : JournalFields → List ℕ → Type 0
IsHistoryText j text = (history : List Item) × HasHistory j.shape j.entries history × EachAtItsPlace j.entries history × (text ≡ history_text history)

-- so is the text, unless it tells what the clients of the run saw; what that says is not said
abbrev pub IsHistoryUnless : Bool → JournalFields → List ℕ → Type 0
IsHistoryUnless true j text = ⊤
IsHistoryUnless false j text = IsHistoryText j text

-- what is shown for the history of the entries, as it is or as clients saw it: it, where they are a run, or the first wrong one
abbrev pub IsHistory : Bool → JournalFields → Shown → Type 0
IsHistory as_clients j (Text text) = IsRun j.shape j.entries × IsHistoryUnless as_clients j (string_bytes text)
IsHistory as_clients j (No position) = IsFirstWrong j.shape j.entries position
IsHistory as_clients j shown = ⊥
