-- Drafts that get more bytes.
use Rattle.std.proofs.Common.{◌≡◌, ℕ, ◌+◌, List, [], ◌++◌, codes, length, refl, sym, ◌∙◌, ap, subst, append_assoc, append-nil, Option, Some, None}
use Rattle.std.specs.Prelude.{◌≢◌}
use Rattle.journal_text.specs.rule.Journals.{end_text, entries_text, head_text, journal_text}
use Rattle.journal_text.specs.rule.Readings.{WritesJournal}
use Rattle.cluster_core.specs.rule.Journals.{JournalFields}
use Rattle.messages.specs.declared.entry.Entry.{Entry}
use Rattle.messages.specs.declared.version.Version.{Version}
use Rattle.messages.specs.rule.Shapes.{ShapeFields}
use Rattle.command_line.specs.rule.Tasks.{Task, journal_path}
use Rattle.replay.specs.declared.fault.Fault.{Fault}
use Rattle.replay.specs.declared.fault.Fault.TheVariants as fault
use Rattle.replay.specs.rule.Commands.{HasRunOf, IsFault, IsInputFault, IsReadFrom, KeepsJournal}
use Rattle.replay.specs.rule.Faults.{IsUnkept, IsUnwritten}
use Rattle.replay.specs.rule.Stores.{Adds, Drafted, Files, SameFiles, SameOthers}
use Rattle.replay.proofs.Stores.{others-after, same, same-after}

-- no bytes came
pub adds_none : (draft : Drafted) → Adds draft draft []
adds_none draft = λ path text has. subst (λ (whole : List ℕ). draft path whole) (sym (append-nil text)) has

-- bytes came, and then more
pub adds_more : (old mid new : Drafted) (bytes more : List ℕ) → Adds old mid bytes → Adds mid new more → Adds old new (bytes ++ more)
adds_more old mid new bytes more first second = λ path text has.
    subst (λ (whole : List ℕ). new path whole) (append_assoc text bytes more) (second path (text ++ bytes) (first path text has))

-- of these bytes the rest is still to come
abbrev pub Lacks : Drafted → Drafted → List ℕ → List ℕ → Type 0
Lacks old new whole rest = (added : List ℕ) × Adds old new added × (added ++ rest ≡ whole)

pub lacks_less : (old mid new : Drafted) (whole part rest left : List ℕ) → Lacks old mid whole left → left ≡ part ++ rest → Adds mid new part → Lacks old new whole rest
lacks_less old mid new whole part rest left lacks is more =
    (lacks.0 ++ part, adds_more old mid new lacks.0 part lacks.1 more, append_assoc lacks.0 part rest ∙ (ap (λ (bytes : List ℕ). lacks.0 ++ bytes) (sym is) ∙ lacks.2))

-- the first line, the entries and the last line of a journal were written one after the other
pub journal_added : (old headed filled new : Drafted) (s head : ShapeFields) (version : Version) (entries written : List Entry) (count : ℕ) → head ≡ s → version ≡ s.version → written ≡ entries → count ≡ length entries → Adds old headed (head_text head ++ codes "\n") → Adds headed filled (entries_text version 1 written) → Adds filled new (end_text count ++ codes "\n") → Adds old new (journal_text s entries)
journal_added old headed filled new s head version entries written count same_shape same_version same_entries same_count begun went ended =
    let end = codes "\n" in
    let first = subst (λ (x : ShapeFields). Adds old headed (head_text x ++ end)) same_shape begun in
    let lines = subst (λ (es : List Entry). Adds headed filled (entries_text s.version 1 es)) same_entries (subst (λ (v : Version). Adds headed filled (entries_text v 1 written)) same_version went) in
    let last = subst (λ (n : ℕ). Adds filled new (end_text n ++ end)) same_count ended in
    let front = head_text s ++ end ++ entries_text s.version 1 entries in
    subst (λ (bytes : List ℕ). Adds old new bytes) (sym (append_assoc front (end_text (length entries)) end))
    (adds_more old filled new front (end_text (length entries) ++ end) (adds_more old headed filled (head_text s ++ end) (entries_text s.version 1 entries) first lines) last)

-- why the journal that is made beside what a run shows took no file's place is a fault of the run
journal_fault : (old begun new : Files) (RanShort : Type 0) (Refuses : List ℕ → Type 0) (task : Task) (path : List ℕ) (f : Fault) → SameFiles old begun → journal_path task ≡ Some path → HasRunOf old task → IsInputFault old RanShort task fault.NoMemory → IsUnwritten begun Refuses path new f → (f ≢ fault.CannotWriteOutput) × IsFault old RanShort Refuses task new f
journal_fault old begun new RanShort Refuses task path (fault.CannotWrite named reason) same owed has short is =
    let at = sym is.0 in
    (λ e. absurd (cc), (owed ∙ ap (λ (p : List ℕ). Some p) at, has, subst Refuses at is.1, subst (SameOthers old new) at (others-after old begun new path same is.2)))
journal_fault old begun new RanShort Refuses task path fault.NoMemory same owed has short is = (λ e. absurd (cc), (short, same-after old begun new same is))
journal_fault old begun new RanShort Refuses task path (fault.BadLine line) same owed has short is = absurd is
journal_fault old begun new RanShort Refuses task path (fault.CannotRead named reason) same owed has short is = absurd is
journal_fault old begun new RanShort Refuses task path fault.CannotWriteOutput same owed has short is = absurd is
journal_fault old begun new RanShort Refuses task path fault.JournalFull same owed has short is = absurd is
journal_fault old begun new RanShort Refuses task path fault.OldJournal same owed has short is = absurd is
journal_fault old begun new RanShort Refuses task path (fault.Faulty report) same owed has short is = absurd is

-- no file changed before
pub unwritten-after : (old mid new : Files) (Refuses : List ℕ → Type 0) (path : List ℕ) (f : Fault) → SameFiles old mid → IsUnwritten mid Refuses path new f → IsUnwritten old Refuses path new f
unwritten-after old mid new Refuses path (fault.CannotWrite named reason) same is = (is.0, is.1, others-after old mid new path same is.2)
unwritten-after old mid new Refuses path fault.NoMemory same is = same-after old mid new same is
unwritten-after old mid new Refuses path (fault.BadLine line) same is = absurd is
unwritten-after old mid new Refuses path (fault.CannotRead named reason) same is = absurd is
unwritten-after old mid new Refuses path fault.CannotWriteOutput same is = absurd is
unwritten-after old mid new Refuses path fault.JournalFull same is = absurd is
unwritten-after old mid new Refuses path fault.OldJournal same is = absurd is
unwritten-after old mid new Refuses path (fault.Faulty report) same is = absurd is

pub kept-after : (old mid new : Files) (to : Option (List ℕ)) (text : List ℕ) → SameFiles old mid → KeepsJournal mid to text new → KeepsJournal old to text new
kept-after old mid new None text same kept = same-after old mid new same kept
kept-after old mid new (Some path) text same kept = (kept.0, others-after old mid new path same kept.1)

-- memory was short before the journal was begun
pub unkept-short : (files : Files) (Refuses : List ℕ → Type 0) (to : Option (List ℕ)) → IsUnkept files Refuses to files fault.NoMemory
unkept-short files Refuses None = (refl, same files)
unkept-short files Refuses (Some path) = same files

-- a journal that is read as itself, where it is written
pub read-from : (to : Option (List ℕ)) (j : JournalFields) → WritesJournal (journal_text j.shape j.entries) j.shape j.entries → IsReadFrom to j
read-from None j reads = tt
read-from (Some path) j reads = reads

-- why the journal was not kept is a fault of the run
pub unkept-fault : (old begun new : Files) (RanShort : Type 0) (Refuses : List ℕ → Type 0) (task : Task) (to : Option (List ℕ)) (f : Fault) → SameFiles old begun → journal_path task ≡ to → HasRunOf old task → IsInputFault old RanShort task fault.NoMemory → IsUnkept begun Refuses to new f → (f ≢ fault.CannotWriteOutput) × IsFault old RanShort Refuses task new f
unkept-fault old begun new RanShort Refuses task None f same owed has short is =
    subst (λ (g : Fault). (g ≢ fault.CannotWriteOutput) × IsFault old RanShort Refuses task new g) (sym is.0) (λ e. absurd (cc), (short, same-after old begun new same is.1))
unkept-fault old begun new RanShort Refuses task (Some path) f same owed has short is = journal_fault old begun new RanShort Refuses task path f same owed has short is
