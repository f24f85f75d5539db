-- The logs that files have, and what faults come to.
use Rattle.std.proofs.Common.{◌≡◌, ap, ◌∙◌, refl, inl, inr, ℕ, ◌+◌, ◌<◌, List, [], ◌∷◌, ◌++◌, Option, Some, None, String, sym, subst, map, take, length, get_or}
use Rattle.std.specs.Prelude.{Result, Err, string_bytes}
use Rattle.merges.specs.declared.merge_error.MergeError.{MergeError}
use Rattle.merges.specs.declared.merge_error.MergeError.TheVariants.{NoOrder as NoOrderOf}
use Rattle.replay.specs.declared.fault.Fault.{Fault}
use Rattle.replay.specs.declared.fault.Fault.TheVariants.{BadLine, CannotRead, CannotWrite, CannotWriteOutput, NoMemory, JournalFull, OldJournal, Faulty}
use Rattle.replay.specs.rule.Commands.{status_of, KeepsJournal}
use Rattle.seat_commands.specs.declared.faults.MergeFault.{MergeFault}
use Rattle.seat_commands.specs.declared.faults.MergeFault.TheVariants.{NoOrder}
use Rattle.seat_commands.specs.rule.Doings.{IsFaultStatus}
use denote.Ref.{Bor}
use Rattle.std.specs.Global.{Global}
use Rattle.std.proofs.lemmas.List.{map-append, take_more}
use Rattle.messages.specs.declared.entry.Entry.{Entry}
use Rattle.messages.specs.rule.Shapes.{ShapeFields}
use Rattle.journal_text.specs.rule.Journals.{journal_text}
use Rattle.seat_text.specs.declared.read.ReadLog.{ReadLog}
use Rattle.seat_text.specs.rule.Logs.{IsList, IsLog}
use Rattle.merges.specs.declared.logged.LoggedChange.{LoggedChange}
use Rattle.merges.specs.rule.Merges.{LogFields, log_of, AreMerged, NoneMerges}
use Rattle.replay.specs.rule.Faults.{IsUnkept}
use Rattle.replay.specs.rule.Stores.{Files, HasText, SameFiles}
use Rattle.replay.proofs.Paths.{now_of}
use Rattle.replay.proofs.Stores.{had-text, text-held}
use Rattle.seat_commands.specs.declared.lines.MergeLine.{MergeLine}
use Rattle.seat_commands.specs.rule.Merging.{AreDeclared, AreNamed, AreOf, ChangesTarget, HasLog, HasNone, HaveLogs, IsMerged, Writes, all_logs, path_of, target_of}

is_one : (fault : Fault) → IsFaultStatus (status_of fault)
is_one (BadLine number) = inl refl
is_one (CannotRead path reason) = inl refl
is_one (CannotWrite path reason) = inl refl
is_one CannotWriteOutput = inl refl
is_one NoMemory = inr refl
is_one JournalFull = inr refl
is_one OldJournal = inl refl
is_one (Faulty report) = inl refl

-- each fault has one of these statuses
pub is_fault_status : (fault : Fault) (status : ℕ) → status ≡ status_of fault → IsFaultStatus status
is_fault_status fault status is = subst IsFaultStatus (sym is) (is_one fault)

is_no_order : {T : Type 0} (fault : MergeFault) → ◌≡◌ {A = Result T MergeFault} (Err fault) (Err NoOrder) → fault ≡ NoOrder
is_no_order fault e = cc

-- the fault is told where there is no order
pub none_is : {T U : Type 0} (r : Result T MergeError) (error : MergeError) (fault : MergeFault) → r ≡ Err error → (fault ≡ NoOrder → error ≡ NoOrderOf) → ◌≡◌ {A = Result U MergeFault} (Err fault) (Err NoOrder) → r ≡ Err NoOrderOf
none_is {T} {U} r error fault is only e = is ∙ ap (λ (m : MergeError). Err m) (only (is_no_order {T = U} fault e))

-- the text that was read of a file
pub has_text : (Holds : Option (List ℕ) → Type 0) (text : String Global) (bytes : List ℕ) (Is : List ℕ → Type 0) → bytes ≡ string_bytes text → Holds (Some (string_bytes text)) → Is bytes → HasText Holds Is
has_text Holds text bytes Is is holds this =
    let held = text-held Holds text bytes is holds in
    (bytes, held.0, held.1, this)

-- files that have no log are none
pub none_named : (old : Files) (paths : List (Bor (List ℕ))) (logs : List ReadLog) → HaveLogs old (map (λ path. path.now) paths) logs → logs ≡ [] → paths ≡ []
none_named old [] logs have none = refl
none_named old (path ∷ paths) [] have none = absurd have
none_named old (path ∷ paths) (log ∷ logs) have none = cc

-- a file more
pub have_more : (old : Files) (paths : List (List ℕ)) (logs : List ReadLog) (path : List ℕ) (log : ReadLog) → HaveLogs old paths logs → HasLog old path log → HaveLogs old (paths ++ path ∷ []) (logs ++ log ∷ [])
have_more old [] [] path log have has = (has, tt)
have_more old [] (l ∷ ls) path log have has = absurd have
have_more old (p ∷ ps) [] path log have has = absurd have
have_more old (p ∷ ps) (l ∷ ls) path log have has = (have.0, have_more old ps ls path log have.1 has)

-- the declarations and starts were those before, where no file changed
pub were_declared : (old mid : Files) (path : Option (List ℕ)) (shape : ShapeFields) (read : List ReadLog) (declared : List LoggedChange) → SameFiles old mid → AreDeclared mid path shape read declared → AreDeclared old path shape read declared
were_declared old mid (Some path) shape read declared same are = had-text old mid path (λ text. IsList text shape.nodes shape.files declared) same are
were_declared old mid None shape read declared same are = are

-- what was read is what the line names
pub are_named : (old mid : Files) (line : MergeLine) (shape : ShapeFields) (paths : List (Bor (List ℕ))) (read shaped told : List ReadLog) (logs : List LogFields) (declared list : List LoggedChange) → SameFiles old mid → paths ≡ line.logs.items → HaveLogs old (map (λ path. path.now) paths) read → shaped ≡ read → AreOf shape shaped → logs ≡ all_logs read → declared ≡ list → told ≡ read → AreDeclared mid (path_of line.members) shape told list → AreNamed old line shape logs declared
are_named old mid line shape paths read shaped told logs declared list same named have are one all is tells list_is = record {
  read = read;
  files = subst (λ (ps : List (Bor (List ℕ))). HaveLogs old (map (λ path. path.now) ps) read) named have;
  one_shape = subst (λ (ls : List ReadLog). AreOf shape ls) are one;
  all = all;
  list =
      subst (λ (d : List LoggedChange). AreDeclared old (path_of line.members) shape read d) (sym is)
      (were_declared old mid (path_of line.members) shape read list same (subst (λ (ls : List ReadLog). AreDeclared mid (path_of line.members) shape ls list) tells list_is));
}

pub is_merged : (old : Files) (line : MergeLine) (shape : ShapeFields) (logs : List LogFields) (declared : List LoggedChange) (entries : List Entry) → AreNamed old line shape logs declared → AreMerged shape line.skew (log_of logs) declared entries → IsMerged old line shape entries
is_merged old line shape logs declared entries named merged = record { logs = logs; declared = declared; named = named; merged = merged }

pub has_none : (old : Files) (line : MergeLine) (shape : ShapeFields) (logs : List LogFields) (declared : List LoggedChange) → AreNamed old line shape logs declared → NoneMerges shape line.skew (log_of logs) declared → HasNone old line
has_none old line shape logs declared named none = record { shape = shape; logs = logs; declared = declared; named = named; none = none }

-- no file changes, so that none but that of the journal does
pub changes_none : (old new : Files) (line : MergeLine) → SameFiles old new → ChangesTarget old line new
changes_none old new line same = λ path file differs. same path file

pub changes_after : (old mid new : Files) (line : MergeLine) → SameFiles old mid → ChangesTarget mid line new → ChangesTarget old line new
changes_after old mid new line first second = λ path file differs.
    let here = first path file in
    let there = second path file differs in
    (λ holds. here.0 (there.0 holds), λ holds. there.1 (here.1 holds))

some_same : (a b : List ℕ) → Some a ≡ Some b → a ≡ b
some_same a b is = cc

-- the journal is in the file where one is to be written
pub has_target : (old new : Files) (to : Option (List ℕ)) (text path : List ℕ) → KeepsJournal old to text new → to ≡ Some path → new path (Some text)
has_target old new None text path keeps is = absurd (cc)
has_target old new (Some to) text path keeps is = subst (λ (p : List ℕ). new p (Some text)) (some_same to path is) keeps.0

-- only the file of the journal changes
pub changes_kept : (old new : Files) (line : MergeLine) (to : Option (List ℕ)) (text : List ℕ) → to ≡ target_of line → KeepsJournal old to text new → ChangesTarget old line new
changes_kept old new line None text is keeps = λ path file differs. keeps path file
changes_kept old new line (Some to) text is keeps = λ path file differs. keeps.1 path file (λ same. differs (sym is ∙ ap (λ (p : List ℕ). Some p) (sym same)))

pub changes_unkept : (old new : Files) (Refuses : List ℕ → Type 0) (line : MergeLine) (to : Option (List ℕ)) (fault : Fault) → to ≡ target_of line → IsUnkept old Refuses to new fault → ChangesTarget old line new
changes_unkept old new Refuses line None fault is unkept = λ path file differs. unkept.1 path file
changes_unkept old new Refuses line (Some to) (CannotWrite path reason) is unkept = λ other file differs. unkept.2 other file (λ same. differs (sym is ∙ ap (λ (p : List ℕ). Some p) (sym same)))
changes_unkept old new Refuses line (Some to) NoMemory is unkept = λ other file differs. unkept other file
changes_unkept old new Refuses line (Some to) (BadLine number) is unkept = absurd unkept
changes_unkept old new Refuses line (Some to) (CannotRead path reason) is unkept = absurd unkept
changes_unkept old new Refuses line (Some to) CannotWriteOutput is unkept = absurd unkept
changes_unkept old new Refuses line (Some to) JournalFull is unkept = absurd unkept
changes_unkept old new Refuses line (Some to) OldJournal is unkept = absurd unkept
changes_unkept old new Refuses line (Some to) (Faulty report) is unkept = absurd unkept

pub writes : (old new : Files) (line : MergeLine) (shape : ShapeFields) (entries : List Entry) → IsMerged old line shape entries → ((path : List ℕ) → target_of line ≡ Some path → new path (Some (journal_text shape entries))) → Writes old line new
writes old new line shape entries merged written = record { shape = shape; entries = entries; is_merged = merged; written = written }

-- the paths with one more
paths_more : (paths : List (Bor (List ℕ))) (i : ℕ) (d : Bor (List ℕ)) → i < length paths → map now_of (take (i + 1) paths) ≡ map now_of (take i paths) ++ now_of (get_or paths i d) ∷ []
paths_more paths i d lt = ap (λ (ps : List (Bor (List ℕ))). map now_of ps) (take_more paths i d lt) ∙ map-append now_of (take i paths) (get_or paths i d ∷ [])

-- one more file was read
pub read_more : (old mid : Files) (paths : List (Bor (List ℕ))) (i : ℕ) (d : Bor (List ℕ)) (logs next : List ReadLog) (log : ReadLog) → i < length paths → HaveLogs old (map now_of (take i paths)) logs → SameFiles old mid → HasLog mid (now_of (get_or paths i d)) log → next ≡ logs ++ log ∷ [] → HaveLogs old (map now_of (take (i + 1) paths)) next
read_more old mid paths i d logs next log lt have same has more =
    let path = now_of (get_or paths i d) in
    let all = have_more old (map now_of (take i paths)) logs path log have (had-text old mid path (λ text. IsLog text log.head log.logs.items log.changes.items) same has) in
    let named = subst (λ (ps : List (List ℕ)). HaveLogs old ps (logs ++ log ∷ [])) (sym (paths_more paths i d lt)) all in
    subst (λ (ls : List ReadLog). HaveLogs old (map now_of (take (i + 1) paths)) ls) (sym more) named
