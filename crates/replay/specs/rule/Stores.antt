-- What stores hold, and what writers took.
use Rattle.std.specs.Prelude.{◌≡◌, ℕ, ◌⊎◌, ◌++◌, ⊤, List, Option, Result, Ok, Err, codes, decimal, string_bytes, ◌≢◌, ◌↔◌, IsUtf8, Some, None}
use Rattle.std.specs.Io.KnownBytes.{Appends}
use Rattle.replay.specs.declared.shown.Shown.{Shown}
use Rattle.replay.specs.declared.shown.Shown.TheVariants.{Text, Wanting, Partial, Undecided, CutShort, Yes, No}

-- a writer took a beginning of the bytes
abbrev pub AppendsPart : Option (List ℕ) → Option (List ℕ) → List ℕ → Type 0
AppendsPart old new bytes = (done : List ℕ) × (rest : List ℕ) × (bytes ≡ done ++ rest) × Appends old new done

-- the bytes were written; or the writer failed, which took a beginning of them
abbrev pub Writes : {E : Type 0} → Option (List ℕ) → Option (List ℕ) → Type 0 → List ℕ → Result ⊤ E → Type 0
Writes old new Failed bytes (Ok done) = Appends old new bytes
Writes old new Failed bytes (Err error) = AppendsPart old new bytes × Failed

-- the bytes were written, unless the writer failed, which took a beginning of them
abbrev pub WritesOrFails : Option (List ℕ) → Option (List ℕ) → Type 0 → List ℕ → Type 0
WritesOrFails old new Failed bytes = Appends old new bytes ⊎ (AppendsPart old new bytes × Failed)

abbrev pub shown_text : Shown → List ℕ
shown_text (Text text) = string_bytes text
shown_text (Wanting text) = string_bytes text
shown_text (Partial text told) = string_bytes text
shown_text (Undecided text) = string_bytes text
shown_text (CutShort text) = string_bytes text
shown_text Yes = codes "audit yes\n"
shown_text (No position) = codes "audit no " ++ decimal position ++ codes "\n"

-- the exit status: 1 where a journal is none of a run, or lacks a receipt or the entry that was asked for, a run was ended as stuck, a reply of a run is not the one that is expected, its rounds are cut off, or a history is contradicted; 5 where it is not known whether one is, or whether a run was ended too early
abbrev pub shown_status : Shown → ℕ
shown_status (Text text) = 0
shown_status Yes = 0
shown_status (Undecided text) = 5
shown_status (CutShort text) = 5
shown_status shown = 1

-- what a second writer gets beside it, unless it fails: of a run that was ended as stuck the lines of its open calls, of a run that is compared what was expected otherwise, and of one whose rounds are cut off by what, of a run that was ended where it may not have been stuck that this is not known; else nothing
abbrev pub TellsBeside : {E : Type 0} → (E → Option (List ℕ)) → (E → Type 0) → E → E → Shown → Type 0
TellsBeside taken has_failed old new (Partial text told) = WritesOrFails (taken old) (taken new) (has_failed new) (string_bytes told)
TellsBeside taken has_failed old new (CutShort text) = WritesOrFails (taken old) (taken new) (has_failed new) (codes "not known: a call could still be answered\n")
TellsBeside taken has_failed old new shown = new ≡ old

-- what a store tells of the file of each path: its bytes, or that it can't be read
abbrev pub Files : Type 1
Files = List ℕ → Option (List ℕ) → Type 0

-- the file of each path is as it was
abbrev pub SameFiles : Files → Files → Type 0
SameFiles old new = (path : List ℕ) (file : Option (List ℕ)) → new path file ↔ old path file

-- the file of each other path is
abbrev pub SameOthers : Files → Files → List ℕ → Type 0
SameOthers old new path = (other : List ℕ) (file : Option (List ℕ)) → other ≢ path → new other file ↔ old other file

-- what a draft tells: for the file of which path it is, and which bytes it has
abbrev pub Drafted : Type 1
Drafted = List ℕ → List ℕ → Type 0

-- these bytes came behind those that it had
abbrev pub Adds : Drafted → Drafted → List ℕ → Type 0
Adds old new bytes = (path text : List ℕ) → old path text → new path (text ++ bytes)

-- the file has text, and this holds of it; `Holds` says what bytes it has, or that it can't be read
abbrev pub HasText : (Option (List ℕ) → Type 0) → (List ℕ → Type 0) → Type 0
HasText Holds Is = (bytes : List ℕ) × Holds (Some bytes) × IsUtf8 bytes × Is bytes

-- the file can't be read, or not as text
abbrev pub HasNoText : (Option (List ℕ) → Type 0) → Type 0
HasNoText Holds = Holds None ⊎ ((bytes : List ℕ) × Holds (Some bytes) × ¬ (IsUtf8 bytes))
