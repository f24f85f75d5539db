-- The kinds of lines that a seat reads, by the words with which they begin.
use Rattle.std.proofs.Common.{ℕ, List, [], ◌∷◌, inl, inr, refl, arith, codes, decimal, ◌≡◌, ◌≢◌, ◌+◌, suc, false, if◌then◌else◌, ◌++◌, length}
use Rattle.model.specs.rule.Limits.{IsNumber}
use Rattle.messages.specs.declared.version.Version.TheVariants.{Second}
use Rattle.texts.proofs.FirstWords.{BeginsWithWord, has_no_space-one}
use Rattle.message_text.proofs.NameTexts.{AreFields, AreTexts, both, up_to, Variant, of_variants, variant}
use Rattle.message_text.proofs.MessageKinds.{file, pid, message}
use Rattle.lockscript.proofs.FieldTexts.{node, nothing}
use Rattle.lockscript.proofs.OperationKinds.{op}
use Rattle.seat_text.specs.declared.seat_line.SeatLine.TheVariants.{Call, Tagged, Deliver, Interrupt, Retry, Resend, Declare, Restart, FailServer, StartServer, Tick}
use Rattle.seat_text.specs.rule.SeatLines.{IsServedLine, greatest_tag, line_text, column_of, first_word, has_operands}
use Rattle.texts.specs.rule.Layout.{space}
use Rattle.texts.specs.rule.Reads.{IsOneField, Lacks, has_no_space}
use Rattle.seat_text.specs.rule.Blocks.{bad_line}
use Rattle.seat_text.specs.rule.Speaking.{Doing, IsBad, Says, Speaking}

abbrev tag : AreFields decimal (IsNumber greatest_tag)
tag = up_to greatest_tag (omega arith)

abbrev LineKind : Type 1
LineKind = Variant line_text IsServedLine

abbrev pub calls : LineKind
calls = variant (codes "call ") refl (both node (both pid op)) (λ f. Call f.0 f.1.0 f.1.1) (λ f fit. (fit.0, fit.1.0, fit.1.1)) (λ f. refl)
    (elim [ Call node pid op ↦ λ fits. inl ((node, (pid, op)), (fits.0, (fits.1, fits.2)), refl) | _ ↦ λ _. inr refl ])

abbrev pub tagged : LineKind
tagged = variant (codes "tagged ") refl (both tag (both node (both pid op))) (λ f. Tagged f.0 f.1.0 f.1.1.0 f.1.1.1) (λ f fit. (fit.0, fit.1.0, fit.1.1.0, fit.1.1.1)) (λ f. refl)
    (elim [ Tagged tag node pid op ↦ λ fits. inl ((tag, (node, (pid, op))), (fits.0, (fits.1, (fits.2, fits.3))), refl) | _ ↦ λ _. inr refl ])

abbrev delivers : LineKind
delivers = variant (codes "deliver ") refl (message Second) (λ f. Deliver f) (λ f fit. fit) (λ f. refl) (elim [ Deliver message ↦ λ fits. inl (message, fits, refl) | _ ↦ λ _. inr refl ])

abbrev pub interrupts : LineKind
interrupts = variant (codes "interrupt ") refl (both node pid.texts) (λ f. Interrupt f.0 f.1) (λ f fit. fit) (λ f. refl) (elim [ Interrupt node pid ↦ λ fits. inl ((node, pid), fits, refl) | _ ↦ λ _. inr refl ])

abbrev pub retries : LineKind
retries = variant (codes "retry ") refl (both node pid.texts) (λ f. Retry f.0 f.1) (λ f fit. fit) (λ f. refl) (elim [ Retry node pid ↦ λ fits. inl ((node, pid), fits, refl) | _ ↦ λ _. inr refl ])

abbrev resends : LineKind
resends = variant (codes "resend ") refl file.texts (λ f. Resend f) (λ f fit. fit) (λ f. refl) (elim [ Resend file ↦ λ fits. inl (file, fits, refl) | _ ↦ λ _. inr refl ])

abbrev declares : LineKind
declares = variant (codes "declare ") refl node.texts (λ f. Declare f) (λ f fit. fit) (λ f. refl) (elim [ Declare node ↦ λ fits. inl (node, fits, refl) | _ ↦ λ _. inr refl ])

abbrev restarts : LineKind
restarts = variant (codes "restart ") refl node.texts (λ f. Restart f) (λ f fit. fit) (λ f. refl) (elim [ Restart node ↦ λ fits. inl (node, fits, refl) | _ ↦ λ _. inr refl ])

abbrev fails : LineKind
fails = variant (codes "fail-server ") refl file.texts (λ f. FailServer f) (λ f fit. fit) (λ f. refl) (elim [ FailServer file ↦ λ fits. inl (file, fits, refl) | _ ↦ λ _. inr refl ])

abbrev starts : LineKind
starts = variant (codes "start-server ") refl file.texts (λ f. StartServer f) (λ f fit. fit) (λ f. refl) (elim [ StartServer file ↦ λ fits. inl (file, fits, refl) | _ ↦ λ _. inr refl ])

abbrev ticks : LineKind
ticks = variant (codes "tick") refl nothing (λ _. Tick) (λ f fit. tt) (λ f. refl) (elim [ Tick ↦ λ fits. inl (tt, tt, refl) | _ ↦ λ _. inr refl ])

-- the words of lines with operands, and the one without
abbrev pub words : List (List ℕ)
words = codes "call" ∷ codes "tagged" ∷ codes "deliver" ∷ codes "interrupt" ∷ codes "retry" ∷ codes "resend" ∷ codes "declare" ∷ codes "restart" ∷ codes "fail-server" ∷ codes "start-server" ∷ []

abbrev pub lone_words : List (List ℕ)
lone_words = codes "tick" ∷ []

pub begins-line : BeginsWithWord line_text IsServedLine words lone_words
begins-line = record { told = elim [ Tick ↦ λ _. inr (refl, refl) | _ ↦ λ _. inl (refl, refl) ] }

abbrev lines : List LineKind
lines = calls ∷ tagged ∷ delivers ∷ interrupts ∷ retries ∷ resends ∷ declares ∷ restarts ∷ fails ∷ starts ∷ ticks ∷ []

-- no two lines share a text
pub line : AreTexts line_text IsServedLine
line = of_variants lines (elim [ Tick ↦ refl | _ ↦ refl ])

first_word-behind : (word rest : List ℕ) → Lacks space word → first_word (word ++ space ∷ rest) ≡ word
first_word-behind [] rest lacks = refl
first_word-behind (b ∷ word) rest lacks =
    let first : b ≢ space = lacks 0 (omega arith) in
    grind (arith, first, first_word-behind word rest (λ i lt. lacks (suc i) (omega (arith, lt))))

has_space-behind : (word rest : List ℕ) → has_no_space (word ++ space ∷ rest) ≡ false
has_space-behind [] rest = refl
has_space-behind (b ∷ word) rest = grind (arith, has_space-behind word rest)

-- the column of a line with a space is that of its first word
pub column_behind : (line word rest : List ℕ) → Lacks space word → line ≡ word ++ space ∷ rest → column_of line ≡ (if has_operands word then length word + 2 else 1)
column_behind line word rest lacks is = rw is (rw (has_space-behind word rest) (rw (first_word-behind word rest lacks) refl))

-- a line without a space has nothing behind its first word
pub column_alone : (line : List ℕ) → IsOneField line → column_of line ≡ 1
column_alone line one = rw (has_no_space-one line one) refl

-- where the column of a line that is none was written, that is what is said to it
pub refuses : {S : Type 0} (does : Doing S) (a : Speaking S) (line : List ℕ) (column : ℕ) (old new : List ℕ) → IsBad line column → new ≡ old ++ bad_line column
    → (said : List ℕ) × Says does a line said a × (new ≡ old ++ said)
refuses does a heard column old new bad wrote = (bad_line column, inr (record { column = column; bad = bad; says = refl; same = refl }), wrote)
