-- The lines of a journal, each where it may stand, lead to its end.
use Rattle.std.proofs.Common.{◌≡◌, ℕ, ◌+◌, Bool, if◌then◌else◌, List, [], ◌∷◌, ◌++◌, length, map, Option, Some, None, refl, sym, ap, ◌∙◌, arith, append_assoc}
use Rattle.std.proofs.lemmas.Bool.{eq-eqb}
use Rattle.model.specs.declared.call.CallId.{CallId}
use Rattle.model.specs.declared.reply.Reply.{Reply}
use Rattle.messages.specs.declared.message.Message.{Message}
use Rattle.journal_text.specs.declared.lines.JournalLine.{JournalLine}
use Rattle.journal_text.specs.declared.lines.JournalLine.TheVariants.{Entry, Send, End}
use Rattle.journal_text.specs.declared.named_entry.NamedEntry.{NamedEntry}
use Rattle.journal_text.specs.declared.journal_place.Phase.{Phase}
use Rattle.journal_text.specs.declared.journal_place.Phase.TheVariants.{Empty, Begun, Sending, Ended}
use Rattle.journal_text.specs.declared.journal_place.JournalPlace.{JournalPlace}
use Rattle.journal_text.specs.code.Places.{next_place, place, start}
use Rattle.journal_text.specs.rule.Readings.{answer_lines, body_lines, entry_lines, lines_of}
use Rattle.journal_text.proofs.Steps.{empty-open, end-open, entry-open, phase_of, phase_of-open}

abbrev pub next : Option JournalPlace → JournalLine → Option JournalPlace
next None j = None
next (Some p) j = next_place p.count p.phase j

-- the place behind lines each of which may stand where it does
abbrev pub run : Option JournalPlace → List JournalLine → Option JournalPlace
run p [] = p
run p (j ∷ js) = run (next p j) js

pub run-append : (p : Option JournalPlace) (js ks : List JournalLine) → run p (js ++ ks) ≡ run (run p js) ks
run-append p [] ks = refl
run-append p (j ∷ js) ks = run-append (next p j) js ks

pub run-none : (js : List JournalLine) → run None js ≡ None
run-none [] = refl
run-none (j ∷ js) = run-none js

run-sends : (count : ℕ) (sends : List Message) (more : List JournalLine) → run (Some (place count Sending)) (map Send sends ++ more) ≡ run (Some (place count Sending)) more
run-sends count [] more = refl
run-sends count (m ∷ ms) more = run-sends count ms more

-- the place behind the lines of an entry after its first one
run-rest : (count : ℕ) (reply : Option (CallId × Reply)) (sends : List Message) (more : List JournalLine)
    → run (Some (place count Begun)) ((answer_lines reply ++ map Send sends) ++ more) ≡ run (Some (place count (phase_of reply sends))) more
run-rest count None [] more = refl
run-rest count None (m ∷ ms) more = run-sends count ms more
run-rest count (Some answer) sends more = run-sends count sends more

-- the place behind the first line of an entry
next-entry : (count : ℕ) (phase : Phase) (e : NamedEntry) → (phase ≡ Ended → ⊥) → next (Some (place count phase)) (Entry (count + 1) e.event) ≡ Some (place (count + 1) Begun)
next-entry count phase e unended =
    entry-open count phase (count + 1) unended ∙ ap (λ (b : Bool). if b then Some (place (count + 1) Begun) else None) (eq-eqb (count + 1) (count + 1) refl)

run-entry : (count : ℕ) (phase : Phase) (e : NamedEntry) (more : List JournalLine) → (phase ≡ Ended → ⊥)
    → run (Some (place count phase)) (entry_lines (count + 1) e ++ more) ≡ run (Some (place (count + 1) (phase_of e.reply e.sends))) more
run-entry count phase e more unended =
    ap (λ (p : Option JournalPlace). run p ((answer_lines e.reply ++ map Send e.sends) ++ more)) (next-entry count phase e unended) ∙ run-rest (count + 1) e.reply e.sends more

-- the place behind the lines of entries and the last line
run-entries : (count : ℕ) (phase : Phase) (es : List NamedEntry) (told : ℕ) → (phase ≡ Ended → ⊥) → told ≡ count + length es
    → run (Some (place count phase)) (lines_of (count + 1) es ++ End told ∷ []) ≡ Some (place told Ended)
run-entries count phase [] told unended e =
    let same : told ≡ count = omega (arith, e) in
    end-open count phase told unended ∙ ap (λ (b : Bool). if b then Some (place count Ended) else None) (eq-eqb told count same) ∙ ap (λ (k : ℕ). Some (place k Ended)) (sym same)
run-entries count phase (x ∷ es) told unended e =
    let rest : told ≡ count + 1 + length es = omega (arith, e) in
    ap (run (Some (place count phase))) (append_assoc (entry_lines (count + 1) x) (lines_of (count + 1 + 1) es) (End told ∷ []))
    ∙ run-entry count phase x (lines_of (count + 1 + 1) es ++ End told ∷ []) unended
    ∙ run-entries (count + 1) (phase_of x.reply x.sends) es told (phase_of-open x.reply x.sends) rest

-- the place behind all lines of a journal is its end
pub run-journal : (es : List NamedEntry) → run (Some start) (body_lines es) ≡ Some (place (length es) Ended)
run-journal es = run-entries 0 Empty es (length es) empty-open (omega arith)
