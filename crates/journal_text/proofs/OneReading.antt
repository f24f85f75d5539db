-- Each text is one journal, or has one first bad line.
use Rattle.std.proofs.Common.{◌≡◌, ℕ, ◌+◌, List, [], ◌∷◌, ◌++◌, length, map, Option, Some, None, sym, ap, subst, ◌∙◌, append_assoc}
use Rattle.std.proofs.lemmas.List.{append-nil}
use Rattle.model.specs.declared.call.CallId.{CallId}
use Rattle.model.specs.declared.reply.Reply.{Reply}
use Rattle.messages.specs.rule.Entries.{EntryFields}
use Rattle.messages.specs.rule.Shapes.{ShapeFields}
use Rattle.messages.specs.declared.message.Message.{Message}
use Rattle.lockscript.proofs.FirstBadLines.{not_both, one_bad_line, same-whole}
use Rattle.journal_text.specs.declared.lines.JournalLine.{JournalLine}
use Rattle.journal_text.specs.declared.lines.JournalLine.TheVariants.{End, Send}
use Rattle.journal_text.specs.declared.named_entry.NamedEntry.{NamedEntry}
use Rattle.journal_text.specs.declared.named_event.NamedEvent.{NamedEvent}
use Rattle.journal_text.specs.code.Built.{BuilderFields, built, closed, fields}
use Rattle.journal_text.specs.rule.Journals.{head_text, journal_text}
use Rattle.journal_text.specs.rule.Lines.{line_text}
use Rattle.journal_text.specs.code.OneText.{HasOneReading, IsServedJournal}
use Rattle.journal_text.specs.rule.Readings.{AreJournal, Writes, WritesJournal, answer_lines, body_lines, entry_in, entry_lines, lines_of}
use Rattle.journal_text.proofs.Begun.{heads, lines-same, one-version}
use Rattle.journal_text.proofs.HeadKinds.{head}
use Rattle.journal_text.proofs.Printed.{journal-printed, read-printed}
use Rattle.journal_text.proofs.Steps.{named}

-- the entries that lines build, one line after another
abbrev collected : BuilderFields → List JournalLine → BuilderFields
collected b [] = b
collected b (j ∷ js) = collected (built b j) js

collected-sends : (done : List EntryFields) (event : NamedEvent) (reply : Option (CallId × Reply)) (sends more : List Message) (js : List JournalLine)
    → collected (fields done (Some (named event reply sends))) (map Send more ++ js) ≡ collected (fields done (Some (named event reply (sends ++ more)))) js
collected-sends done event reply sends [] js = ap (λ (ms : List Message). collected (fields done (Some (named event reply ms))) js) (sym (append-nil sends))
collected-sends done event reply sends (m ∷ more) js =
    collected-sends done event reply (sends ++ m ∷ []) more js ∙ ap (λ (ms : List Message). collected (fields done (Some (named event reply ms))) js) (append_assoc sends (m ∷ []) more)

-- the lines of an entry behind its first one complete the entry
collected-rest : (done : List EntryFields) (event : NamedEvent) (reply : Option (CallId × Reply)) (sends : List Message) (js : List JournalLine)
    → collected (fields done (Some (named event None []))) ((answer_lines reply ++ map Send sends) ++ js) ≡ collected (fields done (Some (named event reply sends))) js
collected-rest done event None sends js = collected-sends done event None [] sends js
collected-rest done event (Some answer) sends js = collected-sends done event (Some answer) [] sends js

-- the lines of entries and the last line build the entries
collected-entries : (position : ℕ) (es : List NamedEntry) (told : ℕ) (done : List EntryFields) (last : Option NamedEntry)
    → collected (fields done last) (lines_of position es ++ End told ∷ []) ≡ fields (closed done last ++ map entry_in es) None
collected-entries position [] told done last = ap (λ (xs : List EntryFields). fields xs None) (sym (append-nil (closed done last)))
collected-entries position (e ∷ es) told done last =
    ap (collected (fields done last)) (append_assoc (entry_lines position e) (lines_of (position + 1) es) (End told ∷ []))
    ∙ collected-rest (closed done last) e.event e.reply e.sends (lines_of (position + 1) es ++ End told ∷ [])
    ∙ collected-entries (position + 1) es told (closed done last) (Some e)
    ∙ ap (λ (xs : List EntryFields). fields xs None) (append_assoc (closed done last) (entry_in e ∷ []) (map entry_in es))

-- two lists of entries with equal lines are equal
entries-same : (es fs : List NamedEntry) → body_lines es ≡ body_lines fs → map entry_in es ≡ map entry_in fs
entries-same es fs e =
    let both = sym (collected-entries 1 es (length es) [] None) ∙ ap (collected (fields [] None)) e ∙ collected-entries 1 fs (length fs) [] None in
    ap (λ (b : BuilderFields). b.entries) both

written-same : (lines : List (List ℕ)) (s t : ShapeFields) (es fs : List NamedEntry) → Writes lines s es → Writes lines t fs → (s ≡ t) × (map entry_in es ≡ map entry_in fs)
written-same lines s t es fs a b =
    let both = sym a.texts ∙ b.texts in
    let first = heads (head_text s) (head_text t) (map (line_text s.version) (body_lines es)) (map (line_text t.version) (body_lines fs)) both in
    let rest = one-version s t (map (line_text s.version) (body_lines es)) (body_lines fs) a.shape_in b.shape_in b.lines_in both in
    (head.apart s t a.shape_in b.shape_in first, entries-same es fs (lines-same s.version (body_lines es) (body_lines fs) a.lines_in rest.1 rest.0))

one_journal : (text : List ℕ) (s t : ShapeFields) (es fs : List EntryFields) → WritesJournal text s es → WritesJournal text t fs → (s ≡ t) × (es ≡ fs)
one_journal text s t es fs a b =
    let x = a.written in
    let y = b.written in
    let lines = same-whole text x.lines y.lines x.whole y.whole in
    let same = written-same x.lines s t a.named b.named x.writes (subst (λ (ls : List (List ℕ)). Writes ls t b.named) (sym lines) y.writes) in
    (same.0, a.same ∙ same.1 ∙ sym b.same)

pub one_reading : (text : List ℕ) → HasOneReading text
one_reading text = record {
  one_journal = one_journal text;
  one_bad_line = one_bad_line AreJournal text;
  not_both = λ s es n a b. not_both AreJournal text a.written.lines n a.written.whole (s, (a.named, a.written.writes)) b;
  as_printed = λ s es a. journal-printed text s a.named a.written ∙ ap (journal_text s) (sym a.same);
}

-- two journals within their limits with one text are equal
pub apart-journal : (s t : ShapeFields) (es fs : List EntryFields) → IsServedJournal s es → IsServedJournal t fs → journal_text s es ≡ journal_text t fs → (s ≡ t) × (es ≡ fs)
apart-journal s t es fs a b e = one_journal (journal_text t fs) s t es fs (subst (λ (x : List ℕ). WritesJournal x s es) e (read-printed s es a)) (read-printed t fs b)
