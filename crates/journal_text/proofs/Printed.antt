-- A text that is a journal is the one that is printed of it.
use Rattle.std.proofs.Common.{◌≡◌, ℕ, ◌+◌, List, [], ◌∷◌, ◌++◌, length, map, Option, Some, None, refl, sym, ap, ◌∙◌, append_assoc, codes, decimal}
use Rattle.std.specs.List.{All, flat_map}
use Rattle.std.proofs.lemmas.Grind.{flat_map-append}
use Rattle.std.proofs.lemmas.List.{append-nil, length-map, map-append}
use Rattle.std.proofs.lemmas.List.Elements.{All-cons, All-head, All-nil, All-tail}
use Rattle.model.specs.declared.call.CallId.{CallId}
use Rattle.model.specs.declared.reply.Reply.{Reply}
use Rattle.messages.specs.rule.Entries.{EntryFields}
use Rattle.messages.specs.rule.Shapes.{ShapeFields}
use Rattle.messages.specs.declared.message.Message.{Message}
use Rattle.messages.specs.declared.version.Version.{Version}
use Rattle.message_text.specs.rule.Texts.{call_text}
use Rattle.lockscript.specs.rule.Texts.{reply_text}
use Rattle.lockscript.proofs.Feeds.{none_is-line_feeds}
use Rattle.lockscript.proofs.Passes.{IsSingle, ended}
use Rattle.journal_text.specs.declared.lines.JournalLine.{JournalLine}
use Rattle.journal_text.specs.declared.lines.JournalLine.TheVariants.{End, Send}
use Rattle.journal_text.specs.declared.named_entry.NamedEntry.{NamedEntry}
use Rattle.journal_text.specs.rule.Events.{named_text}
use Rattle.journal_text.specs.rule.Journals.{end_text, entries_text, entry_text, head_text, journal_text, reply_line, send_line}
use Rattle.journal_text.specs.rule.Lines.{IsServedLine, line_text}
use Rattle.journal_text.specs.code.OneText.{IsServedJournal}
use Rattle.journal_text.specs.rule.Readings.{IsJournalText, WritesJournal, answer_lines, body_lines, entry_in, entry_lines, lines_of}
use Rattle.journal_text.proofs.HeadKinds.{head}
use Rattle.journal_text.proofs.LineKinds.{line}

-- the texts of lines, each with its line feed
abbrev lines_text : Version → List JournalLine → List ℕ
lines_text v js = flat_map ended (map (line_text v) js)

lines_text-append : (v : Version) (js ks : List JournalLine) → lines_text v (js ++ ks) ≡ lines_text v js ++ lines_text v ks
lines_text-append v js ks = ap (flat_map ended) (map-append (line_text v) js ks) ∙ flat_map-append ended (map (line_text v) js) (map (line_text v) ks)

answer-parts : (front call reply : List ℕ) → ((front ++ (call ++ 32 ∷ reply)) ++ 10 ∷ []) ++ [] ≡ front ++ call ++ (32 ∷ []) ++ reply ++ (10 ∷ [])
answer-parts front call reply = simp (append_assoc, append-nil)

answer-printed : (v : Version) (reply : Option (CallId × Reply)) → lines_text v (answer_lines reply) ≡ reply_line reply
answer-printed v None = refl
answer-printed v (Some answer) = answer-parts (codes "reply ") (call_text answer.0) (reply_text answer.1)

sends-printed : (v : Version) (sends : List Message) → lines_text v (map Send sends) ≡ flat_map (send_line v) sends
sends-printed v [] = refl
sends-printed v (m ∷ ms) = ap (λ (t : List ℕ). send_line v m ++ t) (sends-printed v ms)

entry-parts : (front position event reply sends : List ℕ) → ((front ++ (position ++ 32 ∷ event)) ++ 10 ∷ []) ++ (reply ++ sends) ≡ front ++ position ++ (32 ∷ []) ++ event ++ (10 ∷ []) ++ reply ++ sends
entry-parts front position event reply sends = simp append_assoc

entry-printed : (v : Version) (position : ℕ) (e : NamedEntry) → lines_text v (entry_lines position e) ≡ entry_text v position (entry_in e)
entry-printed v position e =
    let first = ended (codes "entry " ++ (decimal position ++ 32 ∷ named_text v e.event)) in
    ap (λ (t : List ℕ). first ++ t) (lines_text-append v (answer_lines e.reply) (map Send e.sends))
    ∙ ap (λ (t : List ℕ). first ++ (t ++ lines_text v (map Send e.sends))) (answer-printed v e.reply)
    ∙ ap (λ (t : List ℕ). first ++ (reply_line e.reply ++ t)) (sends-printed v e.sends)
    ∙ entry-parts (codes "entry ") (decimal position) (named_text v e.event) (reply_line e.reply) (flat_map (send_line v) e.sends)

entries-printed : (v : Version) (position : ℕ) (es : List NamedEntry) → lines_text v (lines_of position es) ≡ entries_text v position (map entry_in es)
entries-printed v position [] = refl
entries-printed v position (e ∷ es) =
    lines_text-append v (entry_lines position e) (lines_of (position + 1) es)
    ∙ ap (λ (t : List ℕ). t ++ lines_text v (lines_of (position + 1) es)) (entry-printed v position e)
    ∙ ap (λ (t : List ℕ). entry_text v position (entry_in e) ++ t) (entries-printed v (position + 1) es)

journal-parts : (first entries last : List ℕ) → ((first ++ 10 ∷ []) ++ (entries ++ ((last ++ 10 ∷ []) ++ []))) ++ [] ≡ first ++ (10 ∷ []) ++ entries ++ last ++ (10 ∷ [])
journal-parts first entries last = simp (append_assoc, append-nil)

-- the whole lines of a journal are its printed text
pub lines-printed : (s : ShapeFields) (es : List NamedEntry) → flat_map ended (head_text s ∷ map (line_text s.version) (body_lines es)) ++ [] ≡ journal_text s (map entry_in es)
lines-printed s es =
    let entries = entries_text s.version 1 (map entry_in es) in
    let body = lines_text-append s.version (lines_of 1 es) (End (length es) ∷ []) ∙ ap (λ (t : List ℕ). t ++ lines_text s.version (End (length es) ∷ [])) (entries-printed s.version 1 es) in
    ap (λ (t : List ℕ). (ended (head_text s) ++ t) ++ []) body
    ∙ journal-parts (head_text s) entries (end_text (length es))
    ∙ ap (λ (n : ℕ). head_text s ++ codes "\n" ++ entries ++ end_text n ++ codes "\n") (sym (length-map es entry_in))

pub journal-printed : (text : List ℕ) (s : ShapeFields) (es : List NamedEntry) → IsJournalText text s es → text ≡ journal_text s (map entry_in es)
journal-printed text s es j = j.whole.parts ∙ ap (λ (ls : List (List ℕ)). flat_map ended ls ++ []) j.writes.texts ∙ lines-printed s es

lines-single : (v : Version) (js : List JournalLine) → All (IsServedLine v) js → All IsSingle (map (line_text v) js)
lines-single v [] served = All-nil IsSingle
lines-single v (j ∷ js) served = All-cons IsSingle (line_text v j) (map (line_text v) js) (none_is-line_feeds (line_text v j) ((line v).feedless j (All-head (IsServedLine v) j js served))) (lines-single v js (All-tail (IsServedLine v) j js served))

-- the text that is printed of a journal within its limits is this journal
pub read-printed : (s : ShapeFields) (es : List EntryFields) → IsServedJournal s es → WritesJournal (journal_text s es) s es
read-printed s es j = record {
  named = j.named;
  same = j.same;
  written = record {
    lines = head_text s ∷ map (line_text s.version) (body_lines j.named);
    whole = record {
      parts = ap (journal_text s) j.same ∙ sym (lines-printed s j.named);
      single = All-cons IsSingle (head_text s) (map (line_text s.version) (body_lines j.named)) (none_is-line_feeds (head_text s) (head.feedless s j.shape_in)) (lines-single s.version (body_lines j.named) j.lines_in);
    };
    writes = record { texts = refl; shape_in = j.shape_in; lines_in = j.lines_in };
  };
}
