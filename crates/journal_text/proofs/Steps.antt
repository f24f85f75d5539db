-- Readings of the beginning of a journal, and one more line.
use Rattle.std.proofs.Common.{◌≡◌, ℕ, ◌+◌, Bool, true, false, if◌then◌else◌, List, [], ◌∷◌, ◌++◌, length, map, Option, Some, None, refl, sym, ap, ◌∙◌, arith, eqb, append_assoc, length-append}
use Rattle.std.proofs.lemmas.Bool.{eqb-true}
use Rattle.std.proofs.lemmas.List.{append-nil, map-append}
use Rattle.model.specs.declared.call.CallId.{CallId}
use Rattle.model.specs.declared.reply.Reply.{Reply}
use Rattle.messages.specs.rule.Entries.{EntryFields}
use Rattle.messages.specs.declared.message.Message.{Message}
use Rattle.journal_text.specs.declared.lines.JournalLine.{JournalLine}
use Rattle.journal_text.specs.declared.lines.JournalLine.TheVariants.{Entry, Answer, Send, End}
use Rattle.journal_text.specs.declared.named_entry.NamedEntry.{NamedEntry}
use Rattle.journal_text.specs.declared.named_event.NamedEvent.{NamedEvent}
use Rattle.journal_text.specs.declared.journal_place.Phase.{Phase}
use Rattle.journal_text.specs.declared.journal_place.Phase.TheVariants.{Empty, Begun, Sending, Ended}
use Rattle.journal_text.specs.declared.journal_place.JournalPlace.{JournalPlace}
use Rattle.journal_text.specs.code.Built.{BuilderFields, built, fields}
use Rattle.messages.specs.declared.version.Version.{Version}
use Rattle.journal_text.specs.rule.Lines.{IsCount, IsServedLine}
use Rattle.journal_text.specs.code.Places.{after_answer, after_end, after_entry, after_send, next_place, place, start}
use Rattle.journal_text.specs.rule.Readings.{answer_lines, body_lines, entry_in, entry_lines, lines_of}

-- the part of a journal that was read: no entry; some entries, the last of them open; or all
pub data Reading : Type 0 where
  nothing : Reading
  some : List NamedEntry → NamedEvent → Option (CallId × Reply) → List Message → Reading
  whole : List NamedEntry → Reading

abbrev pub named : NamedEvent → Option (CallId × Reply) → List Message → NamedEntry
named event reply sends = record { event = event; reply = reply; sends = sends }

abbrev pub entries : Reading → List NamedEntry
entries nothing = []
entries (some es event reply sends) = es ++ named event reply sends ∷ []
entries (whole es) = es

abbrev pub read_lines : Reading → List JournalLine
read_lines nothing = []
read_lines (some es event reply sends) = lines_of 1 (es ++ named event reply sends ∷ [])
read_lines (whole es) = body_lines es

abbrev pub phase_of : Option (CallId × Reply) → List Message → Phase
phase_of None [] = Begun
phase_of None (m ∷ ms) = Sending
phase_of (Some answer) sends = Sending

abbrev pub place_of : Reading → JournalPlace
place_of nothing = start
place_of (some es event reply sends) = place (length es + 1) (phase_of reply sends)
place_of (whole es) = place (length es) Ended

abbrev pub built_of : Reading → BuilderFields
built_of nothing = fields [] None
built_of (some es event reply sends) = fields (map entry_in es) (Some (named event reply sends))
built_of (whole es) = fields (map entry_in es) None

-- what a line makes of the open entry doesn't depend on the complete ones
pub last-only : (b : BuilderFields) (j : JournalLine) (last : Option NamedEntry) → b.last ≡ last → (built b j).last ≡ (built (fields [] last) j).last
last-only b (Entry position event) last same = refl
last-only b (Answer call reply) last same = ap (λ (x : Option NamedEntry). (built (fields [] x) (Answer call reply)).last) same
last-only b (Send message) last same = ap (λ (x : Option NamedEntry). (built (fields [] x) (Send message)).last) same
last-only b (End count) last same = refl

pub none-some : (q : JournalPlace) → ◌≡◌ {A = Option JournalPlace} None (Some q) → ⊥
none-some q e = absurd (cc)

pub some-same : (p q : JournalPlace) → ◌≡◌ {A = Option JournalPlace} (Some p) (Some q) → p ≡ q
some-same p q e = cc

pub empty-open : Empty ≡ Ended → ⊥
empty-open e = absurd (cc)

-- an entry is open behind its lines so far
pub phase_of-open : (reply : Option (CallId × Reply)) (sends : List Message) → phase_of reply sends ≡ Ended → ⊥
phase_of-open None [] e = absurd (cc)
phase_of-open None (m ∷ ms) e = absurd (cc)
phase_of-open (Some answer) sends e = absurd (cc)

pub entry-open : (count : ℕ) (phase : Phase) (position : ℕ) → (phase ≡ Ended → ⊥) → after_entry count phase position ≡ (if eqb position (count + 1) then Some (place position Begun) else None)
entry-open count Empty position unended = refl
entry-open count Begun position unended = refl
entry-open count Sending position unended = refl
entry-open count Ended position unended = absurd (unended refl)

pub end-open : (count : ℕ) (phase : Phase) (told : ℕ) → (phase ≡ Ended → ⊥) → after_end count phase told ≡ (if eqb told count then Some (place count Ended) else None)
end-open count Empty told unended = refl
end-open count Begun told unended = refl
end-open count Sending told unended = refl
end-open count Ended told unended = absurd (unended refl)

send-open : (count : ℕ) (reply : Option (CallId × Reply)) (sends : List Message) → after_send count (phase_of reply sends) ≡ Some (place count Sending)
send-open count None [] = refl
send-open count None (m ∷ ms) = refl
send-open count (Some answer) sends = refl

phase_of-send : (reply : Option (CallId × Reply)) (sends : List Message) (message : Message) → phase_of reply (sends ++ message ∷ []) ≡ Sending
phase_of-send None [] message = refl
phase_of-send None (m ∷ ms) message = refl
phase_of-send (Some answer) sends message = refl

-- the lines of entries with one more at the end
pub lines_of-push : (position : ℕ) (es : List NamedEntry) (e : NamedEntry) → lines_of position (es ++ e ∷ []) ≡ lines_of position es ++ entry_lines (position + length es) e
lines_of-push position [] e =
    let here : position ≡ position + length {A = NamedEntry} [] = omega arith in
    append-nil (entry_lines position e) ∙ ap (λ (k : ℕ). entry_lines k e) here
lines_of-push position (f ∷ es) e =
    let counted : position + 1 + length es ≡ position + length (f ∷ es) = omega arith in
    ap (λ (js : List JournalLine). entry_lines position f ++ js) (lines_of-push (position + 1) es e ∙ ap (λ (k : ℕ). lines_of (position + 1) es ++ entry_lines k e) counted)
    ∙ sym (append_assoc (entry_lines position f) (lines_of (position + 1) es) (entry_lines (position + length (f ∷ es)) e))

-- the lines of entries whose last one gets one more line
last-more : (es : List NamedEntry) (e f : NamedEntry) (j : JournalLine) → ((k : ℕ) → entry_lines k f ≡ entry_lines k e ++ j ∷ []) → lines_of 1 (es ++ f ∷ []) ≡ lines_of 1 (es ++ e ∷ []) ++ j ∷ []
last-more es e f j more =
    lines_of-push 1 es f ∙ ap (λ (js : List JournalLine). lines_of 1 es ++ js) (more (1 + length es))
    ∙ sym (append_assoc (lines_of 1 es) (entry_lines (1 + length es) e) (j ∷ []))
    ∙ ap (λ (js : List JournalLine). js ++ j ∷ []) (sym (lines_of-push 1 es e))

send-more : (event : NamedEvent) (reply : Option (CallId × Reply)) (sends : List Message) (message : Message) (k : ℕ)
    → entry_lines k (named event reply (sends ++ message ∷ [])) ≡ entry_lines k (named event reply sends) ++ Send message ∷ []
send-more event reply sends message k =
    ap (λ (js : List JournalLine). Entry k event ∷ (answer_lines reply ++ js)) (map-append Send sends (message ∷ []))
    ∙ ap (λ (js : List JournalLine). Entry k event ∷ js) (sym (append_assoc (answer_lines reply) (map Send sends) (Send message ∷ [])))

if-some : (b : Bool) (p q : JournalPlace) → (if b then Some p else None) ≡ Some q → (b ≡ true) × (p ≡ q)
if-some true p q e = (refl, some-same p q e)
if-some false p q e = absurd (none-some q e)

-- the part of a journal that was read, with one more line
pub record Further (r : Reading) (j : JournalLine) (q : JournalPlace) : Type 0 where
  pub reading : Reading
  pub lines : read_lines reading ≡ read_lines r ++ j ∷ []
  pub stands : place_of reading ≡ q
  pub made : built_of reading ≡ built (built_of r) j
  pub fits : (version : Version) → IsServedLine version j → IsCount (place_of r).count → IsCount (place_of reading).count

entry-further : (es : List NamedEntry) (old : NamedEntry) (position : ℕ) (event : NamedEvent) → position ≡ length es + 1 + 1 → lines_of 1 ((es ++ old ∷ []) ++ named event None [] ∷ []) ≡ lines_of 1 (es ++ old ∷ []) ++ Entry position event ∷ []
entry-further es old position event e =
    let counted : 1 + length (es ++ old ∷ []) ≡ position = omega (arith, e, length-append es (old ∷ [])) in
    lines_of-push 1 (es ++ old ∷ []) (named event None []) ∙ ap (λ (k : ℕ). lines_of 1 (es ++ old ∷ []) ++ Entry k event ∷ []) counted

answer-further : (es : List NamedEntry) (event : NamedEvent) (old : Option (CallId × Reply)) (sends : List Message) (call : CallId) (reply : Reply) (q : JournalPlace)
    → after_answer (length es + 1) (phase_of old sends) ≡ Some q → Further (some es event old sends) (Answer call reply) q
answer-further es event None [] call reply q e = record {
  reading = some es event (Some (call, reply)) [];
  lines = last-more es (named event None []) (named event (Some (call, reply)) []) (Answer call reply) (λ k. refl);
  stands = some-same (place (length es + 1) Sending) q e;
  made = refl;
  fits = λ version served before. before;
}
answer-further es event None (m ∷ ms) call reply q e = absurd (none-some q e)
answer-further es event (Some answer) sends call reply q e = absurd (none-some q e)

pub further : (r : Reading) (j : JournalLine) (q : JournalPlace) → next_place (place_of r).count (place_of r).phase j ≡ Some q → Further r j q
further nothing (Entry position event) q e =
    let found = if-some (eqb position (0 + 1)) (place position Begun) q e in
    let first : position ≡ 0 + 1 = eqb-true position (0 + 1) found.0 in
    let counted : length {A = NamedEntry} [] + 1 ≡ position = omega (arith, first) in
    let one : 1 ≡ position = omega (arith, first) in
    record {
      reading = some [] event None [];
      lines = ap (λ (k : ℕ). Entry k event ∷ []) one;
      stands = ap (λ (k : ℕ). place k Begun) counted ∙ found.1;
      made = refl;
      fits = λ version served before. omega (arith, served.0.1, counted);
    }
further nothing (Answer call reply) q e = absurd (none-some q e)
further nothing (Send message) q e = absurd (none-some q e)
further nothing (End told) q e =
    let found = if-some (eqb told 0) (place 0 Ended) q e in
    let none : told ≡ 0 = eqb-true told 0 found.0 in
    let counted : length {A = NamedEntry} [] ≡ 0 = omega arith in
    record {
      reading = whole [];
      lines = ap (λ (k : ℕ). End k ∷ []) (counted ∙ sym none);
      stands = ap (λ (k : ℕ). place k Ended) counted ∙ found.1;
      made = refl;
      fits = λ version served before. omega (arith, counted);
    }
further (some es old reply sends) (Entry position event) q e =
    let found = if-some (eqb position (length es + 1 + 1)) (place position Begun) q (sym (entry-open (length es + 1) (phase_of reply sends) position (phase_of-open reply sends)) ∙ e) in
    let next : position ≡ length es + 1 + 1 = eqb-true position (length es + 1 + 1) found.0 in
    let last = named old reply sends in
    let counted : length (es ++ last ∷ []) + 1 ≡ position = omega (arith, next, length-append es (last ∷ [])) in
    record {
      reading = some (es ++ last ∷ []) event None [];
      lines = entry-further es last position event next;
      stands = ap (λ (k : ℕ). place k Begun) counted ∙ found.1;
      made = ap (λ (x : List EntryFields). fields x (Some (named event None []))) (map-append entry_in es (last ∷ []));
      fits = λ version served before. omega (arith, served.0.1, counted);
    }
further (some es old before sends) (Answer call reply) q e = answer-further es old before sends call reply q e
further (some es old reply sends) (Send message) q e =
    let same = some-same (place (length es + 1) Sending) q (sym (send-open (length es + 1) reply sends) ∙ e) in
    record {
      reading = some es old reply (sends ++ message ∷ []);
      lines = last-more es (named old reply sends) (named old reply (sends ++ message ∷ [])) (Send message) (send-more old reply sends message);
      stands = ap (place (length es + 1)) (phase_of-send reply sends message) ∙ same;
      made = refl;
      fits = λ version served before. before;
    }
further (some es old reply sends) (End told) q e =
    let found = if-some (eqb told (length es + 1)) (place (length es + 1) Ended) q (sym (end-open (length es + 1) (phase_of reply sends) told (phase_of-open reply sends)) ∙ e) in
    let next : told ≡ length es + 1 = eqb-true told (length es + 1) found.0 in
    let last = named old reply sends in
    let counted : length (es ++ last ∷ []) ≡ length es + 1 = omega (arith, length-append es (last ∷ [])) in
    record {
      reading = whole (es ++ last ∷ []);
      lines = ap (λ (k : ℕ). lines_of 1 (es ++ last ∷ []) ++ End k ∷ []) (counted ∙ sym next);
      stands = ap (λ (k : ℕ). place k Ended) counted ∙ found.1;
      made = ap (λ (x : List EntryFields). fields x None) (map-append entry_in es (last ∷ []));
      fits = λ version served before. omega (arith, before, counted);
    }
further (whole es) (Entry position event) q e = absurd (none-some q e)
further (whole es) (Answer call reply) q e = absurd (none-some q e)
further (whole es) (Send message) q e = absurd (none-some q e)
further (whole es) (End told) q e = absurd (none-some q e)
