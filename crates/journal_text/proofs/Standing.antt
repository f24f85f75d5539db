-- Where the reader of a journal stands, and what it has built.
use Rattle.std.proofs.Common.{◌≡◌, ℕ, ◌+◌, List, [], length, map, refl, sym, ap, subst, ◌∙◌}
use Rattle.std.specs.Prelude.{◌≢◌}
use Rattle.std.proofs.lemmas.List.{length-map}
use Rattle.messages.specs.rule.Shapes.{IsShape, ShapeFields}
use Rattle.texts.specs.rule.LineFeeds.{BeginsWithLine}
use Rattle.lockscript.specs.declared.error.ParseError.{ParseError}
use Rattle.lockscript.specs.declared.error.ParseError.TheVariants.{NoMemory, BadLine}
use Rattle.journal_text.specs.declared.lines.JournalLine.{JournalLine}
use Rattle.journal_text.specs.declared.journal_place.Phase.TheVariants.{Ended}
use Rattle.journal_text.specs.declared.journal_place.JournalPlace.{JournalPlace}
use Rattle.journal_text.specs.code.Built.{BuilderFields, built}
use Rattle.journal_text.specs.rule.Journals.{head_text}
use Rattle.journal_text.specs.code.Places.{IsStuck, StandsNext, start}
use Rattle.journal_text.specs.rule.Readings.{HasLength, IsBadLine, IsFirstBad, IsRefused, WritesJournal, entry_in}
use Rattle.journal_text.proofs.Begun.{Begun, begun-first, begun-line, journal-begun, stuck-begun}
use Rattle.journal_text.proofs.Steps.{Reading, built_of, entries, further, phase_of-open, place_of}
use Rattle.journal_text.proofs.Steps.Reading.{nothing, some, whole}

-- the text begins with `taken` lines of a journal, which lead to this place and build these entries
pub record Standing (text : List ℕ) (s : ShapeFields) (rest : List ℕ) (taken : ℕ) (p : JournalPlace) (b : BuilderFields) : Type 0 where
  pub reading : Reading
  pub begun : Begun text s reading rest taken
  pub here : place_of reading ≡ p
  pub made : built_of reading ≡ b

-- the reader stands behind the first line
pub standing-first : (text from : List ℕ) (s : ShapeFields) (rest : List ℕ) (taken : ℕ) (p : JournalPlace) (b : BuilderFields) → from ≡ text → BeginsWithLine from (head_text s) rest → IsShape s → taken ≡ 1 → p ≡ start → b ≡ built_of nothing
    → Standing text s rest taken p b
standing-first text from s rest taken p b same begins shape_in one first empty =
    let begun = begun-first text s rest (subst (λ (t : List ℕ). BeginsWithLine t (head_text s) rest) same begins) shape_in in
    record { reading = nothing; begun = subst (λ (n : ℕ). Begun text s nothing rest n) (sym one) begun; here = sym first; made = sym empty }

-- the reader stands behind one line more
pub standing-line : (text : List ℕ) (s : ShapeFields) (rest : List ℕ) (taken : ℕ) (p : JournalPlace) (b : BuilderFields) (j : JournalLine) (q : JournalPlace) (after : List ℕ) (passed : ℕ) (c : BuilderFields)
    → Standing text s rest taken p b → StandsNext s.version p rest j q after → passed ≡ taken + 1 → c ≡ built b j → Standing text s after passed q c
standing-line text s rest taken p b j q after passed c a stands counted same =
    let here = subst (λ (x : JournalPlace). StandsNext s.version x rest j q after) (sym a.here) stands in
    let f = further a.reading j q here.next in
    record {
      reading = f.reading;
      begun = subst (λ (n : ℕ). Begun text s f.reading after n) (sym counted) (begun-line text s a.reading rest taken j q after a.begun here f);
      here = f.stands;
      made = f.made ∙ ap (λ (x : BuilderFields). built x j) a.made ∙ sym same;
    }

pub standing-passed : (text : List ℕ) (s : ShapeFields) (rest : List ℕ) (taken : ℕ) (p : JournalPlace) (b : BuilderFields) (j : JournalLine) (q : JournalPlace) (after : List ℕ) (passed : ℕ)
    → Standing text s rest taken p b → StandsNext s.version p rest j q after → passed ≡ taken + 1 → (c : BuilderFields) × Standing text s after passed q c
standing-passed text s rest taken p b j q after passed a stands counted = (built b j, standing-line text s rest taken p b j q after passed (built b j) a stands counted refl)

pub standing-stuck : (text : List ℕ) (s : ShapeFields) (rest : List ℕ) (taken : ℕ) (p : JournalPlace) (b : BuilderFields) → Standing text s rest taken p b → IsStuck s.version p rest → IsFirstBad text (taken + 1)
standing-stuck text s rest taken p b a stuck = stuck-begun text s a.reading rest taken a.begun (subst (λ (x : JournalPlace). IsStuck s.version x rest) (sym a.here) stuck)

built-whole : (r : Reading) → (place_of r).phase ≡ Ended → (built_of r).entries ≡ map entry_in (entries r)
built-whole nothing e = refl
built-whole (some es event reply sends) e = absurd (phase_of-open reply sends e)
built-whole (whole es) e = refl

-- behind the last line nothing is left
pub standing-whole : (text : List ℕ) (s : ShapeFields) (rest : List ℕ) (taken : ℕ) (p : JournalPlace) (b : BuilderFields) → Standing text s rest taken p b → rest ≡ [] → p.phase ≡ Ended → WritesJournal text s b.entries
standing-whole text s rest taken p b a gone ends =
    let phase = ap (λ (x : JournalPlace). x.phase) a.here ∙ ends in
    record {
      named = entries a.reading;
      same = ap (λ (x : BuilderFields). x.entries) (sym a.made) ∙ built-whole a.reading phase;
      written = journal-begun text s a.reading taken (subst (λ (x : List ℕ). Begun text s a.reading x taken) gone a.begun) phase;
    }

-- behind the last line as many entries were built as the line says
counted-whole : (r : Reading) → (place_of r).phase ≡ Ended → (place_of r).count ≡ length (built_of r).entries
counted-whole nothing e = refl
counted-whole (some es event reply sends) e = absurd (phase_of-open reply sends e)
counted-whole (whole es) e = sym (length-map es entry_in)

pub standing-counted : (text : List ℕ) (s : ShapeFields) (rest : List ℕ) (taken : ℕ) (p : JournalPlace) (b : BuilderFields) → Standing text s rest taken p b → p.phase ≡ Ended → p.count ≡ length b.entries
standing-counted text s rest taken p b a ends =
    ap (λ (x : JournalPlace). x.count) (sym a.here) ∙ counted-whole a.reading (ap (λ (x : JournalPlace). x.phase) a.here ∙ ends) ∙ ap (λ (x : BuilderFields). length x.entries) a.made

-- a text with a bad line is refused for it
pub bad-refused : (text : List ℕ) (error : ParseError) → IsBadLine text error → IsRefused text error
bad-refused text NoMemory bad = absurd bad
bad-refused text (BadLine number) bad = bad

-- a text that is a journal is refused only for lack of memory
pub refused-later : (text : List ℕ) (s : ShapeFields) (count : ℕ) (error : ParseError) → HasLength text s count → (error ≢ NoMemory → IsBadLine text error) → IsRefused text error
refused-later text s count NoMemory has bad = (s, (has.1.named, has.1.written))
refused-later text s count (BadLine number) has bad = bad (λ e. absurd (cc))
