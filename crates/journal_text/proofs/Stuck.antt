-- The next line of a journal, or the reason for which it may not stand there.
use Rattle.std.proofs.Common.{◌≡◌, List, ℕ, Option, Some, None, Result, Err, ok_or, sym, subst, ◌∙◌}
use Rattle.messages.specs.declared.version.Version.{Version}
use Rattle.texts.specs.rule.Reads.{Reads}
use Rattle.lockscript.specs.declared.error.ParseError.{ParseError}
use Rattle.journal_text.specs.declared.lines.JournalLine.{JournalLine}
use Rattle.journal_text.specs.declared.journal_place.JournalPlace.{JournalPlace}
use Rattle.journal_text.specs.rule.Lines.{IsServedLine, line_text}
use Rattle.journal_text.specs.code.Places.{IsMisplaced, next_place}
use Rattle.journal_text.proofs.LineKinds.{line as line_texts}

-- bytes that are the text of no line are misplaced
pub misplaced-none : (version : Version) (p : JournalPlace) (bytes : List ℕ) → Reads (line_text version) (IsServedLine version) bytes None → IsMisplaced version p bytes
misplaced-none version p bytes none j served e = absurd (none j served e)

-- a line that may not stand here is misplaced
pub misplaced-line : (version : Version) (p : JournalPlace) (bytes : List ℕ) (j : JournalLine) → IsServedLine version j → bytes ≡ line_text version j → next_place p.count p.phase j ≡ None → IsMisplaced version p bytes
misplaced-line version p bytes j j_in text none k k_in e =
    subst (λ (x : JournalLine). next_place p.count p.phase x ≡ None) ((line_texts version).apart j k j_in k_in (sym text ∙ e)) none

-- the error that is given where a line isn't found
pub refusal-is : {A : Type 0} (found : Option A) (bad error : ParseError) → ◌≡◌ {A = Result A ParseError} (Err error) (ok_or found bad) → found ≡ None → error ≡ bad
refusal-is None bad error e none = cc
refusal-is (Some x) bad error e none = absurd (cc)
