-- The first lines of texts that begin as journals do.
use Rattle.std.proofs.Common.{◌≡◌, List, [], ◌++◌, ℕ, map, None, subst}
use Rattle.std.specs.List.{flat_map}
use Rattle.messages.specs.rule.Entries.{EntryFields}
use Rattle.messages.specs.rule.Shapes.{IsShape, ShapeFields}
use Rattle.messages.specs.declared.version.Version.TheVariants.{First}
use Rattle.texts.specs.rule.FirstBadLine.{Passes}
use Rattle.texts.specs.rule.LineFeeds.{BeginsWithLine}
use Rattle.texts.specs.rule.Reads.{Reads}
use Rattle.lockscript.proofs.FirstBadLines.{begins-front, line-same}
use Rattle.lockscript.proofs.Passes.{ended}
use Rattle.journal_text.specs.rule.Journals.{head_text}
use Rattle.journal_text.specs.rule.Lines.{line_text}
use Rattle.journal_text.proofs.HeadKinds.{head}
use Rattle.journal_text.specs.rule.Readings.{BeginsAs, IsOld, WritesJournal, body_lines}

-- a first line that names no shape is not that of a journal of version 1
pub old-no_head : (text line rest : List ℕ) → BeginsWithLine text line rest → Reads head_text IsShape line None → IsOld text → ⊥
old-no_head text line rest begins none old = none old.shape old.shape_in (line-same text line rest (head_text old.shape) old.rest begins old.begins).0

-- a text that is a journal begins with that journal's first line
pub begins_as : (text : List ℕ) (s : ShapeFields) (es : List EntryFields) → WritesJournal text s es → BeginsAs text s
begins_as text s es writes =
    let journal = writes.written in
    let body = map (line_text s.version) (body_lines writes.named) in
    let whole = subst (λ (lines : List (List ℕ)). Passes text lines []) journal.writes.texts journal.whole in
    (flat_map ended body ++ [], begins-front text (head_text s) body [] whole.parts whole.single, journal.writes.shape_in)

-- a text that is a journal of version 1 begins with a first line of version 1
pub old_text : (text : List ℕ) (s : ShapeFields) (es : List EntryFields) → WritesJournal text s es → s.version ≡ First → IsOld text
old_text text s es writes is =
    let begins = begins_as text s es writes in
    record { shape = s; rest = begins.0; begins = begins.1; shape_in = begins.2; is_first = is }

-- a text that is a journal begins with the first line of no other shape
pub one_shape : (text : List ℕ) (s t : ShapeFields) (es : List EntryFields) → BeginsAs text s → WritesJournal text t es → s ≡ t
one_shape text s t es first writes =
    let begins = begins_as text t es writes in
    head.apart s t first.2 begins.2 (line-same text (head_text s) first.0 (head_text t) begins.0 first.1 begins.1).0
