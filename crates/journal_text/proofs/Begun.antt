-- What is known of a text some of whose lines were read as lines of a journal.
use Rattle.std.proofs.Common.{◌≡◌, ℕ, ◌+◌, List, [], ◌∷◌, ◌++◌, length, map, Option, Some, None, refl, sym, ap, subst, ◌∙◌, arith, append_assoc, length-append}
use Rattle.std.specs.List.{All, flat_map}
use Rattle.std.proofs.lemmas.Grind.{flat_map-append}
use Rattle.std.proofs.lemmas.List.{append-nil, map-append}
use Rattle.std.proofs.lemmas.List.Elements.{All-cons, All-head, All-nil, All-push, All-tail}
use Rattle.messages.specs.rule.Shapes.{IsShape, ShapeFields}
use Rattle.messages.specs.declared.version.Version.{Version}
use Rattle.messages.specs.declared.version.Version.TheVariants.{Second}
use Rattle.texts.specs.rule.FirstBadLine.{Begins, IsBadNext, Passes}
use Rattle.texts.specs.rule.FirstBadLine.IsBadNext.{has_no_line, stands_wrong}
use Rattle.texts.specs.rule.LineFeeds.{line_feed, line_feeds, BeginsWithLine}
use Rattle.texts.specs.rule.Reads.{Reads}
use Rattle.lockscript.proofs.BadLines.{smallest}
use Rattle.lockscript.proofs.FirstBadLines.{begins-whole}
use Rattle.lockscript.proofs.Passes.{IsSingle, ended}
use Rattle.journal_text.specs.declared.lines.JournalLine.{JournalLine}
use Rattle.journal_text.specs.declared.lines.JournalLine.TheVariants.{End}
use Rattle.journal_text.specs.declared.named_entry.NamedEntry.{NamedEntry}
use Rattle.journal_text.specs.declared.journal_place.Phase.TheVariants.{Ended}
use Rattle.journal_text.specs.declared.journal_place.JournalPlace.{JournalPlace}
use Rattle.journal_text.specs.rule.Journals.{head_text}
use Rattle.journal_text.specs.rule.Lines.{IsCount, IsServedLine, line_text}
use Rattle.journal_text.specs.code.Places.{IsMisplaced, IsStuck, StandsNext, place, start}
use Rattle.journal_text.specs.code.Places.IsStuck.{misplaced, no_line}
use Rattle.journal_text.specs.rule.Readings.{AreJournal, IsFirstBad, IsJournalText, Writes, body_lines}
use Rattle.journal_text.proofs.HeadKinds.{head}
use Rattle.journal_text.proofs.LineKinds.{line as line_texts}
use Rattle.journal_text.proofs.Runs.{run, run-append, run-journal, run-none}
use Rattle.journal_text.proofs.Steps.{Further, Reading, empty-open, entries, named, none-some, phase_of-open, place_of, read_lines, some-same}
use Rattle.journal_text.proofs.Steps.Reading.{nothing, some, whole}

-- the texts of a journal's lines, the first one among them
abbrev pub texts_of : ShapeFields → List JournalLine → List (List ℕ)
texts_of s js = head_text s ∷ map (line_text s.version) js

-- the text begins with these lines of a journal
pub record Begun (text : List ℕ) (s : ShapeFields) (r : Reading) (rest : List ℕ) (taken : ℕ) : Type 0 where
  pub passes : Passes text (texts_of s (read_lines r)) rest
  pub counted : taken ≡ length (texts_of s (read_lines r))
  pub shape_in : IsShape s
  pub lines_in : All (IsServedLine s.version) (read_lines r)
  pub fits : IsCount (place_of r).count
  pub ran : run (Some start) (read_lines r) ≡ Some (place_of r)

-- a reading that passes no line, and one that passes one line more
pub passes-none : (text : List ℕ) → Passes text [] text
passes-none text = record { parts = refl; single = All-nil IsSingle }

pub passes-line : (text : List ℕ) (lines : List (List ℕ)) (rest line after : List ℕ) → Passes text lines rest → BeginsWithLine rest line after → Passes text (lines ++ line ∷ []) after
passes-line text lines rest line after passes begins = record {
  parts = passes.parts ∙ ap (λ (t : List ℕ). flat_map ended lines ++ t) (begins.parts ∙ sym (append_assoc line (line_feed ∷ []) after) ∙ ap (λ (t : List ℕ). t ++ after) (sym (append-nil (ended line))))
      ∙ sym (append_assoc (flat_map ended lines) (flat_map ended (line ∷ [])) after)
      ∙ ap (λ (t : List ℕ). t ++ after) (sym (flat_map-append ended lines (line ∷ [])));
  single = All-push IsSingle lines line passes.single begins.one_line;
}

pub begun-first : (text : List ℕ) (s : ShapeFields) (rest : List ℕ) → BeginsWithLine text (head_text s) rest → IsShape s → Begun text s nothing rest 1
begun-first text s rest begins shape_in = record {
  passes = passes-line text [] text (head_text s) rest (passes-none text) begins;
  counted = omega arith;
  shape_in = shape_in;
  lines_in = All-nil (IsServedLine s.version);
  fits = omega arith;
  ran = refl;
}

texts-push : (s : ShapeFields) (js : List JournalLine) (j : JournalLine) → texts_of s js ++ line_text s.version j ∷ [] ≡ texts_of s (js ++ j ∷ [])
texts-push s js j = ap (λ (ls : List (List ℕ)). head_text s ∷ ls) (sym (map-append (line_text s.version) js (j ∷ [])))

pub begun-line : (text : List ℕ) (s : ShapeFields) (r : Reading) (rest : List ℕ) (taken : ℕ) (j : JournalLine) (q : JournalPlace) (after : List ℕ)
    → Begun text s r rest taken → StandsNext s.version (place_of r) rest j q after → (f : Further r j q) → Begun text s f.reading after (taken + 1)
begun-line text s r rest taken j q after begun stands f =
    let texts = texts-push s (read_lines r) j ∙ ap (texts_of s) (sym f.lines) in
    let passes = passes-line text (texts_of s (read_lines r)) rest (line_text s.version j) after begun.passes stands.begins in
    record {
      passes = subst (λ (ls : List (List ℕ)). Passes text ls after) texts passes;
      counted = omega (arith, begun.counted, ap length texts, length-append (texts_of s (read_lines r)) (line_text s.version j ∷ []));
      shape_in = begun.shape_in;
      lines_in = subst (All (IsServedLine s.version)) (sym f.lines) (All-push (IsServedLine s.version) (read_lines r) j begun.lines_in stands.served);
      fits = f.fits s.version stands.served begun.fits;
      ran = ap (run (Some start)) f.lines ∙ run-append (Some start) (read_lines r) (j ∷ []) ∙ ap (λ (p : Option JournalPlace). run p (j ∷ [])) begun.ran ∙ stands.next ∙ ap (λ (p : JournalPlace). Some p) (sym f.stands);
    }

-- a text that ends behind the last line is a journal
pub journal-begun : (text : List ℕ) (s : ShapeFields) (r : Reading) (taken : ℕ) → Begun text s r [] taken → (place_of r).phase ≡ Ended → IsJournalText text s (entries r)
journal-begun text s nothing taken begun e = absurd (empty-open e)
journal-begun text s (some es event reply sends) taken begun e = absurd (phase_of-open reply sends e)
journal-begun text s (whole es) taken begun e = record {
  lines = texts_of s (body_lines es);
  whole = begun.passes;
  writes = record { texts = refl; shape_in = begun.shape_in; lines_in = begun.lines_in };
}

-- lines that may be followed by the last line begin a journal
begins-end : (s : ShapeFields) (es : List NamedEntry) (js : List JournalLine) → body_lines es ≡ js ++ End (length es) ∷ [] → IsShape s → All (IsServedLine s.version) js → IsCount (length es) → Begins AreJournal (texts_of s js)
begins-end s es js e shape_in lines_in fits = (
  line_text s.version (End (length es)) ∷ [],
  (
    s,
    (
      es,
      record {
        texts = texts-push s js (End (length es)) ∙ ap (texts_of s) (sym e);
        shape_in = shape_in;
        lines_in = subst (All (IsServedLine s.version)) (sym e) (All-push (IsServedLine s.version) js (End (length es)) lines_in fits);
      },
    ),
  ),
)

pub good-begun : (text : List ℕ) (s : ShapeFields) (r : Reading) (rest : List ℕ) (taken : ℕ) → Begun text s r rest taken → Begins AreJournal (texts_of s (read_lines r))
good-begun text s nothing rest taken begun = begins-end s [] [] refl begun.shape_in begun.lines_in (omega arith)
good-begun text s (some es event reply sends) rest taken begun =
    let last = named event reply sends in
    let counted : length (es ++ last ∷ []) ≡ length es + 1 = omega (arith, length-append es (last ∷ [])) in
    begins-end s (es ++ last ∷ []) (read_lines (some es event reply sends)) refl begun.shape_in begun.lines_in (omega (arith, counted, begun.fits))
good-begun text s (whole es) rest taken begun = begins-whole AreJournal (texts_of s (body_lines es)) (s, (es, record { texts = refl; shape_in = begun.shape_in; lines_in = begun.lines_in }))

pub heads : (x y : List ℕ) (xs ys : List (List ℕ)) → x ∷ xs ≡ y ∷ ys → x ≡ y
heads x y xs ys e = cc

pub tails : (x y : List ℕ) (xs ys : List (List ℕ)) → x ∷ xs ≡ y ∷ ys → xs ≡ ys
tails x y xs ys e = cc

-- two lists of lines with equal texts are equal
pub lines-same : (v : Version) (js ks : List JournalLine) → All (IsServedLine v) js → All (IsServedLine v) ks → map (line_text v) js ≡ map (line_text v) ks → js ≡ ks
lines-same v [] [] js_in ks_in e = refl
lines-same v [] (k ∷ ks) js_in ks_in e = absurd (cc)
lines-same v (j ∷ js) [] js_in ks_in e = absurd (cc)
lines-same v (j ∷ js) (k ∷ ks) js_in ks_in e =
    let one = (line_texts v).apart j k (All-head (IsServedLine v) j js js_in) (All-head (IsServedLine v) k ks ks_in) (heads (line_text v j) (line_text v k) (map (line_text v) js) (map (line_text v) ks) e) in
    let rest = lines-same v js ks (All-tail (IsServedLine v) j js js_in) (All-tail (IsServedLine v) k ks ks_in) (tails (line_text v j) (line_text v k) (map (line_text v) js) (map (line_text v) ks) e) in
    ap (λ (x : JournalLine). x ∷ js) one ∙ ap (λ (xs : List JournalLine). k ∷ xs) rest

-- the lines ks begin with the lines js, and go on with this line
record Continues (v : Version) (js ks : List JournalLine) (line : List ℕ) : Type 0 where
  next_line : JournalLine
  behind : List JournalLine
  same : ks ≡ js ++ next_line ∷ behind
  text : line ≡ line_text v next_line
  served : IsServedLine v next_line

continues : (v : Version) (js ks : List JournalLine) (line : List ℕ) (more : List (List ℕ)) → All (IsServedLine v) js → All (IsServedLine v) ks → map (line_text v) js ++ line ∷ more ≡ map (line_text v) ks → Continues v js ks line
continues v [] [] line more js_in ks_in e = absurd (cc)
continues v [] (k ∷ ks) line more js_in ks_in e = record {
  next_line = k;
  behind = ks;
  same = refl;
  text = heads line (line_text v k) more (map (line_text v) ks) e;
  served = All-head (IsServedLine v) k ks ks_in;
}
continues v (j ∷ js) [] line more js_in ks_in e = absurd (cc)
continues v (j ∷ js) (k ∷ ks) line more js_in ks_in e =
    let one = (line_texts v).apart j k (All-head (IsServedLine v) j js js_in) (All-head (IsServedLine v) k ks ks_in) (heads (line_text v j) (line_text v k) (map (line_text v) js ++ line ∷ more) (map (line_text v) ks) e) in
    let rest = continues v js ks line more (All-tail (IsServedLine v) j js js_in) (All-tail (IsServedLine v) k ks ks_in) (tails (line_text v j) (line_text v k) (map (line_text v) js ++ line ∷ more) (map (line_text v) ks) e) in
    record {
      next_line = rest.next_line;
      behind = rest.behind;
      same = ap (λ (xs : List JournalLine). k ∷ xs) rest.same ∙ ap (λ (x : JournalLine). x ∷ (js ++ rest.next_line ∷ rest.behind)) (sym one);
      text = rest.text;
      served = rest.served;
    }

-- no journal goes on with a line that may not stand there
not-next : (v : Version) (js : List JournalLine) (p : JournalPlace) (es : List NamedEntry) (line : List ℕ) → run (Some start) js ≡ Some p → IsMisplaced v p line → Continues v js (body_lines es) line → ⊥
not-next v js p es line ran wrong c =
    let stopped = run-append (Some start) js (c.next_line ∷ c.behind) ∙ ap (λ (q : Option JournalPlace). run q (c.next_line ∷ c.behind)) ran
    ∙ ap (λ (q : Option JournalPlace). run q c.behind) (wrong c.next_line c.served c.text) ∙ run-none c.behind in
    let ends = sym (run-journal es) ∙ ap (run (Some start)) c.same ∙ stopped in
    none-some (place (length es) Ended) (sym ends)

-- two journals with one first line are of one version
pub one-version : (s t : ShapeFields) (texts : List (List ℕ)) (ks : List JournalLine) → IsShape s → IsShape t → All (IsServedLine t.version) ks → head_text s ∷ texts ≡ head_text t ∷ map (line_text t.version) ks → (texts ≡ map (line_text s.version) ks) × All (IsServedLine s.version) ks
one-version s t texts ks s_in t_in ks_in e =
    let same = head.apart s t s_in t_in (heads (head_text s) (head_text t) texts (map (line_text t.version) ks) e) in (
      tails (head_text s) (head_text t) texts (map (line_text t.version) ks) e ∙ sym (ap (λ (x : ShapeFields). map (line_text x.version) ks) same),
      subst (λ (x : ShapeFields). All (IsServedLine x.version) ks) (sym same) ks_in,
    )

not-begun : (s : ShapeFields) (js : List JournalLine) (p : JournalPlace) (line : List ℕ) → IsShape s → All (IsServedLine s.version) js → run (Some start) js ≡ Some p → IsMisplaced s.version p line → Begins AreJournal (texts_of s js ++ line ∷ []) → ⊥
not-begun s js p line s_in js_in ran wrong b =
    let t = b.1.0 in
    let es = b.1.1.0 in
    let writes = b.1.1.1 in
    let e = sym (append_assoc (texts_of s js) (line ∷ []) b.0) ∙ writes.texts in
    let rest = one-version s t (map (line_text s.version) js ++ line ∷ b.0) (body_lines es) s_in writes.shape_in writes.lines_in e in
    not-next s.version js p es line ran wrong (continues s.version js (body_lines es) line b.0 js_in rest.1 rest.0)

-- lines behind which the last line may stand are not yet a journal
not-whole : (s t : ShapeFields) (js : List JournalLine) (p : JournalPlace) (es : List NamedEntry) → IsShape s → All (IsServedLine s.version) js → run (Some start) js ≡ Some p → (p.phase ≡ Ended → ⊥) → Writes (texts_of s js) t es → ⊥
not-whole s t js p es s_in js_in ran unended w =
    let rest = one-version s t (map (line_text s.version) js) (body_lines es) s_in w.shape_in w.lines_in w.texts in
    let same = lines-same s.version js (body_lines es) js_in rest.1 rest.0 in
    let ends = sym ran ∙ ap (run (Some start)) same ∙ run-journal es in
    let here = some-same p (place (length es) Ended) ends in
    unended (ap (λ (q : JournalPlace). q.phase) here)

bad-begun : (s : ShapeFields) (js : List JournalLine) (p : JournalPlace) (rest : List ℕ) → IsShape s → All (IsServedLine s.version) js → run (Some start) js ≡ Some p → IsStuck s.version p rest → IsBadNext AreJournal (texts_of s js) rest
bad-begun s js p rest s_in js_in ran (no_line none unended) = has_no_line none (λ gone are. not-whole s are.0 js p are.1.0 s_in js_in ran (unended gone) are.1.1)
bad-begun s js p rest s_in js_in ran (misplaced line after begins wrong) = stands_wrong line after begins (not-begun s js p line s_in js_in ran wrong)

pub stuck-begun : (text : List ℕ) (s : ShapeFields) (r : Reading) (rest : List ℕ) (taken : ℕ) → Begun text s r rest taken → IsStuck s.version (place_of r) rest → IsFirstBad text (taken + 1)
stuck-begun text s r rest taken begun stuck = record {
  lines = texts_of s (read_lines r);
  rest = rest;
  before = begun.passes;
  counted = ap (λ (k : ℕ). k + 1) begun.counted;
  good = good-begun text s r rest taken begun;
  bad = bad-begun s (read_lines r) (place_of r) rest begun.shape_in begun.lines_in begun.ran stuck;
}

-- some journal begins with no line at all
some-journal : Begins AreJournal []
some-journal = (
  texts_of smallest (body_lines []),
  (
    smallest,
    (
      [],
      record {
        texts = refl;
        shape_in = record { nodes_in = (omega arith, omega arith); files_in = (omega arith, omega arith) };
        lines_in = All-cons (IsServedLine Second) (End 0) [] (omega arith) (All-nil (IsServedLine Second));
      },
    ),
  ),
)

bad-at-first : (text : List ℕ) → IsBadNext AreJournal [] text → IsFirstBad text 1
bad-at-first text bad = record { lines = []; rest = text; before = passes-none text; counted = omega arith; good = some-journal; bad = bad }

no-lines : (s : ShapeFields) (js : List JournalLine) → [] ≡ texts_of s js → ⊥
no-lines s js e = absurd (cc)

-- a text without a line feed has a bad first line
pub bad-no_line : (text : List ℕ) → line_feeds text ≡ 0 → IsFirstBad text 1
bad-no_line text none = bad-at-first text (has_no_line none (λ gone are. no-lines are.0 (body_lines are.1.0) are.1.1.texts))

-- a text whose first line names no shape has a bad first line
pub bad-first : (text line after : List ℕ) → BeginsWithLine text line after → Reads head_text IsShape line None → IsFirstBad text 1
bad-first text line after begins none =
    bad-at-first text (stands_wrong line after begins (λ b. not-head b.1.0 b.1.1.0 b.0 b.1.1.1))
  where
    not-head : (s : ShapeFields) (es : List NamedEntry) (more : List (List ℕ)) → Writes (line ∷ more) s es → ⊥
    not-head s es more writes = none s writes.shape_in (heads line (head_text s) more (map (line_text s.version) (body_lines es)) writes.texts)
