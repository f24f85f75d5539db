-- The first bad line of a text some of whose lines were read.
use Rattle.std.proofs.Common.{◌≡◌, ◌≢◌, ℕ, ◌+◌, false, List, [], ◌∷◌, ◌++◌, length, map, inl, inr, refl, sym, ap, subst, ◌∙◌, arith, append_assoc}
use Rattle.std.specs.Prelude.{◌⊎◌}
use Rattle.std.specs.List.{All}
use Rattle.std.proofs.lemmas.List.Elements.{All-head, All-nil, All-tail}
use Rattle.model.specs.declared.policy.Policy.TheVariants.{Wide}
use Rattle.messages.specs.rule.Shapes.{ShapeFields}
use Rattle.messages.specs.declared.version.Version.TheVariants.{Second}
use Rattle.texts.specs.rule.FirstBadLine.{Begins, IsBadNext, IsFirstBadOf}
use Rattle.texts.specs.rule.FirstBadLine.IsBadNext.{has_no_line, stands_wrong as may_not_stand}
use Rattle.texts.specs.rule.LineFeeds.{line_feeds, is_skipped, kept_lines, FindsLine, PassesLines}
use Rattle.lockscript.specs.rule.Scripts.{AreScript, Begun, IsBad, IsBadFirst, IsBadLine, IsLine, IsMisplaced, IsNoLine, IsNoShape, IsRefused, LineFields, ScriptFields, Writes, line_text, script_of, shape_text}
use Rattle.lockscript.specs.rule.Scripts.IsBad.{has_no_cluster, has_no_end, stands_wrong}
use Rattle.lockscript.specs.declared.error.ParseError.{ParseError}
use Rattle.lockscript.specs.declared.error.ParseError.TheVariants.{NoMemory, BadLine}
use Rattle.lockscript.proofs.Begun.{passes-more}
use Rattle.lockscript.proofs.FirstBadLines.{begins-whole, passes-of}
use Rattle.lockscript.proofs.Passes.{kept_lines-append}
use Rattle.lockscript.proofs.SameLines.{first-same, rest-same}

-- lines that may stand at the beginning of a script, skipped ones left out
abbrev pub BeginsScript : List (ℕ × List ℕ) → Type 0
BeginsScript kept = (kept ≡ []) ⊎ ((s : ScriptFields) × Writes kept s)

-- the line is one of a script's, and satisfies P
pub record IsAmong (P : LineFields → Type 0) (x : ℕ × List ℕ) : Type 0 where
  pub line : LineFields
  pub fits : P line
  pub written : x ≡ line_text line

among : (P : LineFields → Type 0) (before after : List (ℕ × List ℕ)) (x : ℕ × List ℕ) (ls : List LineFields) → All P ls → before ++ x ∷ after ≡ map line_text ls → IsAmong P x
among P [] after x [] fits e = absurd (cc)
among P [] after x (l ∷ ls) fits e = record { line = l; fits = All-head P l ls fits; written = first-same x (line_text l) after (map line_text ls) e }
among P (k ∷ before) after x [] fits e = absurd (cc)
among P (k ∷ before) after x (l ∷ ls) fits e = among P before after x ls (All-tail P l ls fits) (rest-same k (line_text l) (before ++ x ∷ after) (map line_text ls) e)

-- what stands behind a line that isn't skipped is one of the lines of the script
pub among-lines : (P : LineFields → Type 0) (k : ℕ × List ℕ) (kept after : List (ℕ × List ℕ)) (x : ℕ × List ℕ) (s : ScriptFields) → All P s.lines → Writes ((k ∷ kept) ++ x ∷ after) s → IsAmong P x
among-lines P k kept after x s fits w = among P kept after x s.lines fits (rest-same k (w.cluster_line, shape_text s.shape) (kept ++ x ∷ after) (map line_text s.lines) w.texts)

-- a line that may not stand behind others stands in no script
not-misplaced : (kept : List (ℕ × List ℕ)) (number : ℕ) (line : List ℕ) (after : List (ℕ × List ℕ)) (s : ScriptFields) → IsMisplaced kept number line → Writes (kept ++ (number, line) ∷ after) s → ⊥
not-misplaced [] number line after s misplaced w =
    let first = first-same (number, line) (w.cluster_line, shape_text s.shape) after (map line_text s.lines) w.texts in
    misplaced s.shape w.shape_in (ap (λ (x : ℕ × List ℕ). x.1) first)
not-misplaced (k ∷ kept) number line after s misplaced w =
    let found = among-lines IsLine k kept after (number, line) s w.lines_in w in
    misplaced found.line found.fits found.written

-- the lines that aren't skipped, of lines that go on with one that isn't
pub kept-behind : (text : List ℕ) (kept : List (ℕ × List ℕ)) (rest : List ℕ) (passed : ℕ) (before : PassesLines text 0 kept rest passed) (line : List ℕ) (more : List (List ℕ)) → is_skipped line ≡ false
    → kept_lines 1 ((before.lines ++ line ∷ []) ++ more) ≡ kept ++ (passed + 1, line) ∷ kept_lines (passed + 1 + 1) more
kept-behind text kept rest passed before line more says =
    let next : 1 + length before.lines ≡ passed + 1 = omega (arith, before.counted) in
    let here : kept_lines (passed + 1) (line ∷ more) ≡ (passed + 1, line) ∷ kept_lines (passed + 1 + 1) more = rw says refl in
    ap (kept_lines 1) (append_assoc before.lines (line ∷ []) more)
    ∙ kept_lines-append 1 before.lines (line ∷ more)
    ∙ ap (λ (k : ℕ). kept_lines 1 before.lines ++ kept_lines k (line ∷ more)) next
    ∙ ap (λ (ks : List (ℕ × List ℕ)). ks ++ kept_lines (passed + 1) (line ∷ more)) before.said
    ∙ ap (λ (ks : List (ℕ × List ℕ)). kept ++ ks) here

-- some script begins with no line at all
abbrev pub smallest : ShapeFields
smallest = record { version = Second; nodes = 1; files = 1; policy = Wide }

pub smallest-behind : (lines : List (List ℕ)) → kept_lines 1 lines ≡ [] → Writes (kept_lines 1 (lines ++ shape_text smallest ∷ [])) (script_of smallest [])
smallest-behind lines none = record {
  cluster_line = 1 + length lines;
  texts = kept_lines-append 1 lines (shape_text smallest ∷ []) ∙ ap (λ (ks : List (ℕ × List ℕ)). ks ++ (1 + length lines, shape_text smallest) ∷ []) none;
  shape_in = record { is_shape = record { nodes_in = (omega arith, omega arith); files_in = (omega arith, omega arith) }; is_version = refl };
  lines_in = All-nil IsLine;
}

pub begins-script : (text : List ℕ) (kept : List (ℕ × List ℕ)) (rest : List ℕ) (passed : ℕ) (before : PassesLines text 0 kept rest passed) → BeginsScript kept → Begins AreScript before.lines
begins-script text kept rest passed before (inl none) = (shape_text smallest ∷ [], (script_of smallest [], smallest-behind before.lines (before.said ∙ none)))
begins-script text kept rest passed before (inr script) = begins-whole AreScript before.lines (script.0, subst (λ (ks : List (ℕ × List ℕ)). Writes ks script.0) (sym before.said) script.1)

-- the kind of lines is that of scripts, or of some scripts
module _ (Are : List (List ℕ) → Type 0) (are_some : (lines : List (List ℕ)) → Are lines → AreScript lines) where
  pub bad-next : (text : List ℕ) (kept : List (ℕ × List ℕ)) (rest : List ℕ) (passed : ℕ) (before : PassesLines text 0 kept rest passed) → IsBad kept (passed + 1) rest → IsBadNext Are before.lines rest
  bad-next text kept rest passed before (has_no_cluster none end) = has_no_line (ap line_feeds end) (λ gone are. none-written (are_some before.lines are))
    where
      none-written : AreScript before.lines → ⊥
      none-written script =
          let w = script.1 in
          let both : [] ≡ (w.cluster_line, shape_text script.0.shape) ∷ map line_text script.0.lines = sym (before.said ∙ none) ∙ w.texts in
          absurd (cc)
  bad-next text kept rest passed before (has_no_end some no_feed) = has_no_line no_feed (λ gone are. some gone)
  bad-next text kept rest passed before (stands_wrong line after begins says misplaced) = may_not_stand line after begins (λ b.
      let script = are_some ((before.lines ++ line ∷ []) ++ b.0) b.1 in
      not-misplaced kept (passed + 1) line (kept_lines (passed + 1 + 1) b.0) script.0 misplaced
      (subst (λ (ks : List (ℕ × List ℕ)). Writes ks script.0) (kept-behind text kept rest passed before line b.0 says) script.1))

  -- the next line is bad, behind lines with which a text of the kind begins
  abbrev pub first-bad : (text : List ℕ) (kept : List (ℕ × List ℕ)) (rest : List ℕ) (passed : ℕ) (before : PassesLines text 0 kept rest passed) → Begins Are before.lines → IsBad kept (passed + 1) rest → IsFirstBadOf Are text (passed + 1)
  first-bad text kept rest passed before good bad = record {
    lines = before.lines;
    rest = rest;
    before = passes-of before;
    counted = omega (arith, before.counted);
    good = good;
    bad = bad-next text kept rest passed before bad;
  }

  module _ (text : List ℕ) (s : ScriptFields) (middle : List ℕ) (between : ℕ) (begun : Begun text s middle between) (are : (lines : List (List ℕ)) → Writes (kept_lines 1 lines) s → Are lines) where
    pub good-begun : (rest : List ℕ) (passed : ℕ) (before : PassesLines text 0 begun.kept rest passed) → Begins Are before.lines
    good-begun rest passed before = begins-whole Are before.lines (are before.lines (subst (λ (ks : List (ℕ × List ℕ)). Writes ks s) (sym before.said) begun.writes))

    -- the line behind the whole lines has no line feed
    pub unfinished-of : (rest : List ℕ) (passed : ℕ) → PassesLines middle between [] rest passed → rest ≢ [] → line_feeds rest ≡ 0 → IsFirstBadOf Are text (passed + 1)
    unfinished-of rest passed after some no_feed =
        let before = passes-more text 0 begun.kept middle between rest passed begun.passes after in
        first-bad text begun.kept rest passed before (good-begun rest passed before) (has_no_end some no_feed)

    -- the line may not stand behind the other ones
    pub line-of : (number : ℕ) (line rest : List ℕ) → FindsLine middle between number line rest → IsNoLine number line → IsFirstBadOf Are text number
    line-of number line rest found no_line =
        let before = passes-more text 0 begun.kept middle between found.from found.passed begun.passes found.skips in
        let here = subst (λ (n : ℕ). IsNoLine n line) found.counted no_line in
        let misplaced = subst (λ (ks : List (ℕ × List ℕ)). IsMisplaced ks (found.passed + 1) line) (sym begun.writes.texts) here in
        subst (IsFirstBadOf Are text) (sym found.counted)
        (first-bad text begun.kept found.from found.passed before (good-begun found.from found.passed before) (stands_wrong line rest found.begins found.says misplaced))

-- the first bad line of a script
abbrev pub first-bad_script : (text : List ℕ) (kept : List (ℕ × List ℕ)) (rest : List ℕ) (passed : ℕ) → PassesLines text 0 kept rest passed → BeginsScript kept → IsBad kept (passed + 1) rest → IsFirstBadOf AreScript text (passed + 1)
first-bad_script text kept rest passed before good bad = first-bad AreScript (λ lines are. are) text kept rest passed before (begins-script text kept rest passed before good) bad

pub bad-unfinished : (text : List ℕ) (s : ScriptFields) (middle : List ℕ) (between : ℕ) (rest : List ℕ) (passed : ℕ)
    → Begun text s middle between → PassesLines middle between [] rest passed → rest ≢ [] → line_feeds rest ≡ 0 → IsFirstBadOf AreScript text (passed + 1)
bad-unfinished text s middle between rest passed begun = unfinished-of AreScript (λ lines are. are) text s middle between begun (λ lines w. (s, w)) rest passed

pub bad-line : (text : List ℕ) (s : ScriptFields) (middle : List ℕ) (between number : ℕ) (line rest : List ℕ)
    → Begun text s middle between → FindsLine middle between number line rest → IsNoLine number line → IsFirstBadOf AreScript text number
bad-line text s middle between number line rest begun = line-of AreScript (λ lines are. are) text s middle between begun (λ lines w. (s, w)) number line rest

-- only skipped lines stand before this line
pub bad-none : (text rest : List ℕ) (passed : ℕ) → PassesLines text 0 [] rest passed → IsBad [] (passed + 1) rest → IsBadFirst text (BadLine (passed + 1))
bad-none text rest passed before bad = (first-bad_script text [] rest passed before (inl refl) bad, before.said)

-- the first line that isn't skipped names no shape
pub bad-first : (text : List ℕ) (number : ℕ) (line rest : List ℕ) → FindsLine text 0 number line rest → IsNoShape line → IsBadFirst text (BadLine number)
bad-first text number line rest found no_shape =
    subst (λ (n : ℕ). IsBadFirst text (BadLine n)) (sym found.counted)
    (bad-none text found.from found.passed found.skips (stands_wrong line rest found.begins found.says (subst (λ (n : ℕ). IsMisplaced [] n line) found.counted no_shape)))

-- an error about the first line that isn't skipped is one about the first bad line
pub bad-told : (text : List ℕ) (error : ParseError) → IsBadFirst text error → IsBadLine text error
bad-told text NoMemory bad = absurd bad
bad-told text (BadLine number) bad = bad.0

-- an error about a bad line is a reason for which the text is refused
pub bad-refused : (text : List ℕ) (error : ParseError) → IsBadLine text error → IsRefused text error
bad-refused text NoMemory bad = absurd bad
bad-refused text (BadLine number) bad = bad
