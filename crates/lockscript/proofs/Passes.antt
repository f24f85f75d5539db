-- The lines that a reading of a text passes, one after another.
use Rattle.std.proofs.Common.{◌≡◌, ℕ, ◌+◌, ◌<◌, Bool, true, false, if◌then◌else◌, List, [], ◌∷◌, ◌++◌, length, refl, sym, ap, ◌∙◌, arith, length-append, append_assoc}
use Rattle.std.specs.List.{flat_map}
use Rattle.std.proofs.lemmas.Grind.{flat_map-append}
use Rattle.std.proofs.lemmas.List.Elements.{All-append, All-cons, All-nil}
use Rattle.texts.specs.rule.LineFeeds.{line_feed, line_feeds, is_skipped, kept_lines, BeginsWithLine, FindsLine, PassesLines}

abbrev pub ended : List ℕ → List ℕ
ended line = line ++ line_feed ∷ []

abbrev pub IsSingle : List ℕ → Type 0
IsSingle line = line_feeds line ≡ 0

-- a list grows at its end in both branches
if-append : (b : Bool) (x : ℕ × List ℕ) (ks ms : List (ℕ × List ℕ)) → (if b then ks ++ ms else x ∷ (ks ++ ms)) ≡ (if b then ks else x ∷ ks) ++ ms
if-append true x ks ms = refl
if-append false x ks ms = refl

pub kept_lines-append : (number : ℕ) (lines more : List (List ℕ)) → kept_lines number (lines ++ more) ≡ kept_lines number lines ++ kept_lines (number + length lines) more
kept_lines-append number [] more =
    let none : number ≡ number + length {A = List ℕ} [] = omega arith in
    ap (λ (k : ℕ). kept_lines k more) none
kept_lines-append number (line ∷ lines) more =
    let counted : number + 1 + length lines ≡ number + length (line ∷ lines) = omega arith in
    let rest = kept_lines-append (number + 1) lines more ∙ ap (λ (k : ℕ). kept_lines (number + 1) lines ++ kept_lines k more) counted in
    ap (λ (ks : List (ℕ × List ℕ)). if is_skipped line then ks else (number, line) ∷ ks) rest
    ∙ if-append (is_skipped line) (number, line) (kept_lines (number + 1) lines) (kept_lines (number + length (line ∷ lines)) more)

-- a reading that passes no line
pub passes-none : (text : List ℕ) (taken : ℕ) → PassesLines text taken [] text taken
passes-none text taken = record { lines = []; parts = refl; single = All-nil IsSingle; counted = omega arith; said = refl }

-- a reading that passes some lines and then more
pub passes-join : (text : List ℕ) (taken : ℕ) (kept : List (ℕ × List ℕ)) (middle : List ℕ) (between : ℕ) (more : List (ℕ × List ℕ)) (rest : List ℕ) (passed : ℕ)
    → PassesLines text taken kept middle between → PassesLines middle between more rest passed → PassesLines text taken (kept ++ more) rest passed
passes-join text taken kept middle between more rest passed a b =
    let next : taken + 1 + length a.lines ≡ between + 1 = omega (arith, a.counted) in
    let said = kept_lines-append (taken + 1) a.lines b.lines in
    record {
      lines = a.lines ++ b.lines;
      parts = a.parts ∙ ap (λ (t : List ℕ). flat_map ended a.lines ++ t) b.parts ∙ sym (append_assoc (flat_map ended a.lines) (flat_map ended b.lines) rest)
          ∙ ap (λ (t : List ℕ). t ++ rest) (sym (flat_map-append ended a.lines b.lines));
      single = All-append IsSingle a.lines b.lines a.single b.single;
      counted = omega (arith, a.counted, b.counted, length-append a.lines b.lines);
      said = cc (said, next, a.said, b.said);
    }

-- a reading that passes one line
passes-one : (text line rest : List ℕ) (taken : ℕ) → BeginsWithLine text line rest → PassesLines text taken (kept_lines (taken + 1) (line ∷ [])) rest (taken + 1)
passes-one text line rest taken begins = record {
  lines = line ∷ [];
  parts = begins.parts ∙ sym (append_assoc line (line_feed ∷ []) rest) ∙ sym (append_assoc (ended line) [] rest);
  single = All-cons IsSingle line [] begins.one_line (All-nil IsSingle);
  counted = omega arith;
  said = refl;
}

-- a reading that passes one skipped line
pub passes-skipped : (text line rest : List ℕ) (taken : ℕ) → BeginsWithLine text line rest → is_skipped line ≡ true → PassesLines text taken [] rest (taken + 1)
passes-skipped text line rest taken begins skipped =
    let passes = passes-one text line rest taken begins in
    rw skipped at passes

-- a reading that passes one line that isn't skipped
pub passes-said : (text line rest : List ℕ) (taken : ℕ) → BeginsWithLine text line rest → is_skipped line ≡ false → PassesLines text taken ((taken + 1, line) ∷ []) rest (taken + 1)
passes-said text line rest taken begins says =
    let passes = passes-one text line rest taken begins in
    rw says at passes

-- a reading that passes the line that is found, and the skipped ones before it
pub passes-found : (text : List ℕ) (taken number : ℕ) (line rest : List ℕ) → FindsLine text taken number line rest → PassesLines text taken ((number, line) ∷ []) rest number
passes-found text taken number line rest found =
    rw found.counted (passes-join text taken [] found.from found.passed ((found.passed + 1, line) ∷ []) rest (found.passed + 1) found.skips (passes-said found.from line rest found.passed found.begins found.says))

-- the text behind a line is shorter than the text that begins with it
pub shorter-line : (text line rest : List ℕ) → BeginsWithLine text line rest → length rest < length text
shorter-line text line rest begins = omega (arith, ap length begins.parts, length-append line (line_feed ∷ rest))
