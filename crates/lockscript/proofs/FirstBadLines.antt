-- A text has one list of lines, and one first bad line at most.
use Rattle.std.proofs.Common.{◌≡◌, ℕ, zero, suc, ◌+◌, List, [], ◌∷◌, ◌++◌, length, inl, inr, refl, sym, ap, subst, ◌∙◌, arith, append_assoc, length-append, cond, eqb}
use Rattle.std.specs.Prelude.{◌⊎◌}
use Rattle.std.specs.List.{All, flat_map}
use Rattle.std.proofs.lemmas.List.{append-nil}
use Rattle.std.proofs.lemmas.List.Elements.{All-head, All-tail}
use Rattle.std.proofs.lemmas.List.Sums.{sum_by-cons}
use Rattle.texts.specs.rule.FirstBadLine.{Begins, IsBadNext, IsFirstBadOf, Passes}
use Rattle.texts.specs.rule.FirstBadLine.IsBadNext.{has_no_line, stands_wrong}
use Rattle.texts.specs.rule.LineFeeds.{line_feed, line_feeds, kept_lines, BeginsWithLine, PassesLines}
use Rattle.texts.specs.rule.Reads.{Lacks}
use Rattle.texts.proofs.Pairs.{same-split}
use Rattle.lockscript.proofs.Feeds.{line_feeds-line}
use Rattle.lockscript.proofs.Passes.{IsSingle, ended, kept_lines-append}

lacks-feed : (bytes : List ℕ) → line_feeds bytes ≡ 0 → Lacks line_feed bytes
lacks-feed [] none i lt = absurd (omega (arith, lt))
lacks-feed (b ∷ bytes) none zero lt = λ e. absurd (grind (arith, none, e, sum_by-cons (λ b. cond (eqb b line_feed) 1 0) b bytes))
lacks-feed (b ∷ bytes) none (suc i) lt =
    let rest : line_feeds bytes ≡ 0 = omega (arith, none, sum_by-cons (λ b. cond (eqb b line_feed) 1 0) b bytes) in
    lacks-feed bytes rest i (omega (arith, lt))

-- two lines that begin one text are equal
pub line-same : (text line rest line' rest' : List ℕ) → BeginsWithLine text line rest → BeginsWithLine text line' rest' → (line ≡ line') × (rest ≡ rest')
line-same text line rest line' rest' a b = same-split line_feed line line' rest rest' (lacks-feed line a.one_line) (lacks-feed line' b.one_line) (sym a.parts ∙ b.parts)

-- the lines that are passed, skipped ones among them
abbrev pub passes-of : {text : List ℕ} {taken : ℕ} {kept : List (ℕ × List ℕ)} {rest : List ℕ} {passed : ℕ} (p : PassesLines text taken kept rest passed) → Passes text p.lines rest
passes-of p = record { parts = p.parts; single = p.single }

-- a list of lines begins with its first line
front : (line : List ℕ) (lines : List (List ℕ)) (rest : List ℕ) → flat_map ended (line ∷ lines) ++ rest ≡ line ++ line_feed ∷ (flat_map ended lines ++ rest)
front line lines rest = append_assoc (ended line) (flat_map ended lines) rest ∙ append_assoc line (line_feed ∷ []) (flat_map ended lines ++ rest)

pub begins-front : (text line : List ℕ) (lines : List (List ℕ)) (rest : List ℕ) → text ≡ flat_map ended (line ∷ lines) ++ rest → All IsSingle (line ∷ lines) → BeginsWithLine text line (flat_map ended lines ++ rest)
begins-front text line lines rest e single = record { parts = e ∙ front line lines rest; one_line = All-head IsSingle line lines single }

-- of two readings of a text the second one went some lines further than the first
pub record Further (xs ys : List (List ℕ)) (rest rest' : List ℕ) : Type 0 where
  pub between : List (List ℕ)
  pub lines : ys ≡ xs ++ between
  pub single : All IsSingle between
  pub parts : rest ≡ flat_map ended between ++ rest'

further-line : (x y : List ℕ) (xs ys : List (List ℕ)) (rest rest' : List ℕ) → x ≡ y → Further xs ys rest rest' → Further (x ∷ xs) (y ∷ ys) rest rest'
further-line x y xs ys rest rest' e f = record {
  between = f.between;
  lines = ap (λ (l : List ℕ). l ∷ ys) (sym e) ∙ ap (λ (ls : List (List ℕ)). x ∷ ls) f.lines;
  single = f.single;
  parts = f.parts;
}

further-lines : (x y : List ℕ) (xs ys : List (List ℕ)) (rest rest' : List ℕ) → x ≡ y → Further xs ys rest rest' ⊎ Further ys xs rest' rest
    → Further (x ∷ xs) (y ∷ ys) rest rest' ⊎ Further (y ∷ ys) (x ∷ xs) rest' rest
further-lines x y xs ys rest rest' e (inl f) = inl (further-line x y xs ys rest rest' e f)
further-lines x y xs ys rest rest' e (inr f) = inr (further-line y x ys xs rest' rest (sym e) f)

-- of two readings of a text one went at least as far as the other
pub further : (xs ys : List (List ℕ)) (rest rest' : List ℕ) → All IsSingle xs → All IsSingle ys → flat_map ended xs ++ rest ≡ flat_map ended ys ++ rest'
    → Further xs ys rest rest' ⊎ Further ys xs rest' rest
further [] ys rest rest' xs_in ys_in e = inl (record { between = ys; lines = refl; single = ys_in; parts = e })
further (x ∷ xs) [] rest rest' xs_in ys_in e = inr (record { between = x ∷ xs; lines = refl; single = xs_in; parts = sym e })
further (x ∷ xs) (y ∷ ys) rest rest' xs_in ys_in e =
    let first = line-same (flat_map ended (x ∷ xs) ++ rest) x (flat_map ended xs ++ rest) y (flat_map ended ys ++ rest')
    (begins-front (flat_map ended (x ∷ xs) ++ rest) x xs rest refl xs_in) (begins-front (flat_map ended (x ∷ xs) ++ rest) y ys rest' e ys_in) in
    further-lines x y xs ys rest rest' first.0 (further xs ys rest rest' (All-tail IsSingle x xs xs_in) (All-tail IsSingle y ys ys_in) first.1)

-- no line stands behind the end of the text
pub ends : (lines : List (List ℕ)) (rest : List ℕ) → [] ≡ flat_map ended lines ++ rest → All IsSingle lines → lines ≡ []
ends [] rest e single = refl
ends (line ∷ lines) rest e single =
    let begins = begins-front [] line lines rest e single in
    absurd (omega (arith, ap length begins.parts, length-append line (line_feed ∷ (flat_map ended lines ++ rest))))

-- the lines that aren't skipped, in a reading that went further
pub kept-on : {text : List ℕ} {kept kept' : List (ℕ × List ℕ)} {rest rest' : List ℕ} {passed passed' : ℕ} (a : PassesLines text 0 kept rest passed) (b : PassesLines text 0 kept' rest' passed') (f : Further a.lines b.lines rest rest')
    → kept' ≡ kept ++ kept_lines (1 + length a.lines) f.between
kept-on a b f =
    let more = kept_lines (1 + length a.lines) f.between in
    sym b.said ∙ ap (kept_lines 1) f.lines ∙ kept_lines-append 1 a.lines f.between ∙ ap (λ (ks : List (ℕ × List ℕ)). ks ++ more) a.said

-- two readings are equal if the second one went no line further
pub same-lines : (xs ys : List (List ℕ)) (rest rest' : List ℕ) (f : Further xs ys rest rest') → f.between ≡ [] → (ys ≡ xs) × (rest ≡ rest')
same-lines xs ys rest rest' f none =
    (f.lines ∙ ap (λ (ls : List (List ℕ)). xs ++ ls) none ∙ append-nil xs, f.parts ∙ ap (λ (ls : List (List ℕ)). flat_map ended ls ++ rest') none)

-- two readings of equally many lines are equal
pub same-passed : (text : List ℕ) (xs ys : List (List ℕ)) (rest rest' : List ℕ) → Passes text xs rest → Passes text ys rest' → length xs ≡ length ys → (ys ≡ xs) × (rest ≡ rest')
same-passed text xs ys rest rest' a b count = by (further xs ys rest rest' a.single b.single (sym a.parts ∙ b.parts))
  where
    none : (lines : List (List ℕ)) → length lines ≡ 0 → lines ≡ []
    none [] e = refl
    none (line ∷ lines) e = absurd (omega (arith, e))

    by : Further xs ys rest rest' ⊎ Further ys xs rest' rest → (ys ≡ xs) × (rest ≡ rest')
    by (inl f) = same-lines xs ys rest rest' f (none f.between (omega (arith, count, ap length f.lines, length-append xs f.between)))
    by (inr f) =
        let same = same-lines ys xs rest' rest f (none f.between (omega (arith, count, ap length f.lines, length-append ys f.between))) in
        (sym same.0, sym same.1)

-- two readings of a whole text are equal
pub same-whole : (text : List ℕ) (xs ys : List (List ℕ)) → Passes text xs [] → Passes text ys [] → xs ≡ ys
same-whole text xs ys a b = by (further xs ys [] [] a.single b.single (sym a.parts ∙ b.parts))
  where
    by : Further xs ys [] [] ⊎ Further ys xs [] [] → xs ≡ ys
    by (inl f) = sym (same-lines xs ys [] [] f (ends f.between [] f.parts f.single)).0
    by (inr f) = (same-lines ys xs [] [] f (ends f.between [] f.parts f.single)).0

module _ (Are : List (List ℕ) → Type 0) where
  -- lines of the kind are a beginning of lines of the kind
  pub begins-whole : (lines : List (List ℕ)) → Are lines → Begins Are lines
  begins-whole lines are = ([], subst Are (sym (append-nil lines)) are)

  -- no lines of the kind go on past a bad line
  not-past : (lines : List (List ℕ)) (rest line : List ℕ) (more : List (List ℕ)) (after : List ℕ) → IsBadNext Are lines rest → BeginsWithLine rest line after → Begins Are (lines ++ line ∷ more) → ⊥
  not-past lines rest line more after (has_no_line none unended) begins b = omega (arith, none, line_feeds-line rest line after begins)
  not-past lines rest line more after (stands_wrong bad behind bad_begins wrong) begins b =
      let same = line-same rest line after bad behind begins bad_begins in
      let texts = append_assoc lines (line ∷ more) b.0 ∙ sym (append_assoc lines (line ∷ []) (more ++ b.0)) in
      wrong (more ++ b.0, subst (λ (l : List ℕ). Are ((lines ++ l ∷ []) ++ (more ++ b.0))) same.0 (subst Are texts b.1))

  -- a reading of lines with which lines of the kind begin stops at the bad line
  pub stops : (lines between : List (List ℕ)) (rest rest' : List ℕ) → IsBadNext Are lines rest → rest ≡ flat_map ended between ++ rest' → All IsSingle between → Begins Are (lines ++ between) → between ≡ []
  stops lines [] rest rest' bad parts single b = refl
  stops lines (line ∷ more) rest rest' bad parts single b = absurd (not-past lines rest line more (flat_map ended more ++ rest') bad (begins-front rest line more rest' parts single) b)

  bad-once : (text : List ℕ) (m n : ℕ) (a : IsFirstBadOf Are text m) (b : IsFirstBadOf Are text n) → Further a.lines b.lines a.rest b.rest → m ≡ n
  bad-once text m n a b f =
      let none = stops a.lines f.between a.rest b.rest a.bad f.parts f.single (subst (Begins Are) f.lines b.good) in
      omega (arith, a.counted, b.counted, ap length f.lines, length-append a.lines f.between, ap length none)

  -- a text has one first bad line
  pub one_bad_line : (text : List ℕ) (m n : ℕ) → IsFirstBadOf Are text m → IsFirstBadOf Are text n → m ≡ n
  one_bad_line text m n a b = by (further a.lines b.lines a.rest b.rest a.before.single b.before.single (sym a.before.parts ∙ b.before.parts))
    where
      by : Further a.lines b.lines a.rest b.rest ⊎ Further b.lines a.lines b.rest a.rest → m ≡ n
      by (inl f) = bad-once text m n a b f
      by (inr f) = sym (bad-once text n m b a f)

  -- lines of the kind have no bad line at their end
  not-at-end : (lines : List (List ℕ)) (rest : List ℕ) → IsBadNext Are lines rest → rest ≡ [] → Are lines → ⊥
  not-at-end lines rest (has_no_line none unended) e are = unended e are
  not-at-end lines rest (stands_wrong line after begins wrong) e are = omega (arith, ap length (sym e ∙ begins.parts), length-append line (line_feed ∷ after))

  -- a text whose lines are of the kind has no bad line
  pub not_both : (text : List ℕ) (lines : List (List ℕ)) (n : ℕ) → Passes text lines [] → Are lines → IsFirstBadOf Are text n → ⊥
  not_both text lines n a are b = by (further lines b.lines [] b.rest a.single b.before.single (sym a.parts ∙ b.before.parts))
    where
      by : Further lines b.lines [] b.rest ⊎ Further b.lines lines b.rest [] → ⊥
      by (inl f) =
          let same = same-lines lines b.lines [] b.rest f (ends f.between b.rest f.parts f.single) in
          not-at-end b.lines b.rest b.bad (sym same.1) (subst Are (sym same.0) are)
      by (inr f) =
          let good = subst (Begins Are) f.lines (begins-whole lines are) in
          let same = same-lines b.lines lines b.rest [] f (stops b.lines f.between b.rest [] b.bad f.parts f.single good) in
          not-at-end b.lines b.rest b.bad same.1 (subst Are same.0 are)

-- a line that is bad for a kind is bad for a smaller kind
pub bad-of_some : (Are Some : List (List ℕ) → Type 0) → ((lines : List (List ℕ)) → Some lines → Are lines) → (lines : List (List ℕ)) (rest : List ℕ) → IsBadNext Are lines rest → IsBadNext Some lines rest
bad-of_some Are Some are lines rest (has_no_line none unended) = has_no_line none (λ gone some. unended gone (are lines some))
bad-of_some Are Some are lines rest (stands_wrong line after begins wrong) = stands_wrong line after begins (λ b. wrong (b.0, are ((lines ++ line ∷ []) ++ b.0) b.1))
