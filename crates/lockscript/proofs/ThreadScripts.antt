-- Texts of scripts for threads, some of whose lines were read.
use Rattle.std.proofs.Common.{◌≡◌, ◌≢◌, ℕ, ◌+◌, Bool, false, true, not, cond, List, [], ◌∷◌, ◌++◌, map, Some, None, refl, sym, ap, subst, ◌∙◌, arith}
use Rattle.std.specs.Option.{option_map}
use Rattle.std.specs.List.{All, find}
use Rattle.std.proofs.lemmas.List.Elements.{All-cons, All-head, All-nil, All-push, All-tail}
use Rattle.std.proofs.lemmas.Option.{none-some}
use Rattle.texts.specs.rule.FirstBadLine.{Begins}
use Rattle.texts.specs.rule.FirstBadLine.IsBadNext.{stands_wrong}
use Rattle.texts.specs.rule.LineFeeds.{line_feeds, is_skipped, kept_lines, FindsLine, PassesLines}
use Rattle.lockscript.specs.rule.Scripts.{AreScript, Begun, IsBadFirst, IsLine, IsNoLine, LineFields, ScriptFields, Writes, command_text, line_text, script_of, shape_text}
use Rattle.lockscript.specs.rule.ThreadLines.{bad_line, is_for_threads, AreForThreads, IsBadOnThreads, IsRefusedOnThreads}
use Rattle.lockscript.specs.declared.error.ParseError.{ParseError}
use Rattle.lockscript.specs.declared.error.ParseError.TheVariants.{NoMemory, BadLine}
use Rattle.lockscript.proofs.BadLines.{among-lines, good-begun, kept-behind, line-of, smallest, smallest-behind, unfinished-of}
use Rattle.lockscript.proofs.Begun.{begun-line, passes-more}
use Rattle.lockscript.proofs.CommandKinds.{command}
use Rattle.lockscript.proofs.FirstBadLines.{bad-of_some, passes-of}

abbrev number : LineFields → ℕ
number l = l.number

abbrev is_refused : LineFields → Bool
is_refused l = not (is_for_threads l.command)

-- threads take each line where none is bad for them
abbrev Takes : LineFields → Type 0
Takes l = is_for_threads l.command ≡ true

takes-by : (b : Bool) (l : LineFields) (ls : List LineFields) → is_for_threads l.command ≡ b → option_map number (cond (not b) (Some l) (find is_refused ls)) ≡ None → (bad_line ls ≡ None → All Takes ls) → All Takes (l ∷ ls)
takes-by false l ls is none more = absurd (none-some l.number (sym none))
takes-by true l ls is none more = All-cons Takes l ls is (more none)

takes-all : (ls : List LineFields) → bad_line ls ≡ None → All Takes ls
takes-all [] none = All-nil Takes
takes-all (l ∷ ls) none = takes-by (is_for_threads l.command) l ls refl none (takes-all ls)

takes-none : (ls : List LineFields) → All Takes ls → bad_line ls ≡ None
takes-none [] all = refl
takes-none (l ∷ ls) all = ap (λ (b : Bool). option_map number (cond (not b) (Some l) (find is_refused ls))) (All-head Takes l ls all) ∙ takes-none ls (All-tail Takes l ls all)

-- one more line that threads take leaves no bad one
bad_line-taken : (ls : List LineFields) (l : LineFields) → bad_line ls ≡ None → true ≡ is_for_threads l.command → bad_line (ls ++ l ∷ []) ≡ None
bad_line-taken ls l none takes = takes-none (ls ++ l ∷ []) (All-push Takes ls l (takes-all ls none) (sym takes))

-- a script is begun, and threads take each of its lines
abbrev pub BegunForThreads : List ℕ → ScriptFields → List ℕ → ℕ → Type 0
BegunForThreads text s rest passed = Begun text s rest passed × (bad_line s.lines ≡ None)

-- a script for threads is begun with one more line
pub more-for-threads : (text : List ℕ) (s : ScriptFields) (middle : List ℕ) (between at : ℕ) (line rest : List ℕ) (l : LineFields)
    → BegunForThreads text s middle between → FindsLine middle between at line rest → IsLine l → (at, line) ≡ line_text l → true ≡ is_for_threads l.command
    → BegunForThreads text (script_of s.shape (s.lines ++ l ∷ [])) rest at
more-for-threads text s middle between at line rest l begun found fits e takes =
    (begun-line text s.shape s.lines middle between at line rest l begun.0 found fits e, bad_line-taken s.lines l begun.1 takes)

-- the lines of a script for threads are the lines of a script
some-script : (lines : List (List ℕ)) → AreForThreads lines → AreScript lines
some-script lines are = (are.0, are.1)

module _ (text : List ℕ) (s : ScriptFields) (middle : List ℕ) (between : ℕ) (begun : BegunForThreads text s middle between) where
  for-threads : (lines : List (List ℕ)) → Writes (kept_lines 1 lines) s → AreForThreads lines
  for-threads lines writes = (s, writes, begun.1)

  -- no script for threads goes on with a line that threads don't take
  not-on : (line : List ℕ) (l : LineFields) (from : List ℕ) (passed : ℕ) (before : PassesLines text 0 begun.0.kept from passed) → is_skipped line ≡ false → IsLine l → line ≡ command_text l.command → false ≡ is_for_threads l.command
      → Begins AreForThreads (before.lines ++ line ∷ []) → ⊥
  not-on line l from passed before says fits e refuses b =
      let t = b.1.0 in
      let after = kept_lines (passed + 1 + 1) b.0 in
      let x : ℕ × List ℕ = (passed + 1, line) in
      let first : ℕ × List ℕ = (begun.0.writes.cluster_line, shape_text s.shape) in
      let lines = map line_text s.lines in
      let kept = kept-behind text begun.0.kept from passed before line b.0 says ∙ ap (λ (ks : List (ℕ × List ℕ)). ks ++ x ∷ after) begun.0.writes.texts in
      let w = subst (λ (ks : List (ℕ × List ℕ)). Writes ks t) kept b.1.1 in
      let taken = takes-all t.lines b.1.2 in
      let found = among-lines (λ m. IsLine m × Takes m) first lines after x t (λ k d lt. (w.lines_in k d lt, taken k d lt)) w in
      let asked = command.apart l.command found.line.command fits.within found.fits.0.within (sym e ∙ ap (λ (y : ℕ × List ℕ). y.1) found.written) in
      let both : false ≡ true = refuses ∙ ap is_for_threads asked ∙ found.fits.1 in
      absurd (cc)

  -- a line that threads don't take is the first bad one
  pub bad-not_taken : (at : ℕ) (line rest : List ℕ) (l : LineFields) → FindsLine middle between at line rest → IsLine l → (at, line) ≡ line_text l → false ≡ is_for_threads l.command → IsBadOnThreads text at
  bad-not_taken at line rest l found fits e refuses =
      let before = passes-more text 0 begun.0.kept middle between found.from found.passed begun.0.passes found.skips in
      record {
        lines = before.lines;
        rest = found.from;
        before = passes-of before;
        counted = omega (arith, found.counted, before.counted);
        good = good-begun AreForThreads some-script text s middle between begun.0 for-threads found.from found.passed before;
        bad = stands_wrong line rest found.begins (not-on line l found.from found.passed before found.says fits (ap (λ (y : ℕ × List ℕ). y.1) e) refuses);
      }

  -- a line that may not stand behind the other ones is the first bad one
  pub bad-behind : (at : ℕ) (line rest : List ℕ) → FindsLine middle between at line rest → IsNoLine at line → IsBadOnThreads text at
  bad-behind = line-of AreForThreads some-script text s middle between begun.0 for-threads

  -- a line without a line feed is the first bad one
  pub bad-end : (rest : List ℕ) (passed : ℕ) → PassesLines middle between [] rest passed → rest ≢ [] → line_feeds rest ≡ 0 → IsBadOnThreads text (passed + 1)
  bad-end = unfinished-of AreForThreads some-script text s middle between begun.0 for-threads

-- a text with a bad line where the cluster line belongs is refused for it
pub bad-at-first : (text : List ℕ) (error : ParseError) → IsBadFirst text error → (error ≢ NoMemory) × IsRefusedOnThreads text error
bad-at-first text NoMemory bad = absurd bad
bad-at-first text (BadLine at) bad =
    let b = bad.0 in (
      λ e. absurd (cc),
      record {
        lines = b.lines;
        rest = b.rest;
        before = b.before;
        counted = b.counted;
        good = (shape_text smallest ∷ [], (script_of smallest [], smallest-behind b.lines bad.1, refl));
        bad = bad-of_some AreScript AreForThreads some-script b.lines b.rest b.bad;
      },
    )
