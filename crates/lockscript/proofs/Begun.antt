-- What is known of a text some of whose lines were read.
use Rattle.std.proofs.Common.{◌≡◌, ℕ, List, [], ◌∷◌, ◌++◌, map, sym, ap, ◌∙◌}
use Rattle.std.proofs.lemmas.List.{append-nil, map-append}
use Rattle.std.proofs.lemmas.List.Elements.{All-nil, All-push}
use Rattle.messages.specs.rule.Shapes.{ShapeFields}
use Rattle.texts.specs.rule.LineFeeds.{FindsLine, PassesLines}
use Rattle.lockscript.specs.rule.Scripts.{Begun, IsLine, IsScript, IsScriptShape, LineFields, ScriptFields, line_text, script_of, shape_text}
use Rattle.lockscript.proofs.Passes.{passes-join, passes-found}

-- skipped lines add nothing to a script
pub passes-more : (text : List ℕ) (taken : ℕ) (kept : List (ℕ × List ℕ)) (middle : List ℕ) (between : ℕ) (rest : List ℕ) (passed : ℕ)
    → PassesLines text taken kept middle between → PassesLines middle between [] rest passed → PassesLines text taken kept rest passed
passes-more text taken kept middle between rest passed a b =
    let joined = passes-join text taken kept middle between [] rest passed a b in
    rw (append-nil kept) at joined

-- the cluster line begins a script
pub begun-first : (text : List ℕ) (number : ℕ) (line rest : List ℕ) (shape : ShapeFields) → FindsLine text 0 number line rest → IsScriptShape shape → line ≡ shape_text shape
    → Begun text (script_of shape []) rest number
begun-first text number line rest shape found fits e = record {
  kept = (number, line) ∷ [];
  passes = passes-found text 0 number line rest found;
  writes = record {
    cluster_line = number;
    texts = ap (λ (t : List ℕ). (number, t) ∷ []) e;
    shape_in = fits;
    lines_in = All-nil IsLine;
  };
}

-- a script is begun with one more line
pub begun-line : (text : List ℕ) (shape : ShapeFields) (lines : List LineFields) (middle : List ℕ) (between number : ℕ) (line rest : List ℕ) (l : LineFields)
    → Begun text (script_of shape lines) middle between → FindsLine middle between number line rest → IsLine l → (number, line) ≡ line_text l
    → Begun text (script_of shape (lines ++ l ∷ [])) rest number
begun-line text shape lines middle between number line rest l begun found fits e = record {
  kept = begun.kept ++ (number, line) ∷ [];
  passes = passes-join text 0 begun.kept middle between ((number, line) ∷ []) rest number begun.passes (passes-found middle between number line rest found);
  writes = record {
    cluster_line = begun.writes.cluster_line;
    texts = ap (λ (ks : List (ℕ × List ℕ)). ks ++ (number, line) ∷ []) begun.writes.texts
        ∙ ap (λ (k : ℕ × List ℕ). ((begun.writes.cluster_line, shape_text shape) ∷ map line_text lines) ++ k ∷ []) e
        ∙ ap (λ (ks : List (ℕ × List ℕ)). (begun.writes.cluster_line, shape_text shape) ∷ ks) (sym (map-append line_text lines (l ∷ [])));
    shape_in = begun.writes.shape_in;
    lines_in = All-push IsLine lines l begun.writes.lines_in fits;
  };
}

-- a script is complete where only skipped lines stand behind it
pub script-begun : (text : List ℕ) (s : ScriptFields) (middle : List ℕ) (between passed : ℕ) → Begun text s middle between → PassesLines middle between [] [] passed → IsScript text s
script-begun text s middle between passed begun after = record {
  kept = begun.kept;
  passed = passed;
  whole = passes-more text 0 begun.kept middle between [] passed begun.passes after;
  writes = begun.writes;
}
