-- Texts of scripts for a cluster of a given shape, some of whose lines were read.
use Rattle.std.proofs.Common.{◌≡◌, ◌≢◌, ℕ, ◌+◌, List, [], ◌∷◌, ◌++◌, length, map, inl, inr, sym, ap, subst, ◌∙◌}
use Rattle.std.specs.Prelude.{◌⊎◌}
use Rattle.std.proofs.lemmas.List.{append-nil}
use Rattle.messages.specs.rule.Shapes.{ShapeFields}
use Rattle.texts.specs.rule.FirstBadLine.{Begins}
use Rattle.texts.specs.rule.LineFeeds.{PassesLines, kept_lines}
use Rattle.lockscript.specs.rule.Scripts.{AreScript, Begun, IsBadFirst, IsFirstBad, IsRefused, IsScript, ScriptFields, Writes, line_text, script_of, shape_text}
use Rattle.lockscript.specs.rule.ShapedScripts.{IsClusterLine, IsForShape, IsRefusedForShape, NamesAnother}
use Rattle.lockscript.specs.rule.ShapedScripts.IsBadForShape.{names_another, stands_wrong}
use Rattle.lockscript.specs.declared.error.ParseError.{ParseError}
use Rattle.lockscript.specs.declared.error.ParseError.TheVariants.{NoMemory, BadLine}
use Rattle.lockscript.proofs.Begun.{begun-first}
use Rattle.lockscript.proofs.Clusters.{shape as shape_texts}
use Rattle.lockscript.proofs.FirstBadLines.{Further, begins-whole, further, kept-on, same-lines, stops}
use Rattle.lockscript.proofs.Passes.{kept_lines-append}
use Rattle.lockscript.proofs.SameLines.{first-same}

-- the cluster line begins a script
pub begun-cluster : (text : List ℕ) (number : ℕ) (shape : ShapeFields) (rest : List ℕ) → IsClusterLine text number shape rest → Begun text (script_of shape []) rest number
begun-cluster text number shape rest c = begun-first text number c.line rest shape c.finds c.shape_in c.names

-- a script that goes on with more lines has the same cluster
shape-same : (kept more : List (ℕ × List ℕ)) (s t : ScriptFields) → Writes kept s → Writes (kept ++ more) t → s.shape ≡ t.shape
shape-same kept more s t a b =
    let lines = map line_text s.lines ++ more in
    let both : (a.cluster_line, shape_text s.shape) ∷ lines ≡ (b.cluster_line, shape_text t.shape) ∷ map line_text t.lines = sym (ap (λ (ks : List (ℕ × List ℕ)). ks ++ more) a.texts) ∙ b.texts in
    let first = first-same (a.cluster_line, shape_text s.shape) (b.cluster_line, shape_text t.shape) lines (map line_text t.lines) both in
    shape_texts.apart s.shape t.shape a.shape_in b.shape_in (ap (λ (x : ℕ × List ℕ). x.1) first)

-- one text has one cluster line
one-shape : (text : List ℕ) (kept : List (ℕ × List ℕ)) (rest : List ℕ) (passed : ℕ) (kept' : List (ℕ × List ℕ)) (rest' : List ℕ) (passed' : ℕ) (s t : ScriptFields)
    → PassesLines text 0 kept rest passed → PassesLines text 0 kept' rest' passed' → Writes kept s → Writes kept' t → s.shape ≡ t.shape
one-shape text kept rest passed kept' rest' passed' s t a b writes writes' = by (further a.lines b.lines rest rest' a.single b.single (sym a.parts ∙ b.parts))
  where
    by : Further a.lines b.lines rest rest' ⊎ Further b.lines a.lines rest' rest → s.shape ≡ t.shape
    by (inl f) = shape-same kept (kept_lines (1 + length a.lines) f.between) s t writes (subst (λ (ks : List (ℕ × List ℕ)). Writes ks t) (kept-on a b f) writes')
    by (inr f) = sym (shape-same kept' (kept_lines (1 + length b.lines) f.between) t s writes' (subst (λ (ks : List (ℕ × List ℕ)). Writes ks s) (kept-on b a f) writes))

-- the script of a text has the shape that the cluster line names
pub one-for-shape : (text : List ℕ) (number : ℕ) (shape : ShapeFields) (rest : List ℕ) (s : ScriptFields) → IsClusterLine text number shape rest → IsScript text s → IsForShape shape text s
one-for-shape text number shape rest s c is =
    let mine = begun-cluster text number shape rest c in
    (is, one-shape text is.kept [] is.passed mine.kept rest number s (script_of shape []) is.whole mine.passes is.writes mine.writes)

-- the cluster line names one shape
one-cluster : (text : List ℕ) (number : ℕ) (shape : ShapeFields) (rest : List ℕ) (other : ℕ) → IsClusterLine text number shape rest → NamesAnother shape text other → ⊥
one-cluster text number shape rest other c another =
    let mine = begun-cluster text number shape rest c in
    let theirs = begun-cluster text other another.other another.rest another.names in
    another.differs (one-shape text theirs.kept another.rest other mine.kept rest number (script_of another.other []) (script_of shape []) theirs.passes mine.passes theirs.writes mine.writes)

-- the reason for which a text is refused whose cluster line names the given shape
pub refused-for-shape : (text : List ℕ) (number : ℕ) (shape : ShapeFields) (rest : List ℕ) (error : ParseError) → IsClusterLine text number shape rest → IsRefused text error → IsRefusedForShape shape text error
refused-for-shape text number shape rest NoMemory c is = (is.0, one-for-shape text number shape rest is.0 c is.1)
refused-for-shape text number shape rest (BadLine bad) c is = stands_wrong is (λ other another. one-cluster text number shape rest other c another)

-- a text whose cluster line names another shape is refused for that line
pub bad-another : (shape : ShapeFields) (text : List ℕ) (number : ℕ) → NamesAnother shape text number → (BadLine number ≢ NoMemory) × IsRefusedForShape shape text (BadLine number)
bad-another shape text number another = (λ e. absurd (cc), names_another another)

no-lines : (kept more : List (ℕ × List ℕ)) (s : ScriptFields) → Writes kept s → [] ≡ kept ++ more → ⊥
no-lines kept more s writes none =
    let both : [] ≡ ((writes.cluster_line, shape_text s.shape) ∷ map line_text s.lines) ++ more = none ∙ ap (λ (ks : List (ℕ × List ℕ)). ks ++ more) writes.texts in
    absurd (cc)

not-begun : (text : List ℕ) (number : ℕ) (s : ScriptFields) (rest : List ℕ) (passed : ℕ) (bad : IsFirstBad text number) → kept_lines 1 bad.lines ≡ [] → (begun : Begun text s rest passed)
    → Further bad.lines begun.passes.lines bad.rest rest ⊎ Further begun.passes.lines bad.lines rest bad.rest → ⊥
not-begun text number s rest passed bad none begun (inl f) =
    let good = begins-whole AreScript begun.passes.lines (s, subst (λ (ks : List (ℕ × List ℕ)). Writes ks s) (sym begun.passes.said) begun.writes) in
    let stopped = stops AreScript bad.lines f.between bad.rest rest bad.bad f.parts f.single (subst (Begins AreScript) f.lines good) in
    let same = (same-lines bad.lines begun.passes.lines bad.rest rest f stopped).0 in
    no-lines begun.kept [] s begun.writes (sym none ∙ sym (ap (kept_lines 1) same) ∙ begun.passes.said ∙ sym (append-nil begun.kept))
not-begun text number s rest passed bad none begun (inr f) =
    let more = kept_lines (1 + length begun.passes.lines) f.between in
    no-lines begun.kept more s begun.writes (sym none ∙ ap (kept_lines 1) f.lines ∙ kept_lines-append 1 begun.passes.lines f.between ∙ ap (λ (ks : List (ℕ × List ℕ)). ks ++ more) begun.passes.said)

-- a text with a bad line where the cluster line belongs is refused for it
pub bad-before : (shape : ShapeFields) (text : List ℕ) (error : ParseError) → IsBadFirst text error → (error ≢ NoMemory) × IsRefusedForShape shape text error
bad-before shape text NoMemory bad = absurd bad
bad-before shape text (BadLine at) bad = (
  λ e. absurd (cc),
  stands_wrong bad.0 (λ other another.
      let begun = begun-cluster text other another.other another.rest another.names in
      not-begun text at (script_of another.other []) another.rest other bad.0 bad.1 begun
      (further bad.0.lines begun.passes.lines bad.0.rest another.rest bad.0.before.single begun.passes.single (sym bad.0.before.parts ∙ begun.passes.parts))),
)
