-- Each text is one script, or has one first bad line.
use Rattle.std.proofs.Common.{◌≡◌, ℕ, List, ◌∷◌, map, sym, ap, subst, ◌∙◌}
use Rattle.messages.specs.rule.Shapes.{ShapeFields}
use Rattle.texts.specs.rule.LineFeeds.{kept_lines}
use Rattle.lockscript.specs.code.Readings.{HasOneReading}
use Rattle.lockscript.specs.rule.Scripts.{AreScript, IsScript, LineFields, ScriptFields, Writes, line_text, shape_text, script_of}
use Rattle.lockscript.proofs.Clusters.{shape as shape_texts}
use Rattle.lockscript.proofs.FirstBadLines.{not_both, one_bad_line, passes-of, same-whole}
use Rattle.lockscript.proofs.SameLines.{first-same, lines-same, rest-same}

-- equal lines are the lines of one script
pub written-same : (kept kept' : List (ℕ × List ℕ)) (s t : ScriptFields) → Writes kept s → Writes kept' t → kept ≡ kept' → s ≡ t
written-same kept kept' s t a b e =
    let both : (a.cluster_line, shape_text s.shape) ∷ map line_text s.lines ≡ (b.cluster_line, shape_text t.shape) ∷ map line_text t.lines = sym a.texts ∙ e ∙ b.texts in
    let first = first-same (a.cluster_line, shape_text s.shape) (b.cluster_line, shape_text t.shape) (map line_text s.lines) (map line_text t.lines) both in
    let shapes = shape_texts.apart s.shape t.shape a.shape_in b.shape_in (ap (λ (x : ℕ × List ℕ). x.1) first) in
    let others = rest-same (a.cluster_line, shape_text s.shape) (b.cluster_line, shape_text t.shape) (map line_text s.lines) (map line_text t.lines) both in
    let lines = lines-same s.lines t.lines a.lines_in b.lines_in others in
    ap (λ (shape : ShapeFields). script_of shape s.lines) shapes ∙ ap (λ (ls : List LineFields). script_of t.shape ls) lines

-- the whole lines of a script's text are lines of a script
pub are-script : (text : List ℕ) (s : ScriptFields) (a : IsScript text s) → AreScript a.whole.lines
are-script text s a = (s, subst (λ (ks : List (ℕ × List ℕ)). Writes ks s) (sym a.whole.said) a.writes)

one_script : (text : List ℕ) (s t : ScriptFields) → IsScript text s → IsScript text t → s ≡ t
one_script text s t a b =
    let lines = same-whole text a.whole.lines b.whole.lines (passes-of a.whole) (passes-of b.whole) in
    written-same a.kept b.kept s t a.writes b.writes (sym a.whole.said ∙ ap (kept_lines 1) lines ∙ b.whole.said)

pub one_reading : (text : List ℕ) → HasOneReading text
one_reading text = record {
  one_script = one_script text;
  one_bad_line = one_bad_line AreScript text;
  not_both = λ s n a b. not_both AreScript text a.whole.lines n (passes-of a.whole) (are-script text s a) b;
}
