-- The cluster line.
use Rattle.std.proofs.Common.{◌≡◌, ℕ, List, Some, Result, Ok, Err, refl, sym, ◌∙◌, ap, arith, codes, decimal, append_assoc}
use Rattle.std.specs.Prelude.{⊤, IfOk, IsOk, ◌↔◌}
use Rattle.std.specs.Result.{result_ok}
use Rattle.std.proofs.lemmas.Bool.{false≢true}
use Rattle.model.specs.rule.Limits.{IsNumber, most_nodes}
use Rattle.model.specs.declared.policy.Policy.{Policy}
use Rattle.messages.specs.rule.Shapes.{IsShape, IsServed, ShapeFields, most_files}
use Rattle.messages.specs.declared.version.Version.{Version}
use Rattle.messages.specs.declared.version.Version.TheVariants.{Second}
use Rattle.texts.specs.rule.Reads.{Reads, Both, after_text, pair_text}
use Rattle.lockscript.specs.rule.Scripts.{IsScriptShape, IsShapeOf, counts_text, shape_text}
use Rattle.texts.specs.rule.Words.{policy_text}
use Rattle.message_text.proofs.NameTexts.{AreTexts, both, viewed, Views, view-unfit}
use Rattle.message_text.proofs.MessageKinds.{file}
use Rattle.lockscript.proofs.FieldTexts.{behind, node, policy as policies}

abbrev pub IsCounts : ℕ × (ℕ × Policy) → Type 0
IsCounts = Both (IsNumber most_nodes) (Both (IsNumber most_files) (λ _. ⊤))

-- the operands of the cluster line as one text
abbrev pub parts_text : ℕ × (ℕ × Policy) → List ℕ
parts_text = pair_text decimal (after_text (codes "files ") (pair_text decimal (after_text (codes "policy ") policy_text)))

pub shape_counts : AreTexts parts_text IsCounts
shape_counts = both node (behind (codes "files ") refl (both file (behind (codes "policy ") refl policies)))

abbrev pub counts_of : ShapeFields → ℕ × (ℕ × Policy)
counts_of s = (s.nodes, (s.files, s.policy))

abbrev pub shape_with : Version → ℕ × (ℕ × Policy) → ShapeFields
shape_with version c = record { version = version; nodes = c.0; files = c.1.0; policy = c.1.1 }

pub counts-parts : (s : ShapeFields) → counts_text s ≡ parts_text (counts_of s)
counts-parts s = simp append_assoc refl

pub counts-fit : (s : ShapeFields) → IsShape s → IsCounts (counts_of s)
counts-fit s fits = ((fits.nodes_in.0, omega (arith, fits.nodes_in.1)), (fits.files_in, tt))

-- two clusters of one version with equal operands are equal
abbrev pub clusters : (version : Version) → Views (ℕ × (ℕ × Policy)) ShapeFields parts_text IsCounts counts_text (IsShapeOf version)
clusters version = record { parts = counts_of; fit = λ s fits. counts-fit s fits.is_shape; same = counts-parts }

cluster-same : (version : Version) (s t : ShapeFields) → IsShapeOf version s → IsShapeOf version t → counts_of s ≡ counts_of t → s ≡ t
cluster-same version s t s_in t_in same =
    ap (λ (v : Version). shape_with v (counts_of s)) s_in.is_version ∙ ap (shape_with version) same ∙ sym (ap (λ (v : Version). shape_with v (counts_of t)) t_in.is_version)

-- the cluster line of a script has one meaning and no line feed
pub shape : AreTexts shape_text IsScriptShape
shape = behind (codes "cluster nodes ") refl (viewed (clusters Second) (cluster-same Second) shape_counts)

-- the shape that is made of the operands, if a cluster may have it
pub counts-made : {E : Type 0} (version : Version) (text : List ℕ) (nodes files : ℕ) (policy : Policy) (made : Result ShapeFields E) → Reads parts_text IsCounts text (Some (nodes, (files, policy)))
    → IfOk made (λ shape. shape ≡ shape_with version (nodes, (files, policy))) → IsOk made ↔ IsServed nodes files → Reads counts_text (IsShapeOf version) text (result_ok made)
counts-made version text nodes files policy (Ok shape) counts same served =
    let within = served.0 refl in
    let is : IsShapeOf version (shape_with version (nodes, (files, policy))) = record { is_shape = record { nodes_in = within.0; files_in = within.1 }; is_version = refl } in
    rw same (is, counts.1 ∙ sym (counts-parts (shape_with version (nodes, (files, policy)))))
counts-made version text nodes files policy (Err error) counts same served = view-unfit (clusters version) shape_counts.apart text (nodes, (files, policy)) counts (λ s fits one.
    false≢true (served.1 (rw (ap (λ (c : ℕ × (ℕ × Policy)). c.0) one, ap (λ (c : ℕ × (ℕ × Policy)). c.1.0) one) (fits.is_shape.nodes_in, fits.is_shape.files_in))))
