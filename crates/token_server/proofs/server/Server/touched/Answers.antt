use Rattle.std.specs.Prelude.{ℕ, Bool, cond, Option, Some}
use Rattle.std.proofs.Common.{sym, ap, inl, inr, ◌∙◌}
use Rattle.std.proofs.lemmas.Bool.Decides.{eqb_tells}
use Rattle.token_server.specs.declared.known_nodes.known_change.Changed.{Changed}
use Rattle.token_server.specs.rule.Rows.{Row}
use Rattle.token_server.specs.rule.RowParts.{rows_of}
use Rattle.token_server.specs.code.Rows.{row_after, rows_after}
use Rattle.token_server.proofs.server.Server.touched.Goals as goal

pub returns : goal.returns
returns c = λ n apart.
    let rows = rows_of c.args.self.now.known_nodes in
    let changed : Changed = c.in_ok-as_ref-2.field-0.now in
    ap (λ (f : ℕ → Option Row). f n) c.requires
    ∙ ap (λ (o : Option Changed). rows_after o rows n) (sym c.in_ok-as_ref-2.ensures.value)
    ∙ elim (eqb_tells n changed.node) [
      | inl same ↦ absurd (apart (ap (λ (k : ℕ). let o : Option ℕ = Some k in o) (sym same.1)))
      | inr other ↦ ap (λ (b : Bool). cond b (row_after changed.change (rows n)) (rows n)) other.0
    ]
