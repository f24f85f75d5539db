use Rattle.std.specs.Prelude.{◌≡◌, ℕ, ◌≤◌, Bool, false, IfSome, Option}
use Rattle.std.proofs.Common.{sym, ap, subst, ◌∙◌, arith}
use Rattle.intervals.specs.rule.Search.{some_passes}
use Rattle.token_set.proofs.TokenLaws.{none_passes-from}
use Rattle.model.specs.rule.Limits.{IsNumber}
use Rattle.messages.specs.rule.Shapes.{before_epoch}
use Rattle.token_server.specs.rule.Rows.{Row, is_awaited}
use Rattle.token_server.specs.rule.RowParts.{rows_of}
use Rattle.token_server.proofs.ReaderLaws.{idle-server}
use Rattle.token_server.proofs.server.Server.new.Goals as goal

pub invariant_of-result : goal.invariant_of-result
invariant_of-result c =
    let rows = rows_of c.in_ok-new.field-0 in
    let passes : ℕ → Bool = λ n. is_awaited (rows n) in
    let none : some_passes passes 1 c.args.shape.nodes ≡ false = none_passes-from passes 1 c.args.shape.nodes (λ n above below. ap (λ (f : ℕ → Option Row). is_awaited (f n)) c.in_ok-new.ensures.rows) in
    idle-server c.args.shape c.of.result 1 c.in_ok-new.field-0 false c.new-2.result c.new-3.result c.new-4.result
    (c.in_ok-new.ensures.len ∙ c.nodes.ensures.value) (subst (λ (n : ℕ). IsNumber c.args.shape.files n) (sym c.of.ensures) c.requires) (omega arith, omega arith) (sym none)
    (subst (λ (f : ℕ → Option Row). (n : ℕ) → IfSome (f n) (λ row. before_epoch 1 ≤ row.number)) (sym c.in_ok-new.ensures.rows) (λ n. tt))
    c.new-2.ensures c.new-3.ensures c.new-4.ensures
