use Rattle.std.specs.Prelude.{◌≡◌, ℕ, Bool, List, slice_get, Option, Some}
use Rattle.std.specs.Bool.{IsTrue}
use Rattle.std.proofs.Common.{sym, ap, subst, ◌∙◌, inl, inr, arith}
use Rattle.std.proofs.lemmas.Bool.{cases_lt}
use Rattle.std.proofs.lemmas.Option.{slice_get-get_or}
use Rattle.token_server.specs.declared.known_nodes.known_node.KnownNode.{KnownNode}
use Rattle.token_server.specs.rule.RowParts.{SameKnown}
use Rattle.token_server.proofs.known_nodes.known_nodes.same_each.Goals as goal

pub returns-then-not-same : goal.returns-then-not-same
returns-then-not-same c =
    let i = c.loop-i.i in
    let one : List KnownNode = c.args.one.now in
    let other : List KnownNode = c.args.other.now in
    let x = c.index-one-i.result in
    let y = c.index-other-i.result in
    let here : slice_get one i ≡ Some x = slice_get-get_or one i x c.loop-i-test.true ∙ ap (λ (k : KnownNode). Some k) (sym c.index-one-i.is) in
    let there : slice_get other i ≡ Some y = slice_get-get_or other i y (omega (arith, c.requires, c.loop-i-test.true)) ∙ ap (λ (k : KnownNode). Some k) (sym c.index-other-i.is) in (
      λ never. absurd (cc),
      λ all.
          subst (λ (b : Bool). IsTrue b) c.if-not-same.true
          (c.same.ensures.1 (subst (λ (o : Option KnownNode). SameKnown o (Some y)) here (subst (λ (o : Option KnownNode). SameKnown (slice_get one i) o) there (all i c.loop-i-test.true)))),
    )

pub loop-i-preserved : goal.loop-i-preserved
loop-i-preserved c =
    let i = c.loop-i.i in
    let one : List KnownNode = c.args.one.now in
    let other : List KnownNode = c.args.other.now in
    let x = c.index-one-i.result in
    let y = c.index-other-i.result in
    let here : slice_get one i ≡ Some x = slice_get-get_or one i x c.loop-i-test.true ∙ ap (λ (k : KnownNode). Some k) (sym c.index-one-i.is) in
    let there : slice_get other i ≡ Some y = slice_get-get_or other i y (omega (arith, c.requires, c.loop-i-test.true)) ∙ ap (λ (k : KnownNode). Some k) (sym c.index-other-i.is) in
    let same : SameKnown (Some x) (Some y) = c.same.ensures.0 c.if-not-same.false in
    let known : SameKnown (slice_get one i) (slice_get other i) =
    subst (λ (o : Option KnownNode). SameKnown (slice_get one i) o) (sym there) (subst (λ (o : Option KnownNode). SameKnown o (Some y)) (sym here) same) in
    λ k below. elim (cases_lt k i) [
      | inl before ↦ c.loop-i.invariant k before
      | inr from ↦
          let at : i ≡ k = omega (arith, from, below) in
          subst (λ (m : ℕ). SameKnown (slice_get one m) (slice_get other m)) at known
    ]
