use Rattle.std.proofs.Common.{◌≡◌, ◌<◌, ◌∷◌, [], not, sym, ap, ◌∙◌, arith, List, length, Bor}
use Rattle.std.proofs.lemmas.Bool.{not-false}
use Rattle.merges.specs.declared.logged.LoggedEntry.{LoggedEntry}
use Rattle.merges.specs.declared.logged.LoggedChange.{LoggedChange}
use Rattle.merges.specs.rule.Merges.{LogFields}
use Rattle.merges.specs.code.Merging.{fields_of}
use Rattle.merges.proofs.Readings.{found, not_found, none_there}
use Rattle.merges.proofs.Floors.{all_done, log_done}
use Rattle.merges.proofs.merger.Merger.is_done.Goals as goal

pub returns-then-is_some : goal.returns-then-is_some
returns-then-is_some c =
    let it = found (Bor LoggedEntry) (c.index.result.now.entries ≡ []) (λ x. (xs : List LoggedEntry) × (c.index.result.now.entries ≡ x.now ∷ xs)) c.first.result c.if-is_some.ensures c.first.ensures in
    let within : c.loop-index.index < length c.args.self.now.logs.items = omega (arith, c.loop-index-test.true, c.len-index-end.ensures, c.args.self.now.logs.ok.0) in (
      λ t. absurd (cc),
      λ done.
          let none : c.index.result.now.entries ≡ [] = ap (λ (l : LogFields). l.entries) c.index.ensures ∙ log_done (fields_of c.args.self.now) c.requires.different done c.loop-index.index c.index.result.now within in
          let both : [] ≡ it.0.now ∷ it.1.0 = sym none ∙ it.1.1 in
          absurd (cc),
    )

pub returns : goal.returns
returns c = (
  λ t.
      all_done (fields_of c.args.self.now)
      (λ k d within. c.loop-index.invariant k d (omega (arith, within, c.loop-index-test.false, c.len-index-end.ensures, c.args.self.now.logs.ok.0)))
      (not_found LoggedChange (c.args.self.now.changes ≡ []) (λ x. (xs : List LoggedChange) × (c.args.self.now.changes ≡ x ∷ xs)) c.first-2.result (c.is_none.ensures ∙ ap not t) c.first-2.ensures),
  λ done.
      not-false c.is_none.result
      (sym c.is_none.ensures ∙ none_there LoggedChange (c.args.self.now.changes ≡ []) (λ x. (xs : List LoggedChange) × (c.args.self.now.changes ≡ x ∷ xs)) c.first-2.result
      (λ x some. let both : [] ≡ x ∷ some.0 = sym done.changes ∙ some.1 in absurd (cc)) c.first-2.ensures),
)
