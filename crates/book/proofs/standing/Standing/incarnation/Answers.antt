use Rattle.std.proofs.Common.{◌≡◌, ◌∙◌, sym, subst}
use Rattle.book.specs.rule.States.{incarnation_of, StandingFields, standing_state, state_of}
use Rattle.book.proofs.Copies.{incarnation_stays}
use Rattle.book.proofs.standing.Standing.incarnation.Goals as goal

pub returns-clause-value : goal.returns-clause-value
returns-clause-value c =
    let P : StandingFields → Type 0 = λ x. c.incarnation.result ≡ incarnation_of (standing_state x) in
    subst P c.self.view_is (c.incarnation.ensures.value ∙ sym (incarnation_stays (state_of c.self.inside.copy) c.self.inside.behind))
