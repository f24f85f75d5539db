use Rattle.std.proofs.Common.{◌≡◌, ◌∷◌, List, length, subst}
use Rattle.merges.specs.declared.logged.LoggedChange.{LoggedChange}
use Rattle.merges.proofs.Orders.{RisesTo, first_least}
use Rattle.merges.proofs.changes.Changes.least_end.Goals as goal

pub returns-in-Some-clause-lower : goal.returns-in-Some-clause-lower
returns-in-Some-clause-lower c =
    let it : (cs : List LoggedChange) × (c.args.self.now ≡ c.in-Some.first ∷ cs) = c.in-Some.ensures in
    first_least LoggedChange (λ x. x.interval.ended) c.args.self.now c.in-Some.first it.0 it.1
    (subst (λ (cs : List LoggedChange). RisesTo LoggedChange (λ x. x.interval.ended) (length cs) cs) c.self.view_is c.self.invariant)
