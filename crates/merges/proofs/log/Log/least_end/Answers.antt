use Rattle.std.proofs.Common.{◌≡◌, ◌∷◌, List, length, subst}
use Rattle.merges.specs.declared.logged.LoggedEntry.{LoggedEntry}
use Rattle.merges.specs.rule.Merges.{LogFields}
use Rattle.merges.proofs.Orders.{RisesTo, first_least}
use Rattle.merges.proofs.log.Log.least_end.Goals as goal

pub returns-in-Some-clause-lower : goal.returns-in-Some-clause-lower
returns-in-Some-clause-lower c =
    let it : (xs : List LoggedEntry) × (c.args.self.now.entries ≡ c.in-Some.first.now ∷ xs) = c.in-Some.ensures in
    first_least LoggedEntry (λ x. x.interval.ended) c.args.self.now.entries c.in-Some.first.now it.0 it.1
    (subst (λ (l : LogFields). RisesTo LoggedEntry (λ x. x.interval.ended) (length l.entries) l.entries) c.self.view_is c.self.invariant)
