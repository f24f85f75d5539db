use Rattle.std.proofs.Common.{◌≡◌, ap, sym, ◌∙◌, slice_get, subst, arith}
use Rattle.std.proofs.lemmas.Bool.Decides.{nat_tests}
use mathlib.Core.List.{IsPrefix}
use Rattle.book.proofs.Adding.{prefix_get}
use Rattle.book.proofs.spot.Spot.is_at.Goals as goal

pub returns-clause-items : goal.returns-clause-items
returns-clause-items g c same =
    let one = c.self.inside in
    let other = c.other.inside in
    let all = c.learn.new.self.log in
    let places : one.place ≡ other.place = grind (arith, nat_tests, same) in
    let this : IsPrefix one.seen.log all = subst (λ l. IsPrefix l all) (ap (λ s. s.log) c.again-both.ensures) c.learn.ensures.2 in
    let here = prefix_get one.seen.log all one.place this c.self.invariant.0 in
    let there = prefix_get other.seen.log all other.place c.learn.ensures.3 c.other.invariant.0 in
    rw (← c.self.view_is, ← c.other.view_is) (here ∙ (ap (λ k. slice_get all k) places ∙ sym there))
