use Rattle.std.proofs.Common.{arith, sym, ◌∙◌}
use Rattle.std.proofs.lemmas.Bool.{eq-eqb}
use Rattle.model.proofs.SearchLaws.{first-found, first-none}
use Rattle.descriptors.proofs.counts.Counts.lowest_unused.Goals as goal

pub returns-then-count-eq0 : goal.returns-then-count-eq0
returns-then-count-eq0 c =
    let least = c.self.invariant.0 in
    sym (first-found _ 1 16384 c.loop-number.number c.loop-number.invariant (omega arith) (omega arith) (eq-eqb _ 0 (sym c.count.ensures ∙ c.if-count-eq0.true)))

pub returns : goal.returns
returns c = sym (first-none _ 1 16384 c.loop-number.number c.loop-number.invariant (omega arith))
