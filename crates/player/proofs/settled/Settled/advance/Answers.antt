use Rattle.std.proofs.Common.{ap, sym, ◌∙◌, ◌+◌, arith}
use Rattle.player.specs.code.Rounds.{SettledParts}
use Rattle.player.proofs.Marks.{settled-again, settled-least, settled-pass}
use Rattle.player.proofs.settled.Settled.advance.Goals as goal

pub loop-self-preserved : goal.loop-self-preserved
loop-self-preserved c =
    let at = c.loop-self.self in
    let moved = settled-pass at _ (ap (λ (s : SettledParts). s.cursor + 1) c.self.view_is) (ap (λ (s : SettledParts). s.marks) c.self.view_is) in
    let same_cursor = ap (λ (s : SettledParts). s.cursor) c.self.view_is in
    record {
      same = moved ∙ (settled-again at at.cursor (sym c.is_marked.ensures.value ∙ c.loop-self-test.true) ∙ c.loop-self.invariant.same);
      rises = omega (arith, same_cursor, c.loop-self.invariant.rises);
    }

pub returns-clause-least : goal.returns-clause-least
returns-clause-least c = settled-least c.loop-self.self (sym c.is_marked.ensures.value ∙ c.loop-self-test.false)
