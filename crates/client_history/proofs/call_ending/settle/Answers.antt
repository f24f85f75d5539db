use Rattle.std.proofs.Common.{⊎_elim, sym, ◌∙◌, eqb-true, arith}
use Rattle.client_history.proofs.Goings.{none_covered}
use Rattle.client_history.proofs.call_ending.settle.Goals as goal
use Rattle.client_history.proofs.call_ending.settle.Goals.{then-loop-left-test+else-not-is_empty, else-loop-left-test}

pub loop-left-preserved : goal.loop-left-preserved
loop-left-preserved c =
    record {
      taken = (c.in_ok-layer.ensures {u = tt}).taken c.loop-left.invariant.taken;
      goes = λ some calls begun over time ending before. (c.in_ok-layer.ensures {u = tt}).goes some calls begun over time ending (c.loop-left.invariant.goes c.loop-left-test.true calls begun over time ending before);
    }

pub returns : goal.returns
returns c = λ some. record {
  taken = c.loop-left.invariant.taken;
  covered = λ calls begun over time ending before.
      let running = c.args.ending.now.«open».now in
      elim c.loop-left-test.branch [
        | then-loop-left-test+else-not-is_empty w ↦ ⊎_elim
            (λ l. absurd (none_covered calls over running time c.loop-left.layer.items (let none = eqb-true _ _ (sym w.is_empty.ensures ∙ w.if-not-is_empty.false) in omega arith) l))
            (λ d. d)
            (c.loop-left.invariant.goes some calls begun over time ending before)
        | else-loop-left-test w ↦ let none = w.loop-left-test.false in absurd (omega arith)
      ];
}
