use Rattle.std.proofs.Common.{◌+◌, ◌++◌, List, [], ◌∷◌, length, sym, ap, ◌∙◌, arith, length-append}
use Rattle.seat_text.specs.declared.block.LogStep.{LogStep}
use Rattle.seat_text.specs.rule.Logs.{steps_text}
use Rattle.seat_text.proofs.Reading.{steps_more}
use Rattle.seat_text.proofs.block_reader.LineReader.steps.Goals as goal

pub loop-position-preserved : goal.loop-position-preserved
loop-position-preserved c =
    let at_loop = c.loop-position.invariant in
    let items = c.in_ok-push-in-Some.ensures.items in
    let text = rw c.in-Some.is at c.in_ok-step.ensures.text in (
      steps_more c.args.self.now.text.now c.args.count c.loop-position.steps.items c.loop-position.self.text.now (c.loop-position.position + 1) c.in-Some.step c.step.new.self.text.now at_loop.0 (omega (arith, at_loop.1)) text
          ∙ ap (λ (ss : List LogStep). steps_text c.args.count ss ++ c.step.new.self.text.now) (sym items),
      omega (arith, at_loop.1, ap (λ (ss : List LogStep). length ss) items, length-append c.loop-position.steps.items (c.in-Some.step ∷ [])),
    )
