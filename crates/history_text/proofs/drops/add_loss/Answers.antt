use Rattle.std.proofs.Common.{refl, sym, subst}
use Rattle.history_text.specs.code.Readings.{Adds}
use Rattle.history_text.proofs.FileLaws.{adds_none, adds_push, loss_call}
use Rattle.history_text.proofs.drops.add_loss.Goals as goal
use Rattle.history_text.proofs.drops.add_loss.Goals.{in-Some+in_ok-push, in_default}

pub loop-owner-init : goal.loop-owner-init
loop-owner-init c = λ allowed lines is. adds_none allowed c.args.owners.now.lives.items lines c.args.file.now c.args.file.now refl refl refl

pub loop-owner-preserved : goal.loop-owner-preserved
loop-owner-preserved c = λ allowed lines is.
    let lives = c.args.owners.now.lives.items in
    let first = c.args.file.now in
    let was = c.loop-owner.invariant allowed lines is in
    elim c.match-loss_of.branch [
      | in-Some+in_ok-push w ↦
          let call = w.in-Some.call in
          let pushed = w.in_ok-push.ensures in
          subst (Adds allowed lives lines first) (sym w.file-is) (adds_push allowed lives lines first c.loop-owner.file w.push.new.self call c.args.loss.line pushed.calls pushed.lines w.push.ensures.told (loss_call allowed lives lines c.args.loss call is w.in-Some.ensures) is.within was)
      | in_default w ↦ subst (Adds allowed lives lines first) (sym w.file-is) was
    ]
