use Rattle.std.proofs.Common.{refl, sym, subst}
use Rattle.history_text.specs.code.Readings.{Adds}
use Rattle.history_text.proofs.FileLaws.{adds_none, adds_push, exit_call}
use Rattle.history_text.proofs.drops.add_exits.Goals as goal
use Rattle.history_text.proofs.drops.add_exits.Goals.{in-Some+in_ok-push, in_default}

pub loop-owner-init : goal.loop-owner-init
loop-owner-init c = λ allowed lines are. adds_none allowed c.args.owners.now.lives.items lines c.args.file.now c.args.file.now refl refl refl

pub loop-owner-preserved : goal.loop-owner-preserved
loop-owner-preserved c = λ allowed lines are.
    let lives = c.args.owners.now.lives.items in
    let first = c.args.file.now in
    let was = c.loop-owner.invariant allowed lines are in
    elim c.match-exit_of.branch [
      | in-Some+in_ok-push w ↦
          let call = w.call_of.result in
          let pushed = w.in_ok-push.ensures in
          let exit = exit_call allowed lives lines c.owner-item.result w.in-Some.exit call w.call_of.ensures w.in-Some.ensures are in
          subst (Adds allowed lives lines first) (sym w.file-is) (adds_push allowed lives lines first c.loop-owner.file w.push.new.self call w.in-Some.exit.line pushed.calls pushed.lines w.push.ensures.told exit.1 exit.0 was)
      | in_default w ↦ subst (Adds allowed lives lines first) (sym w.file-is) was
    ]
