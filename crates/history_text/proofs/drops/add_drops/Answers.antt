use Rattle.std.proofs.Common.{◌≡◌, length, refl, arith}
use Rattle.std.proofs.lemmas.Result.{on_ok_weaker}
use Rattle.history_text.specs.code.Readings.{with_told}
use Rattle.history_text.proofs.FileLaws.{adds_both, adds_none}
use Rattle.history_text.proofs.drops.add_drops.Goals as goal

pub loop-loss-init : goal.loop-loss-init
loop-loss-init c = λ allowed lines are.
    let told : c.len-file.result ≡ length c.args.file.now.lines.items = omega (arith, c.len-file.ensures) in
    adds_none allowed c.args.owners.now.lives.items lines (with_told c.args.file.now) _ refl refl told

pub loop-loss-preserved : goal.loop-loss-preserved
loop-loss-preserved c = λ allowed lines are.
    adds_both allowed c.args.owners.now.lives.items lines (with_told c.args.file.now) c.loop-loss.file c.add_loss.new.file (c.loop-loss.invariant allowed lines are)
    (c.in_ok-add_loss.ensures allowed lines (are c.loop-loss.loss-index _ c.loop-loss-test.true))

pub returns : goal.returns
returns c = on_ok_weaker c.add_exits.result (λ added. λ allowed lines lives losses.
    adds_both allowed c.args.owners.now.lives.items lines (with_told c.args.file.now) c.loop-loss.file c.add_exits.new.file (c.loop-loss.invariant allowed lines losses) (added allowed lines lives)) c.add_exits.ensures
