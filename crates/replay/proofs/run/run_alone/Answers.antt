use Rattle.std.proofs.Common.{None, option_map, refl, inr}
use Rattle.std.proofs.lemmas.Result.{err_from_is_err_and}
use Rattle.command_line.specs.rule.Tasks.{run}
use Rattle.replay.proofs.Drafts.{kept-after, unkept-fault}
use Rattle.replay.proofs.LaterRuns.{uncompared}
use Rattle.replay.proofs.run.run_alone.Goals as goal

pub returns-clause-done : goal.returns-clause-done
returns-clause-done g c =
    let holds = g.S.Store.holds in
    let came = c.in_ok-played.ensures.run in
    let kept = kept-after (holds c.args.store.now) (holds c.run_of.new.store) (holds c.text_kept.new.store) _ _ c.run_of.ensures.files c.in_ok-text.ensures.kept in
    (_, came.0, came.1, c.shown_beside.ensures _ came.0 c.args.asked.quiet came.2 c.in_ok-text.ensures.text, kept, c.in_ok-text.ensures.read)

pub returns-in_err-text-clause-fault : goal.returns-in_err-text-clause-fault
returns-in_err-text-clause-fault g c =
    let p = err_from_is_err_and c.from_residual-in_err-text.result c.from_residual-in_err-text.ensures.1 in
    let holds = g.S.Store.holds in
    let came = c.in_ok-played.ensures.run in
    let has = uncompared (holds c.args.store.now c.args.asked.script.now) c.args.asked.expect c.args.asked.calm came.0 _ came.1 in
    let task = run c.args.asked.script.now None (option_map (λ file. file.now) c.args.asked.journal) c.args.asked.expect c.args.asked.quiet c.args.asked.calm in
    rw (p.1, p.2) (unkept-fault (holds c.args.store.now) (holds c.run_of.new.store) (holds c.text_kept.new.store) (g.S.Store.ran_short c.text_kept.new.store) (g.S.Store.refuses c.text_kept.new.store) task _ _ c.run_of.ensures.files refl has (inr (has.1.0, has.1.1)) c.in_err-text.ensures.fault)
