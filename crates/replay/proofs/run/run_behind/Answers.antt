use Rattle.std.proofs.Common.{Some, option_map, refl, inl, inr}
use Rattle.std.proofs.lemmas.Result.{err_from_is_err_and}
use Rattle.command_line.specs.rule.Tasks.{run}
use Rattle.replay.proofs.Drafts.{kept-after, unkept-fault}
use Rattle.replay.proofs.LaterRuns.{goes-on, going-fault, had-compared, uncompared-behind}
use Rattle.replay.proofs.Stores.{same-after}
use Rattle.replay.proofs.run.run_behind.Goals as goal

pub returns-clause-done : goal.returns-clause-done
returns-clause-done g c =
    let holds = g.S.Store.holds in
    let audited = rw c.in-Run.is at c.in_ok-before.ensures.audited in
    let files = same-after (holds c.args.store.now) (holds c.checked_new.new.store) (holds c.run_behind_of.new.store) c.checked_new.ensures.files c.run_behind_of.ensures.files in
    let came = c.in_ok-played.ensures.run in
    let has = had-compared (holds c.args.store.now) (holds c.checked_new.new.store) c.args.asked.script.now _ audited.0 c.args.asked.expect c.args.asked.calm came.0 _ audited.2.0 c.checked_new.ensures.files came.1 in
    let kept = kept-after (holds c.args.store.now) (holds c.run_behind_of.new.store) (holds c.text_kept.new.store) _ _ files c.in_ok-text.ensures.kept in
    let shown = c.shown_beside.ensures _ came.0 c.args.asked.quiet came.2 c.in_ok-text.ensures.text in
    (audited.0, audited.1, goes-on (holds c.args.store.now) (holds c.text_kept.new.store) c.args.asked.script.now audited.0 _ c.args.asked.expect c.args.asked.quiet c.args.asked.calm _ audited.2.1 (_, came.0, has, shown, kept, c.in_ok-text.ensures.read))

pub returns-in_err-played-clause-fault : goal.returns-in_err-played-clause-fault
returns-in_err-played-clause-fault g c =
    let p = err_from_is_err_and c.from_residual-in_err-played.result c.from_residual-in_err-played.ensures.1 in
    let holds = g.S.Store.holds in
    let audited = rw c.in-Run.is at c.in_ok-before.ensures.audited in
    rw (p.1, p.2) (going-fault (holds c.args.store.now) (holds c.checked_new.new.store) (holds c.run_behind_of.new.store) (g.S.Store.ran_short c.run_behind_of.new.store) (g.S.Store.refuses c.run_behind_of.new.store) c.args.asked.script.now c.args.after.now _ c.args.asked.expect c.args.asked.quiet c.args.asked.calm c.in-Run.before audited.0 _ audited.1 audited.2.0 audited.2.1 c.checked_new.ensures.files c.run_behind_of.ensures.files c.in_err-played.ensures.fault)

pub returns-in_err-text-clause-fault : goal.returns-in_err-text-clause-fault
returns-in_err-text-clause-fault g c =
    let p = err_from_is_err_and c.from_residual-in_err-text.result c.from_residual-in_err-text.ensures.1 in
    let holds = g.S.Store.holds in
    let audited = rw c.in-Run.is at c.in_ok-before.ensures.audited in
    let files = same-after (holds c.args.store.now) (holds c.checked_new.new.store) (holds c.run_behind_of.new.store) c.checked_new.ensures.files c.run_behind_of.ensures.files in
    let came = c.in_ok-played.ensures.run in
    let compared = had-compared (holds c.args.store.now) (holds c.checked_new.new.store) c.args.asked.script.now _ audited.0 c.args.asked.expect c.args.asked.calm came.0 _ audited.2.0 c.checked_new.ensures.files came.1 in
    let has = uncompared-behind (holds c.args.store.now c.args.asked.script.now) audited.0 c.args.asked.expect c.args.asked.calm came.0 _ compared in
    let task = run c.args.asked.script.now (Some c.args.after.now) (option_map (λ file. file.now) c.args.asked.journal) c.args.asked.expect c.args.asked.quiet c.args.asked.calm in
    rw (p.1, p.2) (unkept-fault (holds c.args.store.now) (holds c.run_behind_of.new.store) (holds c.text_kept.new.store) (g.S.Store.ran_short c.text_kept.new.store) (g.S.Store.refuses c.text_kept.new.store) task _ _ files refl (audited.0, audited.1, has) (inl (inr (audited.0, audited.1))) c.in_err-text.ensures.fault)
