use Rattle.std.proofs.Common.{option_map, refl, inr, subst, List, ℕ}
use Rattle.std.proofs.lemmas.Result.{err_from_is_err_and}
use Rattle.command_line.specs.rule.Tasks.{threads}
use Rattle.replay.specs.rule.Commands.{KeepsJournal}
use Rattle.replay.proofs.Drafts.{kept-after, unkept-fault}
use Rattle.replay.proofs.threads.play_on_threads.Goals as goal

pub returns-clause-done : goal.returns-clause-done
returns-clause-done g c =
    let holds = g.S.Store.holds in
    let to = option_map (λ file. file.now) c.args.asked.journal in
    let kept = kept-after (holds c.args.store.now) (holds c.threaded_of.new.store) (holds c.keep_journal.new.store) to _ c.threaded_of.ensures.files c.in_ok-keep_journal.ensures.kept in
    let told = c.in_ok-shown.ensures.told in
    let journal = subst (λ (text : List ℕ). KeepsJournal (holds c.args.store.now) to text (holds c.keep_journal.new.store)) told.2.1 kept in
    (told.0, told.1, told.2.0, journal)

pub returns-in_err-keep_journal-clause-fault : goal.returns-in_err-keep_journal-clause-fault
returns-in_err-keep_journal-clause-fault g c =
    let p = err_from_is_err_and c.from_residual-in_err-keep_journal.result c.from_residual-in_err-keep_journal.ensures.1 in
    let holds = g.S.Store.holds in
    let taken = c.in_ok-shown.ensures.taken in
    let to = option_map (λ file. file.now) c.args.asked.journal in
    let task = threads c.args.asked.script.now c.args.asked.seed c.args.asked.stop_when_stuck c.args.asked.no_join to in
    rw (p.1, p.2) (unkept-fault (holds c.args.store.now) (holds c.threaded_of.new.store) (holds c.keep_journal.new.store) (g.S.Store.ran_short c.keep_journal.new.store) (g.S.Store.refuses c.keep_journal.new.store) task to _ c.threaded_of.ensures.files refl taken (inr taken) c.in_err-keep_journal.ensures.fault)
