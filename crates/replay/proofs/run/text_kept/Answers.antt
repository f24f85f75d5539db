use Rattle.std.proofs.Common.{option_map, subst}
use Rattle.std.proofs.lemmas.Result.{err_from_is_err_and}
use Rattle.replay.specs.rule.Commands.{IsReadFrom}
use Rattle.replay.proofs.Drafts.{read-from, unkept-short}
use Rattle.replay.proofs.run.text_kept.Goals as goal

pub returns-clause-read : goal.returns-clause-read
returns-clause-read g c =
    let to = option_map (λ file. file.now) c.args.file in
    subst (IsReadFrom to) c.into_parts-journal.ensures.journal (read-from to _ c.each_journal_is_read.ensures)

pub returns-in_err-text-clause-fault : goal.returns-in_err-text-clause-fault
returns-in_err-text-clause-fault g c =
    let p = err_from_is_err_and c.from_residual.result c.from_residual.ensures.1 in
    rw (p.1, p.2) (unkept-short (g.S.Store.holds c.args.store.now) (g.S.Store.refuses c.args.store.now) (option_map (λ file. file.now) c.args.file))
