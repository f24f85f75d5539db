use Rattle.std.proofs.Common.{[]}
use Rattle.std.proofs.lemmas.Result.{IfOk-at_ok, err_from_is_err_and}
use Rattle.replay.proofs.Drafts.{unwritten-after}
use Rattle.replay.proofs.Stores.{others-after}
use Rattle.replay.proofs.journal_draft.keep_journal.Goals as goal

pub returns-clause-kept : goal.returns-clause-kept
returns-clause-kept g c =
    let holds = g.S.Store.holds in
    let path = c.in-Some.file.now in
    let drafted = IfOk-at_ok _ c.in_ok-committed.ensures.made c.add_journal-made.ensures in
    let written = c.in_ok-committed.ensures.written _ (drafted path [] c.begin-draft.ensures.empty) in
    rw c.in-Some.is (written, others-after (holds c.args.store.now) (holds c.begin-draft.new.self) (holds c.committed.new.store) path c.begin-draft.ensures.files c.committed.ensures.others)

pub returns-in_err-committed-clause-fault : goal.returns-in_err-committed-clause-fault
returns-in_err-committed-clause-fault g c =
    let p = err_from_is_err_and c.from_residual.result c.from_residual.ensures.1 in
    let holds = g.S.Store.holds in
    rw (p.1, p.2, c.in-Some.is) (unwritten-after (holds c.args.store.now) (holds c.begin-draft.new.self) (holds c.committed.new.store) (g.S.Store.refuses c.committed.new.store) c.in-Some.file.now _ c.begin-draft.ensures.files c.in_err-committed.ensures.fault)
