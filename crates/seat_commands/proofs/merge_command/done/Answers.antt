use Rattle.std.proofs.Common.{◌∙◌}
use Rattle.seat_commands.proofs.Having.{changes_after, changes_kept, changes_none, changes_unkept, has_target, writes}
use Rattle.seat_commands.proofs.merge_command.done.Goals as goal

pub returns-clause-files : goal.returns-clause-files
returns-clause-files g c =
    let holds = g.S.Store.holds in
    changes_after (holds c.args.store.now) (holds c.merged.new.store) (holds c.keep_journal.new.store) c.args.line.now c.merged.ensures.files
    (changes_kept (holds c.merged.new.store) (holds c.keep_journal.new.store) c.args.line.now _ _ c.target.ensures c.in_ok-keep_journal.ensures.kept)

pub returns-in_err-keep_journal-clause-files : goal.returns-in_err-keep_journal-clause-files
returns-in_err-keep_journal-clause-files g c =
    let holds = g.S.Store.holds in
    changes_after (holds c.args.store.now) (holds c.merged.new.store) (holds c.keep_journal.new.store) c.args.line.now c.merged.ensures.files
    (changes_unkept (holds c.merged.new.store) (holds c.keep_journal.new.store) (g.S.Store.refuses c.keep_journal.new.store) c.args.line.now _ _ c.target.ensures c.in_err-keep_journal.ensures.fault)

pub returns-in_err-journal-clause-files : goal.returns-in_err-journal-clause-files
returns-in_err-journal-clause-files g c = changes_none (g.S.Store.holds c.args.store.now) (g.S.Store.holds c.merged.new.store) c.args.line.now c.merged.ensures.files

pub returns-clause-done : goal.returns-clause-done
returns-clause-done g c =
    let holds = g.S.Store.holds in
    writes (holds c.args.store.now) (holds c.keep_journal.new.store) c.args.line.now c.in_ok-journal.journal.shape c.in_ok-journal.journal.entries c.in_ok-journal.ensures.merged
    (λ path at. has_target (holds c.merged.new.store) (holds c.keep_journal.new.store) _ _ path c.in_ok-keep_journal.ensures.kept (c.target.ensures ∙ at))
