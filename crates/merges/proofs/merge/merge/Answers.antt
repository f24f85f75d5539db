use Rattle.std.proofs.Common.{◌≡◌, true, false, refl, sym, subst, ap, ◌∙◌, List}
use Rattle.messages.specs.rule.Shapes.{ShapeFields}
use Rattle.messages.specs.declared.entry.Entry.{Entry}
use Rattle.cluster_core.specs.rule.Histories.{HasOneHistory}
use Rattle.cluster_core.specs.rule.Journals.{JournalFields, journal_of}
use Rattle.merges.specs.rule.Merges.{AreMerged, log_of}
use Rattle.std.proofs.lemmas.Result.{err_from_is_err_and}
use Rattle.merges.specs.declared.merge_error.MergeError.{MergeError}
use Rattle.merges.specs.declared.merge_error.MergeError.TheVariants.{JournalFull, NoOrder}
use Rattle.merges.specs.code.Merging.{IsDone, MergerFields, Fails, fields_of, merging_of}
use Rattle.merges.proofs.Mergers.{stuck_none, none_before}
use Rattle.merges.proofs.Results.{none_at_all, all_too_long, merged, same_shape}
use Rattle.merges.proofs.merge.merge.Goals as goal

pub returns-in_err-put_all-clause-none : goal.returns-in_err-put_all-clause-none
returns-in_err-put_all-clause-none c is =
    let m : MergerFields = fields_of c.in_ok-merger.merger in
    let p = err_from_is_err_and c.from_residual-in_err-put_all.result c.from_residual-in_err-put_all.ensures.1 in
    let error : c.in_err-put_all.field-0.0 ≡ NoOrder = cc (p.1, p.2, is) in
    none_at_all c.args.shape c.args.skew (log_of c.args.logs.items) c.args.declared m c.in_ok-merger.ensures.begun c.in_ok-merger.ensures.skew
    (subst (λ (e : MergeError). Fails e m) error c.in_err-put_all.ensures.fails)

pub returns-in_err-put_all-clause-full : goal.returns-in_err-put_all-clause-full
returns-in_err-put_all-clause-full c is =
    let m : MergerFields = fields_of c.in_ok-merger.merger in
    let p = err_from_is_err_and c.from_residual-in_err-put_all.result c.from_residual-in_err-put_all.ensures.1 in
    let error : c.in_err-put_all.field-0.0 ≡ JournalFull = cc (p.1, p.2, is) in
    all_too_long c.args.shape c.args.skew (log_of c.args.logs.items) c.args.declared m c.in_ok-merger.ensures.begun c.in_ok-merger.ensures.skew c.in_ok-merger.ensures.nothing
    (subst (λ (e : MergeError). Fails e m) error c.in_err-put_all.ensures.fails)

pub returns-then-not-is_done-clause-none : goal.returns-then-not-is_done-clause-none
returns-then-not-is_done-clause-none c is =
    let m : MergerFields = fields_of c.in_ok-merger.merger in
    let n : MergerFields = fields_of c.put_all.new.self in
    let left : IsDone (merging_of n) → ⊥ = λ done. let both : false ≡ true = c.if-not-is_done.ensures.1 done in absurd (cc) in
    none_at_all c.args.shape c.args.skew (log_of c.args.logs.items) c.args.declared m c.in_ok-merger.ensures.begun c.in_ok-merger.ensures.skew
    (none_before m n c.in_ok-put_all.ensures.puts (stuck_none n c.in_ok-put_all.ensures.stuck left))

pub returns-clause-shape : goal.returns-clause-shape
returns-clause-shape c =
    ap (λ (j : JournalFields). j.shape) (c.into_journal-journal.ensures.journal ∙ ap journal_of c.into_run.ensures)
    ∙ same_shape c.args.shape c.args.skew (log_of c.args.logs.items) c.args.declared (fields_of c.in_ok-merger.merger) c.in_ok-merger.ensures.begun c.in_ok-merger.ensures.skew c.in_ok-merger.ensures.nothing (fields_of c.put_all.new.self) c.in_ok-put_all.ensures.puts

pub returns-clause-merged : goal.returns-clause-merged
returns-clause-merged c =
    let same : c.put_all.new.self.run.entries ≡ c.into_journal-journal.result.0.entries = sym (ap (λ (j : JournalFields). j.entries) (c.into_journal-journal.ensures.journal ∙ ap journal_of c.into_run.ensures)) in
    subst (λ (es : List Entry). AreMerged c.args.shape c.args.skew (log_of c.args.logs.items) c.args.declared es) same
    (merged c.args.shape c.args.skew (log_of c.args.logs.items) c.args.declared (fields_of c.in_ok-merger.merger) c.in_ok-merger.ensures.begun c.in_ok-merger.ensures.skew c.in_ok-merger.ensures.nothing (fields_of c.put_all.new.self) c.in_ok-put_all.ensures.puts
    (c.if-not-is_done.ensures.0 refl))

pub returns-clause-one_table : goal.returns-clause-one_table
returns-clause-one_table c =
    let same : c.into_journal-journal.result.0.shape ≡ c.args.shape =
    ap (λ (j : JournalFields). j.shape) (c.into_journal-journal.ensures.journal ∙ ap journal_of c.into_run.ensures)
    ∙ same_shape c.args.shape c.args.skew (log_of c.args.logs.items) c.args.declared (fields_of c.in_ok-merger.merger) c.in_ok-merger.ensures.begun c.in_ok-merger.ensures.skew c.in_ok-merger.ensures.nothing (fields_of c.put_all.new.self) c.in_ok-put_all.ensures.puts in
    subst (λ (shape : ShapeFields). HasOneHistory shape c.into_journal-journal.result.0.entries) same c.into_journal-journal.ensures.one_table
