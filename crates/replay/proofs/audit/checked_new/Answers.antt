use Rattle.std.proofs.Common.{◌∙◌, subst, string_bytes, sym}
use Rattle.std.proofs.lemmas.Bool.{false≢true}
use Rattle.std.proofs.lemmas.Result.{IfErr-weaker, IfOk-weaker}
use Rattle.std.proofs.lemmas.Str.{IsUtf8-string_bytes}
use Rattle.cluster_core.specs.rule.Journals.{JournalFields}
use Rattle.journal_text.specs.rule.Readings.{IsOld}
use Rattle.replay.specs.rule.Audits.{HasNewJournal, IsAudited, WritesFew}
use Rattle.replay.specs.rule.Faults.{IsOldFault, IsTextFault}
use Rattle.replay.proofs.Audits.{has-journal}
use Rattle.replay.proofs.LaterRuns.{is_new, old-fault}
use Rattle.replay.proofs.audit.checked_new.Goals as goal

pub returns-clause-audited : goal.returns-clause-audited
returns-clause-audited g c =
    let Holds = g.S.Store.holds c.args.store.now c.args.path.now in
    let text = string_bytes c.in_ok-text.text in
    let not_old : IsOld text → ⊥ = λ old. false≢true (sym c.if-is_old.false ∙ c.is_old.ensures.1 (subst IsOld (sym c.as_str.ensures.value) old)) in
    IfOk-weaker c.checked_text.result (λ audited. (j : JournalFields) × WritesFew text j × IsAudited j audited) (λ audited. (j : JournalFields) × HasNewJournal Holds j × IsAudited j audited)
    (λ audited is. (is.0, (has-journal Holds text is.0 c.in_ok-text.ensures.text (IsUtf8-string_bytes c.in_ok-text.text) is.1, is_new text is.0 not_old is.1.0), is.2)) c.checked_text.ensures.audited

pub returns-clause-fault : goal.returns-clause-fault
returns-clause-fault g c =
    let Holds = g.S.Store.holds c.args.store.now c.args.path.now in
    let RanShort = g.S.Store.ran_short c.text_of.new.store in
    let text = string_bytes c.in_ok-text.text in
    let not_old : IsOld text → ⊥ = λ old. false≢true (sym c.if-is_old.false ∙ c.is_old.ensures.1 (subst IsOld (sym c.as_str.ensures.value) old)) in
    IfErr-weaker c.checked_text.result (IsTextFault text) (IsOldFault Holds RanShort c.args.path.now)
    (λ fault is. old-fault Holds RanShort c.args.path.now text fault c.in_ok-text.ensures.text (IsUtf8-string_bytes c.in_ok-text.text) not_old is) c.checked_text.ensures.fault
