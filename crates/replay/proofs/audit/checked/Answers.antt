use Rattle.std.proofs.Common.{string_bytes}
use Rattle.std.proofs.lemmas.Result.{IfErr-weaker, IfOk-weaker}
use Rattle.std.proofs.lemmas.Str.{IsUtf8-string_bytes}
use Rattle.cluster_core.specs.rule.Journals.{JournalFields}
use Rattle.replay.specs.rule.Audits.{HasJournal, IsAudited, WritesFew}
use Rattle.replay.specs.rule.Faults.{IsJournalFault, IsTextFault}
use Rattle.replay.proofs.Audits.{has-journal, text-fault}
use Rattle.replay.proofs.audit.checked.Goals as goal

pub returns-clause-audited : goal.returns-clause-audited
returns-clause-audited g c =
    let Holds = g.S.Store.holds c.args.store.now c.args.path.now in
    let text = string_bytes c.in_ok-text.text in
    IfOk-weaker c.checked_text.result (λ audited. (j : JournalFields) × WritesFew text j × IsAudited j audited) (λ audited. (j : JournalFields) × HasJournal Holds j × IsAudited j audited)
    (λ audited is. (is.0, has-journal Holds text is.0 c.in_ok-text.ensures.text (IsUtf8-string_bytes c.in_ok-text.text) is.1, is.2)) c.checked_text.ensures.audited

pub returns-clause-fault : goal.returns-clause-fault
returns-clause-fault g c =
    let Holds = g.S.Store.holds c.args.store.now c.args.path.now in
    let RanShort = g.S.Store.ran_short c.text_of.new.store in
    let text = string_bytes c.in_ok-text.text in
    IfErr-weaker c.checked_text.result (IsTextFault text) (IsJournalFault Holds RanShort c.args.path.now)
    (λ fault is. text-fault Holds RanShort c.args.path.now text fault c.in_ok-text.ensures.text (IsUtf8-string_bytes c.in_ok-text.text) is) c.checked_text.ensures.fault
