use Rattle.std.proofs.Common.{◌≡◌, List, ℕ, subst, sym, string_bytes}
use Rattle.std.proofs.lemmas.Result.{IfErr-weaker, IfOk-weaker}
use Rattle.cluster_core.specs.rule.Journals.{JournalFields}
use Rattle.replay.specs.declared.fault.Fault.TheVariants.{NoMemory}
use Rattle.replay.specs.rule.Audits.{IsAudited, WritesFew}
use Rattle.replay.specs.rule.Faults.{IsTextFault}
use Rattle.replay.proofs.audit.checked_text.Goals as goal

pub returns-clause-audited : goal.returns-clause-audited
returns-clause-audited c =
    let text = string_bytes c.args.text in
    let j : JournalFields = record { shape = c.in_ok-shape.shape; entries = c.in_ok-shape.entries.items } in
    let few = subst (λ (t : List ℕ). WritesFew t j) c.as_str.ensures.value c.in_ok-shape.ensures.entries in
    IfOk-weaker c.audit_of.result (IsAudited j) (λ audited. (k : JournalFields) × WritesFew text k × IsAudited k audited) (λ audited is. (j, few, is)) c.audit_of.ensures.audited

pub returns-clause-fault : goal.returns-clause-fault
returns-clause-fault c =
    let text = string_bytes c.args.text in
    let j : JournalFields = record { shape = c.in_ok-shape.shape; entries = c.in_ok-shape.entries.items } in
    let few = subst (λ (t : List ℕ). WritesFew t j) c.as_str.ensures.value c.in_ok-shape.ensures.entries in
    IfErr-weaker c.audit_of.result (λ fault. fault ≡ NoMemory) (IsTextFault text) (λ fault is. subst (IsTextFault text) (sym is) (j, few)) c.audit_of.ensures.fault
