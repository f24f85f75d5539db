use Rattle.replay.proofs.Audits.{told-result}
use Rattle.replay.proofs.audit.first_wrong.Goals as goal

pub returns-in_ok-measured-clause-fault : goal.returns-in_ok-measured-clause-fault
returns-in_ok-measured-clause-fault g c =
    let has = c.in_ok-measured.ensures.journal in
    told-result c.args.text.now _ _ c.audited_in-wrong.result c.audited_in-wrong.ensures.fault (record { measured = has.0; within = has.1 })
