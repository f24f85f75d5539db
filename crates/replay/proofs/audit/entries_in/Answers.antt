use Rattle.replay.proofs.Audits.{told-result}
use Rattle.replay.proofs.audit.entries_in.Goals as goal

pub returns-in_ok-measured-clause-fault : goal.returns-in_ok-measured-clause-fault
returns-in_ok-measured-clause-fault c =
    let has = c.in_ok-measured.ensures.journal in
    told-result c.args.text.now _ _ c.entries_read-made.result c.entries_read-made.ensures.fault (record { measured = has.0; within = has.1 })
