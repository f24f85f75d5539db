use Rattle.thread_runs.proofs.denials.PassedMembers.pass_call.Goals as goal

pub returns-in-Denied-clause-may : goal.returns-in-Denied-clause-may
returns-in-Denied-clause-may c = rw c.in-Denied.is c.pass_denied.ensures.may
