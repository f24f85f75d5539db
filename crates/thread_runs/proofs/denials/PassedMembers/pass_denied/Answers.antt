use Rattle.std.proofs.Common.{rules, sym, ◌∙◌, inr}
use Rattle.thread_runs.proofs.Denied.{met_by_one}
use Rattle.thread_runs.proofs.denials.PassedMembers.pass_denied.Goals as goal

pub returns-in_ok-expect-in-Fenced-2-clause-may : goal.returns-in_ok-expect-in-Fenced-2-clause-may
returns-in_ok-expect-in-Fenced-2-clause-may c = λ has is_between behind met.
    let e = met_by_one is_between c.args.self.now.awaited c.expect.new.self.awaited c.args.node 0 c.in_ok-expect-in-Fenced-2.ensures.awaited behind met in
    rw c.in-Fenced-2.is ((sym c.has_process-in-Fenced-2.ensures ∙ has, inr e.0), e.1)

pub returns-then-is_live-clause-may : goal.returns-then-is_live-clause-may
returns-then-is_live-clause-may c = λ has is_between behind met.
    let e = met_by_one is_between c.args.self.now.awaited c.expect-in-Killed.new.self.awaited c.args.node c.in-Killed.call_at c.in_ok-expect-in-Killed.ensures.awaited behind met in
    rw c.in-Killed.is ((sym c.has_call-then-is_live.ensures ∙ has, search rules, e.0), e.1)
