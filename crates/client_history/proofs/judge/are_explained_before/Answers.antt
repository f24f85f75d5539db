use Rattle.std.proofs.Common.{arith}
use Rattle.client_history.proofs.Fronts.{explained_before}
use Rattle.client_history.proofs.judge.are_explained_before.Goals as goal

pub returns-then-branch : goal.returns-then-branch
returns-then-branch c = λ yes.
    explained_before c.args.calls.now c.front_by.result.now c.in-Some.time c.args.end (omega (arith, c.in-Some.ensures)) c.requires ((c.in_ok-explains_by.ensures {u = tt}).0 c.if-branch.true)
