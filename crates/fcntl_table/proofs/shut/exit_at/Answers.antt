use Rattle.std.proofs.Common.{ℕ, sym, ◌∙◌, arith}
use Rattle.model.specs.rule.Descriptors.{Processes, no_processes}
use Rattle.model.proofs.FailLaws.{closed_below-none, closed_below-more, exited-by}
use Rattle.fcntl_table.proofs.ExitLaws.{closed_below-runs, ended-table, runs-at}
use Rattle.fcntl_table.proofs.shut.exit_at.Goals as goal

pub loop-fd-init : goal.loop-fd-init
loop-fd-init c = λ on. sym (closed_below-none _ _)

pub close_at-requires-clause-runs : goal.close_at-requires-clause-runs
close_at-requires-clause-runs c =
    let none : ℕ → ℕ → Processes = λ n i. no_processes in
    sym (runs-at none c.args.host c.loop-fd.processes c.loop-fd.locks c.args.pid)
    ∙ closed_below-runs _ _ _ _ (c.loop-fd.invariant none) (runs-at none c.args.host c.args.processes.now c.args.locks.now c.args.pid ∙ c.requires.runs)

pub loop-fd-preserved : goal.loop-fd-preserved
loop-fd-preserved c = λ on. c.close_at.ensures on ∙ closed_below-more _ _ _ _ (c.loop-fd.invariant on)

pub returns : goal.returns
returns c = λ on.
    exited-by _ _ _ _ _ (c.loop-fd.invariant on) (omega arith) (ended-table on c.args.host c.loop-fd.processes c.end.new.self c.loop-fd.locks c.args.pid c.end.ensures)
