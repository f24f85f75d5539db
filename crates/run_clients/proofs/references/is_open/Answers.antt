use Rattle.std.proofs.Common.{◌≡◌, ℕ, ◌+◌, ◌-◌, true, false, sym, ◌∙◌, subst, arith}
use Rattle.intervals.specs.rule.Search.{some_passes}
use Rattle.model.specs.declared.process.Process.{Process}
use Rattle.model.specs.rule.Table.{around}
use Rattle.fcntl_table.specs.rule.Tables.{table_of}
use Rattle.run_clients.specs.code.Times.{has_description}
use Rattle.run_clients.proofs.Calls.{none_yet, none_more, open_found}
use Rattle.run_clients.proofs.references.is_open.Goals as goal

pub loop-pid-init : goal.loop-pid-init
loop-pid-init c = record { first = omega arith; below = omega arith; none = none_yet (has_description (around (table_of c.args.table.now) c.args.process) c.args.description) 1 }

pub returns-then-has_description : goal.returns-then-has_description
returns-then-has_description c =
    let below = c.loop-pid-test.true in
    open_found (around (table_of c.args.table.now) c.args.process) c.args.description c.loop-pid.pid c.loop-pid.invariant.first (omega arith) (subst (λ (x : Process). has_description (around (table_of c.args.table.now) x) c.args.description c.loop-pid.pid ≡ true) c.process.view_is (sym c.has_description.ensures ∙ c.if-has_description.true))

pub loop-pid-preserved : goal.loop-pid-preserved
loop-pid-preserved c =
    let passes = has_description (around (table_of c.args.table.now) c.args.process) c.args.description in
    let first = c.loop-pid.invariant.first in
    let below = c.loop-pid-test.true in
    let pid = c.loop-pid.pid in
    let next : pid - 1 + 1 ≡ pid + 1 - 1 = omega arith in
    record {
      first = omega arith;
      below = omega arith;
      none = subst (λ (k : ℕ). some_passes passes 1 k ≡ false) next (none_more passes 1 (pid - 1) pid (omega arith) c.loop-pid.invariant.none (subst (λ (x : Process). has_description (around (table_of c.args.table.now) x) c.args.description pid ≡ false) c.process.view_is (sym c.has_description.ensures ∙ c.if-has_description.false)));
    }
