use Rattle.std.proofs.Common.{◌≡◌, ℕ, ◌+◌, length, refl, subst, arith}
use Rattle.std.proofs.lemmas.Option.{slice_get_read}
use Rattle.fcntl_table.specs.rule.Tables.{table_of}
use Rattle.run_clients.specs.rule.Seen.{HasOpened}
use Rattle.run_clients.proofs.LastCalls.{opened_more, opened_none}
use Rattle.run_clients.proofs.open_calls.push_open_calls.Goals as goal

pub loop-index-init : goal.loop-index-init
loop-index-init c = record { below = omega arith; opened = opened_none c.args.entries.now (table_of c.args.table.now) c.args.seen.now.items }

pub loop-index-preserved : goal.loop-index-preserved
loop-index-preserved c =
    let es = c.args.entries.now in
    let i = c.loop-index.index in
    let below = c.loop-index-test.true in
    record {
      below = omega arith;
      opened = opened_more es (table_of c.args.table.now) 0 i (i + 1 + 1) c.args.seen.now.items c.loop-index.seen.items c.push_open_call.new.seen.items (omega arith) (omega arith) c.loop-index.invariant.opened
          (c.in_ok-push_open_call.ensures es i (i, refl, slice_get_read es _ i c.index-entries-index.result refl c.loop-index-test.true c.index-entries-index.is) refl c.requires.times);
    }

pub returns : goal.returns
returns c =
    let below = c.loop-index.invariant.below in
    let all = c.loop-index-test.false in
    let whole : c.loop-index.index ≡ length c.args.entries.now = omega arith in
    subst (λ (n : ℕ). HasOpened c.args.entries.now (table_of c.args.table.now) 0 (n + 1) c.args.seen.now.items c.loop-index.seen.items) whole c.loop-index.invariant.opened
