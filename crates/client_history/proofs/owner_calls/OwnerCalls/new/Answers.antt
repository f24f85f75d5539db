use Rattle.std.proofs.Common.{length, refl}
use Rattle.std.proofs.lemmas.Option.{slice_get_read}
use Rattle.client_history.proofs.owner_calls.OwnerCalls.new.Goals as goal

pub loop-index-preserved : goal.loop-index-preserved
loop-index-preserved c =
    let calls = c.args.calls.now in
    (c.in_ok-add.ensures {u = tt}) calls (slice_get_read calls (length calls) c.loop-index.index c.index-calls-index.result refl c.loop-index-test.true c.index-calls-index.is) c.loop-index.invariant
