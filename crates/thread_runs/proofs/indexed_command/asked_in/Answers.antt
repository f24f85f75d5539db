use Rattle.std.proofs.Common.{rules}
use Rattle.std.proofs.lemmas.Iterator.{YieldsList-from_slice, items_from_collect}
use Rattle.std.proofs.lemmas.Iterator.Consumers.{YieldsList-at, YieldsList-from_enumerate, YieldsList-from_filter_map}
use Rattle.thread_runs.specs.rule.Runs.{asked_at}
use Rattle.thread_runs.proofs.indexed_command.asked_in.Goals as goal

pub returns : goal.returns
returns c = items_from_collect c.collect.result c.collect.ensures.ran
    (YieldsList-from_filter_map _ asked_at
    (YieldsList-at c.filter_map.ensures.source (YieldsList-from_enumerate (YieldsList-at c.enumerate.ensures.source (YieldsList-from_slice c.args.entries.now c.iter.ensures.rest)) c.enumerate.ensures.count))
    c.filter_map.ensures.closure
    (λ x r q k. search rules))
