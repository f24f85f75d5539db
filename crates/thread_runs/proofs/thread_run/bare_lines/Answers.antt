use Rattle.std.proofs.Common.{rules}
use Rattle.std.proofs.lemmas.Iterator.{YieldsList-from_map, YieldsList-from_slice, items_from_collect}
use Rattle.std.proofs.lemmas.Iterator.Consumers.{YieldsList-at}
use Rattle.thread_runs.proofs.thread_run.bare_lines.Goals as goal

pub returns : goal.returns
returns c = items_from_collect c.collect.result c.collect.ensures.ran
    (YieldsList-from_map _ (λ l. l.line) (YieldsList-at c.map.ensures.source (YieldsList-from_slice c.args.lines.now c.iter.ensures.rest)) c.map.ensures.closure (λ x r q k. search rules))
