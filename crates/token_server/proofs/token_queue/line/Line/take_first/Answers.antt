use Rattle.std.proofs.Common.{sym, ◌∙◌}
use Rattle.token_server.proofs.LineLaws.{filter-first}
use Rattle.token_server.proofs.token_queue.line.Line.take_first.Goals as goal

pub returns-in-Some-clause-requests : goal.returns-in-Some-clause-requests
returns-in-Some-clause-requests c = c.take_out.ensures.requests ∙ filter-first c.args.self.now.requests c.in-Some.request (sym c.first.ensures ∙ c.in-Some.is) c.len-count.ensures.distinct
