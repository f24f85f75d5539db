use Rattle.std.proofs.Common.{arith, sym, ◌∙◌}
use Rattle.model.proofs.SearchLaws.{first-found, first-none}
use Rattle.descriptors.proofs.processes.Processes.lowest_fd.Goals as goal

pub returns-then-is_free : goal.returns-then-is_free
returns-then-is_free c = (omega arith, sym (first-found _ 0 64 c.loop-fd.fd c.loop-fd.invariant (omega arith) (omega arith) (sym c.is_free.ensures ∙ c.if-is_free.true)))

pub returns : goal.returns
returns c = first-none _ 0 64 c.loop-fd.fd c.loop-fd.invariant (omega arith)
