use Rattle.intervals.proofs.Find.{value_at-none}
use Rattle.intervals.proofs.tree_map.TreeMapSpanMap.new.Goals as goal

pub returns-clause-at : goal.returns-clause-at
returns-clause-at g c = rw (c.new.ensures.first, c.new.ensures.rest) (λ i b. value_at-none b i)
