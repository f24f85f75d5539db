use Rattle.std.proofs.Common.{[], rules, refl}
use Rattle.descriptors.specs.rule.Rows.{processes}
use Rattle.descriptors.proofs.RowLaws.{processes-opened}
use Rattle.descriptors.proofs.CountLaws.{counts-none}
use Rattle.descriptors.proofs.processes.Processes.new.Goals as goal

pub invariant_of-result : goal.invariant_of-result
invariant_of-result c = (rw c.new.ensures.items (search rules), rw (c.new.ensures.items, c.new-2.ensures) refl, rw (c.new.ensures.items, c.new-2.ensures) (counts-none (processes []) (λ p k. processes-opened [] p k)))
