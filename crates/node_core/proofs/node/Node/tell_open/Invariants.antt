use Rattle.std.specs.Prelude.{◌≡◌, ◌<◌, ◌+◌, All}
use Rattle.model.specs.rule.Descriptors.{has_open}
use Rattle.descriptors.specs.rule.Rows.{processes}
use Rattle.node_core.specs.rule.Try.{with_freed_of}
use Rattle.node_core.specs.code.Plans.{effect_of, PartsFit}
use Rattle.node_core.proofs.node.Node.tell_open.Given as goal

abbrev pub invariant-loop-before : goal.invariant-loop-before
invariant-loop-before l = record {
  value : with_freed_of (has_open (processes l.self.processes) l.pid) l.before (effect_of l.self l.fn.effect) ≡ effect_of l.self l.told;
  fits : PartsFit l.self l.told.edit;
  rises : All (λ f. f < l.before + 1) l.told.edit.value.freed;
}
