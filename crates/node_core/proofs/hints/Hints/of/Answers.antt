use Rattle.std.proofs.Common.{sym}
use Rattle.std.proofs.lemmas.List.{take_all}
use Rattle.std.proofs.lemmas.List.Elements.{All-more, All-weaker, All-same}
use Rattle.node_core.specs.code.Plans.{IsHinted}
use Rattle.node_core.proofs.hints.Hints.of.Goals as goal

pub loop-call-preserved : goal.loop-call-preserved
loop-call-preserved c =
    All-more (IsHinted c.add.new.self) c.args.calls.now c.loop-call.call-index c.call-item.result c.loop-call-test.true
    (All-weaker (IsHinted c.loop-call.hints) (IsHinted c.add.new.self) c.add.ensures.kept _ c.loop-call.invariant)
    (rw (← c.call-item.is) c.add.ensures.added)

pub returns : goal.returns
returns c = All-same (IsHinted c.loop-call.hints) _ _ (sym (take_all c.loop-call.call-index c.args.calls.now c.loop-call-test.false)) c.loop-call.invariant
