use Rattle.std.proofs.Common.{arith, true, refl}
use Rattle.messages.specs.rule.Members.{incarnation_of}
use Rattle.messages.proofs.Rules.{begun_empty, begun_more, first_is_first}
use Rattle.messages.proofs.crowd.Crowd.new.Goals as goal

pub loop-index-init : goal.loop-index-init
loop-index-init c =
    rw c.new-nodes.ensures.items (record { alive = begun_empty (λ m. m.alive) (λ n. true); first = begun_empty (λ m. incarnation_of m.alive m.last) (λ n. 1) })

pub loop-index-preserved : goal.loop-index-preserved
loop-index-preserved c = record {
  alive = begun_more (λ m. m.alive) (λ n. true) _ _ _ _ c.loop-index.invariant.alive refl c.in_ok-push.ensures.items;
  first = begun_more (λ m. incarnation_of m.alive m.last) (λ n. 1) _ _ _ _ c.loop-index.invariant.first refl c.in_ok-push.ensures.items;
}

pub returns : goal.returns
returns c = first_is_first _ _ (omega (arith, c.loop-index.invariant.alive.there, c.loop-index-test.false, c.loop-index.auto.index-end)) c.loop-index.invariant.alive.first c.loop-index.invariant.first.first
