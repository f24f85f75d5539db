use Rattle.std.specs.Prelude.{◌+◌}
use Rattle.std.proofs.Common.{refl, arith}
use Rattle.token_server.proofs.KnownNodeLaws.{deaths_of-set_same, given-set, given-past, exclusive-noted}
use Rattle.token_server.proofs.known_nodes.known_nodes.KnownNodes.give.Goals as goal

pub returns-then-place-len-clause-rows : goal.returns-then-place-len-clause-rows
returns-then-place-len-clause-rows c = rw (← c.self.view_is) (given-set _ _ _ _ c.args.given (omega (arith, c.if-place-len.true)) refl c.index_mut.ensures.value c.put.ensures.row)

pub returns-then-place-len-clause-deaths : goal.returns-then-place-len-clause-deaths
returns-then-place-len-clause-deaths c = rw (← c.self.view_is) (deaths_of-set_same _ (c.args.given.place + 1) _ _ _ (omega arith, omega (arith, c.if-place-len.true)) (omega arith) c.index_mut.ensures.value c.put.ensures.dead)

pub returns-else-place-len-clause-rows : goal.returns-else-place-len-clause-rows
returns-else-place-len-clause-rows c = rw (← c.self.view_is) (given-past _ c.args.given (omega (arith, c.if-place-len.false)))

pub invariant_of-self : goal.invariant_of-self
invariant_of-self c =
    exclusive-noted c.self.inside.nodes.items c.args.given.place c.put.new.self c.index.result.now _ _ (omega (arith, c.if-place-len.true)) c.self.invariant c.index.ensures c.notes_exclusive-self-inside.ensures
