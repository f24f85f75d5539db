use Rattle.std.specs.Prelude.{ℕ, ◌+◌, Option}
use Rattle.std.proofs.Common.{refl, sym, subst, ◌∙◌, arith}
use Rattle.token_server.specs.rule.Rows.{Row}
use Rattle.token_server.specs.code.Rows.{NoneExclusive}
use Rattle.token_server.proofs.KnownNodeLaws.{rows_of-set_same, deaths_of-set, deaths_with-there}
use Rattle.token_server.proofs.known_nodes.known_nodes.KnownNodes.bury.Goals as goal

pub invariant_of-self : goal.invariant_of-self
invariant_of-self c = λ unset.
    subst (λ (rows : ℕ → Option Row). NoneExclusive rows)
    (sym (rows_of-set_same c.self.inside.nodes.items (c.args.place + 1) c.args.place _ (record { dead = c.args.dead; row = c.index_mut.result.now.row }) (omega arith, omega (arith, c.if-place-len.true)) (omega arith) c.index_mut.ensures.value refl))
    (c.self.invariant unset)

pub returns-then-place-len-clause-rows : goal.returns-then-place-len-clause-rows
returns-then-place-len-clause-rows c =
    rw (← c.self.view_is) (rows_of-set_same c.self.inside.nodes.items (c.args.place + 1) c.args.place _ (record { dead = c.args.dead; row = c.index_mut.result.now.row }) (omega arith, omega (arith, c.if-place-len.true)) (omega arith) c.index_mut.ensures.value refl)

pub returns-then-place-len-clause-deaths : goal.returns-then-place-len-clause-deaths
returns-then-place-len-clause-deaths c =
    rw (← c.self.view_is)
    (deaths_of-set c.self.inside.nodes.items (c.args.place + 1) c.args.place _ (record { dead = c.args.dead; row = c.index_mut.result.now.row }) (λ dead. c.args.dead) (omega arith, omega (arith, c.if-place-len.true)) (omega arith) c.index_mut.ensures.value refl
    ∙ deaths_with-there c.self.inside.nodes.items c.args.place c.args.dead (omega (arith, c.if-place-len.true)))
