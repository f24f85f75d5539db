use Rattle.std.proofs.Common.{sym, ap, ◌∙◌}
use Rattle.token_server.proofs.KnownNodeLaws.{given_rows-last, given_rows-passed}
use Rattle.token_server.proofs.known_nodes.known_nodes.KnownNodes.give_last.Goals as goal

pub returns-then-not-has_place-clause-rows : goal.returns-then-not-has_place-clause-rows
returns-then-not-has_place-clause-rows c = λ n.
    given_rows-last _ _ _ c.args.last n (ap (λ f. f n) c.give.ensures.rows) c.give.ensures.others (sym c.has_place.ensures ∙ c.if-not-has_place.true)

pub returns-else-not-has_place-clause-rows : goal.returns-else-not-has_place-clause-rows
returns-else-not-has_place-clause-rows c = λ n. given_rows-passed _ _ c.args.last n (sym c.has_place.ensures ∙ c.if-not-has_place.false)
