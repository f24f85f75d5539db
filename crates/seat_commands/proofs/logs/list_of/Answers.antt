use Rattle.seat_text.specs.rule.Logs.{IsList}
use Rattle.seat_commands.proofs.Having.{has_text}
use Rattle.seat_commands.proofs.logs.list_of.Goals as goal

pub returns-in-Ok-clause-list : goal.returns-in-Ok-clause-list
returns-in-Ok-clause-list g c =
    has_text (g.S.Store.holds c.args.store.now c.args.path.now) c.in_ok-text.text c.as_str.result.now (λ text. IsList text c.in-Ok.list.nodes c.in-Ok.list.files c.in-Ok.list.changes.items) c.as_str.ensures.value c.in_ok-text.ensures.text c.in-Ok.ensures
