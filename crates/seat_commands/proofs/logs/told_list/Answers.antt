use Rattle.std.proofs.Common.{ap, sym, ◌∙◌}
use Rattle.seat_commands.specs.rule.Merging.{told_earlier}
use Rattle.seat_commands.proofs.logs.told_list.Goals as goal

pub returns-clause-told : goal.returns-clause-told
returns-clause-told c = (c.in-Some.log.now, (_, c.in-Some.ensures.lookup.3.0, sym c.in-Some.ensures.lookup.1), c.in_ok-told_earlier.ensures ∙ ap told_earlier c.as_slice-2.ensures.value)
