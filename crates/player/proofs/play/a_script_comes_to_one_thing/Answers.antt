use Rattle.player.proofs.OneOutcome.{comes_to_one, full_comes_to_nothing}
use Rattle.player.proofs.play.a_script_comes_to_one_thing.Goals as goal

pub returns-clause-one : goal.returns-clause-one
returns-clause-one c = comes_to_one

pub returns-clause-or_full : goal.returns-clause-or_full
returns-clause-or_full c = full_comes_to_nothing
