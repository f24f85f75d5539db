use Rattle.std.proofs.Common.{subst, List}
use Rattle.messages.specs.declared.event.Event.{Event}
use Rattle.cluster_core.specs.rule.Parts.{world_state}
use Rattle.player.specs.code.Rounds.{Adds, IsLearn}
use Rattle.player.proofs.DueLists.{all_due}
use Rattle.player.proofs.rounds.due.Goals as goal

pub returns : goal.returns
returns c =
    let w = world_state c.args.world.now in
    all_due w c.push_learns.new.events.items c.push_retries.new.events.items c.push_resends.new.events.items
    (subst (λ (l : List Event). Adds (IsLearn w) l c.push_learns.new.events.items) c.new-events.ensures.items c.in_ok-push_learns.ensures) c.in_ok-push_retries.ensures c.in_ok-push_resends.ensures
