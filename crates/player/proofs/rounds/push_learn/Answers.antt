use Rattle.std.proofs.Common.{◌≤◌, ◌∙◌, List, arith, subst, sym}
use Rattle.messages.specs.declared.event.Event.{Event}
use Rattle.cluster_core.specs.rule.Parts.{world_state}
use Rattle.player.specs.code.Rounds.{Adds, IsLearnAt}
use Rattle.player.proofs.DueLists.{adds_none, no_dead, one_dead}
use Rattle.player.proofs.rounds.push_learn.Goals as goal

pub returns-then-incarnation-eq0 : goal.returns-then-incarnation-eq0
returns-then-incarnation-eq0 c =
    let w = world_state c.args.world.now in
    adds_none (IsLearnAt w c.args.file c.args.node) c.args.events.now.items
    (λ event is. no_dead w c.args.file c.args.node event (sym c.dead-incarnation.ensures ∙ c.if-incarnation-eq0.true) is)

pub returns : goal.returns
returns c =
    let w = world_state c.args.world.now in
    let dead = c.dead-incarnation.result in
    let some = c.if-incarnation-eq0.false in
    let least : 1 ≤ dead = omega (arith, some) in
    subst (λ (l : List Event). Adds (IsLearnAt w c.args.file c.args.node) c.args.events.now.items l) (sym c.in_ok-push.ensures.items)
    (one_dead w c.args.file c.args.node dead c.args.events.now.items c.requires.works c.requires.node c.dead-incarnation.ensures least)
