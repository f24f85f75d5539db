use Rattle.std.proofs.Common.{◌+◌, take, List, subst, sym}
use Rattle.std.proofs.lemmas.List.{take_all}
use Rattle.messages.specs.declared.event.Event.{Event}
use Rattle.node_core.specs.declared.open_call.OpenCall.{OpenCall}
use Rattle.player.specs.code.Rounds.{Adds, IsRetryOf}
use Rattle.player.proofs.DueLists.{next_retry, no_retries}
use Rattle.player.proofs.rounds.push_retries_of.Goals as goal

pub loop-call-init : goal.loop-call-init
loop-call-init c = no_retries c.args.node c.args.calls.now c.args.events.now.items

pub loop-call-preserved : goal.loop-call-preserved
loop-call-preserved c =
    subst (λ (l : List Event). Adds (IsRetryOf c.args.node (take (c.loop-call.call-index + 1) c.args.calls.now)) c.args.events.now.items l) (sym c.in_ok-push.ensures.items)
    (next_retry c.args.node c.args.calls.now c.loop-call.call-index c.call-item.result c.args.events.now.items c.loop-call.events.items c.loop-call-test.true c.call-item.is c.loop-call.invariant)

pub returns : goal.returns
returns c =
    subst (λ (l : List OpenCall). Adds (IsRetryOf c.args.node l) c.args.events.now.items c.loop-call.events.items) (take_all c.loop-call.call-index c.args.calls.now c.loop-call-test.false) c.loop-call.invariant
