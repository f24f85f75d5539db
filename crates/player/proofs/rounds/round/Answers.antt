use Rattle.std.proofs.Common.{◌≡◌, ◌∙◌, ℕ, List, ap, length, subst, sym}
use Rattle.std.proofs.lemmas.List.Elements.{All-weaker}
use Rattle.std.proofs.lemmas.Result.{err_from_is_err_and, IfErr-weaker, IfOk-weaker}
use Rattle.messages.specs.declared.message.Message.{Message}
use Rattle.cluster_core.specs.rule.Parts.{WorldParts, world_state}
use Rattle.cluster_core.specs.rule.Rounds.{IsQuiet}
use Rattle.player.specs.rule.Rounds.{IsDue}
use Rattle.player.specs.code.Rounds.{AreDue, Arrives}
use Rattle.player.proofs.DueLists.{due_quiet}
use Rattle.player.proofs.QuietRuns.{quietly_append, quietly_none}
use Rattle.player.proofs.RoundEnds.{makes_round, stops_due, stops_sent}
use Rattle.player.proofs.rounds.round.Goals as goal

pub returns-in_err-events-clause-goes : goal.returns-in_err-events-clause-goes
returns-in_err-events-clause-goes c = quietly_none c.args.run.now

pub take_all-requires : goal.take_all-requires
take_all-requires c =
    let w = world_state c.args.run.now.world in
    let listed : AreDue w c.in_ok-events.events.items = subst (λ (p : WorldParts). AreDue (world_state p) c.in_ok-events.events.items) c.world-2.ensures.value c.in_ok-events.ensures in
    let due : AreDue w c.as_slice.result.now = subst (AreDue w) (sym c.as_slice.ensures.value) listed in
    All-weaker (IsDue w) IsQuiet (due_quiet w) c.as_slice.result.now due.each

pub returns-in_err-take_all-clause-stops : goal.returns-in_err-take_all-clause-stops
returns-in_err-take_all-clause-stops c =
    let w = world_state c.args.run.now.world in
    let listed : AreDue w c.in_ok-events.events.items = subst (λ (p : WorldParts). AreDue (world_state p) c.in_ok-events.events.items) c.world-2.ensures.value c.in_ok-events.ensures in
    let due : AreDue w c.as_slice.result.now = subst (AreDue w) (sym c.as_slice.ensures.value) listed in
    let p = err_from_is_err_and c.from_residual-in_err-take_all.result c.from_residual-in_err-take_all.ensures.1 in
    rw (p.1, p.2) (stops_due c.args.run.now c.take_all.new.run c.as_slice.result.now _ due c.take_all.ensures.goes c.in_err-take_all.ensures.stops)

pub returns-clause-stops : goal.returns-clause-stops
returns-clause-stops c =
    let goes = quietly_append c.args.run.now c.take_all.new.run c.deliver_from.new.run c.take_all.ensures.goes c.deliver_from.ensures.goes in
    IfErr-weaker c.deliver_from.result _ _ (λ refusal stops. stops_sent c.args.run.now c.deliver_from.new.run refusal goes stops) c.deliver_from.ensures.stops

pub returns-clause-goes : goal.returns-clause-goes
returns-clause-goes c = quietly_append c.args.run.now c.take_all.new.run c.deliver_from.new.run c.take_all.ensures.goes c.deliver_from.ensures.goes

pub returns-clause-round : goal.returns-clause-round
returns-clause-round c =
    let w = world_state c.args.run.now.world in
    let listed : AreDue w c.in_ok-events.events.items = subst (λ (p : WorldParts). AreDue (world_state p) c.in_ok-events.events.items) c.world-2.ensures.value c.in_ok-events.ensures in
    let due : AreDue w c.as_slice.result.now = subst (AreDue w) (sym c.as_slice.ensures.value) listed in
    let first : length c.sent-first.result.now ≡ length c.args.run.now.world.sent =
    ap (λ (l : List Message). length l) c.sent-first.ensures ∙ ap (λ (p : WorldParts). length (world_state p).sent) c.world.ensures.value in
    IfOk-weaker c.deliver_from.result _ _
    (λ done arrives. makes_round c.args.run.now c.take_all.new.run c.deliver_from.new.run c.as_slice.result.now due c.in_ok-take_all.ensures.took
    (subst (λ (k : ℕ). Arrives c.take_all.new.run k c.deliver_from.new.run) first arrives))
    c.deliver_from.ensures.arrives
