use Rattle.std.proofs.Common.{◌≡◌, ◌∙◌, subst, sym}
use Rattle.std.proofs.lemmas.Result.{err_from_is_err_and, IfErr-weaker, IfOk-weaker}
use Rattle.player.specs.code.Rounds.{PlayerParts, GoesQuietly}
use Rattle.player.proofs.QuietRuns.{quietly_append}
use Rattle.player.proofs.RoundEnds.{calm_behind, goes_shape, stops_behind, stops_sent}
use Rattle.player.proofs.player.Player.go_round.Goals as goal

pub rounds-requires : goal.rounds-requires
rounds-requires c =
    subst (λ (p : PlayerParts). p.run.world.shape ≡ c.args.shape) (sym c.self.view_is)
    (goes_shape c.args.self.now.run c.deliver_rest.new.self.run c.deliver_rest.ensures.goes ∙ c.requires)

pub returns-in_err-deliver_rest-clause-stops : goal.returns-in_err-deliver_rest-clause-stops
returns-in_err-deliver_rest-clause-stops c =
    let p = err_from_is_err_and c.from_residual.result c.from_residual.ensures.1 in
    rw (p.1, p.2) (stops_sent c.args.self.now.run c.deliver_rest.new.self.run _ c.deliver_rest.ensures.goes c.in_err-deliver_rest.ensures.stops)

pub returns-clause-stops : goal.returns-clause-stops
returns-clause-stops c =
    let before = subst (λ (p : PlayerParts). GoesQuietly c.args.self.now.run p.run) (sym c.self.view_is) c.deliver_rest.ensures.goes in
    IfErr-weaker c.rounds.result _ _
    (λ refusal stops. stops_behind c.args.self.now.run c.self.inside.run c.rounds.new.run refusal before stops)
    c.rounds.ensures.stops

pub returns-clause-goes : goal.returns-clause-goes
returns-clause-goes c =
    let before = subst (λ (p : PlayerParts). GoesQuietly c.args.self.now.run p.run) (sym c.self.view_is) c.deliver_rest.ensures.goes in
    quietly_append c.args.self.now.run c.self.inside.run c.rounds.new.run before c.rounds.ensures.goes

pub returns-clause-calm : goal.returns-clause-calm
returns-clause-calm c =
    let before = subst (λ (p : PlayerParts). GoesQuietly c.args.self.now.run p.run) (sym c.self.view_is) c.deliver_rest.ensures.goes in
    IfOk-weaker c.rounds.result _ _
    (λ end rounds. calm_behind c.args.self.now.run c.self.inside.run c.rounds.new.run end before rounds)
    c.rounds.ensures.ends
