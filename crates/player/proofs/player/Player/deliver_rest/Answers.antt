use Rattle.std.proofs.Common.{◌<◌, ℕ, ◌∙◌, ap, length, refl, subst, sym}
use Rattle.std.proofs.lemmas.Option.{slice_get_within}
use Rattle.cluster_core.specs.rule.Journals.{RunFields}
use Rattle.player.specs.code.Rounds.{PlayerParts, GoesQuietly}
use Rattle.player.proofs.QuietRuns.{quietly_append, quietly_none}
use Rattle.player.proofs.player.Player.deliver_rest.Goals as goal

pub loop-alloc-init : goal.loop-alloc-init
loop-alloc-init c = record { goes = quietly_none c.args.self.now.run; refused = refl }

pub deliver-requires : goal.deliver-requires
deliver-requires c =
    let next = c.has_next.ensures.next c.loop-alloc-test.true in
    let IsAtSent : PlayerParts → Type 0 = λ p. p.settled.cursor < length p.run.world.sent in
    let sent : IsAtSent c.has_next.new.self = slice_get_within c.has_next.new.self.run.world.sent c.has_next.new.self.settled.cursor next.0 next.1.sent in
    subst (λ (k : ℕ). k < length c.self.inside.run.world.sent) (sym c.cursor-place.ensures) (subst IsAtSent (sym c.self.view_is) sent)

pub loop-alloc-preserved : goal.loop-alloc-preserved
loop-alloc-preserved c =
    let before = subst (λ (r : RunFields). GoesQuietly c.args.self.now.run r) (sym c.has_next.ensures.run) c.loop-alloc.invariant.goes in
    let inside = subst (λ (p : PlayerParts). GoesQuietly c.args.self.now.run p.run) (sym c.self.view_is) before in
    record {
      goes = quietly_append c.args.self.now.run c.self.inside.run c.deliver.new.run inside c.in_ok-deliver.ensures.goes;
      refused = ap (λ (p : PlayerParts). p.refused) c.self.view_is ∙ (c.has_next.ensures.refused ∙ c.loop-alloc.invariant.refused);
    }

pub returns-in_err-deliver-clause-goes : goal.returns-in_err-deliver-clause-goes
returns-in_err-deliver-clause-goes c =
    let before = subst (λ (r : RunFields). GoesQuietly c.args.self.now.run r) (sym c.has_next.ensures.run) c.loop-alloc.invariant.goes in
    let inside = subst (λ (p : PlayerParts). GoesQuietly c.args.self.now.run p.run) (sym c.self.view_is) before in
    quietly_append c.args.self.now.run c.self.inside.run c.deliver.new.run inside c.deliver.ensures.goes

pub returns-in_err-deliver-clause-refused : goal.returns-in_err-deliver-clause-refused
returns-in_err-deliver-clause-refused c = ap (λ (p : PlayerParts). p.refused) c.self.view_is ∙ (c.has_next.ensures.refused ∙ c.loop-alloc.invariant.refused)

pub returns-clause-goes : goal.returns-clause-goes
returns-clause-goes c = subst (λ (r : RunFields). GoesQuietly c.args.self.now.run r) (sym c.has_next.ensures.run) c.loop-alloc.invariant.goes

pub returns-clause-refused : goal.returns-clause-refused
returns-clause-refused c = c.has_next.ensures.refused ∙ c.loop-alloc.invariant.refused
