use Rattle.std.proofs.Common.{◌≡◌, ◌∙◌, sym, subst}
use Rattle.cluster_core.specs.rule.Parts.{world_state}
use Rattle.book.specs.rule.States.{is_declared, StandingFields, standing_state, state_of}
use Rattle.book.proofs.Copies.{declared_stays}
use Rattle.book.proofs.standing.Standing.is_declared_in.Goals as goal

pub returns : goal.returns
returns c =
    let P : StandingFields → Type 0 = λ x. c.is_declared_in.result ≡ is_declared (world_state c.args.world.now) (standing_state x) in
    subst P c.self.view_is (c.is_declared_in.ensures ∙ sym (declared_stays (world_state c.args.world.now) (state_of c.self.inside.copy) c.self.inside.behind))
