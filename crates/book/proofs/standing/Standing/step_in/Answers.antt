use Rattle.std.proofs.Common.{sym, subst}
use Rattle.messages.specs.declared.event.Event.{Event}
use Rattle.book.specs.rule.States.{ActorState, MayTake, StandingFields, state_of}
use Rattle.book.proofs.Copies.{plans_on}
use Rattle.book.proofs.standing.Standing.step_in.Goals as goal

pub invariant_of-self-2 : goal.invariant_of-self-2
invariant_of-self-2 c =
    let step = c.args.step in
    let may : MayTake (state_of c.args.self.now.copy) step.event = (_, step.outcome, plans_on c.args.self.now.copy step.event step.edit step.outcome c.requires.plans) in
    let inside = subst (λ (x : StandingFields). MayTake (state_of x.copy) step.event) (sym c.self.view_is) may in
    let after = subst (λ (s : ActorState). MayTake s step.event) (sym c.step_in.ensures.state) inside in
    subst (λ (e : Event). MayTake (state_of c.step_in.new.self) e) (sym c.requires.owed) after
