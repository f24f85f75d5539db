use Rattle.std.proofs.Common.{sym, ap, ◌∙◌}
use Rattle.token_server.specs.rule.Actives.{ActiveParts}
use Rattle.token_server.proofs.ActiveLaws.{found-held}
use Rattle.token_server.proofs.token_queue.active.Active.find.Goals as goal

pub returns-in-Some : goal.returns-in-Some
returns-in-Some c = found-held c.args.call _ _ _ (sym c.in-Some.is ∙ c.find.ensures) (c.deref.ensures.value ∙ ap (λ (p : ActiveParts). p.held) c.self.view_is)

pub returns-in-None : goal.returns-in-None
returns-in-None c = found-held c.args.call _ _ _ (sym c.in-None.is ∙ c.find.ensures) (c.deref.ensures.value ∙ ap (λ (p : ActiveParts). p.held) c.self.view_is)
