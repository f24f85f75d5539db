use Rattle.std.specs.Prelude.{◌≡◌, false}
use Rattle.std.proofs.Common.{sym, ap, ◌∙◌}
use Rattle.token_server.specs.rule.State.{awaits}
use Rattle.token_server.specs.rule.Parts.{ServerParts, server_state}
use Rattle.token_server.proofs.server.Server.awaits_after.Goals as goal

pub returns-else-self : goal.returns-else-self
returns-else-self c =
    let none : awaits (server_state c.args.self.now) ≡ false = sym (c.self.invariant.awaited ∙ ap (λ (q : ServerParts). awaits (server_state q)) c.self.view_is) ∙ c.if-self.false in
    c.if-self.false ∙ sym (c.requires none)
