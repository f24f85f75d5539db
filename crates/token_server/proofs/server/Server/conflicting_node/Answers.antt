use Rattle.std.specs.Prelude.{◌≡◌}
use Rattle.std.proofs.Common.{refl, arith, sym, ap, ◌∙◌}
use Rattle.token_server.specs.rule.Parts.{ServerParts}
use Rattle.token_server.specs.code.Edits.{reached}
use Rattle.token_server.proofs.GrantLaws.{conflicts_at, first-next, first-none}
use Rattle.token_server.proofs.server.Server.conflicting_node.Goals as goal

pub returns-then-stands_in_way-clause-within : goal.returns-then-stands_in_way-clause-within
returns-then-stands_in_way-clause-within c =
    let nodes : c.nodes-place-end.result ≡ c.args.self.now.shape.nodes = c.nodes-place-end.ensures.value ∙ ap (λ (p : ServerParts). p.shape.nodes) c.self.view_is in
    let found = first-next (conflicts_at (reached c.args.self.now c.args.rows.now) c.args.request.now) c.args.self.now.shape.nodes c.loop-place.place (omega arith) c.loop-place.invariant (sym c.stands_in_way.ensures ∙ c.if-stands_in_way.true) in
    (λ t. omega (arith, found), λ h. refl)

pub returns-then-stands_in_way-clause-value : goal.returns-then-stands_in_way-clause-value
returns-then-stands_in_way-clause-value c =
    let nodes : c.nodes-place-end.result ≡ c.args.self.now.shape.nodes = c.nodes-place-end.ensures.value ∙ ap (λ (p : ServerParts). p.shape.nodes) c.self.view_is in
    sym (first-next (conflicts_at (reached c.args.self.now c.args.rows.now) c.args.request.now) c.args.self.now.shape.nodes c.loop-place.place (omega arith) c.loop-place.invariant (sym c.stands_in_way.ensures ∙ c.if-stands_in_way.true))

pub returns-clause-within : goal.returns-clause-within
returns-clause-within c =
    let nodes : c.nodes-place-end.result ≡ c.args.self.now.shape.nodes = c.nodes-place-end.ensures.value ∙ ap (λ (p : ServerParts). p.shape.nodes) c.self.view_is in
    let none = first-none (conflicts_at (reached c.args.self.now c.args.rows.now) c.args.request.now) c.args.self.now.shape.nodes c.loop-place.place (omega arith) c.loop-place.invariant in
    (λ t. absurd (cc), λ h. absurd (omega (arith, none)))
