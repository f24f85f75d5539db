use Rattle.std.proofs.Common.{◌≡◌, ◌≤◌, ◌∙◌, ap, sym, subst}
use Rattle.intervals.specs.rule.Bytes.{Range}
use Rattle.messages.specs.rule.TokenRuns.{Wants}
use Rattle.token_set.specs.rule.Tokens.{token_of, desired}
use Rattle.node_core.specs.rule.Parts.{NodeParts, node_state}
use Rattle.node_core.proofs.NodeLaws.{desired-ends}
use Rattle.node_core.proofs.node.Node.wanted_by.Goals as goal

pub new-requires-clause-ends_within : goal.new-requires-clause-ends_within
new-requires-clause-ends_within c =
    let P : Range → Type 0 = λ s. c.args.call.now.span.hi ≤ s.hi in
    subst P (sym c.desired.ensures) (desired-ends c.policy.result _ c.args.call.now.span c.requires.span.ends)

pub returns : goal.returns
unfolding node_state
returns c =
    let s = node_state c.args.self.now in
    let policy : c.policy.result ≡ s.shape.policy = c.policy.ensures ∙ ap (λ (p : NodeParts). p.shape.policy) c.self.view_is in
    let made : Range → Wants = λ r. record { required = c.args.call.now.span; desired = r } in
    c.new.ensures ∙ ap made (c.desired.ensures ∙ (λ i. desired (policy i) (token_of c.args.token.now) c.args.call.now.span))
