use Rattle.std.specs.Prelude.{◌≡◌, ℕ, ◌+◌, Bool, true, false, All, map}
use Rattle.std.proofs.Common.{sym, ap, subst, ◌∙◌, arith}
use Rattle.std.proofs.lemmas.List.Elements.{All-push}
use Rattle.model.specs.rule.Limits.{most_nodes}
use Rattle.token_server.specs.code.Rows.{nodes_where}
use Rattle.token_server.proofs.ReaderLaws.{nodes_where-missing}
use Rattle.cluster_core.specs.rule.Parts.{world_state}
use Rattle.cluster_core.specs.rule.World.{has_node}
use Rattle.states.specs.declared.cluster_state.ToldNode.{ToldNode}
use Rattle.states.specs.rule.States.{IsToldNode}
use Rattle.states.proofs.ToldLaws.{numbers-more}
use Rattle.states.proofs.cluster_state.nodes.Goals.{then-has_node+in_ok-of+in_ok-push, else-has_node}
use Rattle.states.proofs.cluster_state.nodes.Goals as goal

pub loop-place-preserved : goal.loop-place-preserved
loop-place-preserved c =
    let i = c.loop-place.place in
    let w = world_state c.args.world.now in
    let nodes = c.loop-place.nodes.items in
    let passes : ℕ → Bool = has_node w in
    let number : ToldNode → ℕ = λ n. n.node in
    let next : 1 + i ≡ i + 1 = omega arith in
    elim c.if-has_node.branch [
      | then-has_node+in_ok-of+in_ok-push q ↦
          let t : ToldNode = q.in_ok-of.field-0 in
          let pushed = q.in_ok-push.ensures.items in
          let there : passes (i + 1) ≡ true = sym c.has_node.ensures ∙ q.if-has_node.true in
          rw q.nodes-is (record {
            numbers = ap (map number) pushed ∙ numbers-more number passes i (i + 1) nodes t next there q.in_ok-of.ensures.node c.loop-place.invariant.numbers;
            each = subst (All (IsToldNode w)) (sym pushed) (All-push (IsToldNode w) nodes t c.loop-place.invariant.each q.in_ok-of.ensures.told);
          })
      | else-has_node q ↦
          let gone : passes (i + 1) ≡ false = sym c.has_node.ensures ∙ q.if-has_node.false in
          rw q.nodes-is (record {
            numbers = c.loop-place.invariant.numbers ∙ sym (nodes_where-missing passes i (i + 1) next gone);
            each = c.loop-place.invariant.each;
          })
    ]

pub returns-clause-numbers : goal.returns-clause-numbers
returns-clause-numbers c =
    let last : c.loop-place.place ≡ most_nodes = omega (arith, c.loop-place-test.false, c.loop-place.auto.place-end) in
    c.loop-place.invariant.numbers ∙ ap (nodes_where (has_node (world_state c.args.world.now))) last
