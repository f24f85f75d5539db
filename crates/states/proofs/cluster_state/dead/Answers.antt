use Rattle.std.specs.Prelude.{◌≡◌, ℕ, ◌+◌, Bool, true, false, [], ◌∷◌, ◌++◌, map}
use Rattle.std.proofs.Common.{sym, ap, ◌∙◌, arith}
use Rattle.model.specs.rule.Limits.{most_nodes}
use Rattle.token_server.specs.rule.Parts.{server_state}
use Rattle.token_server.specs.code.Rows.{nodes_where}
use Rattle.token_server.proofs.ReaderLaws.{nodes_where-missing}
use Rattle.states.specs.declared.cluster_state.KnownDead.{KnownDead}
use Rattle.states.specs.rule.States.{known_dead, knows_dead}
use Rattle.states.proofs.ToldLaws.{values-more}
use Rattle.states.proofs.cluster_state.dead.Goals.{then-knows_dead+in_ok-push, else-knows_dead}
use Rattle.states.proofs.cluster_state.dead.Goals as goal

pub loop-place-preserved : goal.loop-place-preserved
loop-place-preserved c =
    let i = c.loop-place.place in
    let s = server_state c.args.server.now in
    let dead = c.loop-place.dead.items in
    let passes : ℕ → Bool = knows_dead s in
    let next : 1 + i ≡ i + 1 = omega arith in
    let known : ℕ → KnownDead = λ k. record { node = i + 1; incarnation = k } in
    elim c.if-knows_dead.branch [
      | then-knows_dead+in_ok-push q ↦
          let there : passes (i + 1) ≡ true = sym c.knows_dead.ensures ∙ q.if-knows_dead.true in
          rw q.dead-is (
          q.in_ok-push.ensures.items
          ∙ ap (λ (k : ℕ). dead ++ known k ∷ []) q.dead-incarnation.ensures
          ∙ values-more (known_dead s) passes i (i + 1) dead next there c.loop-place.invariant
          )
      | else-knows_dead q ↦
          let gone : passes (i + 1) ≡ false = sym c.knows_dead.ensures ∙ q.if-knows_dead.false in
          rw q.dead-is (c.loop-place.invariant ∙ ap (map (known_dead s)) (sym (nodes_where-missing passes i (i + 1) next gone)))
    ]

pub returns : goal.returns
returns c =
    let s = server_state c.args.server.now in
    let last : c.loop-place.place ≡ most_nodes = omega (arith, c.loop-place-test.false, c.loop-place.auto.place-end) in
    c.loop-place.invariant ∙ ap (λ (n : ℕ). map (known_dead s) (nodes_where (knows_dead s) n)) last
