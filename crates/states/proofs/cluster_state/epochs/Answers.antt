use Rattle.std.specs.Prelude.{◌≡◌, ℕ, ◌+◌, Bool, true, false, [], ◌∷◌, ◌++◌, map, Option, MatchOption}
use Rattle.std.proofs.Common.{sym, ap, subst, ◌∙◌, arith}
use Rattle.messages.specs.rule.Shapes.{most_files}
use Rattle.token_server.specs.code.Rows.{nodes_where}
use Rattle.token_server.proofs.ReaderLaws.{nodes_where-missing}
use Rattle.cluster_core.specs.rule.Parts.{world_state}
use Rattle.cluster_core.specs.rule.World.{has_file}
use Rattle.states.specs.declared.cluster_state.ToldEpoch.{ToldEpoch}
use Rattle.states.specs.rule.States.{told_epoch}
use Rattle.states.proofs.ToldLaws.{values-more}
use Rattle.states.proofs.cluster_state.epochs.Goals.{in-Some+in_ok-push, in_default}
use Rattle.states.proofs.cluster_state.epochs.Goals as goal

pub loop-place-preserved : goal.loop-place-preserved
loop-place-preserved c =
    let i = c.loop-place.place in
    let w = world_state c.args.world.now in
    let epochs = c.loop-place.epochs.items in
    let passes : ℕ → Bool = has_file w in
    let next : 1 + i ≡ i + 1 = omega arith in
    let P : Option ToldEpoch → Type 0 = λ o. MatchOption o (passes (i + 1) ≡ false) (λ e. (passes (i + 1) ≡ true) × (e ≡ told_epoch w (i + 1))) in
    elim c.match-epoch_of.branch [
      | in-Some+in_ok-push q ↦
          let is = subst P q.in-Some.is c.epoch_of.ensures in
          rw q.epochs-is (q.in_ok-push.ensures.items ∙ ap (λ (e : ToldEpoch). epochs ++ e ∷ []) is.1 ∙ values-more (told_epoch w) passes i (i + 1) epochs next is.0 c.loop-place.invariant)
      | in_default q ↦
          let gone : passes (i + 1) ≡ false = subst P q.in_default.is c.epoch_of.ensures in
          rw q.epochs-is (c.loop-place.invariant ∙ ap (map (told_epoch w)) (sym (nodes_where-missing passes i (i + 1) next gone)))
    ]

pub returns : goal.returns
returns c =
    let w = world_state c.args.world.now in
    let last : c.loop-place.place ≡ most_files = omega (arith, c.loop-place-test.false, c.loop-place.auto.place-end) in
    c.loop-place.invariant ∙ ap (λ (n : ℕ). map (told_epoch w) (nodes_where (has_file w) n)) last
