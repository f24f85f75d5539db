use Rattle.std.proofs.Common.{◌∙◌, ℕ, drop, subst}
use Rattle.std.proofs.lemmas.Result.{err_from_is_err_and}
use Rattle.cluster_core.specs.rule.Parts.{WorldParts, world_state}
use Rattle.cluster_core.specs.rule.Rounds.{AnswersNone}
use Rattle.player.specs.rule.Rounds.{NoneOpen}
use Rattle.player.proofs.QuietRuns.{quietly_append, quietly_none}
use Rattle.player.proofs.RoundEnds.{ends_first, ends_next, ends_none_open, ends_quietly, ends_silent, goes_shape, stops_behind}
use Rattle.player.proofs.rounds.rounds.Goals as goal

pub returns-then-not-has_open-clause-goes : goal.returns-then-not-has_open-clause-goes
returns-then-not-has_open-clause-goes c = quietly_none c.args.run.now

pub returns-then-not-has_open-clause-ends : goal.returns-then-not-has_open-clause-ends
returns-then-not-has_open-clause-ends c =
    ends_none_open c.args.run.now c.args.run.now (quietly_none c.args.run.now)
    (subst (λ (w : WorldParts). NoneOpen (world_state w)) c.world.ensures.value (c.has_open.ensures c.if-not-has_open.true))

pub loop-alloc-init : goal.loop-alloc-init
loop-alloc-init c = record {
  ends = ends_first c.args.run.now c.round.new.run c.in_ok-round.ensures.round;
  shape = goes_shape c.args.run.now c.round.new.run c.in_ok-round.ensures.goes ∙ c.requires;
}

pub returns-in_err-round-2-clause-goes : goal.returns-in_err-round-2-clause-goes
returns-in_err-round-2-clause-goes c =
    quietly_append c.args.run.now c.loop-alloc.run c.round-in-loop-alloc.new.run (ends_quietly c.args.run.now c.loop-alloc.run c.loop-alloc.invariant.ends) c.round-in-loop-alloc.ensures.goes

pub returns-in_err-round-2-clause-stops : goal.returns-in_err-round-2-clause-stops
returns-in_err-round-2-clause-stops c =
    let p = err_from_is_err_and c.from_residual-in_err-round-2.result c.from_residual-in_err-round-2.ensures.1 in
    rw (p.1, p.2) (stops_behind c.args.run.now c.loop-alloc.run c.round-in-loop-alloc.new.run _ (ends_quietly c.args.run.now c.loop-alloc.run c.loop-alloc.invariant.ends) c.in_err-round-2.ensures.stops)

pub returns-then-not-answers_behind-clause-goes : goal.returns-then-not-answers_behind-clause-goes
returns-then-not-answers_behind-clause-goes c =
    quietly_append c.args.run.now c.loop-alloc.run c.round-in-loop-alloc.new.run (ends_quietly c.args.run.now c.loop-alloc.run c.loop-alloc.invariant.ends) c.in_ok-round-2.ensures.goes

pub returns-then-not-answers_behind-clause-ends : goal.returns-then-not-answers_behind-clause-ends
returns-then-not-answers_behind-clause-ends c =
    let none = c.answers_behind.ensures.none c.if-not-answers_behind.true in
    ends_silent c.args.run.now c.loop-alloc.run c.round-in-loop-alloc.new.run c.loop-alloc.invariant.ends c.in_ok-round-2.ensures.round
    (subst (λ (n : ℕ). AnswersNone (drop n c.round-in-loop-alloc.new.run.entries)) c.len-before.ensures.value none)

pub loop-alloc-preserved : goal.loop-alloc-preserved
loop-alloc-preserved c = record {
  ends = ends_next c.args.run.now c.loop-alloc.run c.round-in-loop-alloc.new.run c.loop-alloc.invariant.ends c.in_ok-round-2.ensures.round;
  shape = goes_shape c.loop-alloc.run c.round-in-loop-alloc.new.run c.in_ok-round-2.ensures.goes ∙ c.loop-alloc.invariant.shape;
}

pub returns-clause-goes : goal.returns-clause-goes
returns-clause-goes c = ends_quietly c.args.run.now c.loop-alloc.run c.loop-alloc.invariant.ends

pub returns-clause-ends : goal.returns-clause-ends
returns-clause-ends c =
    ends_none_open c.args.run.now c.loop-alloc.run (ends_quietly c.args.run.now c.loop-alloc.run c.loop-alloc.invariant.ends)
    (subst (λ (w : WorldParts). NoneOpen (world_state w)) c.world-in-loop-alloc.ensures.value (c.has_open-in-loop-alloc.ensures c.loop-alloc-test.false))
