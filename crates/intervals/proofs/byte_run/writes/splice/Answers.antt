use Rattle.std.proofs.Common.{◌≡◌, ◌+◌, ◌++◌, ℕ, ap, sym, ◌∙◌, arith}
use Rattle.intervals.specs.rule.Bytes.{Range, greatest, put}
use Rattle.intervals.specs.code.Runs.{EndsBelow}
use Rattle.intervals.specs.rule.Runs.{value_at}
use Rattle.intervals.proofs.Runs.{ends_below_le, put_none}
use Rattle.intervals.proofs.Split.{at-back}
use Rattle.intervals.proofs.StartsWith.{put-in, put-below}
use Rattle.intervals.proofs.Written.{ends_below-rest}
use Rattle.intervals.proofs.byte_run.writes.splice.Given.{Over}
use Rattle.intervals.proofs.byte_run.writes.splice.Goals as goal
use Rattle.intervals.proofs.byte_run.writes.splice.Goals.{in-Some, in_default}

pub append_above-requires-clause-below : goal.append_above-requires-clause-below
append_above-requires-clause-below g c =
    elim c.match-value.branch [
      | in-Some w ↦ rw w.new-is w.append.ensures.below
      | in_default w ↦ rw w.new-is (ends_below_le _ _ _ (omega (arith, c.span.invariant.0)) c.append_below.ensures.below)
    ]

pub append_above-requires-clause-bounded : goal.append_above-requires-clause-bounded
append_above-requires-clause-bounded g c =
    let all : EndsBelow (c.split_before.result.0.now ++ c.split_before.result.1.now) (greatest + 1) = rw (← c.split_before.ensures.whole) c.requires.bounded in
    ends_below-rest c.split_before.result.0.now c.split_before.result.1.now _ all

-- the values before the runs above the span are added
middle : (g : Over) (c : goal.After-append_above g) (b : ℕ) → value_at c.match-value.new.items b ≡ put (value_at c.append_below.new.new.items) (record { lo = c.span.inside.lo; hi = c.span.inside.hi }) c.args.value b
middle g c b =
    elim c.match-value.branch [
      | in-Some w ↦ rw (w.new-is, w.in-Some.is) (w.append.ensures.bytes b)
      | in_default w ↦ rw (w.new-is, w.in_default.is) (put_none _ _ _ b c.append_below.ensures.below)
    ]

pub returns-clause-below : goal.returns-clause-below
returns-clause-below g c b lt =
    let lo : c.span.inside.lo ≡ c.args.span.lo = ap (λ (s : Range). s.lo) c.span.view_is in
    c.append_above.ensures.under b (omega (arith, lo, lt, c.span.invariant.0)) ∙ (middle g c b ∙ (put-below (value_at c.append_below.new.new.items) (record { lo = c.span.inside.lo; hi = c.span.inside.hi }) c.args.value b (omega (arith, lo, lt)) ∙ c.append_below.ensures.inside b (omega (arith, lo, lt))))

pub returns-clause-inside : goal.returns-clause-inside
returns-clause-inside g c b from to =
    let lo : c.span.inside.lo ≡ c.args.span.lo = ap (λ (s : Range). s.lo) c.span.view_is in
    let hi : c.span.inside.hi ≡ c.args.span.hi = ap (λ (s : Range). s.hi) c.span.view_is in
    c.append_above.ensures.under b (omega (arith, hi, to)) ∙ (middle g c b ∙ put-in (value_at c.append_below.new.new.items) (record { lo = c.span.inside.lo; hi = c.span.inside.hi }) c.args.value b (omega (arith, lo, from)) (omega (arith, hi, to)))

pub returns-clause-above : goal.returns-clause-above
returns-clause-above g c b past =
    let hi : c.span.inside.hi ≡ c.args.span.hi = ap (λ (s : Range). s.hi) c.span.view_is in
    let split = c.split_before.ensures in
    rw split.whole (c.append_above.ensures.inside b (omega (arith, hi, past)) ∙ sym (at-back c.split_before.result.0.now c.split_before.result.1.now (c.span.inside.hi + 1) b split.ended (omega (arith, hi, past))))
