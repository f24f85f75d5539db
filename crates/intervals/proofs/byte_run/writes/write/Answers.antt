use Rattle.std.proofs.Common.{◌≡◌, ◌+◌, ◌++◌, ℕ, take, length, sym, ap, ◌∙◌, arith}
use Rattle.std.proofs.Math.Seq.{take-append_seam}
use Rattle.std.proofs.lemmas.List.{length-append}
use Rattle.intervals.specs.rule.Bytes.{greatest, put}
use Rattle.intervals.specs.code.Runs.{AreRuns, EndsBelow}
use Rattle.intervals.specs.rule.Runs.{value_at}
use Rattle.intervals.proofs.Written.{ends_below-both, ends_below-front, ends_below-rest, runs-written, at-written}
use Rattle.intervals.proofs.StartsWith.{put-pieces}
use Rattle.intervals.proofs.byte_run.writes.write.Goals as goal

pub splice-requires-clause-room : goal.splice-requires-clause-room
splice-requires-clause-room g c =
    let all : length c.deref.result.now ≡ length c.split_before.result.0.now + length c.split_before.result.1.now = ap length c.split_before.ensures.whole ∙ length-append c.split_before.result.0.now c.split_before.result.1.now in
    let same = ap length c.deref.ensures.value in
    omega arith

pub overflow_sub-capacity : goal.overflow_sub-capacity
overflow_sub-capacity g c =
    let all : length c.deref.result.now ≡ length c.split_before.result.0.now + length c.split_before.result.1.now = ap length c.split_before.ensures.whole ∙ length-append c.split_before.result.0.now c.split_before.result.1.now in
    let same = ap length c.deref.ensures.value in
    omega arith

pub replace_rest-requires-clause-kept : goal.replace_rest-requires-clause-kept
replace_rest-requires-clause-kept g c =
    let all : length c.deref.result.now ≡ length c.split_before.result.0.now + length c.split_before.result.1.now = ap length c.split_before.ensures.whole ∙ length-append c.split_before.result.0.now c.split_before.result.1.now in
    let same = ap length c.deref.ensures.value in
    omega arith

pub replace_rest-requires-clause-room : goal.replace_rest-requires-clause-room
replace_rest-requires-clause-room g c =
    let all : length c.deref.result.now ≡ length c.split_before.result.0.now + length c.split_before.result.1.now = ap length c.split_before.ensures.whole ∙ length-append c.split_before.result.0.now c.split_before.result.1.now in
    let same = ap length c.deref.ensures.value in
    omega arith

pub splice-requires-clause-bounded : goal.splice-requires-clause-bounded
splice-requires-clause-bounded g c =
    let all : EndsBelow (c.split_before.result.0.now ++ c.split_before.result.1.now) (greatest + 1) = rw (← c.split_before.ensures.whole, c.deref.ensures.value) c.requires.bounded in
    ends_below-rest c.split_before.result.0.now c.split_before.result.1.now _ all

pub splice-requires-else-len-capacity-clause-room : goal.splice-requires-else-len-capacity-clause-room
splice-requires-else-len-capacity-clause-room g c =
    rw c.deref-else-len-capacity.ensures.value (omega (arith, c.requires.room, c.splice.ensures.capacity, c.clear.ensures.capacity))

pub returns-then-len-capacity-clause-runs : goal.returns-then-len-capacity-clause-runs
returns-then-len-capacity-clause-runs g c =
    let whole = sym c.deref.ensures.value ∙ c.split_before.ensures.whole in
    let all : AreRuns (c.split_before.result.0.now ++ c.split_before.result.1.now) = rw (← whole) c.requires.runs in
    let bytes : (b : ℕ) → value_at c.splice.new.new.items b ≡ put (value_at c.split_before.result.1.now) (record { lo = c.span.inside.lo; hi = c.span.inside.hi }) c.args.value b = λ b. put-pieces (value_at c.split_before.result.1.now) (value_at c.splice.new.new.items) c.args.span c.args.value c.splice.ensures.below c.splice.ensures.inside c.splice.ensures.above b ∙ ap (λ s. put (value_at c.split_before.result.1.now) s c.args.value b) (sym c.span.view_is) in
    rw (c.replace_rest.ensures ∙ ap (λ l. l ++ c.splice.new.new.items) (ap (take (length c.split_before.result.0.now)) whole ∙ take-append_seam c.split_before.result.0.now c.split_before.result.1.now)) (runs-written _ _ c.span.inside.lo c.span.inside.hi c.args.value c.splice.ensures.runs bytes _ _ all c.split_before.ensures.ended (omega (arith, c.saturating_sub.ensures)))

pub returns-then-len-capacity-clause-bounded : goal.returns-then-len-capacity-clause-bounded
returns-then-len-capacity-clause-bounded g c =
    let whole = sym c.deref.ensures.value ∙ c.split_before.ensures.whole in
    let all : EndsBelow (c.split_before.result.0.now ++ c.split_before.result.1.now) (greatest + 1) = rw (← whole) c.requires.bounded in
    rw (c.replace_rest.ensures ∙ ap (λ l. l ++ c.splice.new.new.items) (ap (take (length c.split_before.result.0.now)) whole ∙ take-append_seam c.split_before.result.0.now c.split_before.result.1.now)) (ends_below-both _ _ _ (ends_below-front c.split_before.result.0.now c.split_before.result.1.now _ all) c.splice.ensures.bounded)

pub returns-then-len-capacity-clause-bytes : goal.returns-then-len-capacity-clause-bytes
returns-then-len-capacity-clause-bytes g c b =
    let whole = sym c.deref.ensures.value ∙ c.split_before.ensures.whole in
    let bytes : (b : ℕ) → value_at c.splice.new.new.items b ≡ put (value_at c.split_before.result.1.now) (record { lo = c.span.inside.lo; hi = c.span.inside.hi }) c.args.value b = λ b. put-pieces (value_at c.split_before.result.1.now) (value_at c.splice.new.new.items) c.args.span c.args.value c.splice.ensures.below c.splice.ensures.inside c.splice.ensures.above b ∙ ap (λ s. put (value_at c.split_before.result.1.now) s c.args.value b) (sym c.span.view_is) in
    rw (c.replace_rest.ensures ∙ ap (λ l. l ++ c.splice.new.new.items) (ap (take (length c.split_before.result.0.now)) whole ∙ take-append_seam c.split_before.result.0.now c.split_before.result.1.now), whole, ← c.span.view_is) (at-written _ _ c.span.inside.lo c.span.inside.hi c.args.value c.splice.ensures.runs bytes _ _ c.split_before.ensures.ended (omega (arith, c.saturating_sub.ensures)) b)
