use Rattle.std.proofs.Common.{◌≡◌, ℕ, pred, ◌+◌, ◌-◌, ◌≤◌, subst, ap, arith}
use Rattle.intervals.specs.declared.row.Row.{Row}
use Rattle.intervals.specs.rule.Bytes.{Range, greatest}
use Rattle.intervals.specs.code.Runs.{EndsBelow}
use Rattle.intervals.specs.code.Entries.{BeginAbove}
use Rattle.intervals.specs.code.Parts.{part_at, runs_below, runs_above}
use Rattle.intervals.proofs.Runs.{ends_below_le}
use Rattle.intervals.proofs.Split.{runs-front}
use Rattle.intervals.proofs.Places.{IsWritten, is_written, length_near, runs_near, ends_near, places_rise}
use Rattle.intervals.proofs.row.Row.write.Given.{Over}
use Rattle.intervals.proofs.row.Row.write.Goals as goal

pub place_from-to-requires-clause-ended : goal.place_from-to-requires-clause-ended
place_from-to-requires-clause-ended g c = ends_below_le (runs_below c.args.self.now c.place-at.result) c.saturating_sub.result (c.span.inside.hi + 1) (omega (arith, c.saturating_sub.ensures, c.span.invariant.0)) c.place-at.ensures.ended

pub write_part-requires-clause-room : goal.write_part-requires-clause-room
write_part-requires-clause-room g c = omega (arith, length_near c.args.self.now c.place-at.result (omega arith), c.requires.room)

pub write_part-requires-clause-runs : goal.write_part-requires-clause-runs
write_part-requires-clause-runs g c =
    let row = c.args.self.now in
    runs-front (part_at row c.place-at.result) (runs_above row c.place-at.result) (runs_near row c.place-at.result (omega arith) c.requires.runs)

pub write_part-requires-clause-bounded : goal.write_part-requires-clause-bounded
write_part-requires-clause-bounded g c = ends_near c.args.self.now c.place-at.result (greatest + 1) (omega arith) c.requires.bounded

-- runs that end below a byte and runs that begin above one, in the words of `write_parts`
ended_at : {V : Type 0} (row : Row V) (at n lo : ℕ) → n ≡ pred lo → EndsBelow (runs_below row at) n → EndsBelow (runs_below row at) (pred lo)
ended_at row at n lo is ended = subst (λ m. EndsBelow (runs_below row at) m) is ended

above_at : {V : Type 0} (row : Row V) (to last n hi : ℕ) → to ≡ last → n ≡ hi → BeginAbove (runs_above row to) (n + 1) → BeginAbove (runs_above row last) (hi + 1)
above_at row to last n hi is same above = subst (λ m. BeginAbove (runs_above row last) (m + 1)) same (subst (λ m. BeginAbove (runs_above row m) (n + 1)) is above)

pub returns-then-part-clause-runs : goal.returns-then-part-clause-runs
returns-then-part-clause-runs g c =
    let row = c.args.self.now in
    let at = c.place-at.result in
    let lo : c.span.inside.lo ≡ c.args.span.lo = ap (λ (s : Range). s.lo) c.span.view_is in
    let hi : c.span.inside.hi ≡ c.args.span.hi = ap (λ (s : Range). s.hi) c.span.view_is in
    let same : c.place_from-to.result ≡ c.place-at.result + 0 = omega (arith, c.if-at-to.true) in
    (is_written row c.write_part.new.self at 0 c.args.span c.args.value c.write_part.result.0 c.write_part.result.1 (omega (arith, lo, hi, c.span.invariant.0)) (omega arith) c.requires.runs c.requires.bounded (ended_at row at c.saturating_sub.result c.args.span.lo (omega (arith, c.saturating_sub.ensures, lo)) c.place-at.ensures.ended) (above_at row c.place_from-to.result (at + 0) c.span.inside.hi c.args.span.hi same hi c.place_from-to.ensures.above) c.write_part.ensures).runs

pub returns-then-part-clause-bounded : goal.returns-then-part-clause-bounded
returns-then-part-clause-bounded g c =
    let row = c.args.self.now in
    let at = c.place-at.result in
    let lo : c.span.inside.lo ≡ c.args.span.lo = ap (λ (s : Range). s.lo) c.span.view_is in
    let hi : c.span.inside.hi ≡ c.args.span.hi = ap (λ (s : Range). s.hi) c.span.view_is in
    let same : c.place_from-to.result ≡ c.place-at.result + 0 = omega (arith, c.if-at-to.true) in
    (is_written row c.write_part.new.self at 0 c.args.span c.args.value c.write_part.result.0 c.write_part.result.1 (omega (arith, lo, hi, c.span.invariant.0)) (omega arith) c.requires.runs c.requires.bounded (ended_at row at c.saturating_sub.result c.args.span.lo (omega (arith, c.saturating_sub.ensures, lo)) c.place-at.ensures.ended) (above_at row c.place_from-to.result (at + 0) c.span.inside.hi c.args.span.hi same hi c.place_from-to.ensures.above) c.write_part.ensures).bounded

pub returns-then-part-clause-bytes : goal.returns-then-part-clause-bytes
returns-then-part-clause-bytes g c =
    let row = c.args.self.now in
    let at = c.place-at.result in
    let lo : c.span.inside.lo ≡ c.args.span.lo = ap (λ (s : Range). s.lo) c.span.view_is in
    let hi : c.span.inside.hi ≡ c.args.span.hi = ap (λ (s : Range). s.hi) c.span.view_is in
    let same : c.place_from-to.result ≡ c.place-at.result + 0 = omega (arith, c.if-at-to.true) in
    (is_written row c.write_part.new.self at 0 c.args.span c.args.value c.write_part.result.0 c.write_part.result.1 (omega (arith, lo, hi, c.span.invariant.0)) (omega arith) c.requires.runs c.requires.bounded (ended_at row at c.saturating_sub.result c.args.span.lo (omega (arith, c.saturating_sub.ensures, lo)) c.place-at.ensures.ended) (above_at row c.place_from-to.result (at + 0) c.span.inside.hi c.args.span.hi same hi c.place_from-to.ensures.above) c.write_part.ensures).bytes

pub returns-then-part-clause-had : goal.returns-then-part-clause-had
returns-then-part-clause-had g c =
    let row = c.args.self.now in
    let at = c.place-at.result in
    let lo : c.span.inside.lo ≡ c.args.span.lo = ap (λ (s : Range). s.lo) c.span.view_is in
    let hi : c.span.inside.hi ≡ c.args.span.hi = ap (λ (s : Range). s.hi) c.span.view_is in
    let same : c.place_from-to.result ≡ c.place-at.result + 0 = omega (arith, c.if-at-to.true) in
    (is_written row c.write_part.new.self at 0 c.args.span c.args.value c.write_part.result.0 c.write_part.result.1 (omega (arith, lo, hi, c.span.invariant.0)) (omega arith) c.requires.runs c.requires.bounded (ended_at row at c.saturating_sub.result c.args.span.lo (omega (arith, c.saturating_sub.ensures, lo)) c.place-at.ensures.ended) (above_at row c.place_from-to.result (at + 0) c.span.inside.hi c.args.span.hi same hi c.place_from-to.ensures.above) c.write_part.ensures).few

pub returns-then-part-clause-count : goal.returns-then-part-clause-count
returns-then-part-clause-count g c =
    let row = c.args.self.now in
    let at = c.place-at.result in
    let lo : c.span.inside.lo ≡ c.args.span.lo = ap (λ (s : Range). s.lo) c.span.view_is in
    let hi : c.span.inside.hi ≡ c.args.span.hi = ap (λ (s : Range). s.hi) c.span.view_is in
    let same : c.place_from-to.result ≡ c.place-at.result + 0 = omega (arith, c.if-at-to.true) in
    (is_written row c.write_part.new.self at 0 c.args.span c.args.value c.write_part.result.0 c.write_part.result.1 (omega (arith, lo, hi, c.span.invariant.0)) (omega arith) c.requires.runs c.requires.bounded (ended_at row at c.saturating_sub.result c.args.span.lo (omega (arith, c.saturating_sub.ensures, lo)) c.place-at.ensures.ended) (above_at row c.place_from-to.result (at + 0) c.span.inside.hi c.args.span.hi same hi c.place_from-to.ensures.above) c.write_part.ensures).count

pub overflow_sub-to : goal.overflow_sub-to
overflow_sub-to g c = places_rise c.args.self.now c.place-at.result c.place_from-to.result c.saturating_sub.result (c.span.inside.hi + 1) (omega (arith, c.saturating_sub.ensures, c.span.invariant.0)) c.requires.some (omega arith) c.place-at.ensures.begins c.place_from-to.ensures.above

pub write_parts-requires-clause-ended : goal.write_parts-requires-clause-ended
write_parts-requires-clause-ended g c =
    let row = c.args.self.now in
    let at = c.place-at.result in
    let hi : c.span.inside.hi ≡ c.args.span.hi = ap (λ (s : Range). s.hi) c.span.view_is in
    let rise : at ≤ c.place_from-to.result = places_rise row at c.place_from-to.result c.saturating_sub.result (c.span.inside.hi + 1) (omega (arith, c.saturating_sub.ensures, c.span.invariant.0)) c.requires.some (omega arith) c.place-at.ensures.begins c.place_from-to.ensures.above in
    let same : c.place_from-to.result ≡ at + (c.place_from-to.result - at) = omega (arith, rise) in
    subst (λ n. EndsBelow (runs_below row (at + (c.place_from-to.result - at))) (n + 1)) hi (subst (λ n. EndsBelow (runs_below row n) (c.span.inside.hi + 1)) same c.place_from-to.ensures.ended)

-- what a write in several parts leaves
several : (g : Over) (c : goal.After-write_parts g) → IsWritten c.args.self.now c.write_parts.new.self c.args.span c.args.value c.write_parts.result.0 c.write_parts.result.1
several g c =
    let row = c.args.self.now in
    let at = c.place-at.result in
    let more = c.place_from-to.result - at in
    let lo : c.span.inside.lo ≡ c.args.span.lo = ap (λ (s : Range). s.lo) c.span.view_is in
    let hi : c.span.inside.hi ≡ c.args.span.hi = ap (λ (s : Range). s.hi) c.span.view_is in
    let first : c.saturating_sub.result ≡ pred c.args.span.lo = omega (arith, c.saturating_sub.ensures, lo) in
    let rise : at ≤ c.place_from-to.result = places_rise row at c.place_from-to.result c.saturating_sub.result (c.span.inside.hi + 1) (omega (arith, c.saturating_sub.ensures, c.span.invariant.0)) c.requires.some (omega arith) c.place-at.ensures.begins c.place_from-to.ensures.above in
    let same : c.place_from-to.result ≡ at + more = omega (arith, rise) in
    let ended : EndsBelow (runs_below row at) (pred c.args.span.lo) = subst (λ n. EndsBelow (runs_below row at) n) first c.place-at.ensures.ended in
    let above : BeginAbove (runs_above row (at + more)) (c.args.span.hi + 1) = subst (λ n. BeginAbove (runs_above row (at + more)) (n + 1)) hi (subst (λ n. BeginAbove (runs_above row n) (c.span.inside.hi + 1)) same c.place_from-to.ensures.above) in
    is_written row c.write_parts.new.self at more c.args.span c.args.value c.write_parts.result.0 c.write_parts.result.1 (omega (arith, lo, hi, c.span.invariant.0)) (omega (arith, rise, c.place_from-to.ensures.within)) c.requires.runs c.requires.bounded ended above c.write_parts.ensures

pub returns-clause-runs : goal.returns-clause-runs
returns-clause-runs g c = (several g c).runs

pub returns-clause-bounded : goal.returns-clause-bounded
returns-clause-bounded g c = (several g c).bounded

pub returns-clause-bytes : goal.returns-clause-bytes
returns-clause-bytes g c = (several g c).bytes

pub returns-clause-had : goal.returns-clause-had
returns-clause-had g c = (several g c).few

pub returns-clause-count : goal.returns-clause-count
returns-clause-count g c = (several g c).count
