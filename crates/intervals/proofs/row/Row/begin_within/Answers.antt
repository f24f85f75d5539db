use Rattle.std.proofs.Common.{◌≡◌, ◌≤◌, ◌+◌, ◌-◌, ◌++◌, ◌∷◌, List, take, drop, length, subst, ap, sym, ◌∙◌, arith}
use Rattle.std.proofs.lemmas.List.{append_assoc, append-nil, length-append, take_all}
use Rattle.intervals.specs.declared.byte_run.ByteRun.{ByteRun}
use Rattle.intervals.specs.rule.Bytes.{greatest, starts_below}
use Rattle.intervals.specs.code.Runs.{AreRuns}
use Rattle.intervals.specs.rule.Runs.{value_at}
use Rattle.intervals.specs.code.Entries.{BeginAbove}
use Rattle.intervals.specs.code.Parts.{all_runs, AreSome, row_runs, part_at, runs_above}
use Rattle.intervals.proofs.Runs.{drop_read}
use Rattle.intervals.proofs.Split.{runs-front, runs-back}
use Rattle.intervals.proofs.Starts.{begin_below, starts_below_are}
use Rattle.intervals.proofs.StartsWith.{starts-more}
use Rattle.intervals.proofs.Ordered.{begin_below-few}
use Rattle.intervals.proofs.Rows.{some-drop, few_runs, first_of}
use Rattle.intervals.proofs.Places.{runs_near, near_few, take_part, take_few, part_on, part_runs, part_above}
use Rattle.intervals.proofs.RowCounts.{counted_to, counted_more, counted_all, none_begin}
use Rattle.intervals.proofs.row.Row.begin_within.Given.{Over}
use Rattle.intervals.proofs.row.Row.begin_within.Goals as goal

pub begin_below-requires : goal.begin_below-requires
begin_below-requires g c = rw c.part-near.ensures (runs-front _ (runs_above c.args.self.now c.place-at.result) (runs_near c.args.self.now c.place-at.result (omega arith) c.requires.runs))

pub begin_below-requires-2 : goal.begin_below-requires-2
begin_below-requires-2 g c = rw c.part-near.ensures (runs-front _ (runs_above c.args.self.now c.place-at.result) (runs_near c.args.self.now c.place-at.result (omega arith) c.requires.runs))

pub overflow_sub-count : goal.overflow_sub-count
overflow_sub-count g c = omega (arith, c.begin_below.ensures.count, c.begin_below-2.ensures.count, starts-more g.V.PartialEq.eq g.met.V.Eq.laws.refl (value_at c.part-near.result.now) c.args.lo c.args.hi c.requires.order)

pub loop-part-init : goal.loop-part-init
loop-part-init g c =
    let row = c.args.self.now in
    let near = c.part-near.result.now in
    let runs : AreRuns near = rw c.part-near.ensures (runs-front _ (runs_above row c.place-at.result) (runs_near row c.place-at.result (omega arith) c.requires.runs)) in
    let low = starts_below_are g.V.PartialEq.eq g.met.V.Exact.exact g.met.V.Eq.laws.refl near c.args.lo runs in
    let high = starts_below_are g.V.PartialEq.eq g.met.V.Exact.exact g.met.V.Eq.laws.refl near c.args.hi runs in
    let more = starts-more g.V.PartialEq.eq g.met.V.Eq.laws.refl (value_at near) c.args.lo c.args.hi c.requires.order in
    let first : begin_below near c.args.lo + (c.begin_below.result - c.begin_below-2.result) ≡ begin_below near c.args.hi = omega (arith, low, high, more, c.begin_below.ensures.count, c.begin_below-2.ensures.count) in
    subst (λ l. begin_below l c.args.lo + (c.begin_below.result - c.begin_below-2.result) ≡ begin_below l c.args.hi) (c.part-near.ensures ∙ sym (append-nil (part_at row c.place-at.result))) first

pub begin_below-count-requires : goal.begin_below-count-requires
begin_below-count-requires g c =
    let row = c.args.self.now in
    let above = c.above-above.result.now in
    let part = c.part-item.result in
    let runs : AreRuns (all_runs above) = rw c.above-above.ensures (runs-back (part_at row c.place-at.result) (runs_above row c.place-at.result) (runs_near row c.place-at.result (omega arith) c.requires.runs)) in
    rw c.runs.ensures (runs-front part (all_runs (drop (c.loop-part.part-index + 1) above)) (part_runs above c.loop-part.part-index part c.loop-part-test.true c.part-item.is runs))

pub overflow_add-count : goal.overflow_add-count
overflow_add-count g c =
    let row = c.args.self.now in
    let above = c.above-above.result.now in
    let part = c.part-item.result in
    let near = part_at row c.place-at.result in
    let few = few_runs (row_runs row) (greatest + 1) c.requires.runs c.requires.bounded in
    let some = near_few row c.place-at.result (omega arith) in
    let these : length (all_runs above) ≡ length (runs_above row c.place-at.result) = ap (λ l. length (all_runs l)) c.above-above.ensures in
    let more : length (all_runs (take (c.loop-part.part-index + 1) above)) ≡ length (all_runs (take c.loop-part.part-index above)) + length part = ap length (take_part above c.loop-part.part-index part c.loop-part-test.true c.part-item.is) ∙ length-append (all_runs (take c.loop-part.part-index above)) part in
    let within = take_few above (c.loop-part.part-index + 1) in
    let counted = begin_below-few (near ++ all_runs (take c.loop-part.part-index above)) c.args.hi in
    let both : length (near ++ all_runs (take c.loop-part.part-index above)) ≡ length near + length (all_runs (take c.loop-part.part-index above)) = length-append near (all_runs (take c.loop-part.part-index above)) in
    let own : c.begin_below-count.result ≤ length part = subst (λ l. c.begin_below-count.result ≤ length l) c.runs.ensures c.begin_below-count.ensures.within in
    omega (arith, few, some, these, more, within, counted, both, own, c.loop-part.invariant)

pub loop-part-preserved : goal.loop-part-preserved
loop-part-preserved g c =
    let row = c.args.self.now in
    let above = c.above-above.result.now in
    let part = c.part-item.result in
    let near = part_at row c.place-at.result in
    let done = all_runs (take c.loop-part.part-index above) in
    let runs : AreRuns (all_runs above) = rw c.above-above.ensures (runs-back near (runs_above row c.place-at.result) (runs_near row c.place-at.result (omega arith) c.requires.runs)) in
    let own : AreRuns part = runs-front part (all_runs (drop (c.loop-part.part-index + 1) above)) (part_runs above c.loop-part.part-index part c.loop-part-test.true c.part-item.is runs) in
    let over : BeginAbove (all_runs above) c.args.lo = rw c.above-above.ensures c.place-at.ensures.above in
    let none = none_begin part c.args.lo (part_above above c.loop-part.part-index part c.args.lo c.loop-part-test.true c.part-item.is over) in
    let are = starts_below_are g.V.PartialEq.eq g.met.V.Exact.exact g.met.V.Eq.laws.refl part c.args.hi own in
    let here : c.begin_below-count.result ≡ starts_below g.V.PartialEq.eq (value_at part) c.args.hi = c.begin_below-count.ensures.count ∙ ap (λ l. starts_below g.V.PartialEq.eq (value_at l) c.args.hi) c.runs.ensures in
    let counted : begin_below part c.args.lo + c.begin_below-count.result ≡ begin_below part c.args.hi = omega (arith, none, are, here) in
    let sum = counted_more (near ++ done) part c.args.lo c.args.hi c.loop-part.count c.begin_below-count.result c.loop-part.invariant counted in
    let all : (near ++ done) ++ part ≡ near ++ all_runs (take (c.loop-part.part-index + 1) above) = append_assoc near done part ∙ ap (λ l. near ++ l) (sym (take_part above c.loop-part.part-index part c.loop-part-test.true c.part-item.is)) in
    subst (λ l. begin_below l c.args.lo + (c.loop-part.count + c.begin_below-count.result) ≡ begin_below l c.args.hi) all sum

-- the counts of runs are the counts of bytes
counts : (g : Over) (l : List (ByteRun g.row.V.Denot)) (lo hi count : _) → AreRuns l → begin_below l lo + count ≡ begin_below l hi → starts_below g.V.PartialEq.eq (value_at l) lo + count ≡ starts_below g.V.PartialEq.eq (value_at l) hi
counts g l lo hi count runs counted =
    let are = starts_below_are g.V.PartialEq.eq g.met.V.Exact.exact g.met.V.Eq.laws.refl l in
    omega (arith, are lo runs, are hi runs)

few : (g : Over) (l : List (ByteRun g.row.V.Denot)) (hi : _) → AreRuns l → starts_below g.V.PartialEq.eq (value_at l) hi ≤ length l
few g l hi runs =
    let are = starts_below_are g.V.PartialEq.eq g.met.V.Exact.exact g.met.V.Eq.laws.refl l in
    omega (arith, are hi runs, begin_below-few l hi)

pub returns-after-loop-part-clause-count : goal.returns-after-loop-part-clause-count
returns-after-loop-part-clause-count g c =
    let row = c.args.self.now in
    let above = c.above-above.result.now in
    let near = part_at row c.place-at.result in
    let all : all_runs (take c.loop-part.part-index above) ≡ runs_above row c.place-at.result = ap all_runs (take_all c.loop-part.part-index above (omega (arith, c.loop-part-test.false)) ∙ c.above-above.ensures) in
    counts g (row_runs row) c.args.lo c.args.hi c.loop-part.count c.requires.runs (counted_all row c.place-at.result c.args.lo c.args.hi c.loop-part.count (omega arith) c.requires.order c.requires.runs c.place-at.ensures.ended (subst (λ l. begin_below (near ++ l) c.args.lo + c.loop-part.count ≡ begin_below (near ++ l) c.args.hi) all c.loop-part.invariant))

pub returns-after-loop-part-clause-within : goal.returns-after-loop-part-clause-within
returns-after-loop-part-clause-within g c = few g (row_runs c.args.self.now) c.args.hi c.requires.runs

pub returns-then-first-hi-clause-count : goal.returns-then-first-hi-clause-count
returns-then-first-hi-clause-count g c =
    let row = c.args.self.now in
    let above = c.above-above.result.now in
    let part = c.part-item.result in
    let near = part_at row c.place-at.result in
    let done = all_runs (take c.loop-part.part-index above) in
    let later = drop (c.loop-part.part-index + 1) above in
    let some : AreSome above = rw c.above-above.ensures (some-drop row.rest.items c.place-at.result c.requires.some) in
    let has : AreSome (part ∷ later) = subst AreSome (drop_read above c.loop-part.part-index part c.loop-part-test.true c.part-item.is) (some-drop above c.loop-part.part-index some) in
    let it = first_of part later has.0 in
    let runs : AreRuns (all_runs above) = rw c.above-above.ensures (runs-back near (runs_above row c.place-at.result) (runs_near row c.place-at.result (omega arith) c.requires.runs)) in
    let rest : AreRuns (it.first ∷ it.others) = subst AreRuns it.whole (part_runs above c.loop-part.part-index part c.loop-part-test.true c.part-item.is runs) in
    let to = counted_to (near ++ done) it.first it.others c.args.lo c.args.hi c.loop-part.count rest c.requires.order (omega (arith, it.begins, c.first.ensures, c.if-first-hi.true)) c.loop-part.invariant in
    let all : (near ++ done) ++ (it.first ∷ it.others) ≡ near ++ runs_above row c.place-at.result = append_assoc near done (it.first ∷ it.others) ∙ ap (λ l. near ++ l) (ap (λ l. done ++ l) (sym it.whole) ∙ (sym (part_on above c.loop-part.part-index part c.loop-part-test.true c.part-item.is) ∙ ap all_runs c.above-above.ensures)) in
    counts g (row_runs row) c.args.lo c.args.hi c.loop-part.count c.requires.runs (counted_all row c.place-at.result c.args.lo c.args.hi c.loop-part.count (omega arith) c.requires.order c.requires.runs c.place-at.ensures.ended (subst (λ l. begin_below l c.args.lo + c.loop-part.count ≡ begin_below l c.args.hi) all to))

pub returns-then-first-hi-clause-within : goal.returns-then-first-hi-clause-within
returns-then-first-hi-clause-within g c = few g (row_runs c.args.self.now) c.args.hi c.requires.runs
