use Rattle.std.proofs.Common.{◌≡◌, ℕ, ◌-◌, ◌+◌, ◌++◌, List, ◌∷◌, Some, length, ap, subst, ◌∙◌, arith}
use Rattle.std.proofs.lemmas.List.{length-append}
use Rattle.intervals.specs.declared.byte_run.ByteRun.{ByteRun}
use Rattle.intervals.specs.rule.Bytes.{put}
use Rattle.intervals.specs.code.Runs.{AreRuns, EndsFrom}
use Rattle.intervals.specs.rule.Runs.{value_at}
use Rattle.intervals.proofs.Split.{ends-before}
use Rattle.intervals.proofs.Pieces.{cut_below, none_cut}
use Rattle.intervals.proofs.byte_run.writes.append_below.Goals as goal

pub append_all-requires : goal.append_all-requires
append_all-requires g c =
    let all : length c.args.runs.now ≡ length c.split_before.result.0.now + length c.split_before.result.1.now = ap length c.split_before.ensures.whole ∙ length-append c.split_before.result.0.now c.split_before.result.1.now in
    let none = ap length c.requires.empty in
    record { room = omega (arith, all, none, c.requires.room) }

pub append-requires-clause-room : goal.append-requires-clause-room
append-requires-clause-room g c =
    let all : length c.args.runs.now ≡ length c.split_before.result.0.now + length c.split_before.result.1.now = ap length c.split_before.ensures.whole ∙ length-append c.split_before.result.0.now c.split_before.result.1.now in
    let none = ap length c.requires.empty in
    let some = ap length c.in-Some.ensures.cases.0 in
    omega (arith, all, none, some, c.requires.room, c.append_all.ensures.len, c.append_all.ensures.capacity)

pub append-requires-clause-below : goal.append-requires-clause-below
append-requires-clause-below g c =
    let runs : AreRuns (c.split_before.result.0.now ++ c.in-Some.run'.now ∷ c.in-Some.field-0-1.now) = rw (← c.in-Some.ensures.cases.0, ← c.split_before.ensures.whole) c.requires.runs in
    rw (c.append_all.ensures.items, c.requires.empty) (ends-before c.split_before.result.0.now c.in-Some.field-0-1.now c.in-Some.run'.now runs)

pub returns-in-Some-clause-inside : goal.returns-in-Some-clause-inside
returns-in-Some-clause-inside g c b lt =
    let below = c.split_before.result.0.now in
    let run = c.in-Some.run'.now in
    let runs : AreRuns (below ++ run ∷ c.in-Some.field-0-1.now) = rw (← c.in-Some.ensures.cases.0, ← c.split_before.ensures.whole) c.requires.runs in
    let reached : EndsFrom (run ∷ c.in-Some.field-0-1.now) c.args.to = subst (λ (l : List (ByteRun _)). EndsFrom l c.args.to) c.in-Some.ensures.cases.0 c.split_before.ensures.reached in
    let items : c.append_all.new.new.items ≡ below = c.append_all.ensures.items ∙ ap (λ l. l ++ below) c.requires.empty in
    let bytes : (b : ℕ) → value_at c.append.new.runs.items b ≡ put (value_at below) (record { lo = run.lo; hi = c.args.to - 1 }) (Some run.value) b = λ b. c.append.ensures.bytes b ∙ ap (λ l. put (value_at l) (record { lo = run.lo; hi = c.args.to - 1 }) (Some run.value) b) items in
    rw (c.split_before.ensures.whole, c.in-Some.ensures.cases.0) (cut_below below c.in-Some.field-0-1.now c.append.new.runs.items run c.args.to runs c.if-run-to.true reached bytes b lt)

pub returns-else-run-to-clause-inside : goal.returns-else-run-to-clause-inside
returns-else-run-to-clause-inside g c b lt =
    let below = c.split_before.result.0.now in
    let run = c.in-Some.run'.now in
    let runs : AreRuns (below ++ run ∷ c.in-Some.field-0-1.now) = rw (← c.in-Some.ensures.cases.0, ← c.split_before.ensures.whole) c.requires.runs in
    let items : c.append_all.new.new.items ≡ below = c.append_all.ensures.items ∙ ap (λ l. l ++ below) c.requires.empty in
    rw (items, c.split_before.ensures.whole, c.in-Some.ensures.cases.0) (none_cut below c.in-Some.field-0-1.now run c.args.to runs (omega (arith, c.if-run-to.false)) b lt)

pub returns-in-Some-clause-len : goal.returns-in-Some-clause-len
returns-in-Some-clause-len g c =
    let all : length c.args.runs.now ≡ length c.split_before.result.0.now + length c.split_before.result.1.now = ap length c.split_before.ensures.whole ∙ length-append c.split_before.result.0.now c.split_before.result.1.now in
    let none = ap length c.requires.empty in
    let some = ap length c.in-Some.ensures.cases.0 in
    omega (arith, all, none, some, c.append_all.ensures.len, c.append.ensures.len)

pub returns-in-Some-clause-capacity : goal.returns-in-Some-clause-capacity
returns-in-Some-clause-capacity g c = omega (arith, c.append_all.ensures.capacity, c.append.ensures.capacity)
