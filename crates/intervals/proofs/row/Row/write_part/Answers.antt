use Rattle.std.proofs.Common.{◌≡◌, ◌+◌, ◌<◌, [], length, refl, ap, subst, sym, ◌∙◌, rules, arith}
use Rattle.std.specs.Vec.{vec_capacity}
use Rattle.intervals.specs.rule.Bytes.{greatest}
use Rattle.intervals.specs.code.Runs.{AreRuns, EndsBelow}
use Rattle.intervals.specs.code.Parts.{part_at}
use Rattle.intervals.proofs.Places.{put_part, part_read, rejoined, rewritten, no_runs, put_emptied}
use Rattle.intervals.proofs.row.Row.write_part.Goals as goal

pub write-requires-clause-room : goal.write-requires-clause-room
write-requires-clause-room g c = subst (λ i. length (part_at c.args.self.now i) + length (part_at c.args.self.now i) < vec_capacity c.args.room) c.if-at-eq0.true c.requires.room

pub write-requires-clause-runs : goal.write-requires-clause-runs
write-requires-clause-runs g c = subst (λ i. AreRuns (part_at c.args.self.now i)) c.if-at-eq0.true c.requires.runs

pub write-requires-clause-bounded : goal.write-requires-clause-bounded
write-requires-clause-bounded g c = subst (λ i. EndsBelow (part_at c.args.self.now i) (greatest + 1)) c.if-at-eq0.true c.requires.bounded

pub write-requires-2-clause-room : goal.write-requires-2-clause-room
write-requires-2-clause-room g c =
    let part : part_at c.args.self.now c.args.at ≡ c.index_mut.result.now = part_read c.args.self.now c.args.at c.index_mut.result.now c.if-at-eq0.false (omega arith) (search rules) in
    rw (← part) c.requires.room

pub write-requires-2-clause-runs : goal.write-requires-2-clause-runs
write-requires-2-clause-runs g c =
    let part : part_at c.args.self.now c.args.at ≡ c.index_mut.result.now = part_read c.args.self.now c.args.at c.index_mut.result.now c.if-at-eq0.false (omega arith) (search rules) in
    rw (← part) c.requires.runs

pub write-requires-2-clause-bounded : goal.write-requires-2-clause-bounded
write-requires-2-clause-bounded g c =
    let part : part_at c.args.self.now c.args.at ≡ c.index_mut.result.now = part_read c.args.self.now c.args.at c.index_mut.result.now c.if-at-eq0.false (omega arith) (search rules) in
    rw (← part) c.requires.bounded

pub returns-then-has-eq0 : goal.returns-then-has-eq0
returns-then-has-eq0 g c =
    let row = c.args.self.now in
    let new = c.write-2.new.self in
    let none : new ≡ [] = no_runs new (search rules) in
    let part : part_at row c.args.at ≡ c.index_mut.result.now = part_read row c.args.at c.index_mut.result.now c.if-at-eq0.false (omega arith) (search rules) in
    let before : part_at row c.args.at ≡ c.index.result.now = part_read row c.args.at c.index.result.now c.if-at-eq0.false (omega arith) (search rules) in
    rewritten row _ c.args.at c.args.span c.args.value c.index_mut.result.now new c.len-had-2.result c.len-has.result (put_emptied row _ c.args.at new c.if-at-eq0.false (omega arith) none refl c.remove.ensures.items c.requires.some) part c.write-2.ensures.runs c.write-2.ensures.bounded c.write-2.ensures.bytes (c.len-had-2.ensures ∙ ap length (sym before ∙ part)) (search rules)

pub returns-else-has-eq0 : goal.returns-else-has-eq0
returns-else-has-eq0 g c =
    let row = c.args.self.now in
    let new = c.write-2.new.self in
    let part : part_at row c.args.at ≡ c.index_mut.result.now = part_read row c.args.at c.index_mut.result.now c.if-at-eq0.false (omega arith) (search rules) in
    let before : part_at row c.args.at ≡ c.index.result.now = part_read row c.args.at c.index.result.now c.if-at-eq0.false (omega arith) (search rules) in
    rewritten row _ c.args.at c.args.span c.args.value c.index_mut.result.now new c.len-had-2.result c.len-has.result (put_part row _ c.args.at 0 row.rest.items new c.if-at-eq0.false (omega arith) (search rules) (rejoined row.rest.items c.args.at) refl refl c.requires.some) part c.write-2.ensures.runs c.write-2.ensures.bounded c.write-2.ensures.bytes (c.len-had-2.ensures ∙ ap length (sym before ∙ part)) (search rules)
