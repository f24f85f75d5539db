use Rattle.std.proofs.Common.{◌<◌, List, length, take, refl, subst, arith}
use Rattle.std.proofs.lemmas.List.{take_all}
use Rattle.history_text.specs.declared.file_calls.FileCalls.{FileCalls}
use Rattle.history_text.specs.code.Readings.{AreEndedOf}
use Rattle.history_text.proofs.FileLaws.{count_more, ended_more, ended_none, rest_more, same_file}
use Rattle.history_text.proofs.files.end_files.Goals as goal

pub loop-i-init : goal.loop-i-init
loop-i-init c = record { count = refl; rest = refl; ended = λ allowed lines lives losses files. ended_none allowed c.args.owners.now.lives.items lines }

pub loop-i-preserved : goal.loop-i-preserved
loop-i-preserved c =
    let was = c.loop-i.invariant in
    let first = c.args.files.now.items in
    let files = c.loop-i.files.items in
    let i = c.loop-i.i in
    let old = c.index_mut.result.now in
    let new = c.add_drops.new.file in
    let lt : i < length files = omega (arith, c.loop-i-test.true, c.len-i-end.ensures, was.count) in
    let below : i < length first = omega (arith, c.loop-i-test.true, c.len-i-end.ensures, was.count) in
    record {
      count = count_more files first i new was.count;
      rest = rest_more files first i was.rest new;
      ended = λ allowed lines lives losses are.
          ended_more allowed c.args.owners.now.lives.items lines files first i old new lt below (same_file files first i was.rest old c.index_mut.ensures.value) lives are
          (c.in_ok-add_drops.ensures allowed lines lives (c.of_file-of_file.ensures allowed lines losses)) (was.ended allowed lines lives losses are);
    }

pub returns-clause-ended : goal.returns-clause-ended
returns-clause-ended c = λ allowed lines lives losses are.
    let was = c.loop-i.invariant in
    let first = c.args.files.now.items in
    let files = c.loop-i.files.items in
    let i = c.loop-i.i in
    let owners = c.args.owners.now.lives.items in
    let done = was.ended allowed lines lives losses are in
    subst (λ (xs : List FileCalls). AreEndedOf allowed owners lines xs files) (take_all i first (omega (arith, was.count, c.loop-i-test.false, c.len-i-end.ensures)))
    (subst (λ (xs : List FileCalls). AreEndedOf allowed owners lines (take i first) xs) (take_all i files (omega (arith, was.count, c.loop-i-test.false, c.len-i-end.ensures))) done)
