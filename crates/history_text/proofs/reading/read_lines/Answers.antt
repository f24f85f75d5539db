use Rattle.std.proofs.Common.{◌≤◌, ◌+◌, length, arith, rules}
use Rattle.history_text.proofs.FileLaws.{files_before}
use Rattle.history_text.proofs.HistoryLaws.{count_fits, has_read_more, read_later}
use Rattle.history_text.proofs.reading.read_lines.Goals as goal

pub overflow_add-number : goal.overflow_add-number
overflow_add-number c =
    let fits : c.loop-rest.count ≤ length c.args.text.now = count_fits c.args.allowed c.args.text.now c.loop-rest.rest.now c.loop-rest.count c.loop-rest.reader c.loop-rest.invariant.1 in
    omega arith

pub take-requires-clause-read : goal.take-requires-clause-read
take-requires-clause-read c = read_later c.args.allowed c.loop-rest.count (c.loop-rest.count + 1) (omega arith) c.loop-rest.reader c.loop-rest.invariant.1.read

pub take-requires-clause-before : goal.take-requires-clause-before
take-requires-clause-before c =
    let reader = c.loop-rest.reader in
    files_before reader.known.owners.lives.items c.loop-rest.count reader.files.items c.loop-rest.invariant.1.read.files

pub loop-rest-preserved : goal.loop-rest-preserved
loop-rest-preserved c =
    let t = c.split_at_first.type_inv in
    let i = c.in-Some.is in (
      search rules,
      has_read_more c.args.allowed c.args.text.now c.loop-rest.rest.now c.loop-rest.count c.loop-rest.reader c.loop-rest.invariant.1
          c.in-Some.line.now c.in-Some.behind.now c.take.new.self c.in-Some.ensures.0 c.in-Some.ensures.1 c.in-Ok.ensures.read c.in-Ok.ensures.paired c.in-Ok.ensures.counted,
    )
