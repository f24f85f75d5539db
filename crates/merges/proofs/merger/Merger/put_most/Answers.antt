use Rattle.std.proofs.lemmas.Result.{err_from_is_err_and}
use Rattle.merges.specs.code.Merging.{fields_of}
use Rattle.merges.proofs.Mergers.{puts_both, fails_before}
use Rattle.merges.proofs.merger.Merger.put_most.Goals as goal

pub returns-in_err-put_next-clause-fails : goal.returns-in_err-put_next-clause-fails
returns-in_err-put_next-clause-fails c =
    let p = err_from_is_err_and c.from_residual-in_err-put_next.result c.from_residual-in_err-put_next.ensures.1 in
    rw (p.1, p.2) (fails_before (fields_of c.args.self.now) (fields_of c.loop-queue.self) c.in_err-put_next.field-0.0 c.loop-queue.invariant.puts c.in_err-put_next.ensures.fails)

pub loop-queue-preserved : goal.loop-queue-preserved
loop-queue-preserved c = record {
  puts = puts_both (fields_of c.args.self.now) (fields_of c.loop-queue.self) (fields_of c.put_next.new.self) c.loop-queue.invariant.puts c.in_ok-put_next.ensures.puts;
  covers = c.in_ok-put_next.ensures.covers;
}

pub returns-clause-puts : goal.returns-clause-puts
returns-clause-puts c = puts_both (fields_of c.args.self.now) (fields_of c.loop-queue.self) (fields_of c.put_next.new.self) c.loop-queue.invariant.puts c.in_ok-put_next.ensures.puts
