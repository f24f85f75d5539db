use Rattle.std.proofs.Common.{subst}
use Rattle.std.proofs.lemmas.Result.{err_from_is_err_and}
use Rattle.merges.specs.declared.merger.Merger.{Merger}
use Rattle.merges.specs.code.Merging.{CannotCome, fields_of}
use Rattle.merges.proofs.Mergers.{puts_both, then_longer, fails_before}
use Rattle.merges.proofs.merger.Merger.put_log.Goals as goal

pub returns-in_err-put_entry-clause-fails : goal.returns-in_err-put_entry-clause-fails
returns-in_err-put_entry-clause-fails c =
    let p = err_from_is_err_and c.from_residual.result c.from_residual.ensures.1 in
    rw (p.1, p.2) (fails_before (fields_of c.args.self.now) (fields_of c.loop-put.self) c.in_err-put_entry.field-0.0 c.loop-put.invariant.puts c.in_err-put_entry.ensures.fails)

pub loop-put-preserved : goal.loop-put-preserved
loop-put-preserved c = record {
  puts = puts_both (fields_of c.args.self.now) (fields_of c.loop-put.self) (fields_of c.put_entry.new.self) c.loop-put.invariant.puts c.in_ok-put_entry.ensures.puts;
  unchanged = λ is. absurd (cc);
  longer = λ is. then_longer (fields_of c.args.self.now) (fields_of c.loop-put.self) (fields_of c.put_entry.new.self) c.loop-put.invariant.puts (c.in_ok-put_entry.ensures.longer c.if-branch.true);
}

pub returns-clause-cannot : goal.returns-clause-cannot
returns-clause-cannot c is = subst (λ (m : Merger). CannotCome (fields_of m) c.args.index) (c.loop-put.invariant.unchanged is) (c.in_ok-put_entry.ensures.cannot c.if-branch.false)
