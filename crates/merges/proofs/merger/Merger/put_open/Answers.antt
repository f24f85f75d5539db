use Rattle.std.proofs.Common.{sym, ◌∙◌}
use Rattle.std.proofs.lemmas.Result.{err_from_is_err_and}
use Rattle.merges.specs.code.Merging.{fields_of}
use Rattle.merges.proofs.Mergers.{puts_both, then_longer, longer_then, fails_before}
use Rattle.merges.proofs.merger.Merger.put_open.Goals.{then-branch, else-branch}
use Rattle.merges.proofs.merger.Merger.put_open.Goals as goal

pub put_log-requires : goal.put_log-requires
put_log-requires c = c.loop-index.invariant.puts.good

pub returns-in_err-put_log-clause-fails : goal.returns-in_err-put_log-clause-fails
returns-in_err-put_log-clause-fails c =
    let p = err_from_is_err_and c.from_residual-in_err-put_log.result c.from_residual-in_err-put_log.ensures.1 in
    rw (p.1, p.2) (fails_before (fields_of c.args.self.now) (fields_of c.loop-index.self) c.in_err-put_log.field-0.0 c.loop-index.invariant.puts c.in_err-put_log.ensures.fails)

pub loop-index-preserved : goal.loop-index-preserved
loop-index-preserved c = record {
  puts = puts_both (fields_of c.args.self.now) (fields_of c.loop-index.self) (fields_of c.put_log.new.self) c.loop-index.invariant.puts c.in_ok-put_log.ensures.puts;
  longer = λ is. elim c.if-branch.branch [
    | then-branch w ↦ then_longer (fields_of c.args.self.now) (fields_of c.loop-index.self) (fields_of c.put_log.new.self) c.loop-index.invariant.puts (c.in_ok-put_log.ensures.longer w.if-branch.true)
    | else-branch w ↦ longer_then (fields_of c.args.self.now) (fields_of c.loop-index.self) (fields_of c.put_log.new.self) (c.loop-index.invariant.longer (sym w.put-is ∙ is)) c.in_ok-put_log.ensures.puts
  ];
}
