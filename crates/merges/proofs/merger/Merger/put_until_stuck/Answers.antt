use Rattle.std.proofs.lemmas.Result.{err_from_is_err_and}
use Rattle.merges.specs.code.Merging.{fields_of}
use Rattle.merges.proofs.Mergers.{puts_both, fails_before}
use Rattle.merges.proofs.merger.Merger.put_until_stuck.Goals as goal

pub returns-in_err-put_round-clause-fails : goal.returns-in_err-put_round-clause-fails
returns-in_err-put_round-clause-fails c =
    let p = err_from_is_err_and c.from_residual-in_err-put_round.result c.from_residual-in_err-put_round.ensures.1 in
    rw (p.1, p.2) (fails_before (fields_of c.args.self.now) (fields_of c.loop.self) c.in_err-put_round.field-0.0 c.loop.invariant c.in_err-put_round.ensures.fails)

pub loop-preserved : goal.loop-preserved
loop-preserved c = puts_both (fields_of c.args.self.now) (fields_of c.loop.self) (fields_of c.put_round.new.self) c.loop.invariant c.in_ok-put_round.ensures.puts

pub returns-clause-puts : goal.returns-clause-puts
returns-clause-puts c = puts_both (fields_of c.args.self.now) (fields_of c.loop.self) (fields_of c.put_round.new.self) c.loop.invariant c.in_ok-put_round.ensures.puts
