use Rattle.std.proofs.Common.{◌≡◌, ℕ, ◌≤◌, true, false, inl, inr, sym, subst, ap, ◌∙◌, arith, length}
use Rattle.std.proofs.lemmas.Bool.{cases_lt}
use Rattle.std.proofs.lemmas.Result.{err_from_is_err_and}
use Rattle.merges.specs.declared.merger.Merger.{Merger}
use Rattle.merges.specs.code.Merging.{MergerFields, CannotCome, IsExact, IsStuck, fields_of}
use Rattle.merges.proofs.Mergers.{puts_raised, puts_both, then_longer, longer_then, fails_before, all_stuck}
use Rattle.merges.proofs.merger.Merger.put_round.Goals.{then-branch, else-branch}
use Rattle.merges.proofs.merger.Merger.put_round.Goals as goal

pub loop-index-init : goal.loop-index-init
loop-index-init c = record {
  puts = puts_raised (fields_of c.args.self.now) (fields_of c.raise_floor.new.self) c.raise_floor.ensures.floor (c.raise_floor.ensures.good c.requires);
  exact = λ is. c.raise_floor.ensures.exact c.requires;
  cannot = λ is k below. absurd (omega (arith, below));
  longer = λ is. absurd (cc);
}

pub put_log-requires : goal.put_log-requires
put_log-requires c = c.loop-index.invariant.puts.good

pub returns-in_err-put_log-clause-fails : goal.returns-in_err-put_log-clause-fails
returns-in_err-put_log-clause-fails c =
    let p = err_from_is_err_and c.from_residual.result c.from_residual.ensures.1 in
    rw (p.1, p.2) (fails_before (fields_of c.args.self.now) (fields_of c.loop-index.self) c.in_err-put_log.field-0.0 c.loop-index.invariant.puts c.in_err-put_log.ensures.fails)

pub loop-index-preserved : goal.loop-index-preserved
loop-index-preserved c =
    let neither : c.if-branch.put ≡ false → (c.in_ok-put_log.field-0 ≡ false) × (c.loop-index.put ≡ false) = elim c.if-branch.branch [
      | then-branch w ↦ λ is. let both : true ≡ false = sym w.put-is ∙ is in absurd (cc)
      | else-branch w ↦ λ is. (w.if-branch.false, sym w.put-is ∙ is)
    ] in
    let same : c.if-branch.put ≡ false → c.put_log.new.self ≡ c.loop-index.self = λ is. c.in_ok-put_log.ensures.unchanged (neither is).0 in
    record {
      puts = puts_both (fields_of c.args.self.now) (fields_of c.loop-index.self) (fields_of c.put_log.new.self) c.loop-index.invariant.puts c.in_ok-put_log.ensures.puts;
      exact = λ is. subst (λ (m : Merger). IsExact (fields_of m)) (sym (same is)) (c.loop-index.invariant.exact (neither is).1);
      cannot = λ is k below. elim (cases_lt k c.loop-index.index) [
        | inl earlier ↦ subst (λ (m : Merger). CannotCome (fields_of m) k) (sym (same is)) (c.loop-index.invariant.cannot (neither is).1 k earlier)
        | inr later ↦
            let here : c.loop-index.index ≡ k = omega (arith, later, below) in
            subst (λ (j : ℕ). CannotCome (fields_of c.put_log.new.self) j) here (subst (λ (m : Merger). CannotCome (fields_of m) c.loop-index.index) (sym (same is)) (c.in_ok-put_log.ensures.cannot (neither is).0))
      ];
      longer = λ is. elim c.if-branch.branch [
        | then-branch w ↦ then_longer (fields_of c.args.self.now) (fields_of c.loop-index.self) (fields_of c.put_log.new.self) c.loop-index.invariant.puts (c.in_ok-put_log.ensures.longer w.if-branch.true)
        | else-branch w ↦ longer_then (fields_of c.args.self.now) (fields_of c.loop-index.self) (fields_of c.put_log.new.self) (c.loop-index.invariant.longer (sym w.put-is ∙ is)) c.in_ok-put_log.ensures.puts
      ];
    }

pub returns-in_err-put_change-clause-fails : goal.returns-in_err-put_change-clause-fails
returns-in_err-put_change-clause-fails c =
    let p = err_from_is_err_and c.from_residual-in_err-put_change.result c.from_residual-in_err-put_change.ensures.1 in
    rw (p.1, p.2) (fails_before (fields_of c.args.self.now) (fields_of c.loop-index.self) c.in_err-put_change.field-0.0 c.loop-index.invariant.puts c.in_err-put_change.ensures.fails)

pub returns-then-branch-2-clause-puts : goal.returns-then-branch-2-clause-puts
returns-then-branch-2-clause-puts c = puts_both (fields_of c.args.self.now) (fields_of c.loop-index.self) (fields_of c.put_change.new.self) c.loop-index.invariant.puts c.in_ok-put_change.ensures.puts

pub returns-else-branch-2-clause-stuck : goal.returns-else-branch-2-clause-stuck
returns-else-branch-2-clause-stuck c is =
    let first : length c.raise_floor.new.self.logs.items ≡ length c.args.self.now.logs.items = ap (λ (m : MergerFields). length m.logs) c.raise_floor.ensures.floor in
    let count : length c.loop-index.self.logs.items ≡ length c.args.self.now.logs.items = c.loop-index.invariant.puts.count in
    let all : length c.loop-index.self.logs.items ≤ c.loop-index.index = omega (arith, first, count, c.loop-index-test.false, c.len-index-end.ensures, c.raise_floor.new.self.logs.ok.0) in
    subst (λ (m : Merger). IsStuck (fields_of m)) (sym (c.in_ok-put_change.ensures.unchanged c.if-branch-2.false))
    (all_stuck (fields_of c.loop-index.self) (c.loop-index.invariant.exact is) (λ k within. c.loop-index.invariant.cannot is k (omega (arith, within, all))) (c.in_ok-put_change.ensures.cannot c.if-branch-2.false))
