use Rattle.std.proofs.Common.{inl, inr, ⊎_elim, sym, ◌∙◌, arith}
use Rattle.client_history.specs.rule.Explained.{Stands}
use Rattle.client_history.proofs.Goings.{covered_more, covered_equal, covered_last, none_covered, taken_more}
use Rattle.client_history.proofs.Taken.{found, lost}
use Rattle.client_history.proofs.call_ending.go_on.Goals as goal
use Rattle.client_history.proofs.call_ending.go_on.Goals.{in-Some+then-left-eq0, in_default}

pub loop-front-preserved-in-Continue-1 : goal.loop-front-preserved-in-Continue-1
loop-front-preserved-in-Continue-1 c =
    let running = c.args.ending.now.«open».now in
    let x = c.args.ending.now.end in
    let front = c.in-Some.front in
    let popped = c.pop.new.self.items in
    let done = c.add_front.new.fronts.items in
    let adds = c.in_ok-add_front.ensures {u = tt} in
    let took : Stands front.taken.items x = rw c.deref.ensures.value at (found x c.deref.result.now (sym c.contains.ensures.value ∙ c.if-contains.true)) in
    let most = c.loop-front.invariant.most in
    let some = c.if-left-eq0.false in
    record {
      most = omega arith;
      less = λ lt. inr (omega arith);
      taken = λ all. taken_more x c.loop-front.done.items front done adds.only took (c.loop-front.invariant.taken all);
      goes = λ calls begun over time ending before. ⊎_elim
          (λ l. ⊎_elim
          inl
          (λ on. inr (inr (covered_equal calls over running time done front adds.there on)))
          (covered_last calls over running time popped front (rw (c.in-Some.ensures {u = tt}).items at l)))
          (λ rest. ⊎_elim (λ n. inr (inl n)) (λ d. inr (inr (covered_more calls over running time c.loop-front.done.items done adds.kept d))) rest)
          (c.loop-front.invariant.goes calls begun over time ending before);
    }

pub loop-front-preserved : goal.loop-front-preserved
loop-front-preserved c =
    let running = c.args.ending.now.«open».now in
    let x = c.args.ending.now.end in
    let front = c.in-Some.front in
    let popped = c.pop.new.self.items in
    let next = c.branch-ending.new.queue.items in
    let adds = c.in_ok-branch.ensures {u = tt} in
    let not_taken : Stands front.taken.items x → ⊥ = rw c.deref.ensures.value at (lost x c.deref.result.now (sym c.contains.ensures.value ∙ c.if-contains.false)) in
    let most = c.loop-front.invariant.most in
    let some = c.if-left-eq0.false in
    record {
      most = omega arith;
      less = λ lt. inr (omega arith);
      taken = c.loop-front.invariant.taken;
      goes = λ calls begun over time ending before. ⊎_elim
          (λ l. ⊎_elim
          inl
          (λ on. inr (inl (adds.goes calls begun over time ending not_taken on)))
          (covered_last calls over running time popped front (rw (c.in-Some.ensures {u = tt}).items at l)))
          (λ rest. ⊎_elim (λ n. inr (inl (covered_more calls over running time c.loop-front.next.items next adds.kept n))) (λ d. inr (inr d)) rest)
          (c.loop-front.invariant.goes calls begun over time ending before);
    }

pub returns-clause-goes : goal.returns-clause-goes
returns-clause-goes c = λ some calls begun over time ending before.
    let running = c.args.ending.now.«open».now in
    elim c.match-pop.branch [
      | in-Some+then-left-eq0 w ↦ let none = w.if-left-eq0.true in absurd (omega arith)
      | in_default w ↦ ⊎_elim
          (λ l. absurd (none_covered calls over running time c.loop-front.layer.items (let none = (w.in_default.ensures {u = tt}).cases.0 in omega arith) l))
          (λ rest. rest)
          (c.loop-front.invariant.goes calls begun over time ending before)
    ]
