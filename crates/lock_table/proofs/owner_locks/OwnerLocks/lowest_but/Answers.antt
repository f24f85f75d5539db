use Rattle.std.proofs.lemmas.Bool.{both_ways}
use Rattle.lock_table.proofs.BlockerLemmas.{asked_from, lowest_out, row_lowest_but}
use Rattle.lock_table.proofs.owner_locks.OwnerLocks.lowest_but.Goals as goal

pub returns-then-is_left_out : goal.returns-then-is_left_out
returns-then-is_left_out c = lowest_out c.args.self.now c.args.out.now c.args.span c.args.mode (c.is_left_out.ensures.0 c.if-is_left_out.true)

pub returns : goal.returns
returns c =
    let asked = asked_from c.args.out.now c.args.self.now.owner (λ out. both_ways _ c.if-is_left_out.false (c.is_left_out.ensures.1 out)) in
    row_lowest_but c.args.self.now c.args.out.now c.args.span c.args.mode asked _ (rw (← c.bar.ensures) c.first_region.ensures)
