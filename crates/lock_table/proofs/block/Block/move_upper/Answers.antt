use Rattle.std.proofs.Common.{◌≡◌, ℕ, refl, ◌+◌, ◌-◌, ◌<◌, ◌∷◌, [], ◌++◌, Some, take, drop, reverse, length, get_or, List, ap, sym, ◌∙◌, arith}
use Rattle.std.specs.Vec.{vec_len}
use mathlib.Core.List.{reverse-cons}
use Rattle.std.proofs.lemmas.List.{take-take, get_or-take, drop_more}
use Rattle.lock_table.specs.declared.owner_locks.OwnerLocks.{OwnerLocks}
use Rattle.lock_table.proofs.block.Block.move_upper.Goals as goal

pub loop-self-preserved : goal.loop-self-preserved
loop-self-preserved c =
    let old = c.self.inside.rows.items in
    let rows = c.loop-self.self-inside.rows in
    let inv = c.loop-self.invariant in
    let row = c.in-Some.row in
    let m = vec_len c.pop.new.self in
    let one = c.in-Some.ensures.cases in
    let less : vec_len rows - 1 ≡ m = omega (arith, one) in
    let below : m < length old = omega (arith, one, inv.few) in
    let value : Some row ≡ Some (get_or rows.items (vec_len rows - 1) row) = c.in-Some.ensures.value row (omega (arith, one)) in
    let is : row ≡ get_or rows.items m row = rw less at (let e : row ≡ get_or rows.items (vec_len rows - 1) row = cc in e) in
    let read : row ≡ get_or old m row = is ∙ (ap (λ (l : List OwnerLocks). get_or l m row) inv.lower ∙ get_or-take (vec_len rows) old m row (omega (arith, one))) in
    let rest : drop m old ≡ row ∷ drop (vec_len rows) old = drop_more old m row below ∙ (let next : m + 1 ≡ vec_len rows = omega (arith, one) in rw (next, ← read) refl) in
    record {
      kept = omega (arith, one, c.loop-self-test.true, c.len.ensures);
      few = omega (arith, one, inv.few);
      lower = c.in-Some.ensures.rest ∙ (ap (take (vec_len rows - 1)) inv.lower ∙ (take-take (vec_len rows - 1) (vec_len rows) old (omega arith) ∙ ap (λ (k : ℕ). take k old) less));
      upper = c.in-Ok.ensures.items ∙ (ap (λ (l : List OwnerLocks). l ++ row ∷ []) inv.upper ∙ (sym (reverse-cons row (drop (vec_len rows) old)) ∙ ap reverse (sym rest)));
      capacity = omega (arith, c.pop.ensures.capacity, inv.capacity);
      room = omega (arith, c.push.ensures.capacity, inv.room);
    }
