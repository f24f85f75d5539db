use Rattle.std.proofs.Common.{ap, ◌∙◌, sym, length, subst, List}
use Rattle.std.proofs.lemmas.Result.{err_from_is_err_and}
use Rattle.merges.specs.rule.Merges.{LogFields}
use Rattle.merges.specs.code.Merging.{MergerFields, fields_of, Covers, EndsFrom}
use Rattle.merges.proofs.Mergers.{puts_raised, fails_before}
use Rattle.merges.proofs.Covering.{covers_later}
use Rattle.merges.proofs.merger.Merger.put_next.Goals as goal

pub set_floor-requires-clause-ends : goal.set_floor-requires-clause-ends
set_floor-requires-clause-ends c =
    let before = subst (λ (logs : List LogFields). Covers c.args.ends.now logs) (sym c.as_slice.ensures.value) c.requires.covers in
    subst (λ (logs : List LogFields). EndsFrom c.in_ok-least.least (length logs) logs) c.as_slice.ensures.value (c.in_ok-least.ensures.lower before)

pub returns-in_err-put-clause-fails : goal.returns-in_err-put-clause-fails
returns-in_err-put-clause-fails c =
    let p = err_from_is_err_and c.from_residual-in_err-put.result c.from_residual-in_err-put.ensures.1 in
    rw (p.1, p.2) (fails_before (fields_of c.args.self.now) (fields_of c.set_floor.new.self) c.in_err-put.field-0.0
    (puts_raised (fields_of c.args.self.now) (fields_of c.set_floor.new.self) c.set_floor.ensures.floor c.set_floor.ensures.good) c.in_err-put.ensures.fails)

pub returns-clause-covers : goal.returns-clause-covers
returns-clause-covers c =
    let before = subst (λ (logs : List LogFields). Covers c.args.ends.now logs) (sym c.as_slice.ensures.value) c.requires.covers in
    let same = c.as_slice.ensures.value ∙ sym (ap (λ (m : MergerFields). m.logs) c.set_floor.ensures.floor) in
    covers_later (fields_of c.set_floor.new.self) (fields_of c.put_open.new.self) c.least.new.self c.in_ok-put.ensures.puts
    (subst (λ (logs : List LogFields). Covers c.least.new.self logs) same (c.in_ok-least.ensures.covers before))
