use Rattle.std.proofs.Common.{◌≡◌, None, true, ap, arith, sym, subst, ◌∙◌, take, drop, ◌++◌, length, rules}
use Rattle.std.proofs.Math.Seq.{take-append_seam}
use Rattle.model.specs.rule.Descriptors.{with_process}
use Rattle.descriptors.specs.rule.Rows.{processes}
use Rattle.descriptors.specs.code.Rows.{AreCounts, places}
use Rattle.descriptors.proofs.RowLaws.{idle-opened}
use Rattle.descriptors.proofs.CountLaws.{counts-begun}
use Rattle.descriptors.proofs.processes.Processes.begin.Goals as goal

pub invariant_of-self : goal.invariant_of-self
invariant_of-self c =
    let runs = ap (λ rows. (processes rows).runs c.args.pid) c.self.view_is ∙ c.requires.idle in
    let old = c.self.inside in
    let is : processes c.reset.new.rows ≡ with_process (processes old.rows.items) c.args.pid true (λ fd. None) = rw (← c.deref_mut.ensures.value) c.reset.ensures.processes in
    let counts : AreCounts (processes c.reset.new.rows) old.counts = subst (λ ps. AreCounts ps old.counts) (sym is) (counts-begun (processes old.rows.items) c.args.pid true old.counts (λ fd. idle-opened old.rows.items c.args.pid fd c.self.invariant.0 runs) c.self.invariant.2) in
    let rest = drop (length c.reset.new.rows) old.rows.items in
    let len : old.rows.len ≡ length c.reset.new.rows = search rules in
    let back : take old.rows.len (c.reset.new.rows ++ rest) ≡ c.reset.new.rows = ap (λ n. take n (c.reset.new.rows ++ rest)) len ∙ take-append_seam c.reset.new.rows rest in
    let ok = old.rows.ok in
    let was = c.self.invariant.1 in
    let many : length old.counts ≡ places c.reset.new.rows = omega arith in
    rw back (c.reset.ensures.rows, many, counts)
