use Rattle.std.proofs.Common.{◌≡◌, ◌+◌, ℕ, None, false, ap, arith, sym, subst, ◌∙◌, take, drop, ◌++◌, length, rules}
use Rattle.std.proofs.Math.Seq.{take-append_seam}
use Rattle.model.specs.rule.Descriptors.{with_process}
use Rattle.descriptors.specs.rule.Rows.{processes}
use Rattle.descriptors.specs.code.Rows.{AreCounts, count_of, references_below, places}
use Rattle.descriptors.proofs.RowLaws.{number-or-none, processes-past}
use Rattle.descriptors.proofs.CountLaws.{counts-ended}
use Rattle.descriptors.proofs.processes.Processes.end.Goals as goal

pub invariant_of-self : goal.invariant_of-self
invariant_of-self c =
    let fewer : (d : ℕ) → count_of c.release.new.counts d + references_below ((processes c.self.inside.rows.items).opened c.args.pid) d 64 ≡ count_of c.self.inside.counts d = rw (← c.deref.ensures.value) c.release.ensures.fewer in
    let old = c.self.inside in
    let is : processes c.reset.new.rows ≡ with_process (processes old.rows.items) c.args.pid false (λ fd. None) = rw (← c.deref_mut.ensures.value) c.reset.ensures.processes in
    let counts : AreCounts (processes c.reset.new.rows) c.release.new.counts = subst (λ ps. AreCounts ps c.release.new.counts) (sym is) (counts-ended (processes old.rows.items) c.args.pid old.counts c.release.new.counts (number-or-none old.rows.items c.args.pid c.self.invariant.0) fewer c.self.invariant.2) in
    let rest = drop (length c.reset.new.rows) old.rows.items in
    let len : old.rows.len ≡ length c.reset.new.rows = search rules in
    let back : take old.rows.len (c.reset.new.rows ++ rest) ≡ c.reset.new.rows = ap (λ n. take n (c.reset.new.rows ++ rest)) len ∙ take-append_seam c.reset.new.rows rest in
    let ok = old.rows.ok in
    let was = c.self.invariant.1 in
    let same = c.release.ensures.places in
    let many : length c.release.new.counts ≡ places c.reset.new.rows = omega arith in
    rw back (c.reset.ensures.rows, many, counts)

pub returns-else-pid-len : goal.returns-else-pid-len
returns-else-pid-len c = rw (← c.self.view_is) (processes-past c.self.inside.rows.items c.args.pid (omega arith))
