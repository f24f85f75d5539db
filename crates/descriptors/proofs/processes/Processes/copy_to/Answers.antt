use Rattle.std.proofs.Common.{◌≡◌, ◌+◌, ℕ, true, ap, arith, sym, subst, ◌∙◌, take, drop, ◌++◌, length, rules}
use Rattle.std.proofs.Math.Seq.{take-append_seam}
use Rattle.model.specs.rule.Descriptors.{with_process}
use Rattle.descriptors.specs.rule.Rows.{processes}
use Rattle.descriptors.specs.code.Rows.{AreCounts, count_of, references_below, places}
use Rattle.descriptors.proofs.RowLaws.{idle-opened}
use Rattle.descriptors.proofs.CountLaws.{counts-shared}
use Rattle.descriptors.proofs.processes.Processes.copy_to.Goals as goal

pub invariant_of-self : goal.invariant_of-self
invariant_of-self c =
    let idle = ap (λ rows. (processes rows).runs c.args.child) c.self.view_is ∙ c.requires.idle in
    let more : (d : ℕ) → count_of c.share.new.counts d ≡ count_of c.self.inside.counts d + references_below ((processes c.self.inside.rows.items).opened c.args.pid) d 64 = rw (← c.deref.ensures.value) c.share.ensures.more in
    let old = c.self.inside in
    let is : processes c.copy_row.new.rows ≡ with_process (processes old.rows.items) c.args.child true ((processes old.rows.items).opened c.args.pid) = rw (← c.deref_mut.ensures.value) c.copy_row.ensures.processes in
    let counts : AreCounts (processes c.copy_row.new.rows) c.share.new.counts = subst (λ ps. AreCounts ps c.share.new.counts) (sym is) (counts-shared (processes old.rows.items) c.args.pid c.args.child old.counts c.share.new.counts c.requires.number (λ fd. idle-opened old.rows.items c.args.child fd c.self.invariant.0 idle) more c.self.invariant.2) in
    let rest = drop (length c.copy_row.new.rows) old.rows.items in
    let len : old.rows.len ≡ length c.copy_row.new.rows = search rules in
    let back : take old.rows.len (c.copy_row.new.rows ++ rest) ≡ c.copy_row.new.rows = ap (λ n. take n (c.copy_row.new.rows ++ rest)) len ∙ take-append_seam c.copy_row.new.rows rest in
    let ok = old.rows.ok in
    let was = c.self.invariant.1 in
    let same = c.share.ensures.places in
    let many : length c.share.new.counts ≡ places c.copy_row.new.rows = omega arith in
    rw back (c.copy_row.ensures.rows, many, counts)
