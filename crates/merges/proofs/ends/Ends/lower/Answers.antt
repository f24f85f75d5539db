use Rattle.std.proofs.Common.{ℕ, ◌≤◌, subst, sym, List, length, All}
use Rattle.std.proofs.lemmas.List.Sorted.{first_le_from_greatest}
use Rattle.std.specs.BinaryHeap.{heap_items}
use Rattle.std.specs.Ordering.{nat_cmp}
use Rattle.merges.specs.code.Merging.{EndsFrom}
use Rattle.merges.proofs.Covering.{lowest}
use Rattle.merges.proofs.ends.Ends.lower.Goals as goal

pub returns-in-Some : goal.returns-in-Some
returns-in-Some c logs covers =
    let greatest = first_le_from_greatest nat_cmp c.in-Some.top.now (heap_items c.self.inside.heap) (c.in-Some.ensures.greatest c.self.invariant) in
    subst (λ (end : ℕ). EndsFrom end (length logs) logs) (sym c.saturating_sub.ensures)
    (lowest c.args.self.now logs c.in-Some.top.now.0 (subst (λ (ends : List (ℕ × ℕ)). All (λ (p : ℕ × ℕ). p.0 ≤ c.in-Some.top.now.0) ends) c.self.view_is greatest) covers)
