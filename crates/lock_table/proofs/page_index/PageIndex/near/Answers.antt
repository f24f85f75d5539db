use Rattle.std.proofs.Common.{rules, ◌+◌, ◌/◌, ◌≤◌, inl, inr, arith, subst, sym}
use Rattle.intervals.specs.rule.Bytes.{Range}
use Rattle.lock_table.specs.code.Rows.{IsKept}
use Rattle.lock_table.proofs.PageLemmas.{page_before, page_behind}
use Rattle.lock_table.proofs.page_index.PageIndex.near.Goals as goal

pub returns : goal.returns
returns c = λ o b low high may.
    let kept : IsKept c.args.self.now = search rules in
    let extra = c.args.self.now.extra in
    let size = c.page_size-size.result in
    let from : c.span.inside.lo ≤ b = subst (λ (s : Range). s.lo ≤ b) (sym c.span.view_is) low in
    let to : b ≤ c.span.inside.hi = subst (λ (s : Range). b ≤ s.hi) (sym c.span.view_is) high in
    let below = page_before c.span.inside.lo b size extra c.page_size-size.ensures from in
    let above = page_behind b c.span.inside.hi size extra c.page_size-size.ensures to in
    elim (may.noted kept) [
      | inl long ↦ c.loop-page.invariant.long o long
      | inr page ↦ c.loop-page.invariant.pages o (b / (extra + 64)) (omega (arith, below)) (omega (arith, above)) page
    ]
