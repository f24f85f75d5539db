use Rattle.std.proofs.Common.{◌≡◌, ℕ, ◌+◌, ◌/◌, inl, inr, arith, rules, subst, sym, ap, ◌∙◌}
use Rattle.std.proofs.lemmas.Bool.{cases_lt}
use Rattle.model.specs.declared.owner.Owner.{Owner}
use Rattle.lock_table.specs.declared.page_index.PageIndex.{PageIndex}
use Rattle.lock_table.specs.code.Rows.{MayHold}
use Rattle.lock_table.proofs.PageLemmas.{may-long, may-counts, page_before, page_behind}
use Rattle.lock_table.proofs.page_index.PageIndex.note_bytes.Goals as goal

counted : (x y : PageIndex) → y ≡ record x { runs = y.runs; digits = y.digits } → (f : ℕ) (o : Owner) (b : ℕ) → MayHold x f o b → MayHold y f o b
counted x y is f o b may = subst (λ (z : PageIndex). MayHold z f o b) (sym is) (may-counts x x.notes y.runs y.digits f o b may)

pub returns-then-saturating_sub-gt-MOST_PAGES-clause-keeps :
    goal.returns-then-saturating_sub-gt-MOST_PAGES-clause-keeps
returns-then-saturating_sub-gt-MOST_PAGES-clause-keeps c = λ f o b may. may-long c.note_length.new.self c.add.new.self c.add.ensures.kept f o b (counted c.note_file.new.self c.note_length.new.self c.note_length.ensures f o b (c.note_file.ensures.keeps f o b may))

pub loop-page-preserved : goal.loop-page-preserved
loop-page-preserved c =
    let file = c.args.file in
    let owner = c.args.owner in
    record {
      kept = c.note_page.ensures.kept;
      keeps = λ f o b may. c.note_page.ensures.keeps f o b (c.loop-page.invariant.keeps f o b may);
      size = c.loop-page.invariant.size ∙ ap (λ n. n + 64) (sym c.note_page.ensures.extra);
      file = search rules;
      pages = λ p from below. elim (cases_lt p c.loop-page.page) [
        | inl lt ↦ c.note_page.ensures.pages p (c.loop-page.invariant.pages p from lt)
        | inr le ↦ let here : p ≡ c.loop-page.page = omega arith in rw (← here) at c.note_page.ensures.noted
      ];
    }

pub returns-clause-keeps : goal.returns-clause-keeps
returns-clause-keeps c = λ f o b may. c.loop-page.invariant.keeps f o b (counted c.note_file.new.self c.note_length.new.self c.note_length.ensures f o b (c.note_file.ensures.keeps f o b may))

pub returns-clause-noted : goal.returns-clause-noted
returns-clause-noted c = λ b low high.
    let extra = c.loop-page.self.extra in
    let size = c.page_size-size.result in
    let below = page_before c.args.lo b size extra c.loop-page.invariant.size low in
    let above = page_behind b c.args.hi size extra c.loop-page.invariant.size high in
    record {
      noted = λ kept. inr (c.loop-page.invariant.pages (b / (extra + 64)) (omega (arith, below)) (omega (arith, above)));
      in_file = λ kept. c.loop-page.invariant.file;
    }
