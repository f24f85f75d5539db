use Rattle.std.proofs.Common.{inl, inr}
use Rattle.lock_table.proofs.PageLemmas.{row-step, rows-end}
use Rattle.lock_table.proofs.page_index.PageIndex.note_rows.Goals as goal

pub loop-row-preserved : goal.loop-row-preserved
loop-row-preserved c = record {
  kept = c.note_row.ensures.kept;
  keeps = λ f o b may. c.note_row.ensures.keeps f o b (c.loop-row.invariant.keeps f o b may);
  covers = λ f o b m at. elim (c.loop-row.invariant.covers f o b m at) [
    | inl may ↦ inl (c.note_row.ensures.keeps f o b may)
    | inr left ↦ elim (row-step c.args.rows.now c.loop-row.row-index c.row-item.result f o b m c.loop-row-test.true c.row-item.is left) [
      | inl this ↦ inl (rw (← this.0, ← this.1) (c.note_row.ensures.noted b m this.2))
      | inr more ↦ inr more
    ]
  ];
}

pub returns-clause-noted : goal.returns-clause-noted
returns-clause-noted c = λ f o b m at. elim (c.loop-row.invariant.covers f o b m at) [
  | inl may ↦ may
  | inr left ↦ absurd (rows-end c.args.rows.now c.loop-row.row-index f o b m c.loop-row-test.false left)
]
