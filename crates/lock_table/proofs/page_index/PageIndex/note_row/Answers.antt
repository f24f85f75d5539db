use Rattle.std.proofs.Common.{◌≡◌, None, inl, inr, arith}
use Rattle.std.proofs.lemmas.Bool.{cases_lt}
use Rattle.intervals.specs.rule.Runs.{value_at}
use Rattle.lock_table.proofs.page_index.PageIndex.note_row.Goals as goal

pub loop-run-preserved : goal.loop-run-preserved
loop-run-preserved c =
    let next = c.in-Some.ensures in
    record {
      kept = c.note_bytes.ensures.kept;
      keeps = λ f o b may. c.note_bytes.ensures.keeps f o b (c.loop-run.invariant.keeps f o b may);
      noted = λ b m lt at. elim (cases_lt b c.loop-run.from) [
        | inl below ↦ c.note_bytes.ensures.keeps c.args.row.now.file c.args.row.now.owner b (c.loop-run.invariant.noted b m below at)
        | inr from ↦ elim (cases_lt b c.in-Some.run'.lo) [
          | inl before ↦ let none : value_at c.args.row.now.spans b ≡ None = next.none_before b from before in absurd cc
          | inr within ↦ c.note_bytes.ensures.noted b within (omega arith)
        ]
      ];
    }

pub returns-clause-noted : goal.returns-clause-noted
returns-clause-noted c = λ b m at. elim (cases_lt b c.loop-run.from) [
  | inl below ↦ c.loop-run.invariant.noted b m below at
  | inr from ↦ let none : value_at c.args.row.now.spans b ≡ None = c.in_default.ensures b from in absurd cc
]
