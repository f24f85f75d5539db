use Rattle.std.proofs.Common.{◌≡◌, None, Some, rules, [], ◌++◌, get_or, take, List, ◌+◌, sym, ap, ◌∙◌, inl, inr}
use Rattle.lock_table.specs.declared.owner_locks.OwnerLocks.{OwnerLocks}
use Rattle.std.proofs.lemmas.List.{get_or_default, take_all, take_more}
use Rattle.lock_table.specs.rule.Tables.{all_rows, rows_held}
use Rattle.lock_table.proofs.BlockRows.{all_push, append-held}
use Rattle.lock_table.proofs.page_index.PageIndex.renew.Goals as goal

pub loop-block-init : goal.loop-block-init
unfolding rows_held
loop-block-init c = record {
  kept = search rules;
  covers = λ f o b m at. absurd (let none : None ≡ Some m = at in cc);
}

pub loop-block-preserved : goal.loop-block-preserved
loop-block-preserved c =
    let blocks = c.args.blocks.now in
    let i = c.loop-block.block-index in
    let lt = c.loop-block-test.true in
    let own : c.rows.result.now ≡ get_or blocks i [] = c.rows.ensures ∙ (c.block-item.is ∙ get_or_default blocks i c.block-item.result [] lt) in
    let next : all_rows (take (i + 1) blocks) ≡ all_rows (take i blocks) ++ c.rows.result.now = ap all_rows (take_more blocks i [] lt) ∙ (all_push (take i blocks) (get_or blocks i []) ∙ ap (λ (l : List OwnerLocks). all_rows (take i blocks) ++ l) (sym own)) in
    record {
      kept = c.note_rows.ensures.kept;
      covers = λ f o b m at. elim (append-held (all_rows (take i blocks)) c.rows.result.now f o b m (rw next at at)) [
        | inl old ↦ c.note_rows.ensures.keeps f o b (c.loop-block.invariant.covers f o b m old)
        | inr new ↦ c.note_rows.ensures.noted f o b m new
      ];
    }

pub returns : goal.returns
returns c = rw (take_all _ _ c.loop-block-test.false) at c.loop-block.invariant.covers
