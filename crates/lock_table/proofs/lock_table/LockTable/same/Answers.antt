use Rattle.std.proofs.Common.{ap, sym, ◌∙◌}
use Rattle.std.proofs.lemmas.Bool.{eqb-true}
use Rattle.model.specs.rule.Locks.{Locks}
use Rattle.lock_table.specs.code.Rows.{AreRows}
use Rattle.lock_table.specs.rule.Tables.{all_rows}
use Rattle.lock_table.proofs.RowLemmas.{same_held, held_same, blocks_are, limit_is}
use Rattle.lock_table.proofs.lock_table.LockTable.same.Goals as goal

pub returns-then-self-other : goal.returns-then-self-other
returns-then-self-other c =
    let mine = blocks_are c.self.inside.blocks.items c.self.inside.limit c.args.self.now c.self.view_is in
    let theirs = blocks_are c.other.inside.blocks.items c.other.inside.limit c.args.other.now c.other.view_is in
    let my_limit = limit_is c.self.inside.blocks.items c.self.inside.limit c.args.self.now c.self.view_is in
    let their_limit = limit_is c.other.inside.blocks.items c.other.inside.limit c.args.other.now c.other.view_is in
    let rows : AreRows (all_rows c.args.self.now.blocks) = rw (← mine) c.self.invariant.0 in
    let others : AreRows (all_rows c.args.other.now.blocks) = rw (← theirs) c.other.invariant.0 in
    let same = rw (c.deref.ensures.value, c.deref-then-self-other.ensures.value, mine, theirs) at c.same_rows.ensures in (
      λ t. record { locks = λ i f o. same_held _ _ (same.0 t) f o i; limit = sym my_limit ∙ c.if-self-other.true ∙ their_limit },
      λ e. same.1 (held_same _ _ rows others (λ f o. ap (λ (h : Locks). h f o) e.locks)),
    )

pub returns-else-self-other : goal.returns-else-self-other
returns-else-self-other c =
    let my_limit = limit_is c.self.inside.blocks.items c.self.inside.limit c.args.self.now c.self.view_is in
    let their_limit = limit_is c.other.inside.blocks.items c.other.inside.limit c.args.other.now c.other.view_is in
    (λ t. absurd (c.if-self-other.false (eqb-true c.self.inside.limit c.other.inside.limit t)), λ e. absurd (c.if-self-other.false (my_limit ∙ e.limit ∙ sym their_limit)))
