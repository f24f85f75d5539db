use Rattle.std.proofs.Common.{◌≡◌, true, IsTrue, sym, ◌∙◌}
use Rattle.std.proofs.lemmas.Bool.{false≢true}
use Rattle.client_history.specs.declared.act.Act.TheVariants.{Drops}
use Rattle.client_history.proofs.sound.is_sound.Goals as goal
use Rattle.client_history.proofs.sound.is_sound.Goals.{then-is_ordered, else-is_ordered}

pub returns-then-drops_as_last : goal.returns-then-drops_as_last
returns-then-drops_as_last c = λ yes.
    let call = c.args.call.now in
    let first : IsTrue c.is_ordered.result × (call.is_last ≡ true → call.act ≡ Drops) = elim c.if-is_ordered.branch [
      | then-is_ordered w ↦ (w.if-is_ordered.true, w.drops_as_last.ensures (sym w.value-is ∙ c.if-drops_as_last.true))
      | else-is_ordered w ↦ absurd (false≢true (sym w.if-is_ordered.false ∙ sym w.value-is ∙ c.if-drops_as_last.true))
    ] in
    record { timed = c.is_ordered.ensures.timed; ordered = c.is_ordered.ensures.ordered first.0; drop = first.1; follows = c.may_follow.ensures yes }
