use Rattle.std.proofs.Common.{rules, Err, inl, inr, subst, sym, ◌≡◌, ◌∙◌}
use Rattle.messages.specs.rule.Shapes.{ShapeFields}
use Rattle.seat_commands.specs.rule.Merging.{IsMerged}
use Rattle.seat_commands.specs.declared.faults.MergeFault.TheVariants.{NoLog}
use Rattle.seat_commands.proofs.Having.{none_is}
use Rattle.seat_commands.proofs.Having.{are_named, has_none, is_merged, none_named}
use Rattle.seat_commands.proofs.merge_command.merged.Goals as goal

pub returns-in-Ok-clause-merged : goal.returns-in-Ok-clause-merged
returns-in-Ok-clause-merged g c =
    let holds = g.S.Store.holds in
    let named =
    are_named (holds c.args.store.now) (holds c.logs_of.new.store) c.args.line.now _ _ _ _ _ _ _ _ c.logs_of.ensures.files c.as_slice.ensures.value c.in_ok-logs.ensures.logs c.as_slice-3.ensures.value c.in_ok-shape.ensures.one
    c.in_ok-parts.ensures c.in-Some.ensures c.as_slice-4.ensures.value c.in_ok-list.ensures.declared in
    subst (λ (s : ShapeFields). IsMerged (holds c.args.store.now) c.args.line.now s c.in-Ok.journal.entries) (sym c.in-Ok.ensures.shape)
    (is_merged (holds c.args.store.now) c.args.line.now _ _ _ _ named c.in-Ok.ensures.merged)

pub returns-in-Err-clause-none : goal.returns-in-Err-clause-none
returns-in-Err-clause-none g c = λ e.
    let holds = g.S.Store.holds in
    let named =
    are_named (holds c.args.store.now) (holds c.logs_of.new.store) c.args.line.now _ _ _ _ _ _ _ _ c.logs_of.ensures.files c.as_slice.ensures.value c.in_ok-logs.ensures.logs c.as_slice-3.ensures.value c.in_ok-shape.ensures.one
    c.in_ok-parts.ensures c.in-Some.ensures c.as_slice-4.ensures.value c.in_ok-list.ensures.declared in
    has_none (holds c.args.store.now) c.args.line.now _ _ _ named (c.merge.ensures.none (none_is c.merge.result _ _ c.in-Err.is c.of.ensures.order e))

pub returns-in_err-shape-clause-no_log : goal.returns-in_err-shape-clause-no_log
returns-in_err-shape-clause-no_log g c = λ e.
    let refused : c.shape_of.result ≡ Err NoLog = search rules in
    elim (c.shape_of.ensures.no_log refused) [
      | inl none ↦ sym c.as_slice-2.ensures.value ∙ none
      | inr none ↦ sym c.as_slice.ensures.value ∙ none_named (g.S.Store.holds c.args.store.now) c.as_slice.result.now c.in_ok-logs.logs.items c.in_ok-logs.ensures.logs (sym c.as_slice-3.ensures.value ∙ none)
    ]
