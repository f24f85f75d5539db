use Rattle.std.proofs.Common.{ℕ, ◌≤◌, ap, subst}
use Rattle.intervals.specs.rule.Bytes.{Range}
use Rattle.intervals.specs.declared.span_edit.SpanEdit.{SpanEdit}
use Rattle.model.specs.declared.mode.Mode.{Mode}
use Rattle.lock_table.specs.code.Rows.{MayHold}
use Rattle.lock_table.proofs.PageLemmas.{may-counts, put-noted}
use Rattle.lock_table.proofs.page_index.PageIndex.note_write.Goals as goal

pub returns-clause-noted : goal.returns-clause-noted
returns-clause-noted c =
    let index = c.note_bytes.new.self in
    let edit = c.args.write.now in
    let Noted : Range → Type 0 = λ s. (b : ℕ) → s.lo ≤ b → b ≤ s.hi → MayHold index c.args.file c.args.owner b in
    let noted : Noted edit.span = subst Noted (ap (λ (e : SpanEdit Mode). e.span) c.write.view_is) c.note_bytes.ensures.noted in
    λ before b m at. put-noted index c.args.file c.args.owner edit.span edit.value before b m noted at

pub returns-clause-keeps : goal.returns-clause-keeps
returns-clause-keeps c = λ f o b may. c.note_bytes.ensures.keeps f o b (may-counts c.args.self.now c.saturating_add-self.result c.args.self.now.runs c.args.self.now.digits f o b may)
