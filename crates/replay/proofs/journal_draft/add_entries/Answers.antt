use Rattle.std.proofs.Common.{◌∙◌, ◌+◌, ◌∷◌, ◌++◌, [], ap, arith, drop, refl, subst, sym, List, ℕ}
use Rattle.std.proofs.lemmas.List.{at_drop_more}
use Rattle.messages.specs.declared.entry.Entry.{Entry}
use Rattle.journal_text.specs.rule.Journals.{entries_text, entry_text}
use Rattle.replay.specs.rule.Stores.{Adds}
use Rattle.replay.proofs.Drafts.{adds_none, lacks_less}
use Rattle.replay.proofs.journal_draft.add_entries.Goals as goal

pub loop-entry-init : goal.loop-entry-init
loop-entry-init g c = record { counted = refl; text = ([], adds_none (g.D.FileDraft.has c.args.draft.now), refl) }

pub loop-entry-preserved : goal.loop-entry-preserved
loop-entry-preserved g c =
    let has = g.D.FileDraft.has in
    let version = c.args.version in
    let place = c.loop-entry.position + 1 in
    let entries = c.args.entries.now in
    let i = c.loop-entry.entry-index in
    let entry = c.entry-item.result in
    let line = entry_text version place entry in
    let rest = drop (i + 1) entries in
    let here = at_drop_more (entries_text version place) entries i entry c.loop-entry-test.true ∙ ap (λ (e : Entry). entries_text version place (e ∷ rest)) (sym c.entry-item.is) in
    let bytes = c.as_bytes.ensures.value ∙ (c.in_ok-push_entry.ensures ∙ ap (λ (bytes : List ℕ). bytes ++ line) c.clear.ensures.bytes) in
    record {
      counted = omega (arith, c.loop-entry.invariant.counted);
      text = lacks_less (has c.args.draft.now) (has c.loop-entry.draft) (has c.add.new.self) _ line _ _ c.loop-entry.invariant.text here (subst (Adds (has c.loop-entry.draft) (has c.add.new.self)) bytes c.in_ok-add.ensures);
    }
