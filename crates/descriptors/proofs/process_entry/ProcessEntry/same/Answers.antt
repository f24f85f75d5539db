use Rattle.std.proofs.Common.{ap, sym, ◌∙◌}
use Rattle.std.proofs.lemmas.Bool.{iff_false, false≢true}
use Rattle.descriptors.proofs.process_entry.ProcessEntry.same.Goals as goal

pub returns-then-not-same_opened : goal.returns-then-not-same_opened
returns-then-not-same_opened c =
    (λ h. absurd (false≢true h), λ s. absurd (iff_false c.same_opened.ensures c.if-not-same_opened.true (c.opened.ensures.value ∙ ap (λ f. f c.loop-fd.fd) s.opened ∙ sym c.opened-in-loop-fd.ensures.value)))
