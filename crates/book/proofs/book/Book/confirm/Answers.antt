use Rattle.std.proofs.Common.{◌≡◌, List, sym, ap, ◌∙◌, subst}
use Rattle.messages.specs.declared.entry.Entry.{Entry}
use Rattle.cluster_core.specs.rule.Journals.{RunFields}
use Rattle.book.specs.rule.Commits.{IsStampOf, Holds}
use Rattle.book.proofs.Steps.{held_by_stamps, says_yes}
use Rattle.book.proofs.book.Book.confirm.Goals as goal

pub returns-clause-made : goal.returns-clause-made
returns-clause-made g c = λ call reply a b is.
    let these : c.entries.result.now ≡ c.args.self.now.entries = c.entries.ensures ∙ ap (λ (r : RunFields). r.entries) c.self.view_is in
    let first = subst (λ (es : List Entry). IsStampOf es call) (sym these) a in
    let last = subst (λ (es : List Entry). IsStampOf es reply) (sym these) b in
    says_yes c.holds.result (Holds c.entries.result.now c.args.receipt.now) c.holds.ensures.exact (held_by_stamps c.entries.result.now call reply c.args.receipt.now first last is c.holds.ensures.ordered.0 c.holds.ensures.ordered.1)
