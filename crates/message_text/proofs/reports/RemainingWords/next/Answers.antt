use Rattle.std.proofs.Common.{◌∷◌, [], if◌then◌else◌, Bool, sym, ap, ◌∙◌}
use Rattle.message_text.specs.code.Reports.{words_of}
use Rattle.message_text.proofs.ReportWords.{words_of-alone, words_of-first}
use Rattle.message_text.proofs.reports.RemainingWords.next.Goals as goal

pub returns-in_default : goal.returns-in_default
returns-in_default c =
    let rest = c.self.inside.rest.now in
    sym c.self.view_is ∙ ap (λ (e : Bool). if e then [] else words_of rest) c.if-self.false ∙ words_of-alone rest c.in_default.ensures

pub returns : goal.returns
returns c =
    let rest = c.self.inside.rest.now in
    let word = c.in-Some.word.now in
    let behind = c.in-Some.rest.now in
    let parts = c.in-Some.ensures in
    sym c.self.view_is
    ∙ ap (λ (e : Bool). if e then [] else words_of rest) c.if-self.false
    ∙ ap words_of parts.1
    ∙ words_of-first word behind parts.0
    ∙ ap (λ (e : Bool). word ∷ (if e then [] else words_of behind)) (sym c.if-self.false)
