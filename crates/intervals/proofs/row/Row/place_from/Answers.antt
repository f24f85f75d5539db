use Rattle.std.proofs.Common.{◌≡◌, ◌∷◌, List, drop, get_or, sym, ap, ◌∙◌, arith}
use Rattle.std.proofs.lemmas.List.{get_or-drop}
use Rattle.intervals.specs.code.Parts.{all_runs}
use Rattle.intervals.proofs.Split.{runs-back}
use Rattle.intervals.proofs.Rows.{above_drop}
use Rattle.intervals.proofs.row.Row.place_from.Goals as goal

pub returns-in_default-clause-above : goal.returns-in_default-clause-above
returns-in_default-clause-above g c =
    let parts = c.args.self.now.rest.items in
    let whole : drop c.args.from parts ≡ c.in-Some.part.now ∷ c.in-Some.field-0-1.now = sym c.above.ensures ∙ c.in-Some.ensures.cases.0 in
    let runs = runs-back c.args.self.now.first (all_runs parts) c.requires.runs in
    let at : (d : List _) → get_or (drop c.args.from parts) 0 d ≡ get_or parts c.args.from d = λ d. get_or-drop c.args.from parts 0 d ∙ ap (λ n. get_or parts n d) (omega arith) in
    above_drop parts runs c.requires.some c.args.from c.args.byte (λ d lt. rw (← at d, whole) (omega (arith, c.first.ensures, c.if-first-byte.false)))
