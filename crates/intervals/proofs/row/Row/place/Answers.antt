use Rattle.std.proofs.Common.{◌≡◌, ◌-◌, ◌∷◌, drop, subst, sym, ◌∙◌, arith}
use Rattle.intervals.specs.code.Parts.{all_runs, BeginsTo}
use Rattle.intervals.proofs.Split.{runs-back}
use Rattle.intervals.proofs.Rows.{above_drop}
use Rattle.intervals.proofs.Places.{place_ended}
use Rattle.intervals.proofs.row.Row.place.Goals as goal

pub begin_to-requires-clause-runs : goal.begin_to-requires-clause-runs
begin_to-requires-clause-runs g c = rw c.deref-in-Some.ensures.value (runs-back c.args.self.now.first (all_runs c.args.self.now.rest.items) c.requires.runs)

pub returns-in-Some-clause-ended : goal.returns-in-Some-clause-ended
returns-in-Some-clause-ended g c = place_ended c.args.self.now c.begin_to.result c.args.byte c.requires.runs (λ some. subst (λ l. BeginsTo (all_runs (drop (c.begin_to.result - 1) l)) c.args.byte) c.deref-in-Some.ensures.value (c.begin_to.ensures.begins some))

pub returns-in_default-clause-above : goal.returns-in_default-clause-above
returns-in_default-clause-above g c =
    let parts = c.args.self.now.rest.items in
    let whole : parts ≡ c.in-Some.part.now ∷ c.in-Some.field-0-1.now = sym c.deref.ensures.value ∙ c.in-Some.ensures.cases.0 in
    let runs = runs-back c.args.self.now.first (all_runs parts) c.requires.runs in
    above_drop parts runs c.requires.some 0 c.args.byte (λ d lt. rw whole (omega (arith, c.first.ensures, c.if-first-byte.false)))
