use Rattle.std.proofs.Common.{◌≡◌, ◌∷◌, subst}
use Rattle.std.proofs.lemmas.List.{nil_from_length}
use Rattle.intervals.specs.code.Runs.{AreRuns}
use Rattle.intervals.proofs.Rows.{rise_above}
use Rattle.intervals.proofs.byte_run.last_to.Goals.{in_default-via-in-Some+else-run-byte, in_default-via-in_default}
use Rattle.intervals.proofs.byte_run.last_to.Goals as goal

pub returns-in_default : goal.returns-in_default
returns-in_default g c = elim c.in_default.branch [
  | in_default-via-in-Some+else-run-byte w ↦
      let whole : c.args.runs.now ≡ w.in-Some.run'.now ∷ w.in-Some.field-0-1.now = w.in-Some.ensures.cases.0 in
      rw whole (rise_above w.in-Some.run'.now w.in-Some.field-0-1.now c.args.byte (subst AreRuns whole c.requires) w.if-run-byte.false)
  | in_default-via-in_default w ↦ rw (nil_from_length c.args.runs.now w.in_default.ensures.cases) tt
]
