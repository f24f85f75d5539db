use Rattle.std.specs.Prelude.{ℕ}
use Rattle.std.proofs.Common.{inl, inr, arith}
use Rattle.std.proofs.lemmas.Bool.{cases_lt}
use Rattle.intervals.specs.declared.byte_run.ByteRun.{ByteRun}
use Rattle.intervals.specs.rule.Runs.{bytes_of}
use Rattle.intervals.specs.code.Entries.{IsNext}
use Rattle.model.specs.declared.level.Level.{Level}
use Rattle.token_set.specs.rule.Tokens.{Token, token_of}
use Rattle.token_set.specs.code.Sets.{IsNextRun}
use Rattle.token_set.proofs.set.run_from.Goals as goal

-- the first run that ends at a byte or above it contains the lowest byte from there on that has a level
is_next_run : (t : Token) (from : ℕ) (r : ByteRun Level) → IsNext t from r → IsNextRun t from (bytes_of r) r.value
is_next_run t from r next =
    let ordered = next.run.ordered in
    let reached = next.reached in
    elim (cases_lt r.lo from) [
      | inl lt ↦ record { run = next.run; byte = from; above = omega arith; starts = omega (arith, lt); ends = reached; none_before = λ b low below. absurd (omega (arith, low, below)) }
      | inr le ↦ record { run = next.run; byte = r.lo; above = le; starts = omega arith; ends = ordered; none_before = next.none_before }
    ]

pub returns : goal.returns
returns c = is_next_run (token_of c.args.levels.now) c.args.from c.in_ok-run.run' c.in_ok-run.ensures
