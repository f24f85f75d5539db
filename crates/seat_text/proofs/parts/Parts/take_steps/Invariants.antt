use Rattle.std.proofs.Common.{◌≡◌, None}
use Rattle.seat_text.specs.code.Parts.{Makes}
use Rattle.seat_text.proofs.parts.Parts.take_steps.Given as goal

abbrev pub invariant-loop-step : goal.invariant-loop-step
invariant-loop-step l = Makes l.fn.self l.interval l.yielded l.self × (l.self.current ≡ None → ⊥)
