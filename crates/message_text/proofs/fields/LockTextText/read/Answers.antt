use Rattle.std.proofs.Common.{ℕ, ap, arith}
use Rattle.model.specs.declared.mode.Mode.{Mode}
use Rattle.model.specs.declared.owner.Owner.{Owner}
use Rattle.message_text.proofs.NameTexts.{view-none, view-unfit}
use Rattle.message_text.proofs.MessageKinds.{lock_parts, locks}
use Rattle.message_text.proofs.fields.LockTextText.read.Goals as goal

pub returns-in_err-mode : goal.returns-in_err-mode
returns-in_err-mode c = rw c.from_residual.ensures (view-none locks c.args.text.now c.in_err-mode.ensures)

pub returns-then-hi-lo : goal.returns-then-hi-lo
returns-then-hi-lo c = view-unfit locks lock_parts.apart c.args.text.now (c.in_ok-mode.mode, (c.in_ok-mode.lo, (c.in_ok-mode.hi, c.in_ok-mode.owner))) c.in_ok-mode.ensures (λ x fits same. omega (arith, c.if-hi-lo.true, ap (λ (p : Mode × (ℕ × (ℕ × Owner))). p.1.0) same, ap (λ (p : Mode × (ℕ × (ℕ × Owner))). p.1.1.0) same, fits.0.0))
