use Rattle.std.proofs.Common.{ℕ, ap, arith}
use Rattle.message_text.proofs.NameTexts.{view-none, view-unfit}
use Rattle.message_text.proofs.MessageKinds.{offsets, spans}
use Rattle.message_text.proofs.fields.SpanTextText.read.Goals as goal

pub returns-in_err-lo : goal.returns-in_err-lo
returns-in_err-lo c = rw c.from_residual.ensures (view-none spans c.args.text.now c.in_err-lo.ensures)

pub returns-then-hi-lo : goal.returns-then-hi-lo
returns-then-hi-lo c = view-unfit spans offsets.apart c.args.text.now (c.in_ok-lo.lo, c.in_ok-lo.hi) c.in_ok-lo.ensures (λ x fits same. omega (arith, c.if-hi-lo.true, ap (λ (p : ℕ × ℕ). p.0) same, ap (λ (p : ℕ × ℕ). p.1) same, fits.0))
