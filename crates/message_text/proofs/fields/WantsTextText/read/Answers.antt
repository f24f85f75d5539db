use Rattle.std.proofs.Common.{ℕ, ap, arith}
use Rattle.intervals.specs.rule.Bytes.{Range}
use Rattle.message_text.proofs.NameTexts.{view-none, view-unfit}
use Rattle.message_text.proofs.MessageKinds.{offsets_and_span, ranges}
use Rattle.message_text.proofs.fields.WantsTextText.read.Goals as goal

pub returns-in_err-lo : goal.returns-in_err-lo
returns-in_err-lo c = rw c.from_residual.ensures (view-none ranges c.args.text.now c.in_err-lo.ensures)

pub returns-then-hi-lo : goal.returns-then-hi-lo
returns-then-hi-lo c = view-unfit ranges offsets_and_span.apart c.args.text.now (c.in_ok-lo.lo, (c.in_ok-lo.hi, c.in_ok-lo.desired)) c.in_ok-lo.ensures (λ x fits same. omega (arith, c.if-hi-lo.true, ap (λ (p : ℕ × (ℕ × Range)). p.0) same, ap (λ (p : ℕ × (ℕ × Range)). p.1.0) same, fits.0.0.0))

pub returns-then-lo-desired : goal.returns-then-lo-desired
returns-then-lo-desired c = view-unfit ranges offsets_and_span.apart c.args.text.now (c.in_ok-lo.lo, (c.in_ok-lo.hi, c.in_ok-lo.desired)) c.in_ok-lo.ensures (λ x fits same. omega (arith, c.if-lo-desired.true, ap (λ (s : Range). s.lo) c.desired.view_is, ap (λ (p : ℕ × (ℕ × Range)). p.0) same, ap (λ (p : ℕ × (ℕ × Range)). p.1.1.lo) same, fits.1))

pub returns-then-desired-hi : goal.returns-then-desired-hi
returns-then-desired-hi c = view-unfit ranges offsets_and_span.apart c.args.text.now (c.in_ok-lo.lo, (c.in_ok-lo.hi, c.in_ok-lo.desired)) c.in_ok-lo.ensures (λ x fits same. omega (arith, c.if-desired-hi.true, ap (λ (s : Range). s.hi) c.desired.view_is, ap (λ (p : ℕ × (ℕ × Range)). p.1.0) same, ap (λ (p : ℕ × (ℕ × Range)). p.1.1.hi) same, fits.2))
