use Rattle.std.specs.Prelude.{◌≤◌}
use Rattle.std.proofs.Common.{sym, ap, ◌∙◌, arith}
use Rattle.intervals.specs.rule.Bytes.{Range}
use Rattle.token_server.proofs.GrantLaws.{cut-clear}
use Rattle.token_server.proofs.server.cuts.cut_by_one.Goals as goal

pub returns-then-not-meets-clause-kept : goal.returns-then-not-meets-clause-kept
returns-then-not-meets-clause-kept c = λ on.
    let lo = ap (λ (s : Range). s.lo) c.required.view_is in
    let hi = ap (λ (s : Range). s.hi) c.required.view_is in
    let inside = c.required.invariant.0 in
    let order : c.args.required.lo ≤ c.args.required.hi = omega (arith, lo, hi, inside) in
    let other : Range = c.args.other.now.request.wanted.required in
    let full : other.lo ≤ other.hi = rw (← c.required-needed.ensures.value) c.required-needed.ensures.ordered in
    sym (cut-clear c.args.required c.args.within other order c.requires.starts_within c.requires.ends_within full (sym c.meets.ensures ∙ c.if-not-meets.true))
