use Rattle.std.proofs.Common.{◌≡◌, ℕ, length, slice_get, Some, refl, sym, subst, ◌∙◌}
use Rattle.std.proofs.lemmas.Bool.{false≢true}
use Rattle.std.proofs.lemmas.Option.{same_Some, slice_get_read}
use Rattle.client_history.specs.code.OpenCalls.{Changes}
use Rattle.client_history.proofs.Owners.{eq_exact}
use Rattle.client_history.proofs.sound.may_follow.Goals as goal
use Rattle.client_history.proofs.sound.may_follow.Goals.{then-eq, else-eq}

pub returns-then-changes : goal.returns-then-changes
returns-then-changes c = λ yes first follows.
    let calls = c.args.calls.now in
    let call = c.args.call.now in
    let before = c.in-Some-get.before.now in
    let there = slice_get_read calls (length calls) c.in-Some.first before refl c.in-Some-get.ensures.lookup.3.0 c.in-Some-get.ensures.lookup.1 in
    let same : c.in-Some.first ≡ first = same_Some c.in-Some.first first (sym c.in-Some.is ∙ follows) in
    let both : (before.owner ≡ call.owner) × Changes before.act = elim c.if-eq.branch [
      | then-eq w ↦ (eq_exact before.owner call.owner (sym c.eq.ensures ∙ w.if-eq.true), w.changes.ensures.changes.0 (sym w.value-is ∙ c.if-changes.true))
      | else-eq w ↦ absurd (false≢true (sym w.if-eq.false ∙ sym w.value-is ∙ c.if-changes.true))
    ] in
    record {
      changes = c.changes-then-changes.ensures.changes.0 yes;
      before = before;
      there = subst (λ (n : ℕ). slice_get calls n ≡ Some before) same there;
      own = both.0;
      changed = both.1;
    }
