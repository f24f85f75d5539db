use Rattle.std.specs.Prelude.{◌+◌, Bool, if◌then◌else◌}
use Rattle.std.specs.HashSet.{contains}
use Rattle.std.proofs.Common.{◌≡◌, true, false, ℕ, ◌<◌, get_or, arith, refl, ap, ◌∙◌, ◌⊎◌, ⊎_elim, inl, inr}
use Rattle.std.proofs.lemmas.Bool.{cases_order}
use Rattle.std.proofs.lemmas.Option.{get_or_from_slice_get, slice_get_read}
use Rattle.std.proofs.lemmas.Grind.{common_steps}
use Rattle.model.specs.declared.call.CallId.{CallId}
use Rattle.model.specs.contracts.call.CallIdPartialEq.TheImpl as derived
use Rattle.thread_runs.proofs.unanswered.set_of.Goals as goal

refl_call : (a : CallId) → derived.ghosts.eq a a ≡ true
refl_call a = grind (arith, common_steps)

either : (b x : Bool) → x ≡ true → (if b then true else x) ≡ true
either true x h = refl
either false x h = h

last : (i count : ℕ) → i < count + 1 → (i < count) ⊎ (i ≡ count)
last i count lt = ⊎_elim (λ e. inr e) (⊎_elim (λ a. inl a) (λ b. absurd (omega arith))) (cases_order i count)

pub loop-call-preserved : goal.loop-call-preserved
loop-call-preserved c = λ k d lt.
    let new = c.in_ok-insert.ensures.updates.0 in
    ⊎_elim
    (λ early. new (get_or c.args.calls.now k d) ∙ either (derived.ghosts.eq c.call-item.result (get_or c.args.calls.now k d)) (contains derived.ghosts.eq c.loop-call.kept (get_or c.args.calls.now k d)) (c.loop-call.invariant k d early))
    (λ here.
    let at : get_or c.args.calls.now k d ≡ c.call-item.result = ap (λ (j : ℕ). get_or c.args.calls.now j d) here ∙ get_or_from_slice_get c.args.calls.now c.loop-call.call-index c.call-item.result d (slice_get_read c.args.calls.now _ c.loop-call.call-index c.call-item.result refl c.loop-call-test.true c.call-item.is) in
    new (get_or c.args.calls.now k d) ∙ ap (λ (q : CallId). if derived.ghosts.eq c.call-item.result q then true else contains derived.ghosts.eq c.loop-call.kept q) at ∙ ap (λ (b : Bool). if b then true else contains derived.ghosts.eq c.loop-call.kept c.call-item.result) (refl_call c.call-item.result))
    (last k c.loop-call.call-index lt)
