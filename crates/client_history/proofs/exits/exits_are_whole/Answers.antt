use Rattle.std.specs.Option.{is_some}
use Rattle.std.proofs.Common.{◌≡◌, ℕ, ◌+◌, Option, Some, None, length, false, ⊎_elim, inl, inr, refl, subst, sym, ap, ◌∙◌}
use Rattle.std.proofs.lemmas.Bool.{false≢true}
use Rattle.std.proofs.lemmas.Option.{slice_get_read}
use Rattle.indexmap.specs.IndexSet.{contains}
use Rattle.model.specs.contracts.owner.OwnerPartialEq.TheImpl as derived
use Rattle.client_history.proofs.Orders.{is_at}
use Rattle.client_history.proofs.ExitLaws.{ExitsTo, exits_same, exits_more, whole_not, whole_more, whole_all}
use Rattle.client_history.proofs.Owners.{eq_exact, put_in, stays_in}
use Rattle.client_history.proofs.exits.exits_are_whole.Goals as goal
use Rattle.client_history.proofs.exits.exits_are_whole.Goals.{then-call+in_ok-insert, else-call, else-is_some-via-then-is_some+then-contains+else-not-marks-i, else-is_some-via-then-is_some+else-contains, else-is_some-via-else-is_some}

pub loop-i-preserved : goal.loop-i-preserved
loop-i-preserved c =
    let calls = c.args.calls.now in
    let order = c.args.order.now in
    let k = c.loop-i.i-index in
    let call = c.index-calls-i.result in
    let at = is_at calls order k call c.requires.within c.loop-i-test.true c.index-calls-i.is in
    elim c.if-call.branch [
      | then-call+in_ok-insert w ↦ let new = (w.in_ok-insert.ensures {u = tt}).updates in
          subst (λ s. ExitsTo calls order (k + 1) (contains derived.ghosts.eq s)) (sym w.gone-is) (exits_more calls order k (contains derived.ghosts.eq c.loop-i.gone) c.loop-i.invariant call at w.if-call.true (contains derived.ghosts.eq w.insert.new.self)
          (λ q is. ⊎_elim (λ e. inl (eq_exact call.owner q e)) (λ old. inr old) (put_in (derived.ghosts.eq call.owner q) (contains derived.ghosts.eq c.loop-i.gone q) (sym (new.0 q) ∙ is)))
          (λ q is. new.0 q ∙ stays_in (derived.ghosts.eq call.owner q) (contains derived.ghosts.eq c.loop-i.gone q) is)
          new.1)
      | else-call w ↦ subst (λ s. ExitsTo calls order (k + 1) (contains derived.ghosts.eq s)) (sym w.gone-is) (exits_same calls order k (contains derived.ghosts.eq c.loop-i.gone) c.loop-i.invariant call at w.if-call.false)
    ]

-- an option that is not some is none
not_some : (end : Option ℕ) → is_some end ≡ false → end ≡ None
not_some None e = refl
not_some (Some end) e = absurd (false≢true (sym e))

pub returns-then-not-marks-i : goal.returns-then-not-marks-i
returns-then-not-marks-i c =
    let calls = c.args.calls.now in
    let i = c.loop-i-2.i in
    let call = c.index-calls-i-in-loop-i-2.result in
    let there = slice_get_read calls (length calls) i call refl c.loop-i-2-test.true c.index-calls-i-in-loop-i-2.is in (
      λ no. absurd (false≢true no),
      λ all. absurd (whole_not calls c.args.order.now c.loop-i.i-index (contains derived.ghosts.eq c.loop-i.gone) c.loop-i.invariant i call there
          (sym c.if-contains.ensures)
          (λ none. false≢true (sym (c.if-is_some.ensures ∙ ap is_some none)))
          (λ stands. false≢true (sym c.if-not-marks-i.true ∙ c.requires.noted i stands))
          all),
    )

pub loop-i-2-preserved : goal.loop-i-2-preserved
loop-i-2-preserved c =
    let calls = c.args.calls.now in
    let i = c.loop-i-2.i in
    let call = c.index-calls-i-in-loop-i-2.result in
    let there = slice_get_read calls (length calls) i call refl c.loop-i-2-test.true c.index-calls-i-in-loop-i-2.is in
    whole_more calls c.args.order.now c.loop-i.i-index (contains derived.ghosts.eq c.loop-i.gone) c.loop-i.invariant i call there c.loop-i-test.false
    (λ some is. elim c.else-is_some.branch [
      | else-is_some-via-then-is_some+then-contains+else-not-marks-i w ↦ c.requires.marked i w.if-not-marks-i.false
      | else-is_some-via-then-is_some+else-contains w ↦ absurd (false≢true (sym w.if-contains.false ∙ w.contains.ensures ∙ is))
      | else-is_some-via-else-is_some w ↦ absurd (some (not_some call.end (sym c.is_some.ensures ∙ w.if-is_some.false)))
    ])
    c.loop-i-2.invariant

pub returns : goal.returns
returns c = (λ yes. whole_all c.args.calls.now c.args.order.now c.loop-i-2.i c.loop-i-2.invariant c.loop-i-2-test.false, λ all. refl)
