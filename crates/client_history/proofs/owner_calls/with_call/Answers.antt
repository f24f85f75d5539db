use Rattle.std.proofs.Common.{◌≡◌, ℕ, ◌⊎◌, max, refl, is_some, sym, ap, subst, ◌∙◌}
use Rattle.std.proofs.lemmas.Bool.{false≢true}
use Rattle.std.proofs.lemmas.Option.{same_Some}
use Rattle.client_history.specs.declared.owner_calls.OwnerFacts.{OwnerFacts}
use Rattle.client_history.specs.code.OpenCalls.{IsExitOfOwner, HasAnswerFrom}
use Rattle.client_history.proofs.KnownCalls.{latest_known}
use Rattle.client_history.proofs.owner_calls.with_call.Goals as goal
use Rattle.client_history.proofs.owner_calls.with_call.Goals.{then-call+then-is_none, else-call}

pub returns-then-is_some : goal.returns-then-is_some
returns-then-is_some c = λ calls there before.
    let owner = c.args.call.now.owner in
    let kept : c.if-call.known.latest ≡ c.args.before.latest = elim c.if-call.branch [
      | then-call+then-is_none w ↦ ap (λ (k : OwnerFacts). k.latest) w.known-is
      | else-call w ↦ ap (λ (k : OwnerFacts). k.latest) w.known-is
    ] in
    let later : c.max.result ≡ max c.args.before.latest c.args.call.now.begin = c.max.ensures ∙ ap (λ (t : ℕ). max t c.args.call.now.begin) kept in
    record {
      exit = λ exit e. elim c.if-call.branch [
        | then-call+then-is_none w ↦ let same : c.args.index ≡ exit = same_Some _ _ (sym (ap (λ (k : OwnerFacts). k.exit) w.known-is) ∙ e) in
            subst (λ (it : ℕ). IsExitOfOwner calls it owner) same (record { last = c.args.call.now; there = there; is_last = w.if-call.true; own = refl })
        | else-call w ↦ before.exit exit (sym (ap (λ (k : OwnerFacts). k.exit) w.known-is) ∙ e)
      ];
      latest = subst (λ (t : ℕ). (t ≡ 0) ⊎ HasAnswerFrom calls owner t) (sym later) (latest_known calls owner c.args.before.latest c.args.call.now.begin before.latest
          (record { index = c.args.index; call = c.args.call.now; there = there; own = refl; answered = λ none. false≢true (sym (ap is_some none) ∙ sym c.is_some.ensures ∙ c.if-is_some.true); begun = refl }));
    }
