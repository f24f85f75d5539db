use Rattle.std.proofs.Common.{◌≡◌, ℕ, sym, ap, subst, ◌∙◌}
use Rattle.std.proofs.lemmas.Option.{same_Some, get_or_from_slice_get}
use Rattle.client_history.specs.declared.client_call.ClientCall.{ClientCall}
use Rattle.client_history.specs.rule.Explained.{AreExplainedBefore}
use Rattle.client_history.proofs.judge.unexplained.Goals as goal

pub are_explained_before-requires : goal.are_explained_before-requires
are_explained_before-requires c = λ i end call there ends. (c.requires.sound i call there).ordered end ends

pub returns-then-branch : goal.returns-then-branch
returns-then-branch c =
    let calls = c.args.calls.now in
    let from = c.requires.from in
    let same : from.end ≡ c.in-Some.end = same_Some _ _ (sym from.ends ∙ ap (λ (call : ClientCall). call.end) (sym (get_or_from_slice_get calls c.args.call from.call _ from.there)) ∙ c.in-Some.is) in
    record {
      from = from;
      before = subst (λ (end : ℕ). AreExplainedBefore end calls) (sym same) ((c.in_ok-are_explained_before.ensures {u = tt}) c.if-branch.true);
    }
