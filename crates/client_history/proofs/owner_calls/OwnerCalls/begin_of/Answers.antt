use Rattle.std.proofs.Common.{◌≡◌, sym, ◌∙◌, arith}
use Rattle.std.proofs.lemmas.Option.{same_Some, none-some}
use Rattle.client_history.proofs.KnownCalls.{low_or_high, exit_begins}
use Rattle.client_history.proofs.owner_calls.OwnerCalls.begin_of.Goals as goal

pub returns-in-Some : goal.returns-in-Some
returns-in-Some c = λ calls known ordered.
    let own_end = ordered c.in-Some.end c.in-Some.is in
    exit_begins calls c.args.call.now c.of.result.latest c.min.result c.if-not-call.false (c.of.ensures calls known).latest (omega arith) (low_or_high c.args.call.now.begin c.of.result.latest c.min.result (omega arith))
    (λ end e. let same : c.in-Some.end ≡ end = same_Some _ _ (sym c.in-Some.is ∙ e) in omega arith)

pub returns-in-None : goal.returns-in-None
returns-in-None c = λ calls known ordered.
    exit_begins calls c.args.call.now c.of.result.latest c.max-latest.result c.if-not-call.false (c.of.ensures calls known).latest (omega arith) (low_or_high c.args.call.now.begin c.of.result.latest c.max-latest.result (omega arith))
    (λ end e. absurd (none-some end (sym c.in-None.is ∙ e)))
