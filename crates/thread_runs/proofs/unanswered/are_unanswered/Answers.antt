use Rattle.std.proofs.Common.{sym, ◌∙◌}
use Rattle.std.proofs.lemmas.Bool.{false≢true}
use Rattle.thread_runs.proofs.unanswered.are_unanswered.Goals as goal

pub returns : goal.returns
returns c = λ are k d lt i e there reply is.
    let apart = c.are_apart.ensures are i e there _ reply is in
    let among = c.in_ok-kept.ensures k d lt in
    absurd (false≢true (sym apart ∙ among))
