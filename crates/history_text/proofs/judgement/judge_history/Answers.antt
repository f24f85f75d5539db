use Rattle.history_text.proofs.judgement.judge_history.Goals as goal

pub returns : goal.returns
returns c = (c.in_ok-history.history, c.in_ok-history.ensures, c.in_ok-outcome.ensures)
