use Rattle.std.proofs.Common.{rules, None, ◌≡◌}
use Rattle.history_text.proofs.judgement.judge_orders.Goals.{in-Some, in-None}
use Rattle.history_text.proofs.judgement.judge_orders.Goals as goal

pub returns : goal.returns
returns c = elim c.match-unexplained.branch [
  | in-Some w ↦ (c.in_ok-history.history, c.in_ok-history.ensures, rw w.outcome-is tt)
  | in-None w ↦
      let none : c.in_ok-unexplained.unexplained ≡ None = search rules in
      (c.in_ok-history.history, c.in_ok-history.ensures, rw w.outcome-is (c.in_ok-unexplained.ensures none))
]
