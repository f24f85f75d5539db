use Rattle.token_server.proofs.LineLaws.{IsForgotten}
use Rattle.token_server.proofs.token_queue.line.Line.forget.Given as goal

abbrev pub invariant-loop-place : goal.invariant-loop-place
invariant-loop-place l = IsForgotten l.node l.incarnation l.fn.self l.place-end l.self-inside.slots l.self-inside.front l.place
