use Rattle.std.specs.Prelude.{◌≡◌, length}
use Rattle.std.specs.Vec.{vec_capacity}
use Rattle.std.proofs.Common.{take}
use Rattle.token_server.specs.rule.Actives.{waiting_for}
use Rattle.token_server.proofs.token_queue.active.wait_for.Given as goal

abbrev pub invariant-loop-place : goal.invariant-loop-place
invariant-loop-place l =
    (l.held.items ≡ waiting_for (take l.place l.ats) l.fn.held.items)
    × (length l.held.items ≡ length l.fn.held.items)
    × (vec_capacity l.held ≡ vec_capacity l.fn.held)
