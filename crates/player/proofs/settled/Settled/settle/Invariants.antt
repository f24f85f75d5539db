use Rattle.std.proofs.Common.{◌≡◌, ◌-◌, ◌+◌, length}
use Rattle.player.specs.code.Rounds.{SettledParts, settled_in}
use Rattle.player.proofs.settled.Settled.settle.Given as goal

abbrev pub invariant-loop-self : goal.invariant-loop-self
invariant-loop-self l =
    let parts : SettledParts = record { cursor = l.self-inside.cursor; marks = l.self-inside.marks.items } in
    settled_in parts ≡ settled_in l.fn.self

abbrev pub decreases-loop-self : goal.decreases-loop-self
decreases-loop-self l = l.index + 1 - length l.self-inside.marks.items
