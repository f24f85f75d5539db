use Rattle.std.proofs.Common.{◌-◌, ◌^◌, List, Some}
use Rattle.messages.specs.declared.message.Message.{Message}
use Rattle.player.specs.code.Rounds.{progress}
use Rattle.player.specs.rule.Progress.{Delivers, InTurn}
use Rattle.player.proofs.player.Player.settle.Given as goal

abbrev pub invariant-loop-alloc : goal.invariant-loop-alloc
invariant-loop-alloc l = (ms : List Message) × InTurn (Delivers l.line) (Some (progress l.initial.self)) ms (Some (progress l.self))

abbrev pub decreases-loop-alloc : goal.decreases-loop-alloc
decreases-loop-alloc l = 2 ^ 64 - l.self.settled.cursor
