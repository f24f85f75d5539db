use Rattle.std.proofs.Common.{◌≡◌, take}
use Rattle.token_server.specs.code.Edits.{commands_told}
use Rattle.token_server.proofs.server.commands_told.Given as goal

abbrev pub invariant-loop-next : goal.invariant-loop-next
invariant-loop-next l = l.commands ≡ commands_told (take l.next-index l.told)
