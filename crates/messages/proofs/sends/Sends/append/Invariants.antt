use Rattle.std.proofs.Common.{◌≡◌, ◌++◌, take}
use Rattle.messages.proofs.sends.Sends.append.Given as goal

abbrev pub invariant-loop-message : goal.invariant-loop-message
invariant-loop-message l = l.self ≡ l.fn.self ++ take l.message-index l.fn.others
