use Rattle.std.proofs.Common.{◌≡◌, ◌++◌, length, take}
use Rattle.cluster_core.proofs.sent.add_shares.Given as goal

abbrev pub invariant-loop-message : goal.invariant-loop-message
invariant-loop-message l = record {
  added : l.sent.items ≡ l.fn.sent.items ++ take l.message-index l.messages;
  begun : l.start ≡ length l.fn.sent.items;
}
