-- The facts of tokens and answers that the history's invariant needs.
use Rattle.std.proofs.Common.{◌≡◌, ℕ, ◌≤◌, true, Some}
use Rattle.model.specs.declared.call.CallId.{CallId}
use Rattle.model.specs.declared.lock_info.LockInfo.{LockInfo}
use Rattle.messages.specs.declared.message.Message.{Message}
use Rattle.messages.specs.declared.message.Message.TheVariants.{Conflict}
use Rattle.messages.specs.rule.Messages.{is_among}
use Rattle.node_core.specs.rule.State.{host}
use Rattle.cluster_core.specs.rule.World.{WorldState, has_node}
use Rattle.cluster_core.specs.rule.Safe.{IsSafe}

-- what holds of the tokens and the answers of a world: it is safe, the answers that nodes remember were sent, and no node sent a conflict with a number above that of its last command
pub record IsHeard (w : WorldState) : Type 0 where
  pub safe : IsSafe w
  pub answers : (n file : ℕ) (m : Message) → has_node w n ≡ true → ((w.nodes n).files file).answer ≡ Some m → is_among w.sent m ≡ true
  pub counted : (n file number : ℕ) (call : CallId) (lock : LockInfo) → has_node w n ≡ true → is_among w.sent (Conflict file number (host (w.nodes n)) call lock) ≡ true → number ≤ ((w.nodes n).files file).last
