use Rattle.std.proofs.Common.{◌≡◌, ℕ, ◌<◌, ◌≤◌, ◌⊎◌, List, length, vec_len}
use Rattle.client_history.specs.declared.client_call.ClientCall.{ClientCall}
use Rattle.client_history.specs.code.Search.{IsCovered, IsEnding, AreTaken}
use Rattle.client_history.proofs.call_ending.go_on.Given as goal

abbrev pub decreases-loop-front : goal.decreases-loop-front
decreases-loop-front l = vec_len l.layer

abbrev pub invariant-loop-front : goal.invariant-loop-front
invariant-loop-front l = record {
  most : l.left ≤ l.fn.left;
  less : length l.layer.items < length l.fn.layer.items → (l.fn.left ≡ 0) ⊎ (l.left < l.fn.left);
  taken : AreTaken l.ending.end l.fn.done.items → AreTaken l.ending.end l.done.items;
  goes : (calls : List ClientCall) (begun over : List ℕ) (time : ℕ) → IsEnding calls begun over l.ending.«open».now time l.ending.end → IsCovered calls over l.ending.«open».now time l.fn.layer.items ⊎ IsCovered calls over l.ending.«open».now time l.fn.done.items → IsCovered calls over l.ending.«open».now time l.layer.items ⊎ (IsCovered calls over l.ending.«open».now time l.next.items ⊎ IsCovered calls over l.ending.«open».now time l.done.items);
}
