-- Rounds one behind the other: how many of them answer all that can be answered.
use Rattle.std.specs.Prelude.{◌≡◌, ℕ, zero, suc, ◌+◌, ◌≤◌, true, List, [], ◌∷◌, length, All, Contains}
use Rattle.messages.specs.rule.Shapes.{ShapeFields, IsShape}
use Rattle.messages.specs.declared.entry.Entry.{Entry}
use Rattle.node_core.specs.declared.open_call.OpenCall.{OpenCall}
use Rattle.node_core.specs.rule.State.{NodeState}
use Rattle.cluster_core.specs.rule.World.{WorldState, first_world, is_alive}
use Rattle.cluster_core.specs.rule.Runs.{Leads}
use Rattle.cluster_core.specs.rule.Rounds.{IsQuiet, IsRound, IsBlockedWait}

-- the number of open calls of the first n nodes
abbrev pub open_up_to : (ℕ → NodeState) → ℕ → ℕ
open_up_to nodes zero = 0
open_up_to nodes (suc n) = open_up_to nodes n + length (nodes (suc n)).pending

-- the number of open calls of all nodes; a node that is not alive has none
abbrev pub number_of_open_calls : WorldState → ℕ
number_of_open_calls w = open_up_to w.nodes w.shape.nodes

-- each call about the file that is open at a live node is a wait, and a lock blocks it
abbrev pub AllAreBlocked : WorldState → ℕ → Type 0
AllAreBlocked w file = (n : ℕ) (c : OpenCall) → is_alive w n ≡ true → Contains (w.nodes n).pending c → c.file ≡ file → IsBlockedWait w c

-- these are rounds about the file, one behind the other, from one world to another
abbrev pub AreRounds : ℕ → WorldState → List (List Entry) → WorldState → Type 0
AreRounds file w [] v = w ≡ v
AreRounds file w (es ∷ rounds) v = (mid : WorldState) × IsRound file w es mid × AreRounds file mid rounds v

-- in a stretch of a run in which nothing fails and nobody calls, waits about a file that locks block stay so, if no other call about the file is open
abbrev pub BlockedStaysBlocked : Type 0
BlockedStaysBlocked =
    (shape : ShapeFields) (past es : List Entry) (w v : WorldState) (file : ℕ)
    → IsShape shape
    → Leads (first_world shape) past w
    → Leads w es v
    → All (λ e. IsQuiet e.event) es
    → AllAreBlocked w file
    → AllAreBlocked v file

-- Bounded progress: after any run, if the server of a file works and n calls are open, then after n + 2 rounds about the file, and after each later one, each call about the file that is open is a wait, and a lock blocks it. All others are answered
abbrev pub RoundsAnswerAllOthers : Type 0
RoundsAnswerAllOthers =
    (shape : ShapeFields) (past : List Entry) (rounds : List (List Entry)) (w v : WorldState) (file : ℕ)
    → IsShape shape
    → Leads (first_world shape) past w
    → w.working file ≡ true
    → AreRounds file w rounds v
    → number_of_open_calls w + 2 ≤ length rounds
    → AllAreBlocked v file
