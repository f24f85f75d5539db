-- The safety of tokens and locks, which holds after every run.
use Rattle.std.specs.Prelude.{◌≡◌, ◌≢◌, ℕ, true, false, List, Some, None}
use Rattle.model.specs.declared.mode.Mode.{Mode}
use Rattle.model.specs.declared.owner.Owner.{Owner}
use Rattle.model.specs.declared.level.Level.TheVariants.{Exclusive}
use Rattle.model.specs.rule.Locks.{excludes}
use Rattle.token_set.specs.rule.Tokens.{Token, serves}
use Rattle.messages.specs.rule.Shapes.{ShapeFields, IsShape}
use Rattle.messages.specs.declared.entry.Entry.{Entry}
use Rattle.cluster_core.specs.rule.World.{WorldState, first_world, has_node}
use Rattle.cluster_core.specs.rule.Runs.{Leads}

-- where the one token is exclusive, the other has nothing
abbrev pub Excludes : Token → Token → Type 0
Excludes s t = (b : ℕ) → s b ≡ Some Exclusive → t b ≡ None

-- no tokens of two nodes conflict
abbrev pub AreApart : WorldState → Type 0
AreApart w = (m n file : ℕ) → has_node w m ≡ true → has_node w n ≡ true → m ≢ n → Excludes ((w.nodes m).files file).token ((w.nodes n).files file).token

-- the token of a lock's node serves each byte that is locked
abbrev pub AreCovered : WorldState → Type 0
AreCovered w = (n file : ℕ) (o : Owner) (b : ℕ) (mode : Mode) → has_node w n ≡ true → (w.nodes n).table.locks file o b ≡ Some mode → serves (((w.nodes n).files file).token b) mode ≡ true

-- locks of two nodes don't conflict: a byte that both lock is shared
abbrev pub DoAgree : WorldState → Type 0
DoAgree w = (m n file : ℕ) (o p : Owner) (b : ℕ) (one other : Mode) → has_node w m ≡ true → has_node w n ≡ true → m ≢ n → (w.nodes m).table.locks file o b ≡ Some one → (w.nodes n).table.locks file p b ≡ Some other → excludes one other ≡ false

pub record IsSafe (w : WorldState) : Type 0 where
  pub apart : AreApart w
  pub covered : AreCovered w
  pub agree : DoAgree w

-- each world that the entries lead to is safe
abbrev pub LeadsToSafe : ShapeFields → List Entry → Type 0
LeadsToSafe shape es = (w : WorldState) → Leads (first_world shape) es w → IsSafe w

-- every run leads to a safe world
abbrev pub EveryRunIsSafe : Type 0
EveryRunIsSafe = (shape : ShapeFields) (es : List Entry) → IsShape shape → LeadsToSafe shape es
