-- Runs of the cluster: what a journal may hold.
use Rattle.std.specs.Prelude.{◌≡◌, List, [], ◌∷◌, Ok}
use Rattle.messages.specs.rule.Shapes.{ShapeFields}
use Rattle.messages.specs.declared.entry.Entry.{Entry}
use Rattle.cluster_core.specs.rule.World.{WorldState, first_world}
use Rattle.cluster_core.specs.rule.Next.{next}

-- the entries lead from one world to another, each by the step that its event makes
abbrev pub Leads : WorldState → List Entry → WorldState → Type 0
Leads w [] v = w ≡ v
Leads w (e ∷ es) v = (mid : WorldState) × (next w e.event ≡ Ok (mid, e)) × Leads mid es v

-- the entries are a run of a cluster of this shape
abbrev pub IsRun : ShapeFields → List Entry → Type 0
IsRun shape es = (w : WorldState) × Leads (first_world shape) es w
