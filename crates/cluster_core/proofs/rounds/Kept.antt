-- A property of worlds that each step of a run keeps.
use Rattle.std.proofs.Common.{◌≡◌, refl, subst, List, [], ◌∷◌, ◌++◌, Ok}
use Rattle.messages.specs.rule.Shapes.{ShapeFields, IsShape}
use Rattle.messages.specs.declared.event.Event.{Event}
use Rattle.messages.specs.declared.entry.Entry.{Entry}
use Rattle.cluster_core.specs.rule.World.{WorldState, first_world}
use Rattle.cluster_core.specs.rule.Next.{next}
use Rattle.cluster_core.specs.rule.Runs.{Leads}
use Rattle.cluster_core.proofs.tokens.Present.{Present}
use Rattle.cluster_core.proofs.history.Worlds.{Good}
use Rattle.cluster_core.proofs.runs.JournalRuns.{leads_push}
use Rattle.cluster_core.proofs.runs.Runs.{good_run}

module _ (shape : ShapeFields) (is : IsShape shape) (Q : WorldState → Type 0) (keeps : (past : List Entry) (w : WorldState) → Good shape past w → Present w → Q w → (event : Event) (q : WorldState × Entry) → next w event ≡ Ok q → Q q.0) where
  kept_from : (past es : List Entry) (w v : WorldState) → Leads (first_world shape) past w → Leads w es v → Q w → Q v
  kept_from past [] w v before leads held = subst Q leads held
  kept_from past (e ∷ es) w v before leads held =
      let facts = good_run shape past w is before in
      kept_from (past ++ e ∷ []) es leads.0 v (leads_push (first_world shape) w leads.0 past e before leads.1) leads.2 (keeps past w facts.0 facts.1 held e.event (leads.0, e) leads.1)

  -- the property holds after each run, if it holds of the first world
  pub kept_in_run : (es : List Entry) (w : WorldState) → Leads (first_world shape) es w → Q (first_world shape) → Q w
  kept_in_run es w leads first = kept_from [] es (first_world shape) w refl leads first
