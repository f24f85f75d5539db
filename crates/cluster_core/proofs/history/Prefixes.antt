-- The worlds after the entries of a run.
use Rattle.std.proofs.Common.{◌≡◌, ℕ, ◌≤◌, sym, ◌∙◌, ap, subst, List, [], ◌∷◌, ◌++◌, length, take, Result, Ok, Err}
use Rattle.std.proofs.lemmas.List.{take-append-le, take_all}
use Rattle.model.specs.rule.Table.{Table}
use Rattle.messages.specs.rule.Shapes.{ShapeFields}
use Rattle.messages.specs.declared.refusal.Refused.{Refused}
use Rattle.messages.specs.declared.entry.Entry.{Entry}
use Rattle.cluster_core.specs.rule.World.{WorldState, first_world}
use Rattle.cluster_core.specs.rule.Next.{next}
use Rattle.cluster_core.specs.rule.Runs.{Leads}
use Rattle.cluster_core.specs.rule.Union.{union}
use Rattle.cluster_core.specs.rule.Evidence.{IsWorldAfter}

-- the world that is made, or the one before
after_one : WorldState → Result (WorldState × Entry) Refused → WorldState
after_one w (Ok p) = p.0
after_one w (Err e) = w

after_events : WorldState → List Entry → WorldState
after_events w [] = w
after_events w (e ∷ es) = after_events (after_one w (next w e.event)) es

after_events-leads : (w : WorldState) (es : List Entry) (v : WorldState) → Leads w es v → after_events w es ≡ v
unfolding after_events after_one
after_events-leads w [] v l = l
after_events-leads w (e ∷ es) v l = ap (λ (r : Result (WorldState × Entry) Refused). after_events (after_one w r) es) l.1 ∙ after_events-leads l.0 es v l.2

-- entries lead to one world
pub leads_one : (w v u : WorldState) (es : List Entry) → Leads w es v → Leads w es u → v ≡ u
leads_one w v u es a b = sym (after_events-leads w es v a) ∙ after_events-leads w es u b

-- the union after the first entries of a run
pub table_at : ShapeFields → List Entry → ℕ → Table
table_at shape es k = union (after_events (first_world shape) (take k es))

pub table_at-is : (shape : ShapeFields) (es : List Entry) (k : ℕ) (w : WorldState) → IsWorldAfter shape es k w → table_at shape es k ≡ union w
unfolding table_at
table_at-is shape es k w l = ap union (after_events-leads (first_world shape) (take k es) w l)

pub table_at-keeps : (shape : ShapeFields) (es fs : List Entry) (k : ℕ) → k ≤ length es → table_at shape (es ++ fs) k ≡ table_at shape es k
unfolding table_at
table_at-keeps shape es fs k le = ap (λ (xs : List Entry). union (after_events (first_world shape) xs)) (take-append-le k es fs le)

-- before a run goes on, and after it
pub after-keeps : (shape : ShapeFields) (es fs : List Entry) (k : ℕ) (w : WorldState) → k ≤ length es → IsWorldAfter shape es k w → IsWorldAfter shape (es ++ fs) k w
after-keeps shape es fs k w le l = subst (λ (xs : List Entry). Leads (first_world shape) xs w) (sym (take-append-le k es fs le)) l

pub after_all : (shape : ShapeFields) (es : List Entry) (k : ℕ) (w : WorldState) → length es ≤ k → Leads (first_world shape) es w → IsWorldAfter shape es k w
after_all shape es k w le l = subst (λ (xs : List Entry). Leads (first_world shape) xs w) (sym (take_all k es le)) l
