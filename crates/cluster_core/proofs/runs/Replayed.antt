-- A run that is repeated, entry by entry.
use Rattle.std.proofs.Common.{◌≡◌, ℕ, ◌+◌, ◌<◌, ◌≤◌, arith, sym, ◌∙◌, ap, subst, List, length, take, drop, get_or, Result, Ok, Err}
use Rattle.std.proofs.lemmas.List.{take_all, length-take-le}
use Rattle.messages.specs.rule.Shapes.{ShapeFields}
use Rattle.messages.specs.declared.refusal.Refused.{Refused}
use Rattle.messages.specs.declared.event.Event.{Event}
use Rattle.messages.specs.declared.entry.Entry.{Entry}
use Rattle.cluster_core.specs.rule.World.{WorldState, first_world, journal_limit}
use Rattle.cluster_core.specs.rule.Next.{next, kept_next}
use Rattle.cluster_core.specs.rule.Runs.{Leads, IsRun}
use Rattle.cluster_core.proofs.common.Lengths.{leads-count}
use Rattle.cluster_core.proofs.common.Places.{drop_read}
use Rattle.cluster_core.proofs.common.Refusals.{ok_is}
use Rattle.cluster_core.proofs.runs.JournalRuns.{leads_read}
use Rattle.cluster_core.proofs.steps.Steps.{kept_of}

-- the first i entries lead to this world, and the others on from it
pub record Replayed (shape : ShapeFields) (es : List Entry) (i : ℕ) (w : WorldState) : Type 0 where
  pub done : Leads (first_world shape) (take i es) w
  pub last : WorldState
  pub left : Leads w (drop i es) last

pub replayed_none : (shape : ShapeFields) (es : List Entry) (w : WorldState) → w ≡ first_world shape → IsRun shape es → Replayed shape es 0 w
replayed_none shape es w is run = record { done = sym is; last = run.0; left = subst (λ (v : WorldState). Leads v es run.0) (sym is) run.1 }

-- the world has as many entries as were repeated
pub replayed_count : (shape : ShapeFields) (es : List Entry) (i : ℕ) (w : WorldState) → i ≤ length es → Leads (first_world shape) (take i es) w → w.length ≡ i
replayed_count shape es i w within leads = omega (arith, leads-count (first_world shape) w (take i es) leads, length-take-le i es within)

-- the entry at the place comes next
pub replayed_next : (shape : ShapeFields) (es : List Entry) (i : ℕ) (w : WorldState) (e : Entry) → i < length es → e ≡ get_or es i e → Replayed shape es i w → (v : WorldState) × (next w e.event ≡ Ok (v, e))
replayed_next shape es i w e lt is r =
    let left = subst (λ (xs : List Entry). Leads w xs r.last) (drop_read es i e lt is) r.left in
    (left.0, left.1)

-- a step leads to one world
pub one_world : (w v u : WorldState) (e made : Entry) → next w e.event ≡ Ok (v, e) → next w e.event ≡ Ok (u, made) → v ≡ u
one_world w v u e made is again = ap (λ (m : WorldState × Entry). m.0) (ok_is (v, e) (u, made) (sym is ∙ again))

-- the event of the entry makes the entry again, and is not refused
pub made_again : (w v u : WorldState) (e made : Entry) (event : Event) → event ≡ e.event → next w e.event ≡ Ok (v, e) → next w event ≡ Ok (u, made) → next w e.event ≡ Ok (u, e)
made_again w v u e made event of is again =
    is ∙ ap (λ (x : WorldState). Ok (x, e)) (one_world w v u e made is (subst (λ (x : Event). next w x ≡ Ok (u, made)) of again))

pub not_refused : (w v : WorldState) (e : Entry) (refusal : Refused) (event : Event) → w.length < journal_limit → event ≡ e.event → next w e.event ≡ Ok (v, e) → kept_next w event ≡ Err refusal → ⊥
not_refused w v e refusal event room of is refused =
    let both : ◌≡◌ {A = Result (WorldState × Entry) Refused} (Ok (v, e)) (Err refusal) = sym (kept_of w e.event (Ok (v, e)) room is) ∙ (ap (kept_next w) (sym of) ∙ refused) in
    absurd (cc)

pub replayed_more : (shape : ShapeFields) (es : List Entry) (i : ℕ) (w v : WorldState) (e : Entry) → i < length es → e ≡ get_or es i e → Replayed shape es i w → next w e.event ≡ Ok (v, e) → Replayed shape es (i + 1) v
replayed_more shape es i w v e lt is r step =
    let left = subst (λ (xs : List Entry). Leads w xs r.last) (drop_read es i e lt is) r.left in
    record {
      done = leads_read (first_world shape) w v es i e lt is r.done step;
      last = r.last;
      left = subst (λ (x : WorldState). Leads x (drop (i + 1) es) r.last) (one_world w left.0 v e e left.1 step) left.2;
    }

pub replayed_all : (shape : ShapeFields) (es : List Entry) (i : ℕ) (w : WorldState) → length es ≤ i → Replayed shape es i w → Leads (first_world shape) es w
replayed_all shape es i w past r = subst (λ (xs : List Entry). Leads (first_world shape) xs w) (take_all i es past) r.done
