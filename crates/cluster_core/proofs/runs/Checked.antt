-- The check of entries, one after the other.
use Rattle.std.proofs.Common.{◌≡◌, ◌≢◌, ℕ, ◌+◌, ◌<◌, arith, refl, sym, ◌∙◌, ap, subst, List, [], ◌∷◌, ◌++◌, length, take, drop, get_or, Ok}
use Rattle.std.proofs.lemmas.List.{length-take-le, take-append-drop}
use Rattle.messages.specs.rule.Shapes.{ShapeFields}
use Rattle.messages.specs.declared.entry.Entry.{Entry}
use Rattle.cluster_core.specs.rule.World.{WorldState, first_world}
use Rattle.cluster_core.specs.rule.Next.{next}
use Rattle.cluster_core.specs.rule.Runs.{Leads}
use Rattle.cluster_core.specs.rule.Journals.{IsFirstWrong, NoRunHasAWrongEntry}
use Rattle.cluster_core.proofs.common.Places.{drop_read}
use Rattle.cluster_core.proofs.history.Prefixes.{leads_one}

-- the entries so far are a run, and the one that is read next is wrong
pub first_wrong : (shape : ShapeFields) (es : List Entry) (i : ℕ) (w : WorldState) (e : Entry) → i < length es → e ≡ get_or es i e → Leads (first_world shape) (take i es) w → ((v : WorldState) → next w e.event ≢ Ok (v, e)) → IsFirstWrong shape es (i + 1)
first_wrong shape es i w e lt is leads other = record {
  before = take i es;
  world = w;
  leads = leads;
  wrong = e;
  rest = drop (i + 1) es;
  in_order = sym (take-append-drop i es) ∙ ap (λ (xs : List Entry). take i es ++ xs) (drop_read es i e lt is);
  stands_there = ap (λ (n : ℕ). n + 1) (sym (length-take-le i es (omega arith)));
  not_next = other;
}

-- the world between two parts of a run
pub between : (w v : WorldState) (before after : List Entry) → Leads w (before ++ after) v → (u : WorldState) × Leads w before u × Leads u after v
between w v [] after leads = (w, refl, leads)
between w v (e ∷ es) after leads =
    let there = between leads.0 v es after leads.2 in
    (there.0, (leads.0, leads.1, there.1), there.2)

pub none_wrong : NoRunHasAWrongEntry
none_wrong shape es position wrong run =
    let from : WorldState = first_world shape in
    let there = between from run.0 wrong.before (wrong.wrong ∷ wrong.rest) (subst (λ (xs : List Entry). Leads from xs run.0) wrong.in_order run.1) in
    let rest = subst (λ (u : WorldState). Leads u (wrong.wrong ∷ wrong.rest) run.0) (leads_one from there.0 wrong.world wrong.before there.1 wrong.leads) there.2 in
    wrong.not_next rest.0 rest.1
