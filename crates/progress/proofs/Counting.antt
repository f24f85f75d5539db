-- A stretch in which nothing fails and nobody calls answers none, or ends with fewer open calls.
use Rattle.std.specs.Prelude.{◌==◌, nat_le, length, not}
use Rattle.std.proofs.Common.{◌≡◌, ℕ, zero, suc, ◌+◌, ◌≤◌, false, ◌⊎◌, inl, inr, refl, sym, ap, subst, arith, List, [], ◌∷◌, Option, Some, None}
use Rattle.std.proofs.lemmas.Bool.{and_parts, eq-eqb, leb-true}
use Rattle.std.proofs.lemmas.List.Elements.{All-nil, All-cons, All-head, All-tail}
use Rattle.model.specs.declared.call.CallId.{CallId}
use Rattle.model.specs.declared.reply.Reply.{Reply}
use Rattle.messages.specs.rule.Shapes.{ShapeFields}
use Rattle.messages.specs.declared.entry.Entry.{Entry}
use Rattle.node_core.specs.declared.open_call.OpenCall.{OpenCall}
use Rattle.node_core.specs.rule.State.{NodeState}
use Rattle.cluster_core.specs.rule.World.{WorldState}
use Rattle.cluster_core.specs.rule.Runs.{Leads}
use Rattle.cluster_core.specs.rule.Rounds.{IsQuiet, AnswersNone, AllRest}
use Rattle.cluster_core.proofs.common.Choices.{at_number}
use Rattle.cluster_core.proofs.rounds.Quiet.{quiet-rest}
use Rattle.cluster_core.proofs.rounds.Stretches.{AllQuiet}
use Rattle.progress.specs.rule.Rounds.{open_up_to, number_of_open_calls}
use Rattle.progress.proofs.Closing.{fewer}
use Rattle.progress.proofs.Sums.{add_both, add_first, add_second, not_last}
use Rattle.progress.proofs.Steps.{Answers, step-answers}

-- no node has more open calls
abbrev IsNoMore : (ℕ → NodeState) → (ℕ → NodeState) → Type 0
IsNoMore old new = (n : ℕ) → length (new n).pending ≤ length (old n).pending

no_more : (old new : ℕ → NodeState) (k : ℕ) → IsNoMore old new → open_up_to new k ≤ open_up_to old k
no_more old new zero few = omega arith
no_more old new (suc k) few = add_both (open_up_to new k) (open_up_to old k) (length (new (suc k)).pending) (length (old (suc k)).pending) (no_more old new k few) (few (suc k))

-- one of the nodes has fewer
one_less : (old new : ℕ → NodeState) (k n : ℕ) → IsNoMore old new → 1 ≤ n → n ≤ k → length (new n).pending + 1 ≤ length (old n).pending → open_up_to new k + 1 ≤ open_up_to old k
one_less old new zero n few low high less = absurd (omega arith)
one_less old new (suc k) n few low high less = at_number n (suc k) (λ b. open_up_to new (suc k) + 1 ≤ open_up_to old (suc k))
    (λ same.
    let here : length (new (suc k)).pending + 1 ≤ length (old (suc k)).pending = subst (λ (j : ℕ). length (new j).pending + 1 ≤ length (old j).pending) same less in
    add_second (open_up_to new k) (open_up_to old k) (length (new (suc k)).pending) (length (old (suc k)).pending) 1 (no_more old new k few) here)
    (λ other. add_first (open_up_to new k) (open_up_to old k) (length (new (suc k)).pending) (length (old (suc k)).pending) 1 (one_less old new k n few low (not_last n k high other) less) (few (suc k)))

module _ (w v : WorldState) (a : Answers w v) where
  abbrev n : ℕ
  n = a.number

  less_here : length (v.nodes n).pending + 1 ≤ length (w.nodes n).pending
  less_here =
      let c = a.closes in
      let own : not (c.call.number == c.call.number) ≡ false = ap not (eq-eqb c.call.number c.call.number refl) in
      let few = fewer (λ (d : OpenCall). not (d.number == c.call.number)) (w.nodes n).pending c.call own c.at in
      subst (λ (cs : List OpenCall). length cs + 1 ≤ length (w.nodes n).pending) (sym c.left) few

  no_more_anywhere : IsNoMore w.nodes v.nodes
  no_more_anywhere m = at_number m n (λ b. length (v.nodes m).pending ≤ length (w.nodes m).pending)
      (λ same. subst (λ (j : ℕ). length (v.nodes j).pending ≤ length (w.nodes j).pending) (sym same) (let less = less_here in omega arith))
      (λ other. subst (λ (s : NodeState). length (v.nodes m).pending ≤ length s.pending) (a.differs.others m other) (omega arith))

  pub answer_lowers : number_of_open_calls v + 1 ≤ number_of_open_calls w
  answer_lowers =
      let inside = and_parts (nat_le 1 n) (nat_le n w.shape.nodes) a.there in
      subst (λ (s : ShapeFields). open_up_to v.nodes s.nodes + 1 ≤ open_up_to w.nodes w.shape.nodes) (sym a.differs.shape)
      (one_less w.nodes v.nodes w.shape.nodes n no_more_anywhere (leb-true 1 n inside.0) (leb-true n w.shape.nodes inside.1) less_here)

rest_stays : (w v : WorldState) → AllRest w v → number_of_open_calls v ≤ number_of_open_calls w
rest_stays w v r = subst (λ (s : ShapeFields). open_up_to v.nodes s.nodes ≤ open_up_to w.nodes w.shape.nodes) (sym r.shape)
    (no_more w.nodes v.nodes w.shape.nodes (λ n. subst (λ (cs : List OpenCall). length cs ≤ length (w.nodes n).pending) (sym (r.nodes n).pending) (omega arith)))

-- the stretch answers none, and as many calls are open, or fewer are open at its end
abbrev Outcomes : WorldState → List Entry → WorldState → Type 0
Outcomes w es v = (AnswersNone es × (number_of_open_calls v ≤ number_of_open_calls w)) ⊎ (number_of_open_calls v + 1 ≤ number_of_open_calls w)

-- one step, and then the rest
first_and_rest : (w mid v : WorldState) (e : Entry) (es : List Entry) → Outcomes w (e ∷ []) mid → Outcomes mid es v → Outcomes w (e ∷ es) v
first_and_rest w mid v e es (inl one) (inl rest) = inl (All-cons (λ (x : Entry). x.reply ≡ None) e es (All-head (λ (x : Entry). x.reply ≡ None) e [] one.0) rest.0, (let a = one.1 in let b = rest.1 in omega arith))
first_and_rest w mid v e es (inl one) (inr rest) = inr (let a = one.1 in omega arith)
first_and_rest w mid v e es (inr one) (inl rest) = inr (let b = rest.1 in omega arith)
first_and_rest w mid v e es (inr one) (inr rest) = inr (omega arith)

pub stretch_counts : (es : List Entry) (w v : WorldState) → Leads w es v → AllQuiet es → Outcomes w es v
stretch_counts [] w v leads quiet = inl (All-nil (λ (x : Entry). x.reply ≡ None), subst (λ (x : WorldState). number_of_open_calls x ≤ number_of_open_calls w) leads (omega arith))
stretch_counts (e ∷ es) w v leads quiet =
    let own = All-head (λ (x : Entry). IsQuiet x.event) e es quiet in
    let alone = All-cons (λ (x : Entry). IsQuiet x.event) e [] own (All-nil (λ (x : Entry). IsQuiet x.event)) in
    let rest = stretch_counts es leads.0 v leads.2 (All-tail (λ (x : Entry). IsQuiet x.event) e es quiet) in
    first_and_rest w leads.0 v e es (by e.reply refl own alone) rest
  where
    by : (o : Option (CallId × Reply)) → e.reply ≡ o → IsQuiet e.event → AllQuiet (e ∷ []) → Outcomes w (e ∷ []) leads.0
    by None is own alone =
        let none = All-cons (λ (x : Entry). x.reply ≡ None) e [] is (All-nil (λ (x : Entry). x.reply ≡ None)) in
        inl (none, rest_stays w leads.0 (quiet-rest (e ∷ []) w leads.0 (leads.0, leads.1, refl) alone none))
    by (Some reply) is own alone = inr (answer_lowers w leads.0 (step-answers w e leads.0 reply leads.1 own is))
