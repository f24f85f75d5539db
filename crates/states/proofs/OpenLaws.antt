-- Each open call of a live node is told.
use Rattle.std.specs.Prelude.{nat_le, if◌then◌else◌, get_or}
use Rattle.std.proofs.Common.{◌≡◌, ℕ, zero, suc, ◌<◌, ◌≤◌, Bool, true, inl, inr, refl, sym, ap, subst, arith, List, [], ◌∷◌, length, Contains, map}
use Rattle.std.proofs.lemmas.Bool.{and_parts, cases_lt, leb-true}
use Rattle.std.proofs.lemmas.List.Elements.{Contains-append_left, Contains-append_right}
use Rattle.model.specs.rule.Limits.{most_nodes}
use Rattle.node_core.specs.declared.open_call.OpenCall.{OpenCall}
use Rattle.cluster_core.specs.rule.World.{WorldState, has_node, is_alive}
use Rattle.messages.specs.rule.Shapes.{IsShape}
use Rattle.states.specs.declared.open_call.OpenState.{OpenState}
use Rattle.states.specs.rule.States.{open_in, open_on, open_up_to}

module _ {A B : Type 0} (f : A → B) where
  -- what is among what f gives of the elements is given of one
  pub of_one : (xs : List A) (y : B) → Contains (map f xs) y → (x : A) × Contains xs x × (f x ≡ y)
  of_one [] y at = absurd (let lt = at.1 in omega arith)
  of_one (x ∷ xs) y at = by (of_one xs y) at.0 at.1 at.2
    where
      by : (Contains (map f xs) y → (z : A) × Contains xs z × (f z ≡ y)) → (k : ℕ) → k < length (map f (x ∷ xs)) → get_or (map f (x ∷ xs)) k y ≡ y → (z : A) × Contains (x ∷ xs) z × (f z ≡ y)
      by rest zero lt is = (x, (0, omega arith, refl), is)
      by rest (suc k) lt is =
          let later = rest (k, omega (arith, lt), is) in
          let at = later.1 in
          let below = at.1 in
          (later.0, (suc at.0, omega (arith, below), at.2), later.2)

-- the open calls of a live node are among those of the nodes up to it
onto_node : (w : WorldState) (n : ℕ) (c : OpenCall) → is_alive w n ≡ true → Contains (w.nodes n).pending c → Contains (open_on w n) c
onto_node w n c alive at = subst (λ (b : Bool). Contains (if b then (w.nodes n).pending else []) c) (sym alive) at

up_to : (w : WorldState) (count n : ℕ) (x : OpenCall) → 1 ≤ n → n ≤ count → Contains (open_on w n) x → Contains (open_up_to w count) x
unfolding open_up_to
up_to w zero n x least most at = absurd (omega (arith, least, most))
up_to w (suc count) n x least most at = elim (cases_lt n (suc count)) [
  | inl lt ↦ Contains-append_left (open_up_to w count) (open_on w (suc count)) x (up_to w count n x least (omega (arith, lt)) at)
  | inr ge ↦ let last : n ≡ suc count = omega (arith, ge, most) in Contains-append_right (open_up_to w count) (open_on w (suc count)) x (subst (λ (k : ℕ). Contains (open_on w k) x) last at)
]

-- where the calls that are told are those of the world, each open call of a live node is told
pub open_told : (w : WorldState) (told : List OpenState) (n : ℕ) (c : OpenCall) → IsShape w.shape → map (λ o. o.asked) told ≡ open_in w → is_alive w n ≡ true → Contains (w.nodes n).pending c
    → (o : OpenState) × Contains told o × (o.asked ≡ c)
open_told w told n c is same alive at =
    let number = (and_parts (has_node w n) (w.alive n) alive).0 in
    let bounds = and_parts (nat_le 1 n) (nat_le n w.shape.nodes) number in
    let least : 1 ≤ n = leb-true 1 n bounds.0 in
    let within : n ≤ w.shape.nodes = leb-true n w.shape.nodes bounds.1 in
    let few = is.nodes_in.1 in
    let all = up_to w most_nodes n c least (omega (arith, within, few)) (onto_node w n c alive at) in
    of_one (λ (o : OpenState). o.asked) told c (subst (λ (xs : List OpenCall). Contains xs c) (sym same) all)
