-- What is known of each node once a server was rebuilt.
use Rattle.std.specs.Prelude.{◌≡◌, ℕ, zero, suc, ◌+◌, ◌-◌, ◌<◌, ◌≤◌, Bool, true, false, cond, ◌&&◌, nat_le, List, [], ◌∷◌, ◌++◌, length, slice_get, Option, Some, None, IfSome}
use Rattle.std.proofs.Common.{refl, sym, ap, subst, ◌∙◌, inl, inr, arith}
use Rattle.std.proofs.lemmas.Bool.{cases_lt, and_from, le-leb, lt-leb}
use Rattle.std.proofs.lemmas.Option.{slice_get_past}
use Rattle.model.specs.declared.mode.Mode.TheVariants.{Read}
use Rattle.messages.specs.rule.Shapes.{ShapeFields, before_epoch}
use Rattle.messages.specs.rule.Messages.{is_within}
use Rattle.messages.specs.rule.Members.{MembersParts, incarnation_of, members_state}
use Rattle.messages.proofs.Rules.{numbered-outside}
use Rattle.token_server.specs.declared.known_nodes.known_node.KnownNode.{KnownNode}
use Rattle.token_server.specs.rule.Rows.{Row, awaited_row, row_conflicts_at}
use Rattle.token_server.specs.rule.RowParts.{row_of, dead_of, known_node_at, rows_of, deaths_of}
use Rattle.token_server.specs.code.Rows.{NoneExclusive, rebuilt_row, rebuilt_dead, AreRebuilt, rebuilt_rows}

within-cluster : (nodes k : ℕ) → k < nodes → is_within nodes (suc k) ≡ true
within-cluster nodes k below = and_from (nat_le 1 (suc k)) (nat_le (suc k) nodes) (le-leb 1 (suc k) (omega arith)) (le-leb (suc k) nodes (omega arith))

past-cluster : (nodes k : ℕ) → nodes ≤ k → is_within nodes (suc k) ≡ false
past-cluster nodes k past = ap (λ (b : Bool). nat_le 1 (suc k) && b) (lt-leb (suc k) nodes (omega arith)) ∙ none (nat_le 1 (suc k))
  where
    none : (b : Bool) → (b && false) ≡ false
    none true = refl
    none false = refl

module _ (shape : ShapeFields) (file epoch : ℕ) (members : MembersParts) (known_nodes : List KnownNode) (many : length known_nodes ≡ shape.nodes) (of_shape : (members_state members.nodes).nodes ≡ shape.nodes) (each : AreRebuilt file (before_epoch epoch) members shape.nodes known_nodes) where
  -- the rows of a rebuilt server are those of the nodes that are alive, with a Hello
  pub rebuilt-rows : rows_of known_nodes ≡ rebuilt_rows shape.nodes file (before_epoch epoch) members
  unfolding rows_of
  rebuilt-rows = λ i node. at node i
    where
      own : ℕ → Option Row
      own = rebuilt_row file (before_epoch epoch) members

      at : (node : ℕ) → row_of (known_node_at known_nodes node) ≡ cond (is_within shape.nodes node) (own node) None
      at zero = refl
      at (suc k) = elim (cases_lt k shape.nodes) [
        | inl below ↦ (each k below).0 ∙ ap own next ∙ sym (ap (λ (b : Bool). cond b (own (suc k)) None) (within-cluster shape.nodes k below))
        | inr past ↦ ap row_of (slice_get_past known_nodes k (omega arith)) ∙ sym (ap (λ (b : Bool). cond b (own (suc k)) None) (past-cluster shape.nodes k past))
      ]
        where
          next : k + 1 ≡ suc k
          next = omega arith

  -- the dead incarnations of a rebuilt server are those that were declared failed
  pub rebuilt-deaths : deaths_of known_nodes ≡ rebuilt_dead members
  unfolding deaths_of
  rebuilt-deaths = λ i node. at node i
    where
      outside : (node : ℕ) → (1 ≤ node → 1 + (members_state members.nodes).nodes ≤ node) → 0 ≡ rebuilt_dead members node
      outside node out = sym (ap (λ (k : ℕ). k - 1) (numbered-outside (λ y. incarnation_of y.alive y.last) (λ k. 1) 1 members.nodes node out))

      at : (node : ℕ) → dead_of (known_node_at known_nodes node) ≡ rebuilt_dead members node
      at zero = outside zero (λ least. absurd (omega arith))
      at (suc k) = elim (cases_lt k shape.nodes) [
        | inl below ↦ (each k below).1 ∙ ap (rebuilt_dead members) next
        | inr past ↦ ap dead_of (slice_get_past known_nodes k (omega arith)) ∙ outside (suc k) (λ least. omega arith)
      ]
        where
          next : k + 1 ≡ suc k
          next = omega arith

  -- no row of a rebuilt server has an exclusive byte
  pub rebuilt-free : NoneExclusive (rows_of known_nodes)
  rebuilt-free node b within = ap (λ (rows : ℕ → Option Row). row_conflicts_at (rows node) b Read) rebuilt-rows ∙ free (is_within shape.nodes node) ((members_state members.nodes).alive node)
    where
      free : (t u : Bool) → row_conflicts_at (cond t (cond u (Some (awaited_row file (before_epoch epoch) node ((members_state members.nodes).incarnation node))) None) None) b Read ≡ false
      free true true = refl
      free true false = refl
      free false u = refl

-- no row of a rebuilt server has a number of an earlier epoch
pub rebuilt-counted : (shape : ShapeFields) (file epoch : ℕ) (members : MembersParts) (known_nodes : List KnownNode) → rows_of known_nodes ≡ rebuilt_rows shape.nodes file (before_epoch epoch) members → (n : ℕ) → IfSome (rows_of known_nodes n) (λ row. before_epoch epoch ≤ row.number)
rebuilt-counted shape file epoch members known_nodes rows n =
    subst (λ (f : ℕ → Option Row). IfSome (f n) (λ row. before_epoch epoch ≤ row.number)) (sym rows) (by (is_within shape.nodes n) ((members_state members.nodes).alive n))
  where
    by : (b t : Bool) → IfSome (cond b (cond t (Some (awaited_row file (before_epoch epoch) n ((members_state members.nodes).incarnation n))) None) None) (λ row. before_epoch epoch ≤ row.number)
    by true true = omega arith
    by true false = tt
    by false t = tt

-- one more node of a rebuilt server
pub rebuilt-push : (file number : ℕ) (members : MembersParts) (n : ℕ) (known_nodes : List KnownNode) (known_node : KnownNode) → length known_nodes ≡ n → row_of (Some known_node) ≡ rebuilt_row file number members (n + 1) → dead_of (Some known_node) ≡ rebuilt_dead members (n + 1) → AreRebuilt file number members n known_nodes → AreRebuilt file number members (n + 1) (known_nodes ++ known_node ∷ [])
rebuilt-push file number members n known_nodes known_node len row dead all = λ k below. elim (cases_lt k n) [
  | inl before ↦
      let there : slice_get (known_nodes ++ known_node ∷ []) k ≡ slice_get known_nodes k = before-push known_nodes k (omega (arith, len, before)) in
      (ap row_of there ∙ (all k before).0, ap dead_of there ∙ (all k before).1)
  | inr from ↦
      let same : n ≡ k = omega (arith, from, below) in
      subst (λ (m : ℕ). (row_of (slice_get (known_nodes ++ known_node ∷ []) m) ≡ rebuilt_row file number members (m + 1)) × (dead_of (slice_get (known_nodes ++ known_node ∷ []) m) ≡ rebuilt_dead members (m + 1))) same
      (ap row_of last ∙ row, ap dead_of last ∙ dead)
]
  where
    before-push : (cs : List KnownNode) (k : ℕ) → k < length cs → slice_get (cs ++ known_node ∷ []) k ≡ slice_get cs k
    before-push [] k within = absurd (omega arith)
    before-push (c ∷ cs) zero within = refl
    before-push (c ∷ cs) (suc k) within = before-push cs k (omega arith)

    at-end : (cs : List KnownNode) → slice_get (cs ++ known_node ∷ []) (length cs) ≡ Some known_node
    at-end [] = refl
    at-end (c ∷ cs) = at-end cs

    last : slice_get (known_nodes ++ known_node ∷ []) n ≡ Some known_node
    last = ap (slice_get (known_nodes ++ known_node ∷ [])) (sym len) ∙ at-end known_nodes
