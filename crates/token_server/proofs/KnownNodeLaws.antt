-- What is known of the nodes after changes and edits, and the token of a report.
use Rattle.std.specs.Prelude.{◌≡◌, ◌≢◌, ℕ, zero, suc, ◌+◌, ◌-◌, ◌<◌, Bool, true, false, ◌==◌, if◌then◌else◌, cond, ◌↔◌, IsTrue, List, [], ◌∷◌, All, length, slice_get, slice_set, slice_index_or, Option, Some, None, ◌≤◌, ◌&&◌, MatchOption, ◌||◌, ◌++◌, not, nat_le, nat_lt}
use Rattle.std.proofs.Common.{refl, sym, ap, subst, ◌∙◌, inl, inr, arith}
use Rattle.std.proofs.lemmas.Bool.Decides.{eqb_tells}
use Rattle.std.proofs.lemmas.Bool.{cases_lt, lt-ltb, both_ways, eq-eqb, false_from_ne_true, or_parts, and_parts, ltb-true, leb-true}
use Rattle.std.proofs.lemmas.Option.{slice_get_read, slice_get_past, slice_get-get_or}
use Rattle.model.specs.rule.Limits.{IsNumber}
use Rattle.token_server.specs.declared.known_nodes.known_node.KnownNode.{KnownNode}
use Rattle.token_server.specs.rule.RowParts.{row_of, dead_of, known_node_at, rows_of, deaths_of, SameKnown, SameKnownNodes, row_seen}
use Rattle.token_server.specs.declared.known_nodes.row_edit.RowEdit.{RowEdit}
use Rattle.token_server.specs.declared.known_nodes.token_holder.RowView.{RowView}
use Rattle.token_server.specs.declared.known_nodes.known_change.Changed.{Changed}
use Rattle.token_server.specs.rule.Rows.{Row, row_conflicts, row_conflicts_at, outstanding_of, outstanding_to}
use Rattle.token_server.specs.code.Rows.{row_after, dead_after, rows_after, deaths_after, seen, seen_row, row_kept, given_to_known_node, with_given_row, rows_overlaid, deaths_with, deaths_overlaid, given_rows, NoneExclusive, mode_of}
use Rattle.token_server.specs.declared.known_nodes.new_row.NewRow.{NewRow}
use Rattle.std.specs.List.{list_any, filter_map, range_with_len, cons_option}
use Rattle.std.proofs.lemmas.List.{length-set, map-id}
use Rattle.intervals.specs.rule.Bytes.{Range, greatest, whole, NoneIn, is_in}
use Rattle.model.specs.declared.mode.Mode.TheVariants.{Read}
use Rattle.token_set.proofs.TokenLaws.{conflicts-none, none-conflicts}
use Rattle.token_server.specs.declared.known_nodes.token_holder.TokenHolder.{TokenHolder}
use Rattle.model.specs.declared.mode.Mode.{Mode}
use Rattle.std.proofs.lemmas.List.FromFn.{map-range_with_len_more}
use Rattle.std.proofs.lemmas.List.Elements.{filter_map-append, All-nil, All-cons, All-head, All-tail}
use Rattle.messages.specs.declared.message.Message.{Message}
use Rattle.model.specs.declared.level.Level.{Level}
use Rattle.model.specs.declared.level.Level.TheVariants.{Shared, Exclusive}
use Rattle.token_set.specs.rule.Tokens.{raised_level, raised}
use Rattle.messages.specs.declared.token_run.TokenRun.{TokenRun}
use Rattle.messages.specs.rule.TokenRuns.{same_level, go_on_after, are_longest}
use Rattle.messages.specs.rule.Messages.{reported}

-- a read of the place that was written gives what was written
slice_get-set_same : {X : Type 0} (xs : List X) (i : ℕ) (x : X) → i < length xs → slice_get (slice_set xs i x) i ≡ Some x
slice_get-set_same [] i x within = absurd (omega arith)
slice_get-set_same (y ∷ ys) zero x within = refl
slice_get-set_same (y ∷ ys) (suc i) x within = slice_get-set_same ys i x (omega arith)

-- a read of another place gives what was there before
pub slice_get-set_other : {X : Type 0} (xs : List X) (i k : ℕ) (x : X) → k ≢ i → slice_get (slice_set xs i x) k ≡ slice_get xs k
slice_get-set_other [] i k x apart = refl
slice_get-set_other (y ∷ ys) zero zero x apart = absurd (apart refl)
slice_get-set_other (y ∷ ys) zero (suc k) x apart = refl
slice_get-set_other (y ∷ ys) (suc i) zero x apart = refl
slice_get-set_other (y ∷ ys) (suc i) (suc k) x apart = slice_get-set_other ys i k x (λ e. apart (ap suc e))

-- a node is found one place before its number
pub known_node_at-place : (known_nodes : List KnownNode) (node place : ℕ) → place + 1 ≡ node → known_node_at known_nodes node ≡ slice_get known_nodes place
known_node_at-place known_nodes zero place e = absurd (omega arith)
known_node_at-place known_nodes (suc k) place e =
    let same : k ≡ place = omega arith in
    ap (λ i. slice_get known_nodes i) same

-- a read of the list gives the node
pub known_node_at-read : (known_nodes : List KnownNode) (node place : ℕ) (known_node : KnownNode) → IsNumber (length known_nodes) node → place ≡ node - 1 → known_node ≡ slice_index_or known_nodes place known_node → known_node_at known_nodes node ≡ Some known_node
known_node_at-read known_nodes node place known_node within e read =
    let next : place + 1 ≡ node = omega arith in
    known_node_at-place known_nodes node place next ∙ slice_get_read known_nodes (length known_nodes) place known_node refl (omega arith) read

-- a write changes what is known of the node at the place
pub known_node_at-set_same : (known_nodes : List KnownNode) (node place : ℕ) (new : KnownNode) → IsNumber (length known_nodes) node → place ≡ node - 1 → known_node_at (slice_set known_nodes place new) node ≡ Some new
known_node_at-set_same known_nodes node place new within e =
    let next : place + 1 ≡ node = omega arith in
    known_node_at-place (slice_set known_nodes place new) node place next ∙ slice_get-set_same known_nodes place new (omega arith)

-- a write leaves what is known of any other node
pub known_node_at-set_other : (known_nodes : List KnownNode) (node place n : ℕ) (new : KnownNode) → IsNumber (length known_nodes) node → place ≡ node - 1 → n ≢ node → known_node_at (slice_set known_nodes place new) n ≡ known_node_at known_nodes n
known_node_at-set_other known_nodes node place zero new within e apart = refl
known_node_at-set_other known_nodes node place (suc k) new within e apart =
    slice_get-set_other known_nodes place k new (λ same. apart (omega arith))

-- what f sees of the known nodes after a write: g of what it saw before at that node
pub changed_at : {A : Type 0} (f : Option KnownNode → A) (g : A → A) (known_nodes : List KnownNode) (node place : ℕ) (known_node new : KnownNode) → IsNumber (length known_nodes) node → place ≡ node - 1 → known_node_at known_nodes node ≡ Some known_node → f (Some new) ≡ g (f (Some known_node)) → (n : ℕ) → f (known_node_at (slice_set known_nodes place new) n) ≡ (if n == node then g (f (known_node_at known_nodes n)) else f (known_node_at known_nodes n))
changed_at {A} f g known_nodes node place known_node new within e there_is made n = elim (eqb_tells n node) [
  | inl same ↦
      let there : f (known_node_at (slice_set known_nodes place new) n) ≡ f (Some new) = ap (λ k. f (known_node_at (slice_set known_nodes place new) k)) same.1 ∙ ap f (known_node_at-set_same known_nodes node place new within e) in
      let before : f (known_node_at known_nodes n) ≡ f (Some known_node) = ap (λ k. f (known_node_at known_nodes k)) same.1 ∙ ap f there_is in
      let test : (if n == node then g (f (known_node_at known_nodes n)) else f (known_node_at known_nodes n)) ≡ g (f (known_node_at known_nodes n)) = ap (λ b. cond b (g (f (known_node_at known_nodes n))) (f (known_node_at known_nodes n))) same.0 in
      there ∙ made ∙ ap g (sym before) ∙ sym test
  | inr apart ↦
      let test : (if n == node then g (f (known_node_at known_nodes n)) else f (known_node_at known_nodes n)) ≡ f (known_node_at known_nodes n) = ap (λ b. cond b (g (f (known_node_at known_nodes n))) (f (known_node_at known_nodes n))) apart.0 in
      ap f (known_node_at-set_other known_nodes node place n new within e apart.1) ∙ sym test
]

changed : {A : Type 0} (f : Option KnownNode → A) (g : A → A) (known_nodes : List KnownNode) (node place : ℕ) (known_node new : KnownNode) → IsNumber (length known_nodes) node → place ≡ node - 1 → known_node ≡ slice_index_or known_nodes place known_node → f (Some new) ≡ g (f (Some known_node)) → (n : ℕ) → f (known_node_at (slice_set known_nodes place new) n) ≡ (if n == node then g (f (known_node_at known_nodes n)) else f (known_node_at known_nodes n))
changed f g known_nodes node place known_node new within e read made n =
    changed_at f g known_nodes node place known_node new within e (known_node_at-read known_nodes node place known_node within e read) made n

-- the greatest dead incarnations after a change of one node
pub deaths_of-set : (known_nodes : List KnownNode) (node place : ℕ) (known_node new : KnownNode) (g : ℕ → ℕ) → IsNumber (length known_nodes) node → place ≡ node - 1 → known_node ≡ slice_index_or known_nodes place known_node → new.dead ≡ g known_node.dead → deaths_of (slice_set known_nodes place new) ≡ (λ n. if n == node then g (deaths_of known_nodes n) else deaths_of known_nodes n)
unfolding deaths_of
deaths_of-set known_nodes node place known_node new g within e read made =
    λ i n. changed dead_of g known_nodes node place known_node new within e read made n i

pub same_either : {A : Type 0} (b : Bool) (x : A) → cond b x x ≡ x
same_either true x = refl
same_either false x = refl

-- a write that leaves the node's dead incarnation leaves all
pub deaths_of-set_same : (known_nodes : List KnownNode) (node place : ℕ) (known_node new : KnownNode) → IsNumber (length known_nodes) node → place ≡ node - 1 → known_node ≡ slice_index_or known_nodes place known_node → new.dead ≡ known_node.dead → deaths_of (slice_set known_nodes place new) ≡ deaths_of known_nodes
deaths_of-set_same known_nodes node place known_node new within e read made =
    deaths_of-set known_nodes node place known_node new (λ dead. dead) within e read made ∙ (λ i n. same_either (n == node) (deaths_of known_nodes n) i)

pub rows_of-set_same : (known_nodes : List KnownNode) (node place : ℕ) (known_node new : KnownNode) → IsNumber (length known_nodes) node → place ≡ node - 1 → known_node ≡ slice_index_or known_nodes place known_node → row_of (Some new) ≡ row_of (Some known_node) → rows_of (slice_set known_nodes place new) ≡ rows_of known_nodes
unfolding rows_of
rows_of-set_same known_nodes node place known_node new within e read made =
    λ i n. (changed row_of (λ row. row) known_nodes node place known_node new within e read made n ∙ same_either (n == node) (row_of (known_node_at known_nodes n))) i

known_at : {A : Type 0} (f : Option KnownNode → A) (known_nodes : List KnownNode) → All (λ known_node. known_node ≡ record { dead = 0; row = None }) known_nodes → f (Some (record { dead = 0; row = None })) ≡ f None → (k : ℕ) → f (slice_get known_nodes k) ≡ f None
known_at f known_nodes all same k = elim (cases_lt k (length known_nodes)) [
  | inl below ↦
      let new : KnownNode = record { dead = 0; row = None } in
      ap f (slice_get-get_or known_nodes k new below) ∙ ap (λ c. f (Some c)) (all k new below) ∙ same
  | inr above ↦ ap f (slice_get_past known_nodes k above)
]

pub rows_of-new : (known_nodes : List KnownNode) → All (λ known_node. known_node ≡ record { dead = 0; row = None }) known_nodes → rows_of known_nodes ≡ (λ node. None)
unfolding rows_of
rows_of-new known_nodes all = λ i n. at_node n i
  where
    at_node : (n : ℕ) → row_of (known_node_at known_nodes n) ≡ None
    at_node zero = refl
    at_node (suc k) = known_at row_of known_nodes all refl k

pub deaths_of-new : (known_nodes : List KnownNode) → All (λ known_node. known_node ≡ record { dead = 0; row = None }) known_nodes → deaths_of known_nodes ≡ (λ node. 0)
unfolding deaths_of
deaths_of-new known_nodes all = λ i n. at_node n i
  where
    at_node : (n : ℕ) → dead_of (known_node_at known_nodes n) ≡ 0
    at_node zero = refl
    at_node (suc k) = known_at dead_of known_nodes all refl k

-- known nodes of which the same is known have the same rows and dead incarnations
same_at : (known_nodes others : List KnownNode) → length known_nodes ≡ length others → SameKnownNodes known_nodes others → (n : ℕ) → SameKnown (known_node_at known_nodes n) (known_node_at others n)
same_at known_nodes others long same zero = (refl, refl)
same_at known_nodes others long same (suc k) = elim (cases_lt k (length known_nodes)) [
  | inl below ↦ same k below
  | inr above ↦
      let none = slice_get_past known_nodes k above in
      let none_there = slice_get_past others k (omega arith) in
      let P : Option KnownNode → Type 0 = λ a. SameKnown a (slice_get others k) in
      let Q : Option KnownNode → Type 0 = λ b. SameKnown None b in
      subst P (sym none) (subst Q (sym none_there) (refl, refl))
]

pub same_rows : (known_nodes others : List KnownNode) → length known_nodes ≡ length others → SameKnownNodes known_nodes others → (rows_of known_nodes ≡ rows_of others) × (deaths_of known_nodes ≡ deaths_of others)
unfolding rows_of deaths_of
same_rows known_nodes others long same = (λ i n. (same_at known_nodes others long same n).0 i, λ i n. (same_at known_nodes others long same n).1 i)

-- known nodes that have the same rows and dead incarnations are known to be the same
pub same_known : (known_nodes others : List KnownNode) → (rows_of known_nodes ≡ rows_of others) × (deaths_of known_nodes ≡ deaths_of others) → SameKnownNodes known_nodes others
unfolding rows_of deaths_of
same_known known_nodes others same k within = (ap (λ f. f (suc k)) same.0, ap (λ f. f (suc k)) same.1)

-- whether the same is known of each two says whether both have the same rows
pub same_known_nodes : (b : Bool) (known_nodes others these those : List KnownNode) → these ≡ known_nodes → those ≡ others → length known_nodes ≡ length others → IsTrue b ↔ SameKnownNodes these those → IsTrue b ↔ ((rows_of known_nodes ≡ rows_of others) × (deaths_of known_nodes ≡ deaths_of others))
same_known_nodes b known_nodes others these those e f long tells =
    let here : SameKnownNodes these those → SameKnownNodes known_nodes others = λ same. rw (← e, ← f) same in
    let back : SameKnownNodes known_nodes others → SameKnownNodes these those = λ same. rw (e, f) same in
    (λ t. same_rows known_nodes others long (here (tells.0 t)), λ same. tells.1 (back (same_known known_nodes others same)))

-- the row of a node that is in the list is the row kept with it
pub rows_of-there : (known_nodes : List KnownNode) (node : ℕ) (known_node : KnownNode) → known_node_at known_nodes node ≡ Some known_node → rows_of known_nodes node ≡ row_seen known_node.row
unfolding rows_of
rows_of-there known_nodes node known_node there = ap row_of there

pub deaths_of-there : (known_nodes : List KnownNode) (node : ℕ) (known_node : KnownNode) → known_node_at known_nodes node ≡ Some known_node → deaths_of known_nodes node ≡ known_node.dead
unfolding deaths_of
deaths_of-there known_nodes node known_node there = ap dead_of there

pub rows_of-none : (known_nodes : List KnownNode) (node : ℕ) → known_node_at known_nodes node ≡ None → rows_of known_nodes node ≡ None
unfolding rows_of
rows_of-none known_nodes node none = ap row_of none

pub deaths_of-none : (known_nodes : List KnownNode) (node : ℕ) → known_node_at known_nodes node ≡ None → deaths_of known_nodes node ≡ 0
unfolding deaths_of
deaths_of-none known_nodes node none = ap dead_of none

-- the edit makes the change of the node as it was known before
pub record Changes (known_node : KnownNode) (c : Changed) (e : RowEdit) : Type 0 where
  pub place_is : e.given.place ≡ c.node - 1
  pub row_is : row_kept e.given.row known_node.row ≡ row_after c.change (row_seen known_node.row)
  pub dead_is : e.dead ≡ dead_after c.change known_node.dead

-- the row after an edit, of the node that it is of and of any other
pub overlaid-here : (known_nodes : List KnownNode) (e : RowEdit) (node : ℕ) (o : Option KnownNode) → e.given.place + 1 ≡ node → known_node_at known_nodes node ≡ o → rows_overlaid known_nodes (Some e) node ≡ given_to_known_node e.given o
overlaid-here known_nodes e node o at there = elim (eqb_tells node (e.given.place + 1)) [
  | inl here ↦ ap (λ (b : Bool). cond b (given_to_known_node e.given (known_node_at known_nodes node)) (rows_of known_nodes node)) here.0 ∙ ap (given_to_known_node e.given) there
  | inr apart ↦ absurd (apart.1 (sym at))
]

pub overlaid-elsewhere : (known_nodes : List KnownNode) (e : RowEdit) (node : ℕ) → e.given.place + 1 ≢ node → rows_overlaid known_nodes (Some e) node ≡ rows_of known_nodes node
overlaid-elsewhere known_nodes e node apart = elim (eqb_tells node (e.given.place + 1)) [
  | inl here ↦ absurd (apart (sym here.1))
  | inr other ↦ ap (λ (b : Bool). cond b (given_to_known_node e.given (known_node_at known_nodes node)) (rows_of known_nodes node)) other.0
]

-- the dead incarnation of a node that is in the list changes
pub deaths_with-there : (known_nodes : List KnownNode) (place dead : ℕ) → place < length known_nodes → (λ (n : ℕ). if n == place + 1 then dead else deaths_of known_nodes n) ≡ deaths_with place dead known_nodes
deaths_with-there known_nodes place dead within = λ i n. sym (ap (λ (b : Bool). cond (n == place + 1 && b) dead (deaths_of known_nodes n)) (lt-ltb place (length known_nodes) within) ∙ ap (λ (b : Bool). cond b dead (deaths_of known_nodes n)) (and_true (n == place + 1))) i
  where
    and_true : (b : Bool) → (b && true) ≡ b
    and_true true = refl
    and_true false = refl

-- what is known after the edit that makes a change
module _ (known_nodes : List KnownNode) (c : Changed) (known_node : KnownNode) (e : RowEdit) (within : IsNumber (length known_nodes) c.node) (there : known_node_at known_nodes c.node ≡ Some known_node) (x : Changes known_node c e) where
  at_place : e.given.place + 1 ≡ c.node
  at_place = omega (arith, within.0, x.place_is)

  pub rows_of-edit : rows_overlaid known_nodes (Some e) ≡ rows_after (Some c) (rows_of known_nodes)
  rows_of-edit = λ i n. at n i
    where
      own : Option Row
      own = row_after c.change (rows_of known_nodes c.node)

      at : (n : ℕ) → rows_overlaid known_nodes (Some e) n ≡ rows_after (Some c) (rows_of known_nodes) n
      at n = elim (eqb_tells n c.node) [
        | inl here ↦
            overlaid-here known_nodes e n (Some known_node) (at_place ∙ sym here.1) (ap (known_node_at known_nodes) here.1 ∙ there)
            ∙ x.row_is
            ∙ sym (ap (row_after c.change) (ap (rows_of known_nodes) here.1 ∙ rows_of-there known_nodes c.node known_node there))
            ∙ sym (ap (λ (b : Bool). cond b (row_after c.change (rows_of known_nodes n)) (rows_of known_nodes n)) here.0)
        | inr apart ↦
            overlaid-elsewhere known_nodes e n (λ h. apart.1 (sym h ∙ at_place))
            ∙ sym (ap (λ (b : Bool). cond b (row_after c.change (rows_of known_nodes n)) (rows_of known_nodes n)) apart.0)
      ]

  pub deaths_of-edit : deaths_overlaid known_nodes (Some e) ≡ deaths_after (Some c) (deaths_of known_nodes)
  deaths_of-edit =
      sym (deaths_with-there known_nodes e.given.place e.dead (omega (arith, within.1, at_place)))
      ∙ (λ i n. at n i)
    where
      at : (n : ℕ) → (if n == e.given.place + 1 then e.dead else deaths_of known_nodes n) ≡ deaths_after (Some c) (deaths_of known_nodes) n
      at n =
          ap (λ (k : ℕ). if n == k then e.dead else deaths_of known_nodes n) at_place
          ∙ elim (eqb_tells n c.node) [
            | inl here ↦
                ap (λ (b : Bool). cond b e.dead (deaths_of known_nodes n)) here.0
                ∙ x.dead_is
                ∙ sym (ap (dead_after c.change) (ap (deaths_of known_nodes) here.1 ∙ deaths_of-there known_nodes c.node known_node there))
                ∙ sym (ap (λ (b : Bool). cond b (dead_after c.change (deaths_of known_nodes n)) (deaths_of known_nodes n)) here.0)
            | inr apart ↦
                ap (λ (b : Bool). cond b e.dead (deaths_of known_nodes n)) apart.0
                ∙ sym (ap (λ (b : Bool). cond b (dead_after c.change (deaths_of known_nodes n)) (deaths_of known_nodes n)) apart.0)
          ]

-- where a change leaves its node as it is, it leaves all as they are
pub stays-at : {A : Type 0} (node : ℕ) (g : A → A) (known : ℕ → A) → g (known node) ≡ known node → known ≡ (λ n. if n == node then g (known n) else known n)
stays-at {A} node g known same = λ i n. at n i
  where
    at : (n : ℕ) → known n ≡ (if n == node then g (known n) else known n)
    at n = elim (eqb_tells n node) [
      | inl here ↦ ap known here.1 ∙ sym same ∙ ap (λ (k : ℕ). g (known k)) (sym here.1) ∙ sym (ap (λ (b : Bool). cond b (g (known n)) (known n)) here.0)
      | inr apart ↦ sym (ap (λ (b : Bool). cond b (g (known n)) (known n)) apart.0)
    ]

-- a node that is not in the list has no row after an edit
pub overlaid-none : (known_nodes : List KnownNode) (o : Option RowEdit) (node : ℕ) → known_node_at known_nodes node ≡ None → rows_overlaid known_nodes o node ≡ None
overlaid-none known_nodes None node none = rows_of-none known_nodes node none
overlaid-none known_nodes (Some e) node none = elim (eqb_tells node (e.given.place + 1)) [
  | inl here ↦ overlaid-here known_nodes e node None (sym here.1) none
  | inr apart ↦ overlaid-elsewhere known_nodes e node (λ h. apart.1 (sym h)) ∙ rows_of-none known_nodes node none
]

-- a view of a row shows that row
pub seen-matches : (o : Option RowView) (row : Option Row) → row ≡ seen_row o → MatchOption o (row ≡ None) (λ r. row ≡ Some (seen r))
seen-matches None row is = is
seen-matches (Some r) row is = is

-- making a new row is a write to the list
pub given-set : (known_nodes : List KnownNode) (place : ℕ) (known_node new : KnownNode) (g : NewRow) → place < length known_nodes → g.place ≡ place → known_node ≡ slice_index_or known_nodes place known_node → row_seen new.row ≡ row_kept g.row known_node.row → rows_of (slice_set known_nodes place new) ≡ with_given_row g known_nodes
unfolding rows_of
given-set known_nodes place known_node new g within at read made = λ i n. each n i
  where
    there : known_node_at known_nodes (place + 1) ≡ Some known_node
    there = known_node_at-read known_nodes (place + 1) place known_node (omega arith, omega arith) (omega arith) read

    same : (n : ℕ) → (if n == place + 1 then row_kept g.row known_node.row else row_of (known_node_at known_nodes n)) ≡ (if n == place + 1 then given_to_known_node g (known_node_at known_nodes n) else row_of (known_node_at known_nodes n))
    same n = elim (eqb_tells n (place + 1)) [
      | inl here ↦
          let x = row_kept g.row known_node.row in
          let y = given_to_known_node g (known_node_at known_nodes n) in
          let z = row_of (known_node_at known_nodes n) in
          ap (λ (b : Bool). cond b x z) here.0 ∙ sym (ap (λ (k : ℕ). given_to_known_node g (known_node_at known_nodes k)) here.1 ∙ ap (given_to_known_node g) there) ∙ sym (ap (λ (b : Bool). cond b y z) here.0)
      | inr apart ↦
          let x = row_kept g.row known_node.row in
          let y = given_to_known_node g (known_node_at known_nodes n) in
          let z = row_of (known_node_at known_nodes n) in
          ap (λ (b : Bool). cond b x z) apart.0 ∙ sym (ap (λ (b : Bool). cond b y z) apart.0)
    ]

    each : (n : ℕ) → row_of (known_node_at (slice_set known_nodes place new) n) ≡ with_given_row g known_nodes n
    each n = changed_at row_of (λ row. row_kept g.row known_node.row) known_nodes (place + 1) place known_node new (omega arith, omega arith) (omega arith) there made n ∙ same n ∙ ap (λ (k : ℕ). if n == k + 1 then given_to_known_node g (known_node_at known_nodes n) else row_of (known_node_at known_nodes n)) (sym at)

-- a new row at an index behind the list changes nothing
pub given-past : (known_nodes : List KnownNode) (g : NewRow) → length known_nodes ≤ g.place → rows_of known_nodes ≡ with_given_row g known_nodes
unfolding rows_of
given-past known_nodes g past = λ i n. each n i
  where
    each : (n : ℕ) → row_of (known_node_at known_nodes n) ≡ with_given_row g known_nodes n
    each n = elim (eqb_tells n (g.place + 1)) [
      | inl here ↦
          let none : known_node_at known_nodes n ≡ None = ap (known_node_at known_nodes) here.1 ∙ known_node_at-place known_nodes (g.place + 1) g.place refl ∙ slice_get_past known_nodes g.place past in
          let y = given_to_known_node g (known_node_at known_nodes n) in
          let z = row_of (known_node_at known_nodes n) in
          ap row_of none ∙ sym (ap (given_to_known_node g) none) ∙ sym (ap (λ (b : Bool). cond b y z) here.0)
      | inr apart ↦
          let y = given_to_known_node g (known_node_at known_nodes n) in
          let z = row_of (known_node_at known_nodes n) in
          sym (ap (λ (b : Bool). cond b y z) apart.0)
    ]

-- the last new row is made, unless one of the others is of its node
pub given_rows-last : (known_nodes after : List KnownNode) (gs : List NewRow) (g : NewRow) → (n : ℕ) → rows_of after n ≡ with_given_row g known_nodes n → ((m : ℕ) → (m ≡ g.place + 1 → ⊥) → known_node_at after m ≡ known_node_at known_nodes m) → list_any (λ x. x.place == g.place) gs ≡ false → given_rows gs after n ≡ given_rows (gs ++ g ∷ []) known_nodes n
given_rows-last known_nodes after [] g n is others none = is
given_rows-last known_nodes after (x ∷ gs) g n is others none =
    let parts = or_neither (x.place == g.place) (list_any (λ y. y.place == g.place) gs) none in
    let rest = given_rows-last known_nodes after gs g n is others parts.1 in
    elim (eqb_tells n (x.place + 1)) [
      | inl same ↦
          let apart : n ≡ g.place + 1 → ⊥ = λ h. both_ways (x.place == g.place) parts.0 (eq-eqb x.place g.place (same_place (sym same.1 ∙ h))) in
          ap (λ (b : Bool). cond b (given_to_known_node x (known_node_at after n)) (given_rows gs after n)) same.0
          ∙ ap (given_to_known_node x) (others n apart)
          ∙ sym (ap (λ (b : Bool). cond b (given_to_known_node x (known_node_at known_nodes n)) (given_rows (gs ++ g ∷ []) known_nodes n)) same.0)
      | inr other ↦
          ap (λ (b : Bool). cond b (given_to_known_node x (known_node_at after n)) (given_rows gs after n)) other.0
          ∙ rest
          ∙ sym (ap (λ (b : Bool). cond b (given_to_known_node x (known_node_at known_nodes n)) (given_rows (gs ++ g ∷ []) known_nodes n)) other.0)
    ]
  where
    or_neither : (a b : Bool) → (a || b) ≡ false → (a ≡ false) × (b ≡ false)
    or_neither true b h = absurd (cc)
    or_neither false b h = (refl, h)

    same_place : x.place + 1 ≡ g.place + 1 → x.place ≡ g.place
    same_place h = omega arith

pub given_rows-passed : (known_nodes : List KnownNode) (gs : List NewRow) (g : NewRow) (n : ℕ) → list_any (λ x. x.place == g.place) gs ≡ true → given_rows gs known_nodes n ≡ given_rows (gs ++ g ∷ []) known_nodes n
given_rows-passed known_nodes [] g n some = absurd (cc)
given_rows-passed known_nodes (x ∷ gs) g n some = elim (eqb_tells n (x.place + 1)) [
  | inl same ↦
      ap (λ (b : Bool). cond b (given_to_known_node x (known_node_at known_nodes n)) (given_rows gs known_nodes n)) same.0
      ∙ sym (ap (λ (b : Bool). cond b (given_to_known_node x (known_node_at known_nodes n)) (given_rows (gs ++ g ∷ []) known_nodes n)) same.0)
  | inr other ↦
      ap (λ (b : Bool). cond b (given_to_known_node x (known_node_at known_nodes n)) (given_rows gs known_nodes n)) other.0
      ∙ elsewhere other.1 (given_rows-passed known_nodes gs g n)
      ∙ sym (ap (λ (b : Bool). cond b (given_to_known_node x (known_node_at known_nodes n)) (given_rows (gs ++ g ∷ []) known_nodes n)) other.0)
]
  where
    own : (n ≡ x.place + 1 → ⊥) → x.place ≡ g.place → given_rows gs known_nodes n ≡ given_rows (gs ++ g ∷ []) known_nodes n
    own other h = skip gs
      where
        not_here : (n == g.place + 1) ≡ false
        not_here = elim (eqb_tells n (g.place + 1)) [ inl same ↦ absurd (other (same.1 ∙ ap (λ (k : ℕ). k + 1) (sym h))) | inr apart ↦ apart.0 ]

        skip : (ys : List NewRow) → given_rows ys known_nodes n ≡ given_rows (ys ++ g ∷ []) known_nodes n
        skip [] = sym (ap (λ (b : Bool). cond b (given_to_known_node g (known_node_at known_nodes n)) (rows_of known_nodes n)) not_here)
        skip (y ∷ ys) = ap (λ (o : Option Row). cond (n == y.place + 1) (given_to_known_node y (known_node_at known_nodes n)) o) (skip ys)

    elsewhere : (n ≡ x.place + 1 → ⊥) → (list_any (λ y. y.place == g.place) gs ≡ true → given_rows gs known_nodes n ≡ given_rows (gs ++ g ∷ []) known_nodes n) → given_rows gs known_nodes n ≡ given_rows (gs ++ g ∷ []) known_nodes n
    elsewhere other rest = elim (eqb_tells x.place g.place) [
      | inl same ↦ own other same.1
      | inr apart ↦ rest (sym (ap (λ (b : Bool). b || list_any (λ y. y.place == g.place) gs) apart.0) ∙ some)
    ]

-- a row that does not conflict with a span conflicts at none of its bytes
pub row_free : (row : Option Row) (span : Range) (mode : Mode) → row_conflicts row span mode ≡ false → NoneIn (λ b. row_conflicts_at row b mode ≡ true) span
row_free None span mode free b above below here = both_ways _ free here
row_free (Some row) span mode free b above below here = none-conflicts row.token span mode free b above below here

-- what holds of each old element and of the written one holds of each after the write
set-either : (P : Option KnownNode → Type 0) (xs : List KnownNode) (i k : ℕ) (x : KnownNode) → P (Some x) → P (slice_get xs k) → P (slice_get (slice_set xs i x) k)
set-either P [] i k x new old = old
set-either P (y ∷ ys) zero zero x new old = new
set-either P (y ∷ ys) zero (suc k) x new old = old
set-either P (y ∷ ys) (suc i) zero x new old = old
set-either P (y ∷ ys) (suc i) (suc k) x new old = set-either P ys i k x new old

-- where no row has an exclusive byte, none has after a write of one that has none
pub exclusive-set : (known_nodes : List KnownNode) (place : ℕ) (new : KnownNode) → NoneExclusive (rows_of known_nodes) → row_conflicts (row_seen new.row) whole Read ≡ false → NoneExclusive (rows_of (slice_set known_nodes place new))
unfolding rows_of
exclusive-set known_nodes place new before own zero b within = refl
exclusive-set known_nodes place new before own (suc k) b within =
    set-either (λ c. row_conflicts_at (row_of c) b Read ≡ false) known_nodes place k new
    (false_from_ne_true _ (row_free (row_seen new.row) whole Read own b (omega arith) within))
    (before (suc k) b within)

readable : (row : Option Row) (s : Range) → s.hi ≤ greatest → ((b : ℕ) → b ≤ greatest → row_conflicts_at row b Read ≡ false) → row_conflicts row s Read ≡ false
readable None s within free = refl
readable (Some row) s within free = conflicts-none row.token s Read (λ b above below here. both_ways _ (free b (omega arith)) here)

-- where no row has an exclusive byte none conflicts with a read lock
pub exclusive-readable : (rows : ℕ → Option Row) (s : Range) → NoneExclusive rows → s.hi ≤ greatest → (node : ℕ) → row_conflicts (rows node) s Read ≡ false
exclusive-readable rows s none within node = readable (rows node) s within (none node)

-- where no row has an exclusive byte, none has after an edit that gives none
pub exclusive-edited : (known_nodes : List KnownNode) (e : RowEdit) → ((row : Option TokenHolder) → row_conflicts (row_seen row) whole Read ≡ false → row_conflicts (row_kept e.given.row row) whole Read ≡ false) → NoneExclusive (rows_of known_nodes) → NoneExclusive (rows_overlaid known_nodes (Some e))
unfolding rows_of
exclusive-edited known_nodes e gives none node b within = elim (eqb_tells node (e.given.place + 1)) [
  | inl here ↦ ap (λ (t : Bool). row_conflicts_at (cond t (given_to_known_node e.given (known_node_at known_nodes node)) (row_of (known_node_at known_nodes node))) b Read) here.0 ∙ own (known_node_at known_nodes node) refl
  | inr apart ↦ ap (λ (t : Bool). row_conflicts_at (cond t (given_to_known_node e.given (known_node_at known_nodes node)) (row_of (known_node_at known_nodes node))) b Read) apart.0 ∙ none node b within
]
  where
    own : (o : Option KnownNode) → known_node_at known_nodes node ≡ o → row_conflicts_at (given_to_known_node e.given o) b Read ≡ false
    own None is = refl
    own (Some known_node) is =
        false_from_ne_true _ (row_free (row_kept e.given.row known_node.row) whole Read
        (gives known_node.row (readable (row_seen known_node.row) whole (omega arith) (λ k below. ap (λ (o : Option KnownNode). row_conflicts_at (row_of o) k Read) (sym is) ∙ none node k below)))
        b (omega arith) within)

-- after a write the mark says: it was set before, or the new row has an exclusive byte
pub exclusive-noted : (known_nodes : List KnownNode) (place : ℕ) (new read : KnownNode) (noted mark : Bool) → place < length known_nodes → (noted ≡ false → NoneExclusive (rows_of known_nodes)) → read ≡ slice_index_or (slice_set known_nodes place new) place read → mark ≡ (noted || row_conflicts (row_seen read.row) whole Read) → mark ≡ false → NoneExclusive (rows_of (slice_set known_nodes place new))
exclusive-noted known_nodes place new read noted mark within before at made unmarked =
    let there : known_node_at (slice_set known_nodes place new) (place + 1) ≡ Some read = known_node_at-read (slice_set known_nodes place new) (place + 1) place read (omega arith, omega (arith, length-set known_nodes place new)) (omega arith) at in
    let here : known_node_at (slice_set known_nodes place new) (place + 1) ≡ Some new = known_node_at-set_same known_nodes (place + 1) place new (omega arith, omega arith) (omega arith) in
    let same : read ≡ new = cc in
    let unset = or_parts noted _ (sym made ∙ unmarked) in
    exclusive-set known_nodes place new (before unset.0) (ap (λ (known_node : KnownNode). row_conflicts (row_seen known_node.row) whole Read) (sym same) ∙ unset.1)

-- where no node has a row, no row has an exclusive byte
pub exclusive-new : (known_nodes : List KnownNode) → rows_of known_nodes ≡ (λ node. None) → NoneExclusive (rows_of known_nodes)
exclusive-new known_nodes none node b within = ap (λ (rows : ℕ → Option Row). row_conflicts_at (rows node) b Read) none

counting_more : (a n j : ℕ) → a + n ≡ j → range_with_len a (n + 1) ≡ range_with_len a n ++ j ∷ []
counting_more a n j e = sym (map-id (range_with_len a (n + 1))) ∙ map-range_with_len_more (λ k. k) a n j e ∙ ap (λ l. l ++ j ∷ []) (map-id (range_with_len a n))

-- the outstanding commands of one more node: its command comes last
outstanding_to-more : (rows : ℕ → Option Row) (n node : ℕ) → 1 + n ≡ node → outstanding_to rows (n + 1) ≡ outstanding_to rows n ++ cons_option (outstanding_of (rows node)) []
outstanding_to-more rows n node e =
    ap (filter_map (λ k. outstanding_of (rows k))) (counting_more 1 n node e)
    ∙ filter_map-append (λ k. outstanding_of (rows k)) (range_with_len 1 n) (node ∷ [])

read_row : (known_nodes : List KnownNode) (i : ℕ) (known_node : KnownNode) → slice_get known_nodes i ≡ Some known_node → rows_of known_nodes (i + 1) ≡ row_seen known_node.row
unfolding rows_of
read_row known_nodes i known_node there = ap row_of (known_node_at-place known_nodes (i + 1) i refl ∙ there)

pub outstanding-next : (known_nodes : List KnownNode) (i : ℕ) (known_node : KnownNode) (command : Option Message) → slice_get known_nodes i ≡ Some known_node → command ≡ outstanding_of (row_seen known_node.row) → outstanding_to (rows_of known_nodes) (i + 1) ≡ outstanding_to (rows_of known_nodes) i ++ cons_option command []
outstanding-next known_nodes i known_node command there is =
    outstanding_to-more (rows_of known_nodes) i (i + 1) (omega arith)
    ∙ ap (λ o. outstanding_to (rows_of known_nodes) i ++ cons_option o []) (ap outstanding_of (read_row known_nodes i known_node there) ∙ sym is)

-- the run has a byte
abbrev pub HasByte : TokenRun → Type 0
HasByte r = r.span.lo ≤ r.span.hi

-- a run ends below another one
abbrev EndsBelow : TokenRun → TokenRun → Type 0
EndsBelow r a = a.span.hi < r.span.lo

-- the next one of two longest runs begins past the end of the first
past : (a q : TokenRun) (rest : List TokenRun) → are_longest (a ∷ q ∷ rest) ≡ true → a.span.hi < q.span.lo
past a q rest longest =
    let both = and_parts (go_on_after a (q ∷ rest)) (are_longest (q ∷ rest)) longest in
    let next = and_parts (nat_lt a.span.hi q.span.lo) (not ((q.span.lo == a.span.hi + 1) && same_level q.level a.level)) both.0 in
    ltb-true a.span.hi q.span.lo next.0

-- the runs in front of a run end below it
end-below : (front : List TokenRun) (r : TokenRun) (rest : List TokenRun) → are_longest (front ++ r ∷ rest) ≡ true → All HasByte front → All (EndsBelow r) front
end-below [] r rest longest ordered = All-nil (EndsBelow r)
end-below (a ∷ []) r rest longest ordered = All-cons (EndsBelow r) a [] (past a r rest longest) (All-nil (EndsBelow r))
end-below (a ∷ q ∷ front) r rest longest ordered =
    let behind = (and_parts (go_on_after a (q ∷ (front ++ r ∷ rest))) (are_longest (q ∷ (front ++ r ∷ rest))) longest).1 in
    let later = end-below (q ∷ front) r rest behind (All-tail HasByte a (q ∷ front) ordered) in
    let next : a.span.hi < q.span.lo = past a q (front ++ r ∷ rest) longest in
    let order : q.span.lo ≤ q.span.hi = All-head HasByte q front (All-tail HasByte a (q ∷ front) ordered) in
    let last : q.span.hi < r.span.lo = All-head (EndsBelow r) q front later in
    All-cons (EndsBelow r) a (q ∷ front) (omega arith) later

-- runs that end below a run have none of its bytes
free : (front : List TokenRun) (r : TokenRun) → All (EndsBelow r) front → (b : ℕ) → r.span.lo ≤ b → reported front b ≡ None
free [] r below b from = refl
free (a ∷ front) r below b from = ap (λ (t : Bool). cond t (Some a.level) (reported front b)) out ∙ free front r (All-tail (EndsBelow r) a front below) b from
  where
    out : is_in a.span b ≡ false
    out = false_from_ne_true (is_in a.span b) (λ here.
        let hi : b ≤ a.span.hi = leb-true b a.span.hi (and_parts (nat_le a.span.lo b) (nat_le b a.span.hi) here).1 in
        let ends : a.span.hi < r.span.lo = All-head (EndsBelow r) a front below in
        omega arith)

-- the token of a report with a run behind others that end below it
reported-last : (front : List TokenRun) (r : TokenRun) → All (EndsBelow r) front → (b : ℕ) → reported (front ++ r ∷ []) b ≡ cond (is_in r.span b) (Some r.level) (reported front b)
reported-last [] r below b = refl
reported-last (a ∷ front) r below b = at (reported-last front r (All-tail (EndsBelow r) a front below) b) (is_in a.span b) refl (is_in r.span b) refl
  where
    at : reported (front ++ r ∷ []) b ≡ cond (is_in r.span b) (Some r.level) (reported front b) → (t : Bool) → is_in a.span b ≡ t → (u : Bool) → is_in r.span b ≡ u → cond t (Some a.level) (reported (front ++ r ∷ []) b) ≡ cond u (Some r.level) (cond t (Some a.level) (reported front b))
    at rest false out u is = rest ∙ ap (λ (v : Bool). cond v (Some r.level) (reported front b)) is
    at rest true here false is = refl
    at rest true here true is =
        let hi : b ≤ a.span.hi = leb-true b a.span.hi (and_parts (nat_le a.span.lo b) (nat_le b a.span.hi) here).1 in
        let lo : r.span.lo ≤ b = leb-true r.span.lo b (and_parts (nat_le r.span.lo b) (nat_le b r.span.hi) is).0 in
        let ends : a.span.hi < r.span.lo = All-head (EndsBelow r) a front below in
        absurd (omega arith)

-- the token of a report with one more run behind the others: that run is granted as well
pub reported-more : (front : List TokenRun) (r : TokenRun) (rest : List TokenRun) → are_longest (front ++ r ∷ rest) ≡ true → All HasByte front → raised (reported front) r.span (mode_of r.level) ≡ reported (front ++ r ∷ [])
reported-more front r rest longest ordered = λ i b. (at b (is_in r.span b) refl ∙ sym (reported-last front r below b)) i
  where
    below : All (EndsBelow r) front
    below = end-below front r rest longest ordered

    level : (l : Level) (old : Option Level) → old ≡ None → raised_level old (mode_of l) ≡ Some l
    level Shared old none = ap (λ (o : Option Level). raised_level o (mode_of Shared)) none
    level Exclusive old none = refl

    at : (b : ℕ) (t : Bool) → is_in r.span b ≡ t → cond t (raised_level (reported front b) (mode_of r.level)) (reported front b) ≡ cond t (Some r.level) (reported front b)
    at b false is = refl
    at b true is =
        let lo : r.span.lo ≤ b = leb-true r.span.lo b (and_parts (nat_le r.span.lo b) (nat_le b r.span.hi) is).0 in
        level r.level (reported front b) (free front r below b lo)
