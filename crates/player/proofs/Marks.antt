-- The marks of settled messages.
use Rattle.std.specs.Prelude.{◌≡◌, ℕ, zero, suc, ◌+◌, ◌<◌, ◌⊎◌, ◌==◌, ◌||◌, nat_lt, Bool, true, false, List, [], ◌∷◌, ◌++◌, length, slice_index_or, slice_set, refl}
use Rattle.std.proofs.Common.{arith, ap, sym, ◌∙◌, inl, inr}
use Rattle.std.proofs.lemmas.Bool.{cases_eq, cases_lt, eq-eqb, ne_eqb, lt-ltb, le-ltb}
use Rattle.std.proofs.Math.Bool.{or-false}
use Rattle.std.proofs.lemmas.List.{get_or-set_same, get_or-set_other}
use Rattle.player.specs.rule.Progress.{with_settled, IsLeastUnsettled}
use Rattle.player.specs.code.Rounds.{SettledParts, settled_in}

or_true : (b : Bool) → (b || true) ≡ true
or_true true = refl
or_true false = refl

or_third : (a b c : Bool) → (a || (b || c)) ≡ (b || (a || c))
or_third true true c = refl
or_third true false c = refl
or_third false true c = refl
or_third false false c = refl

-- a run that begins has no settled message
pub settled-none : (s : SettledParts) → s.cursor ≡ 0 → s.marks ≡ [] → settled_in s ≡ (λ index. false)
unfolding settled_in
settled-none s at_start none = λ i index. (ap (λ (c : ℕ). nat_lt index c || slice_index_or s.marks index false) at_start ∙ (ap (λ (ms : List Bool). nat_lt index 0 || slice_index_or ms index false) none ∙ nothing index)) i
  where
    nothing : (index : ℕ) → (nat_lt index 0 || slice_index_or [] index false) ≡ false
    nothing index = ap (λ (b : Bool). b || false) (le-ltb index 0 (omega arith))

-- a cursor behind the first messages settles them
pub settled-first : (s : SettledParts) (count : ℕ) → s.cursor ≡ count → s.marks ≡ [] → settled_in s ≡ (λ index. nat_lt index count)
unfolding settled_in
settled-first s count begins none = λ i index. (ap (λ (c : ℕ). nat_lt index c || slice_index_or s.marks index false) begins ∙ (ap (λ (ms : List Bool). nat_lt index count || slice_index_or ms index false) none ∙ or-false (nat_lt index count))) i

-- a mark that isn't set changes nothing
mark-none : (marks : List Bool) (index : ℕ) → slice_index_or (marks ++ false ∷ []) index false ≡ slice_index_or marks index false
mark-none [] zero = refl
mark-none [] (suc index) = refl
mark-none (m ∷ marks) zero = refl
mark-none (m ∷ marks) (suc index) = mark-none marks index

pub settled-push : (s t : SettledParts) → t.cursor ≡ s.cursor → t.marks ≡ s.marks ++ false ∷ [] → settled_in t ≡ settled_in s
unfolding settled_in
settled-push s t same more = λ i index. (ap (λ (c : ℕ). nat_lt index c || slice_index_or t.marks index false) same ∙ (ap (λ (ms : List Bool). nat_lt index s.cursor || slice_index_or ms index false) more ∙ ap (λ (b : Bool). nat_lt index s.cursor || b) (mark-none s.marks index))) i

mark-set : (marks : List Bool) (index other : ℕ) → index < length marks → slice_index_or (slice_set marks index true) other false ≡ ((other == index) || slice_index_or marks other false)
mark-set marks index other within = elim (cases_eq other index) [
  | inl is ↦ ap (λ k. slice_index_or (slice_set marks index true) k false) is ∙ get_or-set_same marks index true false within ∙ ap (λ b. b || slice_index_or marks other false) (sym (eq-eqb other index is))
  | inr ne ↦ get_or-set_other marks index other true false ne ∙ ap (λ b. b || slice_index_or marks other false) (sym (ne_eqb other index ne))
]

-- a mark settles its message
pub settled-mark : (s t : SettledParts) (index : ℕ) → index < length s.marks → t.cursor ≡ s.cursor → t.marks ≡ slice_set s.marks index true → settled_in t ≡ with_settled (settled_in s) index
unfolding settled_in
settled-mark s t index within same set = λ i other. (ap (λ (c : ℕ). nat_lt other c || slice_index_or t.marks other false) same ∙ (ap (λ (ms : List Bool). nat_lt other s.cursor || slice_index_or ms other false) set
    ∙ (ap (λ (b : Bool). nat_lt other s.cursor || b) (mark-set s.marks index other within) ∙ or_third (nat_lt other s.cursor) (other == index) (slice_index_or s.marks other false)))) i

passed : (cursor other : ℕ) → nat_lt other (cursor + 1) ≡ ((other == cursor) || nat_lt other cursor)
passed cursor other = elim (cases_eq other cursor) [
  | inl is ↦ lt-ltb other (cursor + 1) (omega (arith, is)) ∙ ap (λ b. b || nat_lt other cursor) (sym (eq-eqb other cursor is))
  | inr ne ↦ elim (cases_lt other cursor) [
    | inl lt ↦ lt-ltb other (cursor + 1) (omega (arith, lt)) ∙ sym (lt-ltb other cursor lt) ∙ ap (λ b. b || nat_lt other cursor) (sym (ne_eqb other cursor ne))
    | inr ge ↦ le-ltb other (cursor + 1) (omega (arith, ne, ge)) ∙ sym (le-ltb other cursor ge) ∙ ap (λ b. b || nat_lt other cursor) (sym (ne_eqb other cursor ne))
  ]
]

or_assoc : (a b c : Bool) → ((a || b) || c) ≡ (a || (b || c))
or_assoc true b c = refl
or_assoc false b c = refl

-- a cursor that moves on settles its message
pub settled-pass : (s t : SettledParts) → t.cursor ≡ s.cursor + 1 → t.marks ≡ s.marks → settled_in t ≡ with_settled (settled_in s) s.cursor
unfolding settled_in
settled-pass s t moved same = λ i other. (ap (λ (c : ℕ). nat_lt other c || slice_index_or t.marks other false) moved ∙ (ap (λ (ms : List Bool). nat_lt other (s.cursor + 1) || slice_index_or ms other false) same
    ∙ (ap (λ (b : Bool). b || slice_index_or s.marks other false) (passed s.cursor other) ∙ or_assoc (other == s.cursor) (nat_lt other s.cursor) (slice_index_or s.marks other false)))) i

-- a message with a mark is settled already
pub settled-again : (s : SettledParts) (index : ℕ) → slice_index_or s.marks index false ≡ true → with_settled (settled_in s) index ≡ settled_in s
unfolding settled_in
settled-again s index marked = λ i other. again other (cases_eq other index) i
  where
    again : (other : ℕ) → (other ≡ index) ⊎ (other ≡ index → ⊥) → with_settled (settled_in s) index other ≡ settled_in s other
    again other (inl is) =
        ap (λ (b : Bool). b || settled_in s other) (eq-eqb other index is)
        ∙ (sym (or_true (nat_lt other s.cursor))
        ∙ ap (λ (b : Bool). nat_lt other s.cursor || b) (sym (ap (λ (k : ℕ). slice_index_or s.marks k false) is ∙ marked)))
    again other (inr ne) = ap (λ (b : Bool). b || settled_in s other) (ne_eqb other index ne)

-- a cursor without a mark stands at the first message that isn't settled
pub settled-least : (s : SettledParts) → slice_index_or s.marks s.cursor false ≡ false → IsLeastUnsettled (settled_in s) s.cursor
unfolding settled_in
settled-least s unmarked = record {
  unsettled = ap (λ (b : Bool). b || slice_index_or s.marks s.cursor false) (le-ltb s.cursor s.cursor (omega arith)) ∙ unmarked;
  before = λ other lt. ap (λ (b : Bool). b || slice_index_or s.marks other false) (lt-ltb other s.cursor lt);
}
