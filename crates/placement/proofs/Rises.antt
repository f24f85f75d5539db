-- Positions that rise from item to item.
use Rattle.std.specs.Prelude.{◌↔◌, IsTrue}
use Rattle.std.proofs.Common.{◌≡◌, true, false, refl, ℕ, zero, suc, ◌+◌, ◌-◌, ◌<◌, ◌≤◌, inl, inr, sym, subst, arith, List, length, get_or, slice_get, Some}
use Rattle.std.proofs.lemmas.Option.{slice_get_within, slice_get-get_or, get_or_from_slice_get}
use Rattle.std.proofs.lemmas.Bool.{cases_lt, false≢true}
use Rattle.cluster_core.specs.declared.item.Item.{Item}
use Rattle.cluster_core.specs.rule.Histories.{position_of, Rising}

-- of the first n items each has a greater position than the one before it
pub record RisesTo (h : List Item) (n : ℕ) : Type 0 where
  pub next : (k : ℕ) (a b : Item) → k + 1 < n → slice_get h k ≡ Some a → slice_get h (k + 1) ≡ Some b → position_of a < position_of b

pub rises_one : (h : List Item) → RisesTo h 1
rises_one h = record { next = λ k a b lt x y. absurd (omega arith) }

-- a read of the list gives the item at the place
read_is : (h : List Item) (k : ℕ) (a x : Item) → slice_get h k ≡ Some a → x ≡ get_or h k x → a ≡ x
read_is h k a x there is = sym (let read = get_or_from_slice_get h k a x there in cc)

pub rises_more : (h : List Item) (n : ℕ) (x y : Item) → 1 ≤ n → x ≡ get_or h (n - 1) x → y ≡ get_or h n y → position_of x < position_of y → RisesTo h n → RisesTo h (n + 1)
rises_more h n x y least x_is y_is rise r = record {
  next = λ k a b lt there after. elim (cases_lt (k + 1) n) [
    | inl below ↦ r.next k a b below there after
    | inr above ↦
        let before : k ≡ n - 1 = omega arith in
        let at : k + 1 ≡ n = omega arith in
        let P : ℕ → Type 0 = λ j. slice_get h j ≡ Some a in
        let Q : ℕ → Type 0 = λ j. slice_get h j ≡ Some b in
        let R : Item → Item → Type 0 = λ u v. position_of u < position_of v in
        let first : a ≡ x = read_is h (n - 1) a x (subst P before there) x_is in
        let second : b ≡ y = read_is h n b y (subst Q at after) y_is in
        subst (λ (u : Item). R u b) (sym first) (subst (λ (v : Item). R x v) (sym second) rise)
  ];
}

-- where each of all items has a greater position than the one before it, positions rise strictly
pub rises_all : (h : List Item) (n : ℕ) → length h ≤ n → RisesTo h n → Rising h
rises_all h n all r j zero a b lt x y = absurd (omega arith)
rises_all h n all r j (suc m) a b lt x y =
    let inside : suc m < length h = slice_get_within h (suc m) b y in
    let mid = get_or h m b in
    let there : slice_get h m ≡ Some mid = slice_get-get_or h m b (omega arith) in
    let P : ℕ → Type 0 = λ k. slice_get h k ≡ Some b in
    let up : position_of mid < position_of b = r.next m mid b (omega arith) there (subst P (omega arith) y) in
    elim (cases_lt j m) [
      | inl below ↦ let low = rises_all h n all r j m a mid below x there in omega arith
      | inr above ↦
          let same : j ≡ m = omega arith in
          let Q : ℕ → Type 0 = λ k. slice_get h k ≡ Some a in
          r.next m a b (omega arith) (subst Q same x) (subst P (omega arith) y)
    ]

-- where one item has no greater position than the one before it, positions don't rise strictly
pub rises_not : (h : List Item) (n : ℕ) (x y : Item) → 1 ≤ n → n < length h → x ≡ get_or h (n - 1) x → y ≡ get_or h n y → position_of y ≤ position_of x → Rising h → ⊥
rises_not h n x y least inside x_is y_is fall rising =
    let first : slice_get h (n - 1) ≡ Some (get_or h (n - 1) x) = slice_get-get_or h (n - 1) x (omega arith) in
    let second : slice_get h n ≡ Some (get_or h n y) = slice_get-get_or h n y inside in
    let P : Item → Type 0 = λ u. slice_get h (n - 1) ≡ Some u in
    let Q : Item → Type 0 = λ v. slice_get h n ≡ Some v in
    let rise = rising (n - 1) n x y (omega arith) (subst P (sym x_is) first) (subst Q (sym y_is) second) in
    omega arith

pub not_rising : (h : List Item) → (Rising h → ⊥) → IsTrue false ↔ Rising h
not_rising h none = (λ t. absurd (false≢true t), λ r. absurd (none r))

pub are_rising : (h : List Item) → Rising h → IsTrue true ↔ Rising h
are_rising h r = (λ t. r, λ s. refl)
