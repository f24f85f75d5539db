-- Sums of numbers, and products of sizes that fall.
use Rattle.std.specs.Prelude.{if◌then◌else◌}
use Rattle.std.proofs.Common.{◌≡◌, ℕ, zero, suc, ◌+◌, ◌*◌, ◌≤◌, Bool, true, false, inl, inr, refl, subst, arith, mul-le-mul, mul-le-mul_left, add-mul}
use Rattle.std.proofs.lemmas.Bool.{cases_lt}
use Rattle.cluster_core.proofs.common.Choices.{at_number}

-- the sum of what f gives of 1 to k
abbrev pub sum_to : (ℕ → ℕ) → ℕ → ℕ
sum_to f zero = 0
sum_to f (suc k) = sum_to f k + f (suc k)

pub add_both : (a b c d : ℕ) → a ≤ b → c ≤ d → a + c ≤ b + d
add_both a b c d first second = omega arith

pub sum_same : (f g : ℕ → ℕ) (k : ℕ) → ((n : ℕ) → g n ≤ f n) → sum_to g k ≤ sum_to f k
sum_same f g zero few = omega arith
sum_same f g (suc k) few = add_both (sum_to g k) (sum_to f k) (g (suc k)) (f (suc k)) (sum_same f g k few) (few (suc k))

pub add_first : (a b c d x : ℕ) → a + x ≤ b → c ≤ d → (a + c) + x ≤ b + d
add_first a b c d x first second = omega arith

pub add_second : (a b c d x : ℕ) → a ≤ b → c + x ≤ d → (a + c) + x ≤ b + d
add_second a b c d x first second = omega arith

-- a number up to k + 1 that is another one is up to k
pub not_last : (n k : ℕ) → n ≤ suc k → (n ≡ suc k → ⊥) → n ≤ k
not_last n k high other = elim (cases_lt k n) [ inl more ↦ absurd (other (omega arith)) | inr few ↦ few ]

-- the number is one of 1 to k
abbrev pub IsAmong : ℕ → ℕ → Type 0
IsAmong k n = (1 ≤ n) × (n ≤ k)

-- one of them is less by x
pub sum_less : (f g : ℕ → ℕ) (k n x : ℕ) → IsAmong k n → ((m : ℕ) → g m ≤ f m) → g n + x ≤ f n → sum_to g k + x ≤ sum_to f k
sum_less f g zero n x among few less = absurd (let low = among.0 in let high = among.1 in omega arith)
sum_less f g (suc k) n x among few less = at_number n (suc k) (λ b. sum_to g (suc k) + x ≤ sum_to f (suc k))
    (λ same. add_second (sum_to g k) (sum_to f k) (g (suc k)) (f (suc k)) x (sum_same f g k few) (subst (λ (m : ℕ). g m + x ≤ f m) same less))
    (λ other. add_first (sum_to g k) (sum_to f k) (g (suc k)) (f (suc k)) x (sum_less f g k n x (among.0, not_last n k among.1 other) few less) (few (suc k)))

-- 1 where the test passes
abbrev pub one_if : Bool → ℕ
one_if b = if b then 1 else 0

pub one_if_less : (a b : Bool) → (b ≡ true → a ≡ true) → one_if b ≤ one_if a
one_if_less true true h = omega arith
one_if_less true false h = omega arith
one_if_less false false h = omega arith
one_if_less false true h = absurd (let no : false ≡ true = h refl in cc)

pub one_if_most : (b : Bool) → one_if b ≤ 1
one_if_most true = omega arith
one_if_most false = omega arith

-- of the numbers 1 to k no more than k pass
pub few_pass : (p : ℕ → Bool) (k : ℕ) → sum_to (λ n. one_if (p n)) k ≤ k
few_pass p zero = omega arith
few_pass p (suc k) = let rest = few_pass p k in let one = one_if_most (p (suc k)) in omega arith

-- a product of which x of the first factor are gone, and no more of the second are there
pub product_falls : (p q x k l : ℕ) → q + x ≤ p → l ≤ k → q * l + x * k ≤ p * k
product_falls p q x k l fewer less =
    let first : q * l ≤ q * k = mul-le-mul_left q less in
    let whole : (q + x) * k ≤ p * k = mul-le-mul fewer (omega arith) in
    let parts : (q + x) * k ≡ q * k + x * k = add-mul q x k in
    omega arith
