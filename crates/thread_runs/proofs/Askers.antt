-- Two commands have one asker exactly if the order of pairs of numbers says so.
use Rattle.std.specs.Prelude.{ℕ, ◌==◌, ◌&&◌, ◌||◌, not, Bool, List, [], ◌∷◌, filter}
use Rattle.std.specs.Ordering.{nat_cmp, ordering_then, is_lt, is_eq}
use Rattle.std.specs.declared.cmp.Ordering.{Ordering}
use Rattle.std.specs.declared.cmp.Ordering.TheVariants.{Less, Equal, Greater}
use Rattle.std.proofs.Common.{◌≡◌, cond, refl, arith}
use Rattle.std.proofs.lemmas.Bool.Decides.{nat_tests}
use Rattle.std.proofs.lemmas.Grind.{common_steps}

lt_then : (x y : Ordering) → is_lt (ordering_then x y) ≡ (is_lt x || (is_eq x && is_lt y))
lt_then Less y = refl
lt_then Equal y = refl
lt_then Greater y = refl

pub ties : (a b c d : ℕ) → (not (is_lt (ordering_then (nat_cmp a c) (nat_cmp b d))) && not (is_lt (ordering_then (nat_cmp c a) (nat_cmp d b)))) ≡ ((a == c) && (b == d))
ties a b c d = grind (arith, nat_tests, common_steps)

pub filter_same : {X : Type 0} (f g : X → Bool) → ((x : X) → f x ≡ g x) → (xs : List X) → filter f xs ≡ filter g xs
filter_same f g h [] = refl
filter_same {X} f g h (x ∷ xs) = (λ i. cond (h x i) (x ∷ filter_same f g h xs i) (filter_same f g h xs i))
