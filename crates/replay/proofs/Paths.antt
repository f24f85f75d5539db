-- Paths that are lent, by their places in a list.
use Rattle.std.proofs.Common.{◌≡◌, ◌<◌, ℕ, List, [], Bor, get_or, length, map, sym, subst}
use Rattle.std.specs.Prelude.{Contains}
use Rattle.std.proofs.lemmas.List.{get_or-map, length-map}

abbrev pub nothing : Bor (List ℕ)
nothing = record { ref_ptr = (0, 0); now = [] }

abbrev pub now_of : Bor (List ℕ) → List ℕ
now_of path = path.now

pub within : (paths : List (Bor (List ℕ))) (i : ℕ) → i < length paths → i < length (map now_of paths)
within paths i lt = subst (λ (n : ℕ). i < n) (sym (length-map paths now_of)) lt

-- the path at a place
pub stands : (paths : List (Bor (List ℕ))) (i : ℕ) → i < length paths → now_of (get_or paths i nothing) ≡ get_or (map now_of paths) i (now_of (get_or paths i nothing))
stands paths i lt = sym (get_or-map now_of paths i nothing _ lt)

pub among : (paths : List (Bor (List ℕ))) (i : ℕ) (path : List ℕ) → i < length paths → path ≡ now_of (get_or paths i nothing) → Contains (map now_of paths) path
among paths i path lt is = subst (Contains (map now_of paths)) (sym is) (i, within paths i lt, sym (stands paths i lt))
