-- Two results that are one.
use Rattle.std.proofs.Common.{◌≡◌, Result, Ok, Err}

-- one result has one value
pub ok-same : {A E : Type 0} (r : Result A E) (x y : A) → r ≡ Ok x → r ≡ Ok y → x ≡ y
ok-same r x y is_x is_y = cc

-- one result is not both an error and a value
pub err-not_ok : {A E : Type 0} (r : Result A E) (e : E) (x : A) → r ≡ Err e → r ≡ Ok x → ⊥
err-not_ok r e x is_err is_ok = cc
