-- Texts that are written one behind another.
use Rattle.std.proofs.Common.{◌≡◌, ℕ, List, ◌++◌, Result, Ok, Err, append_assoc, ap, ◌∙◌}
use Rattle.std.specs.Prelude.{OnOk}

-- a text that is written behind another one is written with it
pub behind : {T E : Type 0} (r : Result T E) (old mid new front back : List ℕ) → mid ≡ old ++ front → OnOk r (new ≡ mid ++ back) → OnOk r (new ≡ old ++ (front ++ back))
behind (Ok x) old mid new front back first second = second ∙ ap (λ (bytes : List ℕ). bytes ++ back) first ∙ append_assoc old front back
behind (Err e) old mid new front back first second = tt
