-- A list of runs that gets one more run at its end.
use Rattle.std.proofs.Common.{◌+◌, Bool, ◌&&◌, ◌==◌, if◌then◌else◌, List, [], ◌∷◌}
use Rattle.intervals.specs.declared.byte_run.ByteRun.{ByteRun}

-- r and s are adjacent and have one value
abbrev pub joins : {V : Type 0} → (V → V → Bool) → ByteRun V → ByteRun V → Bool
joins eq r s = (r.hi + 1 == s.lo) && eq r.value s.value

-- the runs with one more at the end, which is merged with the last run where the two join
unfoldable pub join : {V : Type 0} → (V → V → Bool) → List (ByteRun V) → ByteRun V → List (ByteRun V)
join eq [] s = s ∷ []
join eq (r ∷ []) s = if joins eq r s then record r { hi = s.hi } ∷ [] else r ∷ s ∷ []
join eq (r ∷ t ∷ rest) s = r ∷ join eq (t ∷ rest) s
