-- That putting whatever may be put finds a merge if there is one, and none if there is none.
use Rattle.std.proofs.Common.{ℕ, zero, suc, subst, append-nil, List, [], ◌++◌, length, Option}
use Rattle.messages.specs.declared.actor.Actor.{Actor}
use Rattle.merges.specs.declared.logged.LoggedEntry.{LoggedEntry}
use Rattle.merges.specs.code.Merging.{Merging, begun, Comes, IsDone, MergesFrom, WhatIsDoneIsAMerge, WhatIsStuckHasNone, WhatComesOtherwiseHasNone}
use Rattle.merges.proofs.Peeling.{done_merges, from_merge, to_merge}
use Rattle.merges.proofs.Greedy.{EndsIn, merge_ends, ends_behind, leads_merge}
use Rattle.merges.proofs.Tries.{never_ends}

pub what_is_done_is_a_merge : WhatIsDoneIsAMerge
what_is_done_is_a_merge shape skew logs declared xs m leads done =
    let whole : MergesFrom skew (begun shape logs declared) (xs ++ []) = leads_merge skew xs (begun shape logs declared) m [] leads (done_merges skew m done) in
    to_merge shape skew logs declared xs (subst (λ (ys : List LoggedEntry). MergesFrom skew (begun shape logs declared) ys) (append-nil xs) whole)

-- where nothing may be put, that many steps end it only if it is done
stuck_ends : (skew k : ℕ) (m : Merging) → ((list : Option Actor) (x : LoggedEntry) (n : Merging) → Comes skew m list x n → ⊥) → (IsDone m → ⊥) → EndsIn skew m k → ⊥
stuck_ends skew zero m stuck left done = left done
stuck_ends skew (suc k) m stuck left ends = stuck ends.0 ends.2.0 ends.1 ends.2.1

pub what_is_stuck_has_none : WhatIsStuckHasNone
what_is_stuck_has_none shape skew logs declared xs m leads stuck left ys merge =
    let ends = ends_behind skew xs (begun shape logs declared) m (length ys) leads (merge_ends skew (begun shape logs declared) ys (from_merge shape skew logs declared ys merge)) in
    stuck_ends skew ends.0 m stuck left ends.2

pub what_comes_otherwise_has_none : WhatComesOtherwiseHasNone
what_comes_otherwise_has_none shape skew logs declared xs m leads a x rest made v first own step other ys merge =
    let ends = ends_behind skew xs (begun shape logs declared) m (length ys) leads (merge_ends skew (begun shape logs declared) ys (from_merge shape skew logs declared ys merge)) in
    never_ends skew ends.0 m a x rest made v ends.2 (record { first = first; own = own; step = step }) other
