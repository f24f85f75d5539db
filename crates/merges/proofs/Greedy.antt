-- Whatever may be put may be put: where the logs have a merge, they have one that begins so.
use Rattle.std.proofs.Common.{◌≡◌, ℕ, zero, suc, ◌+◌, refl, sym, subst, ◌∙◌, ap, arith, List, [], ◌∷◌, ◌++◌, length, length-append, Option}
use Rattle.messages.specs.declared.actor.Actor.{Actor}
use Rattle.merges.specs.declared.logged.LoggedEntry.{LoggedEntry}
use Rattle.merges.specs.code.Merging.{WhatIsPutServes, Merging, begun, Leads, IsDone, MergesFrom}
use Rattle.merges.proofs.Diamonds.{Ends, ends_after}
use Rattle.merges.proofs.Alike.{AreAlike}
use Rattle.merges.proofs.Confluence.{Puts, merging_is_confluent}
use Rattle.merges.proofs.Peeling.{peel, put, done_merges, merged_done, from_merge, to_merge}

-- that many may be put, and then nothing is left
abbrev pub EndsIn : ℕ → Merging → ℕ → Type 0
EndsIn skew = Ends Merging (Option Actor) (Puts skew) AreAlike IsDone (merging_is_confluent skew)

pub merge_ends : (skew : ℕ) (m : Merging) (xs : List LoggedEntry) → MergesFrom skew m xs → EndsIn skew m (length xs)
merge_ends skew m [] merges = merged_done skew m merges
merge_ends skew m (x ∷ xs) merges = let it = peel skew m x xs merges in (it.0, it.1, (x, it.2), merge_ends skew it.1 xs it.3)

pub ends_merge : (skew : ℕ) (k : ℕ) (m : Merging) → EndsIn skew m k → (xs : List LoggedEntry) × MergesFrom skew m xs × (length xs ≡ k)
ends_merge skew zero m ends = ([], done_merges skew m ends, refl)
ends_merge skew (suc k) m ends =
    let rest = ends_merge skew k ends.1 ends.3 in
    (ends.2.0 ∷ rest.0, put skew m ends.1 ends.0 ends.2.0 rest.0 ends.2.1 rest.1, ap suc rest.2)

-- what was put may be put first
pub ends_behind : (skew : ℕ) (xs : List LoggedEntry) (m n : Merging) (k : ℕ) → Leads skew m xs n → EndsIn skew m k → (j : ℕ) × (k ≡ length xs + j) × EndsIn skew n j
ends_behind skew [] m n k leads ends = (k, omega arith, subst (λ (z : Merging). EndsIn skew z k) leads ends)
ends_behind skew (x ∷ xs) m n k leads ends =
    let one = ends_after Merging (Option Actor) (Puts skew) AreAlike IsDone (merging_is_confluent skew) k m leads.1 leads.0 ends (x, leads.2) in
    let rest = ends_behind skew xs leads.1 n one.0 leads.3 one.2 in
    let before : k ≡ suc one.0 = one.1 in
    let behind : one.0 ≡ length xs + rest.0 = rest.1 in
    (rest.0, omega (arith), rest.2)

pub leads_merge : (skew : ℕ) (xs : List LoggedEntry) (m n : Merging) (ys : List LoggedEntry) → Leads skew m xs n → MergesFrom skew n ys → MergesFrom skew m (xs ++ ys)
leads_merge skew [] m n ys leads merges = subst (λ (z : Merging). MergesFrom skew z ys) (sym leads) merges
leads_merge skew (x ∷ xs) m n ys leads merges = put skew m leads.1 leads.0 x (xs ++ ys) leads.2 (leads_merge skew xs leads.1 n ys leads.3 merges)

pub what_is_put_serves : WhatIsPutServes
what_is_put_serves shape skew logs declared xs ys m leads merge =
    let behind = ends_behind skew xs (begun shape logs declared) m (length ys) leads (merge_ends skew (begun shape logs declared) ys (from_merge shape skew logs declared ys merge)) in
    let rest = ends_merge skew behind.0 m behind.2 in
    let long : length (xs ++ rest.0) ≡ length ys = length-append xs rest.0 ∙ ap (λ (k : ℕ). length xs + k) rest.2 ∙ sym behind.1 in
    (rest.0, to_merge shape skew logs declared (xs ++ rest.0) (leads_merge skew xs (begun shape logs declared) m rest.0 leads rest.1), long)

pub leads_append : (skew : ℕ) (xs : List LoggedEntry) (l m n : Merging) (ys : List LoggedEntry) → Leads skew l xs m → Leads skew m ys n → Leads skew l (xs ++ ys) n
leads_append skew [] l m n ys before behind = subst (λ (z : Merging). Leads skew z ys n) (sym before) behind
leads_append skew (x ∷ xs) l m n ys before behind = (before.0, before.1, before.2, leads_append skew xs before.1 m n ys before.3 behind)
