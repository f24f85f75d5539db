-- A process with a free descriptor can open a file.
use Rattle.std.specs.Prelude.{◌≡◌, ℕ, ◌+◌, ◌-◌, ◌*◌, ◌<◌, ◌≤◌, Bool, true, false, not, Option, Some, None, is_none, refl}
use Rattle.std.proofs.Common.{arith, ap, sym, ◌∙◌, inl, inr}
use Rattle.std.proofs.lemmas.Bool.{cases_lt, eqb-true}
use Rattle.intervals.specs.rule.Search.{first, some_passes, IsFirst}
use Rattle.model.specs.declared.opened.Opened.{Opened}
use Rattle.model.specs.rule.Limits.{IsNumber, most_processes, most_descriptors, most_descriptions}
use Rattle.model.specs.rule.Descriptors.{Processes, lowest_fd, is_of, is_open, lowest_description}
use Rattle.intervals.proofs.SearchLaws.{first_is_first}
use Rattle.model.proofs.SearchLaws.{first-passes, some_passes-none}
use Rattle.model.proofs.Pigeons.{no_hole}

-- the first process and descriptor of the node that refer to the description
pid_of : Processes → ℕ → ℕ
pid_of ps d = first (λ pid. some_passes (λ fd. is_of d (ps.opened pid fd)) 0 most_descriptors) 1 most_processes

fd_of : Processes → ℕ → ℕ
fd_of ps d = first (λ fd. is_of d (ps.opened (pid_of ps d) fd)) 0 most_descriptors

record Refers (ps : Processes) (d pid fd : ℕ) : Type 0 where
  pub pid_in : IsNumber most_processes pid
  pub fd_in : fd < most_descriptors
  pub refers : is_of d (ps.opened pid fd) ≡ true

open_refers : (ps : Processes) (d : ℕ) → is_open ps d ≡ true → Refers ps d (pid_of ps d) (fd_of ps d)
unfolding pid_of fd_of
open_refers ps d h =
    let p = first-passes (λ pid. some_passes (λ fd. is_of d (ps.opened pid fd)) 0 most_descriptors) 1 most_processes h in
    let f = first-passes (λ fd. is_of d (ps.opened (pid_of ps d) fd)) 0 most_descriptors p.here in
    record { pid_in = (p.least, at_most _ p.below); fd_in = below _ f.below; refers = f.here }
  where
    at_most : (k : ℕ) → k < 1 + 256 → k ≤ 256
    at_most k h = omega arith

    below : (k : ℕ) → k < 0 + 64 → k < 64
    below k h = omega arith

-- the place of a descriptor when all descriptors of a node stand in a row
abbrev slot : ℕ → ℕ → ℕ
slot pid fd = (pid - 1) * 64 + fd

slot-below : (pid fd : ℕ) → IsNumber 256 pid → fd < 64 → slot pid fd < 16384
slot-below pid fd h lt = let p = h.0 in let q = h.1 in omega arith

slot-pid : (a b x y : ℕ) → 1 ≤ a → 1 ≤ b → x < 64 → y < 64 → slot a x ≡ slot b y → a ≡ b
slot-pid a b x y ha hb hx hy e = omega arith

slot-fd : (a b x y : ℕ) → 1 ≤ a → 1 ≤ b → x < 64 → y < 64 → slot a x ≡ slot b y → x ≡ y
slot-fd a b x y ha hb hx hy e = omega arith

one_description : (d e : ℕ) (o : Option Opened) → is_of d o ≡ true → is_of e o ≡ true → d ≡ e
one_description d e None h k = absurd (cc)
one_description d e (Some o) h k = sym (eqb-true _ _ h) ∙ eqb-true _ _ k

not_of_none : (d : ℕ) (o : Option Opened) → o ≡ None → is_of d o ≡ true → ⊥
not_of_none d o h k = let e = rw h at k in cc

same_slot : (ps : Processes) (d e p q x y : ℕ) → Refers ps d p x → Refers ps e q y → slot p x ≡ slot q y → d ≡ e
same_slot ps d e p q x y f g h =
    let pids : p ≡ q = slot-pid p q x y f.pid_in.0 g.pid_in.0 f.fd_in g.fd_in h in
    let fds : x ≡ y = slot-fd p q x y f.pid_in.0 g.pid_in.0 f.fd_in g.fd_in h in
    one_description d e (ps.opened p x) f.refers (rw (pids, fds) g.refers)

-- if all descriptions were open no descriptor would be free
not_all_open : (ps : Processes) (pid fd : ℕ) → IsNumber most_processes pid → fd < most_descriptors → ps.opened pid fd ≡ None → ((d : ℕ) → IsNumber most_descriptions d → is_open ps d ≡ true) → ⊥
not_all_open ps pid fd pid_in fd_in free all = no_hole 16384 (λ k. slot (pid_of ps (k + 1)) (fd_of ps (k + 1))) (slot pid fd) (record {
  within = λ k h. let r = of k h in slot-below _ _ r.pid_in r.fd_in;
  own = λ j k hj hk e. less j k (same_slot ps (j + 1) (k + 1) _ _ _ _ (of j hj) (of k hk) e);
  hole_in = slot-below pid fd pid_in fd_in;
  empty = λ k h e. let r = of k h in
      let pids : pid_of ps (k + 1) ≡ pid = slot-pid _ pid _ fd r.pid_in.0 pid_in.0 r.fd_in fd_in e in
      let fds : fd_of ps (k + 1) ≡ fd = slot-fd _ pid _ fd r.pid_in.0 pid_in.0 r.fd_in fd_in e in
      not_of_none (k + 1) (ps.opened pid fd) free (rw (← pids, ← fds) r.refers);
})
  where
    number : (k : ℕ) → k < 16384 → IsNumber 16384 (k + 1)
    number k h = (omega arith, omega arith)

    of : (k : ℕ) → k < 16384 → Refers ps (k + 1) (pid_of ps (k + 1)) (fd_of ps (k + 1))
    of k h = open_refers ps (k + 1) (all (k + 1) (number k h))

    less : (j k : ℕ) → j + 1 ≡ k + 1 → j ≡ k
    less j k e = omega arith

-- the number that `lowest_description` finds is in range where a descriptor is free
pub lowest_description-number : (ps : Processes) (pid fd : ℕ) → IsNumber most_processes pid → fd < most_descriptors → ps.opened pid fd ≡ None → IsNumber most_descriptions (lowest_description ps)
lowest_description-number ps pid fd pid_in fd_in free = met (lowest_description ps) (first_is_first (λ d. not (is_open ps d)) 1 most_descriptions)
  where
    past : (d k : ℕ) → IsNumber 16384 d → 16384 < k → d < k
    past d k h lt = let q = h.1 in omega arith

    opens : (b : Bool) → not b ≡ false → b ≡ true
    opens true h = refl
    opens false h = absurd (cc)

    met : (k : ℕ) → IsFirst (λ d. not (is_open ps d)) 1 most_descriptions k → IsNumber most_descriptions k
    met k f = elim (cases_lt 16384 k) [
      | inl lt ↦ absurd (not_all_open ps pid fd pid_in fd_in free (λ d d_in. opens (is_open ps d) (f.none_before d d_in.0 (past d k d_in lt))))
      | inr le ↦ (f.least, le)
    ]

-- a process without descriptors refers to no description
pub none_refers : (opened : ℕ → Option Opened) (d n : ℕ) → ((fd : ℕ) → opened fd ≡ None) → some_passes (λ fd. is_of d (opened fd)) 0 n ≡ false
none_refers opened d n none = some_passes-none (λ fd. is_of d (opened fd)) 0 n n (record { all = λ j above below. ap (is_of d) (none j) }) (omega arith)

-- the lowest free descriptor is free
pub lowest_fd-free : (ps : Processes) (pid : ℕ) → lowest_fd ps pid < most_descriptors → ps.opened pid (lowest_fd ps pid) ≡ None
lowest_fd-free ps pid h = is_free (ps.opened pid (lowest_fd ps pid)) ((first_is_first (λ fd. is_none (ps.opened pid fd)) 0 most_descriptors).here (more _ h))
  where
    more : (k : ℕ) → k < 64 → k < 0 + 64
    more k lt = omega arith

    is_free : (o : Option Opened) → is_none o ≡ true → o ≡ None
    is_free None e = refl
    is_free (Some o) e = absurd (cc)
