-- Processes that exit in order of their numbers.
use Rattle.std.specs.Prelude.{◌≡◌, ℕ, zero, suc, ◌+◌, ◌-◌, ◌≤◌, false, None, refl}
use Rattle.std.proofs.Common.{arith, ap, sym, ◌∙◌}
use Rattle.model.specs.declared.process.Process.{Process}
use Rattle.model.specs.rule.Limits.{most_descriptors}
use Rattle.model.specs.rule.Descriptors.{with_process}
use Rattle.model.specs.rule.Table.{Table, around, with_processes, descriptor, closed_if, closed_below, exited, exited_if, exited_to, gone}

pub closed_below-none : (t : Table) (p : Process) → closed_below t p 0 ≡ t
unfolding closed_below
closed_below-none t p = refl

closed_below-suc : (t : Table) (p : Process) (n : ℕ) → closed_below t p (suc n) ≡ closed_if (closed_below t p n) p n (descriptor (closed_below t p n) p n)
unfolding closed_below
closed_below-suc t p n = refl

-- one more descriptor is closed
pub closed_below-more : (t new : Table) (p : Process) (n : ℕ) → new ≡ closed_below t p n → closed_if new p n (descriptor new p n) ≡ closed_below t p (n + 1)
closed_below-more t new p n so_far =
    let next : suc n ≡ n + 1 = omega arith in
    ap (λ (x : Table). closed_if x p n (descriptor x p n)) so_far ∙ sym (closed_below-suc t p n) ∙ ap (closed_below t p) next

-- the process ends after its descriptors are closed
abbrev ended : Table → Process → Table
ended t p = with_processes t p (with_process (around t p) p.pid false (λ fd. None))

pub exited-by : (t mid new : Table) (p : Process) (n : ℕ) → mid ≡ closed_below t p n → n ≡ most_descriptors → new ≡ ended mid p → new ≡ exited t p
exited-by t mid new p n shut is last = last ∙ ap (λ (x : Table). ended x p) (shut ∙ ap (closed_below t p) is)

exited_to-zero : (t : Table) (node incarnation : ℕ) → exited_to t node incarnation 0 ≡ t
unfolding exited_to
exited_to-zero t node incarnation = refl

exited_to-suc : (t : Table) (node incarnation n : ℕ) → exited_to t node incarnation (suc n) ≡ exited_if (exited_to t node incarnation n) (record { node = node; incarnation = incarnation; pid = suc n })
unfolding exited_to
exited_to-suc t node incarnation n = refl

-- the table after the processes with lower numbers have exited
abbrev pub exited_before : Table → ℕ → ℕ → ℕ → Table
exited_before t node incarnation pid = exited_to t node incarnation (pid - 1)

pub exited_before-first : (t : Table) (node incarnation : ℕ) → t ≡ exited_before t node incarnation 1
exited_before-first t node incarnation = sym (exited_to-zero t node incarnation)

-- one more process exits
pub exited_before-more : (t new : Table) (node incarnation pid : ℕ) → 1 ≤ pid → new ≡ exited_before t node incarnation pid → exited_if new (record { node = node; incarnation = incarnation; pid = pid }) ≡ exited_before t node incarnation (pid + 1)
exited_before-more t new node incarnation pid h so_far =
    let this : suc (pid - 1) ≡ pid = omega arith in
    let next : suc (pid - 1) ≡ pid + 1 - 1 = omega arith in
    ap (λ (x : Table). exited_if x (record { node = node; incarnation = incarnation; pid = pid })) so_far
    ∙ ap (λ (k : ℕ). exited_if (exited_to t node incarnation (pid - 1)) (record { node = node; incarnation = incarnation; pid = k })) (sym this)
    ∙ sym (exited_to-suc t node incarnation (pid - 1))
    ∙ ap (exited_to t node incarnation) next

pub exited_before-whole : (t new : Table) (node incarnation pid : ℕ) → new ≡ exited_before t node incarnation pid → pid ≡ 257 → new ≡ gone t node incarnation
exited_before-whole t new node incarnation pid so_far is = so_far ∙ ap (exited_before t node incarnation) is

-- a process that doesn't run doesn't exit
exited_if-none : (t : Table) (p : Process) → (t.on p.node p.incarnation).runs p.pid ≡ false → exited_if t p ≡ t
exited_if-none t p h = rw h refl

pub exited_to-none : (t : Table) (node incarnation n : ℕ) → ((pid : ℕ) → (t.on node incarnation).runs pid ≡ false) → exited_to t node incarnation n ≡ t
exited_to-none t node incarnation zero none = exited_to-zero t node incarnation
exited_to-none t node incarnation (suc n) none =
    let p : Process = record { node = node; incarnation = incarnation; pid = suc n } in
    exited_to-suc t node incarnation n ∙ ap (λ (x : Table). exited_if x p) (exited_to-none t node incarnation n none) ∙ exited_if-none t p (none (suc n))
