-- What a lock call that passes its tests is about: an owner that the node can have, and bytes that a file can have.
use Rattle.std.proofs.Common.{◌≡◌, ℕ, zero, suc, ◌+◌, ◌-◌, ◌<◌, ◌≤◌, Bool, true, false, if◌then◌else◌, refl, sym, subst, arith, ℤ, pos, negsuc, nat_le, nat_lt, Option, Some, None, Result, Ok, Err}
use Rattle.std.proofs.lemmas.Bool.Decides.{nat_tests}
use Rattle.intervals.specs.declared.span.SpanError.{SpanError}
use Rattle.intervals.specs.declared.span.SpanError.TheVariants.{Invalid, Overflow}
use Rattle.intervals.specs.rule.Bytes.{Range, greatest}
use Rattle.intervals.specs.rule.Segment.{seg, up_to}
use Rattle.model.specs.declared.mode.Mode.{Mode}
use Rattle.model.specs.declared.owner.Kind.{Kind}
use Rattle.model.specs.declared.owner.Kind.TheVariants.{OfProcess, OfDescription}
use Rattle.model.specs.declared.owner.Owner.{Owner}
use Rattle.model.specs.declared.opened.Opened.{Opened}
use Rattle.model.specs.declared.process.Process.{Process}
use Rattle.model.specs.declared.reply.Reply.TheVariants.{NoProcess, BadFd}
use Rattle.model.specs.rule.Limits.{IsNumber, most_processes, most_descriptions}
use Rattle.model.specs.rule.Owners.{owner_at, most_owners, process_owner, description_owner}
use Rattle.model.specs.rule.Table.{Table, LockTarget, is_running, descriptor, target, target_at, owner_of, allows}
use Rattle.model.proofs.Refusals.{if_ok, if_then}

-- bytes of a file, at least one
pub record IsSpan (s : Range) : Type 0 where
  pub ordered : s.lo ≤ s.hi
  pub ends : s.hi ≤ greatest

span_from : (lo hi : ℕ) (s : Range) → lo ≤ hi → nat_le hi greatest ≡ true → (let r : Range = record { lo = lo; hi = hi } in r ≡ s) → IsSpan s
span_from lo hi s ordered ends is =
    let within : hi ≤ greatest = grind (arith, nat_tests, ends) in
    subst (λ (r : Range). IsSpan r) is (record { ordered = ordered; ends = within })

up_to_span : (lo hi : ℕ) (s : Range) → lo ≤ hi → up_to lo hi ≡ Ok s → IsSpan s
up_to_span lo hi s ordered h =
    let both = if_ok (nat_le hi greatest) (record { lo = lo; hi = hi }) s Overflow h in
    span_from lo hi s ordered both.0 both.1

pub seg_span : (start len : ℤ) (s : Range) → seg start len ≡ Ok s → IsSpan s
seg_span (negsuc a) len s h = absurd (cc)
seg_span (pos a) (pos zero) s h =
    let both = if_ok (nat_le a greatest) (record { lo = a; hi = greatest }) s Overflow h in
    let within : a ≤ greatest = grind (arith, nat_tests, both.0) in
    subst (λ (r : Range). IsSpan r) both.1 (record { ordered = within; ends = omega arith })
seg_span (pos a) (pos (suc n)) s h = up_to_span a (a + n) s (omega arith) h
seg_span (pos a) (negsuc n) s h =
    let both = if_then (nat_le (suc n) a) (up_to (a - suc n) (a - 1)) s Invalid h in
    up_to_span (a - suc n) (a - 1) s (omega arith) both.1

-- an owner that the node can have in this incarnation
pub record IsOwner (node incarnation : ℕ) (o : Owner) : Type 0 where
  pub place : ℕ
  pub place_in : place < most_owners
  pub is : o ≡ owner_at node incarnation place
  pub node_is : o.node ≡ node
  pub incarnation_is : o.incarnation ≡ incarnation

process_is : (p : Process) → IsNumber most_processes p.pid → IsOwner p.node p.incarnation (process_owner p)
process_is p pid_in =
    let least = pid_in.0 in
    let most = pid_in.1 in
    let few : nat_lt (p.pid - 1) 256 ≡ true = grind (arith, nat_tests) in
    let number : p.pid ≡ p.pid - 1 + 1 = omega arith in
    record {
      place = p.pid - 1;
      place_in = omega arith;
      is = rw few (λ i. record { node = p.node; incarnation = p.incarnation; kind = OfProcess; number = number i });
      node_is = refl;
      incarnation_is = refl;
    }

description_is : (p : Process) (d : ℕ) → IsNumber most_descriptions d → IsOwner p.node p.incarnation (description_owner p d)
description_is p d d_in =
    let least = d_in.0 in
    let most = d_in.1 in
    let many : nat_lt (d + 255) 256 ≡ false = grind (arith, nat_tests) in
    let number : d ≡ d + 255 + 1 - 256 = omega arith in
    record {
      place = d + 255;
      place_in = omega arith;
      is = rw many (λ i. record { node = p.node; incarnation = p.incarnation; kind = OfDescription; number = number i });
      node_is = refl;
      incarnation_is = refl;
    }

pub owner_is : (p : Process) (kind : Kind) (o : Opened) → IsNumber most_processes p.pid → IsNumber most_descriptions o.description → IsOwner p.node p.incarnation (owner_of p kind o)
owner_is p OfProcess o pid_in d_in = process_is p pid_in
owner_is p OfDescription o pid_in d_in = description_is p o.description d_in

-- the owner and the bytes of a lock call are ones that the node and a file can have
pub record IsTarget (node incarnation : ℕ) (c : LockTarget) : Type 0 where
  pub owner : IsOwner node incarnation c.owner
  pub span : IsSpan c.span

-- a call that passes its tests has a descriptor and a segment
pub record Passes (p : Process) (need : Option Mode) (kind : Kind) (opened : Option Opened) (segment : Result Range SpanError) (c : LockTarget) : Type 0 where
  pub what : Opened
  pub there : opened ≡ Some what
  pub span : Range
  pub names : segment ≡ Ok span
  pub is : (let t : LockTarget = record { file = what.file; owner = owner_of p kind what; span = span } in t ≡ c)

pub passes_at : (p : Process) (need : Option Mode) (kind : Kind) (opened : Option Opened) (segment : Result Range SpanError) (c : LockTarget) → target_at p need kind opened segment ≡ Ok c → Passes p need kind opened segment c
passes_at p need kind None segment c h = absurd (cc)
passes_at p need kind (Some o) (Err Invalid) c h = absurd (cc)
passes_at p need kind (Some o) (Err Overflow) c h = absurd (cc)
passes_at p need kind (Some o) (Ok span) c h =
    let both = if_ok (allows o.access need) (record { file = o.file; owner = owner_of p kind o; span = span }) c BadFd h in
    record { what = o; there = refl; span = span; names = refl; is = both.1 }

pub target_is : (t : Table) (p : Process) (need : Option Mode) (fd : ℕ) (kind : Kind) (start len : ℤ) (c : LockTarget) → IsNumber most_processes p.pid → ((o : Opened) → descriptor t p fd ≡ Some o → IsNumber most_descriptions o.description) → target t p need fd kind start len ≡ Ok c → IsTarget p.node p.incarnation c
target_is t p need fd kind start len c pid_in numbers h =
    let runs = if_then (is_running t p) (target_at p need kind (descriptor t p fd) (seg start len)) c NoProcess h in
    let passes = passes_at p need kind (descriptor t p fd) (seg start len) c runs.1 in
    subst (λ (x : LockTarget). IsTarget p.node p.incarnation x) passes.is (record {
      owner = owner_is p kind passes.what pid_in (numbers passes.what passes.there);
      span = seg_span start len passes.span passes.names;
    })

-- a lock call is about the same where its process still runs and its descriptors still stand
pub target-keeps : (t u : Table) (p : Process) (need : Option Mode) (fd : ℕ) (kind : Kind) (start len : ℤ) (c : LockTarget) → (is_running t p ≡ true → is_running u p ≡ true) → ((o : Opened) → is_running t p ≡ true → descriptor t p fd ≡ Some o → descriptor u p fd ≡ Some o) → target t p need fd kind start len ≡ Ok c → target u p need fd kind start len ≡ Ok c
target-keeps t u p need fd kind start len c runs stands h =
    let before = if_then (is_running t p) (target_at p need kind (descriptor t p fd) (seg start len)) c NoProcess h in
    let passes = passes_at p need kind (descriptor t p fd) (seg start len) c before.1 in
    let there = stands passes.what before.0 passes.there in
    let P : Option Opened → Type 0 = λ o. target_at p need kind o (seg start len) ≡ Ok c in
    let now : target_at p need kind (descriptor u p fd) (seg start len) ≡ Ok c = subst P (sym there) (subst P passes.there before.1) in
    let Q : Bool → Type 0 = λ b. (if b then target_at p need kind (descriptor u p fd) (seg start len) else Err NoProcess) ≡ Ok c in
    subst Q (sym (runs before.0)) now

-- a lock call that passes its tests is about bytes of a file
pub target_span : (t : Table) (p : Process) (need : Option Mode) (fd : ℕ) (kind : Kind) (start len : ℤ) (c : LockTarget) → target t p need fd kind start len ≡ Ok c → IsSpan c.span
target_span t p need fd kind start len c h =
    let runs = if_then (is_running t p) (target_at p need kind (descriptor t p fd) (seg start len)) c NoProcess h in
    let passes = passes_at p need kind (descriptor t p fd) (seg start len) c runs.1 in
    subst (λ (x : LockTarget). IsSpan x.span) passes.is (seg_span start len passes.span passes.names)
