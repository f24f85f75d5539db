-- The lines stand in phases, as they are passed one after the other.
use Rattle.std.specs.Prelude.{◌≡◌, ℕ, ◌+◌, ◌<◌, ◌≤◌, Bool, true, false, List, Some, max, slice_get, if◌then◌else◌}
use Rattle.std.specs.Option.{unwrap_or}
use Rattle.std.proofs.Common.{ap, sym, ◌∙◌, ◌⊎◌, arith, ⊎_elim, inl, inr}
use Rattle.std.proofs.lemmas.Bool.{cases_order, cases_Bool}
use Rattle.lockscript.specs.declared.script_line.ScriptCommand.{ScriptCommand}
use Rattle.thread_runs.specs.declared.played_line.PlayedLine.{PlayedLine}
use Rattle.thread_runs.specs.rule.Runs.{begins, ends, Precedes}

-- the first lines stand in phases: the greatest position of their entries, and that up to the last line that separates phases
pub record Passed (is_between : ScriptCommand → Bool) (lines : List PlayedLine) (count all earlier : ℕ) : Type 0 where
  pub known : (i p : ℕ) (l : PlayedLine) → i < count → slice_get lines i ≡ Some l → ends l.outcome ≡ Some p → p ≤ all
  pub known_earlier : (i j p : ℕ) (l m : PlayedLine) → i ≤ j → j < count → slice_get lines i ≡ Some l → slice_get lines j ≡ Some m → is_between m.line.command ≡ true → ends l.outcome ≡ Some p → p ≤ earlier
  pub phases : (i j k : ℕ) (l m n : PlayedLine) → i ≤ j → j ≤ k → i < k → k < count → slice_get lines i ≡ Some l → slice_get lines j ≡ Some m → slice_get lines k ≡ Some n → is_between m.line.command ≡ true → Precedes l n

-- the next line is passed as well: it begins late enough
pub record Passes (is_between : ScriptCommand → Bool) (x : PlayedLine) (all earlier all' earlier' : ℕ) : Type 0 where
  pub all_is : all' ≡ max all (unwrap_or (ends x.outcome) 0)
  pub earlier_is : earlier' ≡ (if is_between x.line.command then all' else earlier)
  pub later : (at : ℕ) → begins x.outcome ≡ Some at → (if is_between x.line.command then all else earlier) < at

pub none_passed : (is_between : ScriptCommand → Bool) (lines : List PlayedLine) → Passed is_between lines 0 0 0
none_passed is_between lines = record {
  known = λ i p l lt. absurd (omega arith);
  known_earlier = λ i j p l m le lt. absurd (omega arith);
  phases = λ i j k l m n a b c lt. absurd (omega arith);
}

is_here : {X : Type 0} (x y : X) → Some x ≡ Some y → x ≡ y
is_here x y e = search (e)

module _ (is_between : ScriptCommand → Bool) (lines : List PlayedLine) (count all earlier all' earlier' : ℕ) (x : PlayedLine) (here : slice_get lines count ≡ Some x) (before : Passed is_between lines count all earlier) (next : Passes is_between x all earlier all' earlier') where
  -- a read at the next place gives the next line
  the_next : (i : ℕ) (l : PlayedLine) → i ≡ count → slice_get lines i ≡ Some l → l ≡ x
  the_next i l is at = is_here l x (sym at ∙ (ap (slice_get lines) is ∙ here))

  more : all ≤ all'
  more = let e = next.all_is in omega arith

  ends_now : (p : ℕ) → ends x.outcome ≡ Some p → p ≤ all'
  ends_now p e = let k = next.all_is in let v = ap (λ o. unwrap_or o 0) e in omega arith

  earlier_behind : is_between x.line.command ≡ true → earlier' ≡ all'
  earlier_behind c = next.earlier_is ∙ ap (λ b. if b then all' else earlier) c

  earlier_within : is_between x.line.command ≡ false → earlier' ≡ earlier
  earlier_within c = next.earlier_is ∙ ap (λ b. if b then all' else earlier) c

  no_less : (p : ℕ) → p ≤ earlier → p ≤ all → p ≤ earlier'
  no_less p a b = ⊎_elim
      (λ c. let e = earlier_behind c in let m = more in omega arith)
      (λ c. let e = earlier_within c in omega arith)
      (cases_Bool (is_between x.line.command))

  last : (i : ℕ) → i < count + 1 → (i < count) ⊎ (i ≡ count)
  last i lt = ⊎_elim (λ e. inr e) (⊎_elim (λ a. inl a) (λ b. absurd (omega arith))) (cases_order i count)

  known' : (i p : ℕ) (l : PlayedLine) → i < count + 1 → slice_get lines i ≡ Some l → ends l.outcome ≡ Some p → p ≤ all'
  known' i p l lt at e = ⊎_elim
      (λ a. let k = before.known i p l a at e in let m = more in omega arith)
      (λ b. ends_now p (ap (λ (y : PlayedLine). ends y.outcome) (sym (the_next i l b at)) ∙ e))
      (last i lt)

  known_earlier' : (i j p : ℕ) (l m : PlayedLine) → i ≤ j → j < count + 1 → slice_get lines i ≡ Some l → slice_get lines j ≡ Some m → is_between m.line.command ≡ true → ends l.outcome ≡ Some p → p ≤ earlier'
  known_earlier' i j p l m le lt at at' c e = ⊎_elim
      (λ a. no_less p (before.known_earlier i j p l m le a at at' c e) (before.known i p l (omega arith) at e))
      (λ b. let k = known' i p l (omega arith) at e in
      let o = earlier_behind (ap (λ (y : PlayedLine). is_between y.line.command) (sym (the_next j m b at')) ∙ c) in
      omega arith)
      (last j lt)

  begins_after : (p q : ℕ) → begins x.outcome ≡ Some q → (b : Bool) → is_between x.line.command ≡ b → p ≤ (if b then all else earlier) → p < q
  begins_after p q e b is le = let k = next.later q e in let s = ap (λ c. if c then all else earlier) is in omega arith

  phases_at : (i j p q : ℕ) (l m : PlayedLine) → i ≤ j → j < count + 1 → i < count → slice_get lines i ≡ Some l → slice_get lines j ≡ Some m → is_between m.line.command ≡ true → ends l.outcome ≡ Some p → begins x.outcome ≡ Some q → p < q
  phases_at i j p q l m le lt early at at' c e f = ⊎_elim
      (λ a. let k = before.known_earlier i j p l m le a at at' c e in
      let w = before.known i p l early at e in
      ⊎_elim (λ y. begins_after p q f true y w) (λ n. begins_after p q f false n k) (cases_Bool (is_between x.line.command)))
      (λ b. begins_after p q f true (ap (λ (y : PlayedLine). is_between y.line.command) (sym (the_next j m b at')) ∙ c) (before.known i p l early at e))
      (last j lt)

  phases' : (i j k : ℕ) (l m n : PlayedLine) → i ≤ j → j ≤ k → i < k → k < count + 1 → slice_get lines i ≡ Some l → slice_get lines j ≡ Some m → slice_get lines k ≡ Some n → is_between m.line.command ≡ true → Precedes l n
  phases' i j k l m n a b d lt at at' at'' c = λ p q e f. ⊎_elim
      (λ early. before.phases i j k l m n a b d early at at' at'' c p q e f)
      (λ is. phases_at i j p q l m a (omega arith) (omega arith) at at' c e (ap (λ (y : PlayedLine). begins y.outcome) (sym (the_next k n is at'')) ∙ f))
      (last k lt)

  pub passed : Passed is_between lines (count + 1) all' earlier'
  passed = record { known = known'; known_earlier = known_earlier'; phases = phases' }
