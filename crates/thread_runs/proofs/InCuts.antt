-- The lines that were left, as lines are passed one after the other.
use Rattle.std.specs.Prelude.{◌≡◌, ◌≢◌, ℕ, ◌+◌, ◌<◌, Bool, true, false, List, [], ◌∷◌, ◌++◌, Some, All, slice_get, if◌then◌else◌}
use Rattle.std.specs.List.{Contains}
use Rattle.std.proofs.Common.{ap, sym, subst, ◌∙◌, ◌⊎◌, arith, ⊎_elim, inl, inr, refl}
use Rattle.std.proofs.lemmas.Bool.{cases_Bool, cases_order, false≢true}
use Rattle.std.proofs.lemmas.List.Elements.{All-contains, All-nil, All-push}
use Rattle.lockscript.specs.declared.script_line.ScriptCommand.{ScriptCommand}
use Rattle.thread_runs.specs.declared.line_outcome.LineOutcome.TheVariants.{Left}
use Rattle.thread_runs.specs.declared.played_line.PlayedLine.{PlayedLine}
use Rattle.thread_runs.specs.rule.Runs.{IsBarred, is_open, asker}

-- one of the first lines is an open call of this process
abbrev pub Opened : List PlayedLine → ℕ → ℕ × ℕ → Type 0
Opened lines count a = (i : ℕ) × (l : PlayedLine) × (i < count) × (slice_get lines i ≡ Some l) × (is_open l.outcome ≡ true) × (asker l.line.command ≡ a)

-- a line that separates phases stands behind an open call of the first lines
abbrev pub Over : (ScriptCommand → Bool) → List PlayedLine → ℕ → Type 0
Over is_between lines count = (i : ℕ) × (l : PlayedLine) × (k : ℕ) × (n : PlayedLine) × (i < k) × (k < count) × (slice_get lines i ≡ Some l) × (is_open l.outcome ≡ true) × (slice_get lines k ≡ Some n) × (is_between n.line.command ≡ true)

pub record Passed (is_between : ScriptCommand → Bool) (lines : List PlayedLine) (count : ℕ) (askers : List (ℕ × ℕ)) (over : Bool) : Type 0 where
  pub opened : All (Opened lines count) askers
  pub is_over : over ≡ true → Over is_between lines count
  pub barred : (j : ℕ) (m : PlayedLine) → j < count → slice_get lines j ≡ Some m → m.outcome ≡ Left → IsBarred is_between lines j m

-- the next line is passed as well
pub record Passes (is_between : ScriptCommand → Bool) (askers : List (ℕ × ℕ)) (over : Bool) (line : PlayedLine) (askers' : List (ℕ × ℕ)) (over' : Bool) : Type 0 where
  pub over_by : over' ≡ true → (over ≡ true) ⊎ ((is_between line.line.command ≡ true) × (askers ≢ []))
  pub left_by : line.outcome ≡ Left → (over' ≡ true) ⊎ Contains askers (asker line.line.command)
  pub open_by : askers' ≡ (if is_open line.outcome then askers ++ asker line.line.command ∷ [] else askers)

pub none_passed : (is_between : ScriptCommand → Bool) (lines : List PlayedLine) → Passed is_between lines 0 [] false
none_passed is_between lines = record { opened = All-nil (Opened lines 0); is_over = λ e. absurd (false≢true e); barred = λ j m lt. absurd (omega arith) }

is_here : {X : Type 0} (x y : X) → Some x ≡ Some y → x ≡ y
is_here x y e = search (e)

first_of : {X : Type 0} (P : X → Type 0) (xs : List X) → All P xs → xs ≢ [] → (x : X) × P x
first_of P [] all filled = absurd (filled refl)
first_of P (x ∷ xs) all filled = (x, all 0 x (omega arith))

module _ (is_between : ScriptCommand → Bool) (lines : List PlayedLine) (count : ℕ) (askers askers' : List (ℕ × ℕ)) (over over' : Bool) (x : PlayedLine) (here : slice_get lines count ≡ Some x) (before : Passed is_between lines count askers over) (next : Passes is_between askers over x askers' over') where
  the_next : (i : ℕ) (l : PlayedLine) → i ≡ count → slice_get lines i ≡ Some l → l ≡ x
  the_next i l is at = is_here l x (sym at ∙ (ap (slice_get lines) is ∙ here))

  further : (a : ℕ × ℕ) → Opened lines count a → Opened lines (count + 1) a
  further a (i, l, lt, at, o, is) = (i, l, omega arith, at, o, is)

  all_further : (xs : List (ℕ × ℕ)) → All (Opened lines count) xs → All (Opened lines (count + 1)) xs
  all_further xs all = λ k d lt. further _ (all k d lt)

  asks_too : is_open x.outcome ≡ true → askers' ≡ askers ++ asker x.line.command ∷ []
  asks_too o = next.open_by ∙ ap (λ b. if b then askers ++ asker x.line.command ∷ [] else askers) o

  same_askers : is_open x.outcome ≡ false → askers' ≡ askers
  same_askers n = next.open_by ∙ ap (λ b. if b then askers ++ asker x.line.command ∷ [] else askers) n

  opened' : All (Opened lines (count + 1)) askers'
  opened' = ⊎_elim
      (λ o. subst (All (Opened lines (count + 1))) (sym (asks_too o)) (All-push (Opened lines (count + 1)) askers (asker x.line.command) (all_further askers before.opened) (count, x, omega arith, here, o, refl)))
      (λ n. subst (All (Opened lines (count + 1))) (sym (same_askers n)) (all_further askers before.opened))
      (cases_Bool (is_open x.outcome))

  some_open : askers ≢ [] → (a : ℕ × ℕ) × Opened lines count a
  some_open filled = first_of (Opened lines count) askers before.opened filled

  over_now : over' ≡ true → Over is_between lines (count + 1)
  over_now e = ⊎_elim
      (λ was. let (i, l, k, n, a, b, at, o, at', c) = before.is_over was in (i, l, k, n, a, omega arith, at, o, at', c))
      (λ now. let (a, (i, l, lt, at, o, is)) = some_open now.1 in (i, l, count, x, lt, omega arith, at, o, here, now.0))
      (next.over_by e)

  barred_now : x.outcome ≡ Left → IsBarred is_between lines count x
  barred_now left = ⊎_elim
      (λ e. let (i, l, k, n, a, b, at, o, at', c) = over_now e in (i, l, omega arith, at, o, inr (k, n, a, omega arith, at', c)))
      (λ is. let (i, l, lt, at, o, same) = All-contains (Opened lines count) askers (asker x.line.command) before.opened is in (i, l, lt, at, o, inl same))
      (next.left_by left)

  last : (i : ℕ) → i < count + 1 → (i < count) ⊎ (i ≡ count)
  last i lt = ⊎_elim (λ e. inr e) (⊎_elim (λ a. inl a) (λ b. absurd (omega arith))) (cases_order i count)

  barred' : (j : ℕ) (m : PlayedLine) → j < count + 1 → slice_get lines j ≡ Some m → m.outcome ≡ Left → IsBarred is_between lines j m
  barred' j m lt at left = ⊎_elim
      (λ early. before.barred j m early at left)
      (λ is.
      let same = the_next j m is at in
      subst (λ (y : PlayedLine). IsBarred is_between lines j y) (sym same) (subst (λ (k : ℕ). IsBarred is_between lines k x) (sym is) (barred_now (ap (λ (y : PlayedLine). y.outcome) (sym same) ∙ left))))
      (last j lt)

  pub passed : Passed is_between lines (count + 1) askers' over'
  passed = record { opened = opened'; is_over = over_now; barred = barred' }
