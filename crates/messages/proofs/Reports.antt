-- The longest runs of a token: a report of them describes the token, and no other list does.
use Rattle.std.specs.Prelude.{◌==◌, slice_index_or}
use Rattle.std.proofs.Common.{◌≡◌, ◌≢◌, ◌⊎◌, ℕ, zero, suc, ◌+◌, ◌-◌, ◌<◌, ◌≤◌, Bool, true, false, not, ◌&&◌, if◌then◌else◌, inl, inr, refl, sym, ◌∙◌, ap, subst, arith, List, [], ◌∷◌, length, map, All, AllPairs, Contains, Option, Some, None}
use Rattle.std.proofs.lemmas.Bool.{and_parts, and_from, cases_lt, cases_order, eqb-true, false≢true, false_from_ne_true}
use Rattle.std.proofs.lemmas.Bool.Decides.{nat_tests}
use Rattle.intervals.specs.rule.Bytes.{Range, greatest, is_in, AllAre, IsRun}
use Rattle.model.specs.declared.level.Level.{Level}
use Rattle.messages.specs.declared.token_run.TokenRun.{TokenRun}
use Rattle.messages.specs.rule.TokenRuns.{same_level, may_follow, go_on_after, are_longest, run_of}
use Rattle.messages.proofs.SameRuns.{level_exact, level_refl}
use Rattle.messages.specs.rule.Messages.{joined, runs_from, runs_of, reported}

-- a token has no byte past the greatest offset
abbrev pub Ends : (ℕ → Option Level) → Type 0
Ends t = (b : ℕ) → greatest < b → t b ≡ None

-- the run is the first longest run from byte `first` on
record IsNext (t : ℕ → Option Level) (first : ℕ) (r : TokenRun) : Type 0 where
  after : first ≤ r.span.lo
  ordered : r.span.lo ≤ r.span.hi
  none_before : (b : ℕ) → first ≤ b → b < r.span.lo → t b ≡ None
  all : AllAre t r.span (Some r.level)
  ends : t (r.span.hi + 1) ≢ Some r.level

-- the list is the longest runs of the bytes from `first` on
abbrev AreRunsFrom : (ℕ → Option Level) → ℕ → List TokenRun → Type 0
AreRunsFrom t first [] = (b : ℕ) → first ≤ b → t b ≡ None
AreRunsFrom t first (r ∷ rest) = IsNext t first r × AreRunsFrom t (r.span.hi + 1) rest

-- the runs of the bytes from b on, by whether byte b joins the first run of the bytes behind it
module _ (t : ℕ → Option Level) (b : ℕ) where
  abbrev one : Level → TokenRun
  one level = record { span = record { lo = b; hi = b }; level = level }

  abbrev longer : TokenRun → TokenRun
  longer r = record { span = record { lo = b; hi = r.span.hi }; level = r.level }

  or_later : (P : ℕ → Type 0) → P b → ((x : ℕ) → b + 1 ≤ x → P x) → (x : ℕ) → b ≤ x → P x
  or_later P here later x low = elim (cases_lt b x) [
    | inl lt ↦ later x (omega arith)
    | inr ge ↦ subst P (let same : b ≡ x = omega arith in same) here
  ]

  is_one : (level : Level) → t b ≡ Some level → t (b + 1) ≢ Some level → IsNext t b (one level)
  is_one level is ends = record {
    after = omega arith;
    ordered = omega arith;
    none_before = λ x low lt. absurd (omega arith);
    all = λ x low upto. subst (λ (y : ℕ). t y ≡ Some level) (let same : b ≡ x = omega arith in same) is;
    ends = ends;
  }

  is_longer : (r : TokenRun) → t b ≡ Some r.level → r.span.lo ≡ b + 1 → IsNext t (b + 1) r → IsNext t b (longer r)
  is_longer r is next n =
      let ordered = n.ordered in
      record {
        after = omega arith;
        ordered = omega arith;
        none_before = λ x low lt. absurd (omega arith);
        all = or_later (λ (x : ℕ). x ≤ r.span.hi → t x ≡ Some r.level) (λ upto. is) (λ x low upto. n.all x (omega arith) upto);
        ends = n.ends;
      }

  is_later : (r : TokenRun) → t b ≡ None → IsNext t (b + 1) r → IsNext t b r
  is_later r is n =
      let after = n.after in
      record {
        after = omega arith;
        ordered = n.ordered;
        none_before = or_later (λ (x : ℕ). x < r.span.lo → t x ≡ None) (λ lt. is) (λ x low lt. n.none_before x low lt);
        all = n.all;
        ends = n.ends;
      }

  -- a byte that doesn't join the first run is a run of its own
  apart : (level : Level) (r : TokenRun) → IsNext t (b + 1) r → ((r.span.lo == b + 1) && same_level r.level level) ≡ false → t (b + 1) ≢ Some level
  apart level r n other at =
      let after = n.after in
      elim (cases_lt (b + 1) r.span.lo) [
        | inl lt ↦ let none = n.none_before (b + 1) (omega arith) lt in absurd cc
        | inr le ↦
            let lo : r.span.lo ≡ b + 1 = omega arith in
            let here : t (b + 1) ≡ Some r.level = n.all (b + 1) (omega arith) (let ordered = n.ordered in omega arith) in
            let same : r.level ≡ level = cc in
            let levels : same_level r.level level ≡ true = subst (λ (l : Level). same_level r.level l ≡ true) same (level_refl r.level) in
            let starts : (r.span.lo == b + 1) ≡ true = grind (arith, nat_tests) in
            absurd (false≢true (sym other ∙ and_from _ _ starts levels))
      ]

  joined_runs : (o : Option Level) (runs : List TokenRun) → t b ≡ o → AreRunsFrom t (b + 1) runs → AreRunsFrom t b (joined b o runs)
  joined_runs None [] is h = or_later (λ (x : ℕ). t x ≡ None) is h
  joined_runs None (r ∷ rest) is h = (is_later r is h.0, h.1)
  joined_runs (Some level) [] is h = (is_one level is (λ at. let none = h (b + 1) (omega arith) in absurd cc), h)
  joined_runs (Some level) (r ∷ rest) is h =
      let joins = (r.span.lo == b + 1) && same_level r.level level in
      elim joins as (λ c. joins ≡ c → AreRunsFrom t b (if c then record { span = record { lo = b; hi = r.span.hi }; level = level } ∷ rest else one level ∷ (r ∷ rest))) [
        | true ↦ λ does.
            let parts = and_parts (r.span.lo == b + 1) (same_level r.level level) does in
            let same = level_exact r.level level parts.1 in
            let long = is_longer r (is ∙ ap Some (sym same)) (eqb-true r.span.lo (b + 1) parts.0) h.0 in
            (subst (λ (l : Level). IsNext t b (record { span = record { lo = b; hi = r.span.hi }; level = l })) same long, h.1)
        | false ↦ λ not. (is_one level is (apart level r h.0 not), h)
      ] refl

-- `runs_from` gives the longest runs of the bytes from b on
runs_from-are : (t : ℕ → Option Level) (b n : ℕ) → ((x : ℕ) → b + n ≤ x → t x ≡ None) → AreRunsFrom t b (runs_from t b n)
unfolding runs_from
runs_from-are t b zero none = λ x low. none x (omega arith)
runs_from-are t b (suc n) none = joined_runs t b (t b) (runs_from t (b + 1) n) refl (runs_from-are t (b + 1) n (λ x low. none x (omega arith)))

-- `runs_of` gives the longest runs of a token
runs_of-are : (t : ℕ → Option Level) → Ends t → AreRunsFrom t 0 (runs_of t)
runs_of-are t ends = runs_from-are t 0 (greatest + 1) (λ x low. ends x (omega arith))

-- none of the runs from `first` on has a byte below it
nothing_before : (t : ℕ → Option Level) (first : ℕ) (runs : List TokenRun) → AreRunsFrom t first runs → (b : ℕ) → b < first → reported runs b ≡ None
nothing_before t first [] h b lt = refl
nothing_before t first (r ∷ rest) h b lt =
    let after = h.0.after in
    let ordered = h.0.ordered in
    let out : is_in r.span b ≡ false = false_from_ne_true (is_in r.span b) (λ is. let low : r.span.lo ≤ b = grind (arith, nat_tests) in absurd (omega arith)) in
    ap (λ (c : Bool). if c then Some r.level else reported rest b) out ∙ nothing_before t (r.span.hi + 1) rest h.1 b (omega arith)

-- the longest runs describe the token
runs_tell : (t : ℕ → Option Level) (first : ℕ) (runs : List TokenRun) → AreRunsFrom t first runs → (b : ℕ) → first ≤ b → reported runs b ≡ t b
runs_tell t first [] h b low = sym (h b low)
runs_tell t first (r ∷ rest) h b low = elim (is_in r.span b) as (λ c. is_in r.span b ≡ c → (if c then Some r.level else reported rest b) ≡ t b) [
  | true ↦ λ is. sym (h.0.all b (grind (arith, nat_tests)) (grind (arith, nat_tests)))
  | false ↦ λ is. elim (cases_lt b r.span.lo) [
    | inl lt ↦ nothing_before t (r.span.hi + 1) rest h.1 b (let ordered = h.0.ordered in omega arith) ∙ sym (h.0.none_before b low lt)
    | inr le ↦ runs_tell t (r.span.hi + 1) rest h.1 b (grind (arith, nat_tests))
  ]
] refl

-- the report of a token describes the token
pub tells_token : (t : ℕ → Option Level) → Ends t → reported (runs_of t) ≡ t
tells_token t ends i b = runs_tell t 0 (runs_of t) (runs_of-are t ends) b (omega arith) i

-- runs of the bytes from `first` on pass the test for longest runs
longest : (t : ℕ → Option Level) (first : ℕ) (runs : List TokenRun) → AreRunsFrom t first runs → are_longest runs ≡ true
longest t first [] h = refl
longest t first (r ∷ rest) h = and_from _ _ (goes_on r rest h) (longest t (r.span.hi + 1) rest h.1)
  where
    apart_from : (r q : TokenRun) → IsNext t first r → IsNext t (r.span.hi + 1) q → may_follow r q ≡ true
    apart_from r q n next =
        let after = next.after in
        let ordered = next.ordered in
        let touch : ((q.span.lo == r.span.hi + 1) && same_level q.level r.level) ≡ false = false_from_ne_true _ (λ is.
        let parts = and_parts _ _ is in
        let lo = eqb-true q.span.lo (r.span.hi + 1) parts.0 in
        let levels = level_exact q.level r.level parts.1 in
        n.ends (next.all (r.span.hi + 1) (omega arith) (omega arith) ∙ ap Some levels)) in
        and_from _ _ (grind (arith, nat_tests)) (ap not touch)

    goes_on : (r : TokenRun) (rest : List TokenRun) → AreRunsFrom t first (r ∷ rest) → go_on_after r rest ≡ true
    goes_on r [] h = refl
    goes_on r (q ∷ rest) h = apart_from r q h.0 h.1.0

-- the runs of a token pass the test for longest runs
pub runs_of-longest : (t : ℕ → Option Level) → Ends t → are_longest (runs_of t) ≡ true
runs_of-longest t ends = longest t 0 (runs_of t) (runs_of-are t ends)

-- two lists of longest runs of one token are equal
next_one : (t : ℕ → Option Level) (first : ℕ) (r q : TokenRun) → IsNext t first r → IsNext t first q → r ≡ q
next_one t first r q n m =
    let no_earlier : (a b : TokenRun) → IsNext t first a → IsNext t first b → b.span.lo ≤ a.span.lo = λ a b x y. elim (cases_lt a.span.lo b.span.lo) [
      | inl lt ↦ let none = y.none_before a.span.lo x.after lt in let some = x.all a.span.lo (omega arith) x.ordered in absurd cc
      | inr le ↦ le
    ] in
    let below = no_earlier r q n m in
    let above = no_earlier q r m n in
    let los : r.span.lo ≡ q.span.lo = omega arith in
    let at_r : t r.span.lo ≡ Some r.level = n.all r.span.lo (omega arith) n.ordered in
    let at_q : t q.span.lo ≡ Some q.level = m.all q.span.lo (omega arith) m.ordered in
    let here : t r.span.lo ≡ t q.span.lo = ap t los in
    let levels : r.level ≡ q.level = cc in
    let ordered_r = n.ordered in
    let ordered_q = m.ordered in
    let his : r.span.hi ≡ q.span.hi = elim (cases_order r.span.hi q.span.hi) [
      | inl same ↦ same
      | inr (inl lt) ↦ absurd (n.ends (m.all (r.span.hi + 1) (omega arith) (omega arith) ∙ ap Some (sym levels)))
      | inr (inr lt) ↦ absurd (m.ends (n.all (q.span.hi + 1) (omega arith) (omega arith) ∙ ap Some levels))
    ] in
    λ i. record { span = record { lo = los i; hi = his i }; level = levels i }

runs_one : (t : ℕ → Option Level) (first : ℕ) (runs others : List TokenRun) → AreRunsFrom t first runs → AreRunsFrom t first others → runs ≡ others
runs_one t first [] [] h o = refl
runs_one t first [] (q ∷ others) h o = let none = h q.span.lo o.0.after in let some = o.0.all q.span.lo (omega arith) o.0.ordered in absurd cc
runs_one t first (r ∷ rest) [] h o = let none = o r.span.lo h.0.after in let some = h.0.all r.span.lo (omega arith) h.0.ordered in absurd cc
runs_one t first (r ∷ rest) (q ∷ others) h o =
    let heads = next_one t first r q h.0 o.0 in
    let tails = runs_one t (r.span.hi + 1) rest others h.1 (subst (λ (x : TokenRun). AreRunsFrom t (x.span.hi + 1) others) (sym heads) o.1) in
    λ i. heads i ∷ tails i

-- The spans at which a token has one level, and the list of them.
module _ (t : ℕ → Option Level) (ends : Ends t) where
  level_at : (a b : Level) → (a ≡ b) ⊎ (a ≡ b → ⊥)
  level_at a b = elim (same_level a b) as (λ c. same_level a b ≡ c → (a ≡ b) ⊎ (a ≡ b → ⊥)) [
    | true ↦ λ h. inl (level_exact a b h)
    | false ↦ λ h. inr (λ is. false≢true (sym h ∙ subst (λ (x : Level). same_level a x ≡ true) is (level_refl a)))
  ] refl

  at_byte : (b : ℕ) (v : Level) → (t b ≡ Some v) ⊎ (t b ≢ Some v)
  at_byte b v = elim (t b) as (λ o. (o ≡ Some v) ⊎ (o ≢ Some v)) [
    | None ↦ inr (λ h. absurd cc)
    | Some w ↦ elim (level_at w v) [ inl is ↦ inl (ap Some is) | inr other ↦ inr (λ h. other cc) ]
  ]

  -- the first byte of the run that contains byte b
  begins_at : (b : ℕ) (v : Level) → t b ≡ Some v → (lo : ℕ) × (lo ≤ b) × AllAre t (record { lo = lo; hi = b }) (Some v) × ((x : ℕ) → x + 1 ≡ lo → t x ≢ Some v)
  begins_at zero v is = (zero, omega arith, λ x low upto. subst (λ (y : ℕ). t y ≡ Some v) (let same : zero ≡ x = omega arith in same) is, λ x next. absurd (omega arith))
  begins_at (suc b) v is = elim (at_byte b v) [
    | inl before ↦
        let found = begins_at b v before in
        let all : AllAre t (record { lo = found.0; hi = suc b }) (Some v) = λ x low upto. elim (cases_lt x (suc b)) [
          | inl lt ↦ found.2 x low (omega arith)
          | inr ge ↦ subst (λ (y : ℕ). t y ≡ Some v) (let same : suc b ≡ x = omega arith in same) is
        ] in
        let low = found.1 in
        (found.0, omega arith, all, found.3)
    | inr other ↦
        let one : AllAre t (record { lo = suc b; hi = suc b }) (Some v) = λ x low upto. subst (λ (y : ℕ). t y ≡ Some v) (let same : suc b ≡ x = omega arith in same) is in
        (suc b, omega arith, one, λ x next. subst (λ (y : ℕ). t y ≢ Some v) (let same : b ≡ x = omega arith in same) other)
  ]

  -- the last byte of the run that contains byte b, which has fewer than n bytes above b
  ends_at : (n b : ℕ) (v : Level) → greatest < b + n → t b ≡ Some v → (hi : ℕ) × (b ≤ hi) × AllAre t (record { lo = b; hi = hi }) (Some v) × (t (hi + 1) ≢ Some v)
  ends_at zero b v past is = let none = ends b (omega arith) in absurd cc
  ends_at (suc n) b v past is = elim (at_byte (b + 1) v) [
    | inl more ↦
        let found = ends_at n (b + 1) v (omega arith) more in
        let all : AllAre t (record { lo = b; hi = found.0 }) (Some v) = λ x low upto. elim (cases_lt b x) [
          | inl lt ↦ found.2 x (omega arith) upto
          | inr ge ↦ subst (λ (y : ℕ). t y ≡ Some v) (let same : b ≡ x = omega arith in same) is
        ] in
        let high = found.1 in
        (found.0, omega arith, all, found.3)
    | inr other ↦
        let one : AllAre t (record { lo = b; hi = b }) (Some v) = λ x low upto. subst (λ (y : ℕ). t y ≡ Some v) (let same : b ≡ x = omega arith in same) is in
        (b, omega arith, one, other)
  ]

  -- a byte with a level is in a longest run
  run_around : (b : ℕ) (v : Level) → t b ≡ Some v → (s : Range) × IsRun t s v × (s.lo ≤ b) × (b ≤ s.hi)
  run_around b v is =
      let down = begins_at b v is in
      let up = ends_at (greatest + 1) b v (omega arith) is in
      let low = down.1 in
      let high = up.1 in
      let all : AllAre t (record { lo = down.0; hi = up.0 }) (Some v) = λ x above upto. elim (cases_lt x b) [
        | inl lt ↦ down.2 x above (omega arith)
        | inr ge ↦ up.2 x ge upto
      ] in
      (record { lo = down.0; hi = up.0 }, record { ordered = omega arith; all = all; begins = down.3; ends = up.3 }, low, high)

  -- the list has each longest run that begins at `first` or above it, in ascending order, and no run contains both `first` and the byte below it
  record ListsFrom (first : ℕ) (runs : List (Range × Level)) : Type 0 where
    edge : (b : ℕ) (v : Level) → b + 1 ≡ first → t b ≡ Some v → t first ≢ Some v
    late : All (λ (r : Range × Level). first ≤ r.0.lo) runs
    each : All (λ (r : Range × Level). IsRun t r.0 r.1) runs
    complete : (s : Range) (v : Level) → IsRun t s v → first ≤ s.lo → Contains runs (s, v)
    rises : AllPairs (λ (r q : Range × Level). r.0.lo < q.0.lo) runs

  -- a byte from `first` on with a level is in a run that begins at `first` or above it
  late_run : (first : ℕ) (runs : List (Range × Level)) → ListsFrom first runs → (b : ℕ) (v : Level) → first ≤ b → t b ≡ Some v → (s : Range) × Contains runs (s, v) × (s.lo ≤ b)
  late_run first runs l b v low is =
      let found = run_around b v is in
      let run = found.1 in
      let below = found.2 in
      let above = found.3 in
      let late : first ≤ found.0.lo = elim (cases_lt found.0.lo first) [
        | inl lt ↦ absurd (l.edge (first - 1) v (omega arith) (run.all (first - 1) (omega arith) (omega arith)) (run.all first (omega arith) (omega arith)))
        | inr le ↦ le
      ] in
      (found.0, l.complete found.0 v run late, below)

  nothing_at : (o : Option Level) → ((v : Level) → o ≡ Some v → ⊥) → o ≡ None
  nothing_at None h = refl
  nothing_at (Some v) h = absurd (h v refl)

  at_head : {A : Type 0} (x : A) (xs : List A) (y : A) → Contains (x ∷ xs) y → (x ≡ y) ⊎ Contains xs y
  at_head x xs y (zero, lt, is) = inl is
  at_head x xs y (suc k, lt, is) = inr (k, omega arith, is)

  listed_runs : (first : ℕ) (runs : List (Range × Level)) → ListsFrom first runs → AreRunsFrom t first (map run_of runs)
  listed_runs first [] l = λ b low. nothing_at (t b) (λ v is. let found = late_run first [] l b v low is in let inside = found.1.1 in omega arith)
  listed_runs first (r ∷ rest) l = (next, listed_runs (r.0.hi + 1) rest others)
    where
      run : IsRun t r.0 r.1
      run = l.each 0 r (omega arith)

      from_first : (q : Range × Level) → Contains (r ∷ rest) q → r.0.lo ≤ q.0.lo
      from_first q (zero, lt, is) = let same = ap (λ (x : Range × Level). x.0.lo) is in omega arith
      from_first q (suc k, lt, is) =
          let same = ap (λ (x : Range × Level). x.0.lo) is in
          let later = l.rises 0 (suc k) q (omega arith) lt in
          omega arith

      next : IsNext t first (run_of r)
      next = record {
        after = l.late 0 r (omega arith);
        ordered = run.ordered;
        none_before = λ b low lt. nothing_at (t b) (λ v is. let found = late_run first (r ∷ rest) l b v low is in let above = from_first (found.0, v) found.1 in let below = found.2 in omega arith);
        all = run.all;
        ends = run.ends;
      }

      -- the next run begins past the end of this one
      past : (k : ℕ) (d : Range × Level) → k < length rest → r.0.hi + 1 ≤ (slice_index_or rest k d).0.lo
      past k d lt =
          let q = slice_index_or rest k d in
          let later : r.0.lo < q.0.lo = l.rises 0 (suc k) d (omega arith) (omega arith) in
          let other : IsRun t q.0 q.1 = l.each (suc k) d (omega arith) in
          elim (cases_lt r.0.hi q.0.lo) [
            | inl beyond ↦ omega arith
            | inr within ↦
                let here : t q.0.lo ≡ Some r.1 = run.all q.0.lo (omega arith) within in
                let there : t q.0.lo ≡ Some q.1 = other.all q.0.lo (omega arith) other.ordered in
                let before : t (q.0.lo - 1) ≡ Some r.1 = run.all (q.0.lo - 1) (omega arith) (omega arith) in
                let levels : r.1 ≡ q.1 = cc in
                absurd (other.begins (q.0.lo - 1) (omega arith) (before ∙ ap Some levels))
          ]

      others : ListsFrom (r.0.hi + 1) rest
      others = record {
        edge = λ b v is at.
            let same : b ≡ r.0.hi = omega arith in
            let there : t r.0.hi ≡ Some v = subst (λ (x : ℕ). t x ≡ Some v) same at in
            let here : t r.0.hi ≡ Some r.1 = run.all r.0.hi run.ordered (omega arith) in
            let levels : r.1 ≡ v = cc in
            subst (λ (w : Level). t (r.0.hi + 1) ≢ Some w) levels run.ends;
        late = past;
        each = λ k d lt. l.each (suc k) d (omega arith);
        complete = λ s v is low.
            let after = l.late 0 r (omega arith) in
            let ordered = run.ordered in
            elim (at_head r rest (s, v) (l.complete s v is (omega arith))) [
              | inl same ↦ let los = ap (λ (x : Range × Level). x.0.lo) same in absurd (omega arith)
              | inr later ↦ later
            ];
        rises = λ i j d lt within. l.rises (suc i) (suc j) d (omega arith) (omega arith);
      }

  -- a list that has each longest run of the token once, in ascending order, is `runs_of` it
  module _ (runs : List (Range × Level)) (each : All (λ (r : Range × Level). IsRun t r.0 r.1) runs) (complete : (s : Range) (v : Level) → IsRun t s v → Contains runs (s, v)) (rises : AllPairs (λ (r q : Range × Level). r.0.lo < q.0.lo) runs) where
    pub lists_runs_of : map run_of runs ≡ runs_of t
    lists_runs_of =
        runs_one t 0 (map run_of runs) (runs_of t)
        (listed_runs 0 runs (record {
          edge = λ b v is. absurd (omega arith);
          late = λ k d lt. omega arith;
          each = each;
          complete = λ s v is low. complete s v is;
          rises = rises;
        }))
        (runs_of-are t ends)
