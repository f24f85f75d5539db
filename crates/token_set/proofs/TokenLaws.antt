-- What tests and lists of tokens say of each byte, as they are and with a planned write.
use Rattle.std.specs.Prelude.{◌≡◌, ℕ, ◌+◌, ◌<◌, ◌≤◌, Bool, true, false, not, ◌||◌, ◌⊎◌, if◌then◌else◌, Option, Some, None, is_none, is_some, IsSome, MatchOption, ◌≢◌, ◌&&◌, refl, ◌-◌, List, [], ◌∷◌, ◌++◌, All, AllPairs, Contains}
use Rattle.std.specs.Cmp.{both_ways as same_tests}
use Rattle.std.proofs.Common.{◌∙◌, inl, inr, arith, ap, sym, subst}
use Rattle.std.proofs.lemmas.Bool.{both_ways, cases_lt, cases_order, not-true, not-false, not_from_true, not_from_false, false_from_ne_true, ltb-true, lt-ltb, or_cases, or_left, or_right, cases_Bool, and_from, and_right, le-leb}
use Rattle.intervals.specs.rule.Search.{first, some_passes, all_pass, IsFirst}
use Rattle.intervals.proofs.SearchLaws.{first_is_first}
use Rattle.intervals.specs.rule.Bytes.{Range, NoneIn, IsLargest, largest_around, greatest, is_in, AllAre, IsBarred, IsFirstIn, size, put, IsRun}
use Rattle.intervals.proofs.SpanLaws.{largest_is_one, runs_are_one}
use Rattle.intervals.proofs.SpanSearch.{largest_is_largest}
use Rattle.lock_table.proofs.BlockerLemmas.{IsLargest-iff, IsLargest-or, IsLargest-whole}
use Rattle.model.specs.declared.mode.Mode.{Mode}
use Rattle.model.specs.declared.mode.Mode.TheVariants.{Read, Write}
use Rattle.model.specs.declared.level.Level.{Level}
use Rattle.model.specs.declared.level.Level.TheVariants.{Shared, Exclusive}
use Rattle.token_set.specs.rule.Tokens.{Token, no_token, serves, covers, raised_level, raised, level_conflicts, conflicts, holds_nothing, lowered_level, lowered}
use Rattle.token_set.specs.code.Sets.{bar_of, HasLevels, IsFirstExclusive, at_exclusive, IsNextRun}
use Rattle.std.proofs.lemmas.Bool.Decides.{nat_tests}
use Rattle.std.proofs.lemmas.List.Elements.{All-push, All-weaker, Contains-append_left, Contains-push}
use Rattle.std.proofs.lemmas.List.Quantifiers.{all_pairs_push}

-- at most one number is the first that passes
pub first-unique : (passes : ℕ → Bool) (lo n j k : ℕ) → IsFirst passes lo n j → IsFirst passes lo n k → j ≡ k
first-unique passes lo n j k f g = elim (cases_order j k) [
  | inl same ↦ same
  | inr other ↦ elim other [
    | inl lt ↦ absurd (both_ways _ (g.none_before j f.least lt) (f.here (omega (arith, g.within))))
    | inr gt ↦ absurd (both_ways _ (f.none_before k g.least gt) (g.here (omega (arith, f.within))))
  ]
]

-- a first number that passes is the one that `first` gives
pub first-is : (passes : ℕ → Bool) (lo n k : ℕ) → IsFirst passes lo n k → first passes lo n ≡ k
first-is passes lo n k f = first-unique passes lo n _ k (first_is_first passes lo n) f

-- if some number passes, the first one does
pub some_passes-first : (passes : ℕ → Bool) (lo n : ℕ) → some_passes passes lo n ≡ true → record { above : lo ≤ first passes lo n; below : first passes lo n < lo + n; here : passes (first passes lo n) ≡ true }
some_passes-first passes lo n some =
    let f = first_is_first passes lo n in
    let below = ltb-true _ _ some in
    record { above = f.least; below = below; here = f.here below }

-- if a number passes, some number does
pub some_passes-from : (passes : ℕ → Bool) (lo n k : ℕ) → lo ≤ k → k < lo + n → passes k ≡ true → some_passes passes lo n ≡ true
some_passes-from passes lo n k above below here = elim (cases_lt (first passes lo n) (lo + n)) [
  | inl lt ↦ lt-ltb _ _ lt
  | inr ge ↦ absurd (both_ways _ ((first_is_first passes lo n).none_before k above (omega arith)) here)
]

-- if it isn't so that some number passes, each fails
pub some_passes-none : (passes : ℕ → Bool) (lo n k : ℕ) → some_passes passes lo n ≡ false → lo ≤ k → k < lo + n → passes k ≡ false
some_passes-none passes lo n k none above below =
    false_from_ne_true _ (λ here. both_ways _ none (some_passes-from passes lo n k above below here))

-- if each number fails, it isn't so that some number passes
pub none_passes-from : (passes : ℕ → Bool) (lo n : ℕ) → ((k : ℕ) → lo ≤ k → k < lo + n → passes k ≡ false) → some_passes passes lo n ≡ false
none_passes-from passes lo n none = false_from_ne_true _ (λ some.
    let f = some_passes-first passes lo n some in
    both_ways _ (none _ f.above f.below) f.here)

-- if all numbers pass, each of them does
pub all_pass-each : (passes : ℕ → Bool) (lo n k : ℕ) → all_pass passes lo n ≡ true → lo ≤ k → k < lo + n → passes k ≡ true
all_pass-each passes lo n k all above below =
    not-false _ (some_passes-none (λ j. not (passes j)) lo n k (not-true _ all) above below)

-- if each number passes, all of them do
pub all_pass-from : (passes : ℕ → Bool) (lo n : ℕ) → ((k : ℕ) → lo ≤ k → k < lo + n → passes k ≡ true) → all_pass passes lo n ≡ true
all_pass-from passes lo n each =
    not_from_false _ (none_passes-from (λ j. not (passes j)) lo n (λ k above below. not_from_true _ (each k above below)))

-- two tests that agree on each number have one first number
pub first-same : (p q : ℕ → Bool) (lo n : ℕ) → ((k : ℕ) → lo ≤ k → k < lo + n → p k ≡ q k) → first p lo n ≡ first q lo n
first-same p q lo n same =
    let f = first_is_first q lo n in
    first-is p lo n (first q lo n) (record {
      least = f.least;
      within = f.within;
      none_before = λ j above below. same j above (omega (arith, f.within)) ∙ f.none_before j above below;
      here = λ below. same _ f.least below ∙ f.here below;
    })

-- a search of no numbers finds none that passes
pub some_passes-zero : (passes : ℕ → Bool) (lo : ℕ) → some_passes passes lo 0 ≡ false
some_passes-zero passes lo = none_passes-from passes lo 0 (λ k above below. absurd (omega arith))

-- some of one more number pass exactly if some of the others do or the last one does
pub some_passes-more : (passes : ℕ → Bool) (lo n : ℕ) → some_passes passes lo (n + 1) ≡ (some_passes passes lo n || passes (lo + n))
some_passes-more passes lo n = same_tests (some_passes passes lo (n + 1)) (some_passes passes lo n || passes (lo + n)) apart together
  where
    apart : some_passes passes lo (n + 1) ≡ true → (some_passes passes lo n || passes (lo + n)) ≡ true
    apart some =
        let f = some_passes-first passes lo (n + 1) some in
        elim (cases_lt (first passes lo (n + 1)) (lo + n)) [
          | inl lt ↦ or_left _ _ (some_passes-from passes lo n _ f.above lt f.here)
          | inr ge ↦ or_right (some_passes passes lo n) (passes (lo + n)) (rw (let last : lo + n ≡ first passes lo (n + 1) = omega (arith, f.below) in last) f.here)
        ]

    together : (some_passes passes lo n || passes (lo + n)) ≡ true → some_passes passes lo (n + 1) ≡ true
    together one = elim (or_cases _ _ one) [
      | inl some ↦
          let f = some_passes-first passes lo n some in
          some_passes-from passes lo (n + 1) _ f.above (omega (arith, f.below)) f.here
      | inr last ↦ some_passes-from passes lo (n + 1) (lo + n) (omega arith) (omega arith) last
    ]

or_false : (t : Bool) → (t || false) ≡ t
or_false true = refl
or_false false = refl

-- a largest span is the one that `largest_around` gives
pub largest_around-is : (barred : ℕ → Bool) (required within s : Range) → required.lo ≤ required.hi → IsLargest (λ b. barred b ≡ true) required within s → s ≡ largest_around barred required within
largest_around-is barred required within s order l =
    let starts : within.lo ≤ required.lo = omega (arith, l.starts_within, l.has_first) in
    let ends : required.hi ≤ within.hi = omega (arith, l.ends_within, l.has_last) in
    let free : NoneIn (λ b. barred b ≡ true) required = λ b lo hi. l.free b (omega (arith, l.has_first)) (omega (arith, l.has_last)) in
    largest_is_one (λ b. barred b ≡ true) required within order s _ l (largest_is_largest barred required within order starts ends free)

-- two tests that agree on each byte have one largest span
pub largest_around-same : (p q : ℕ → Bool) (required within : Range) → ((b : ℕ) → p b ≡ q b) → largest_around p required within ≡ largest_around q required within
largest_around-same p q required within same =
    let functions : p ≡ q = λ i b. same b i in
    ap (λ f. largest_around f required within) functions

-- the largest span is the whole one if no byte of it is barred
pub largest_around-free : (barred : ℕ → Bool) (required within : Range) → required.lo ≤ required.hi → within.lo ≤ required.lo → required.hi ≤ within.hi → NoneIn (λ b. barred b ≡ true) within → largest_around barred required within ≡ within
largest_around-free barred required within order starts ends free =
    sym (largest_around-is barred required within within order (IsLargest-whole (λ b. barred b ≡ true) required within starts ends free))

-- the largest span for two tests is the one for the second within the one for the first
pub largest_around-or : (p q : ℕ → Bool) (required within : Range) → required.lo ≤ required.hi → within.lo ≤ required.lo → required.hi ≤ within.hi → NoneIn (λ b. p b ≡ true) required → NoneIn (λ b. q b ≡ true) required → largest_around (λ b. p b || q b) required within ≡ largest_around q required (largest_around p required within)
largest_around-or p q required within order starts ends free_p free_q =
    let l = largest_is_largest p required within order starts ends free_p in
    let m = largest_is_largest q required (largest_around p required within) order l.has_first l.has_last free_q in
    sym (largest_around-is (λ b. p b || q b) required within _ order
    (IsLargest-iff (λ b. (p b ≡ true) ⊎ (q b ≡ true)) (λ b. (p b || q b) ≡ true) required within _
    (λ b either. elim either [ inl left ↦ or_left _ _ left | inr right ↦ or_right _ _ right ])
    (λ b. or_cases _ _)
    (IsLargest-or (λ b. p b ≡ true) (λ b. q b ≡ true) required within _ _ order l m)))

module _ (test : ℕ → ℕ → Bool) (lo : ℕ) (required within : Range) (order : required.lo ≤ required.hi) (starts : within.lo ≤ required.lo) (ends : required.hi ≤ within.hi) where
  -- the largest span for no tests is the whole one
  pub largest_around-zero : largest_around (λ b. some_passes (λ k. test k b) lo 0) required within ≡ within
  largest_around-zero = largest_around-free _ required within order starts ends (λ b above below. both_ways _ (some_passes-zero (λ k. test k b) lo))

  -- the largest span for one more test lies within the one for the tests before it
  pub largest_around-more : (n : ℕ) → ((k : ℕ) → lo ≤ k → k < lo + (n + 1) → NoneIn (λ b. test k b ≡ true) required) → largest_around (λ b. some_passes (λ k. test k b) lo (n + 1)) required within ≡ largest_around (test (lo + n)) required (largest_around (λ b. some_passes (λ k. test k b) lo n) required within)
  largest_around-more n free =
      largest_around-same (λ b. some_passes (λ k. test k b) lo (n + 1)) (λ b. some_passes (λ k. test k b) lo n || test (lo + n) b) required within (λ b. some_passes-more (λ k. test k b) lo n)
      ∙ largest_around-or (λ b. some_passes (λ k. test k b) lo n) (test (lo + n)) required within order starts ends
      (λ b above below some.
      let one = some_passes-first (λ k. test k b) lo n some in
      free _ one.above (omega (arith, one.below)) b above below one.here)
      (free (lo + n) (omega arith) (omega arith))

  -- the largest span stays for one more test that no byte passes
  pub largest_around-skip : (n : ℕ) → ((b : ℕ) → test (lo + n) b ≡ false) → largest_around (λ b. some_passes (λ k. test k b) lo (n + 1)) required within ≡ largest_around (λ b. some_passes (λ k. test k b) lo n) required within
  largest_around-skip n none =
      largest_around-same _ _ required within (λ b. some_passes-more (λ k. test k b) lo n ∙ ap (λ t. some_passes (λ k. test k b) lo n || t) (none b) ∙ or_false _)

none_is : (x : Option Level) → is_none x ≡ true → x ≡ None
none_is None h = refl
none_is (Some level) h = cc

-- the empty token holds nothing
pub holds_nothing-no_token : (t : Token) → t ≡ no_token → holds_nothing t ≡ true
holds_nothing-no_token t e = all_pass-from _ _ _ (λ b above below. ap (λ f. is_none (f b)) e)

-- a token that holds nothing, and has no byte past the greatest offset, is the empty one
pub no_token-from : (t : Token) → holds_nothing t ≡ true → ((b : ℕ) → greatest < b → t b ≡ None) → t ≡ no_token
no_token-from t h bounded = λ i b. none_at b i
  where
    none_at : (b : ℕ) → t b ≡ None
    none_at b = elim (cases_lt greatest b) [
      | inl past ↦ bounded b past
      | inr le ↦ none_is (t b) (all_pass-each (λ b. is_none (t b)) 0 9223372036854775808 b h (omega arith) (omega arith))
    ]

-- a token covers a span if each byte of it serves the mode
pub covers-from : (t : Token) (s : Range) (mode : Mode) → ((b : ℕ) → s.lo ≤ b → b ≤ s.hi → serves (t b) mode ≡ true) → covers t s mode ≡ true
covers-from t s mode each = all_pass-from (λ b. serves (t b) mode) s.lo (size s) (λ b above below. each b above (omega arith))

pub covers-each : (t : Token) (s : Range) (mode : Mode) (b : ℕ) → covers t s mode ≡ true → s.lo ≤ b → b ≤ s.hi → serves (t b) mode ≡ true
covers-each t s mode b all above below = all_pass-each (λ b. serves (t b) mode) s.lo (size s) b all above (omega arith)

serves-read : (x : Option Level) → IsSome x → serves x Read ≡ true
serves-read None h = h
serves-read (Some Shared) h = refl
serves-read (Some Exclusive) h = refl

read-serves : (x : Option Level) → serves x Read ≡ true → IsSome x
read-serves None h = h
read-serves (Some level) h = refl

write-serves : (x : Option Level) → serves x Write ≡ true → x ≡ Some Exclusive
write-serves None h = cc
write-serves (Some Shared) h = cc
write-serves (Some Exclusive) h = refl

-- a token covers a span for read if each byte of it has a level
pub covers-read : (t : Token) (s : Range) → HasLevels t s → covers t s Read ≡ true
covers-read t s h = covers-from t s Read (λ b above below. serves-read (t b) (h b above below))

pub read-covers : (t : Token) (s : Range) → covers t s Read ≡ true → HasLevels t s
read-covers t s h b above below = read-serves (t b) (covers-each t s Read b h above below)

-- a token covers a span for write if each byte of it is exclusive
pub covers-write : (t : Token) (s : Range) → AllAre t s (Some Exclusive) → covers t s Write ≡ true
covers-write t s h = covers-from t s Write (λ b above below. ap (λ x. serves x Write) (h b above below))

pub write-covers : (t : Token) (s : Range) → covers t s Write ≡ true → AllAre t s (Some Exclusive)
write-covers t s h b above below = write-serves (t b) (covers-each t s Write b h above below)

some_conflicts : (x : Option Level) → IsSome x → level_conflicts x Write ≡ true
some_conflicts None h = h
some_conflicts (Some Shared) h = refl
some_conflicts (Some Exclusive) h = refl

conflicts_some : (x : Option Level) → level_conflicts x Write ≡ true → IsSome x
conflicts_some None h = h
conflicts_some (Some level) h = refl

conflicts_exclusive : (x : Option Level) → level_conflicts x Read ≡ true → x ≡ Some Exclusive
conflicts_exclusive None h = cc
conflicts_exclusive (Some Shared) h = cc
conflicts_exclusive (Some Exclusive) h = refl

-- a byte conflicts with the mode exactly if it is barred for the mode
pub conflicts-barred : (t : Token) (mode : Mode) (b : ℕ) → IsBarred t (bar_of mode) b → level_conflicts (t b) mode ≡ true
conflicts-barred t Read b h = ap (λ x. level_conflicts x Read) h
conflicts-barred t Write b h = some_conflicts (t b) h

pub barred-conflicts : (t : Token) (mode : Mode) (b : ℕ) → level_conflicts (t b) mode ≡ true → IsBarred t (bar_of mode) b
barred-conflicts t Read b h = conflicts_exclusive (t b) h
barred-conflicts t Write b h = conflicts_some (t b) h

-- a span with a byte that conflicts conflicts
pub conflicts-from : (t : Token) (s : Range) (mode : Mode) (b : ℕ) → s.lo ≤ b → b ≤ s.hi → level_conflicts (t b) mode ≡ true → conflicts t s mode ≡ true
conflicts-from t s mode b above below = some_passes-from (λ b. level_conflicts (t b) mode) s.lo (size s) b above (omega arith)

-- a span without a byte that conflicts doesn't conflict
pub conflicts-none : (t : Token) (s : Range) (mode : Mode) → NoneIn (λ b. level_conflicts (t b) mode ≡ true) s → conflicts t s mode ≡ false
conflicts-none t s mode none = none_passes-from (λ b. level_conflicts (t b) mode) s.lo (size s) (λ b above below.
    elim (cases_Bool (level_conflicts (t b) mode)) [ inl here ↦ absurd (none b above (omega arith) here) | inr free ↦ free ])

-- no byte of a span that doesn't conflict does
pub none-conflicts : (t : Token) (s : Range) (mode : Mode) → conflicts t s mode ≡ false → NoneIn (λ b. level_conflicts (t b) mode ≡ true) s
none-conflicts t s mode none b above below = both_ways _ (some_passes-none (λ b. level_conflicts (t b) mode) s.lo (size s) b none above (omega arith))

-- the answer of `first_where` says whether the span conflicts
pub conflicts-found : (t : Token) (s : Range) (mode : Mode) (found : Option ℕ) → MatchOption found (NoneIn (IsBarred t (bar_of mode)) s) (λ b. IsFirstIn (IsBarred t (bar_of mode)) s b) → is_some found ≡ conflicts t s mode
conflicts-found t s mode None none = sym (conflicts-none t s mode (λ b above below here. none b above below (barred-conflicts t mode b here)))
conflicts-found t s mode (Some b) f = sym (conflicts-from t s mode b f.above f.below (conflicts-barred t mode b f.here))

-- the largest span without a barred byte is the largest one without a byte that conflicts
pub largest-conflicts : (t : Token) (mode : Mode) (required within s : Range) → IsLargest (IsBarred t (bar_of mode)) required within s → IsLargest (λ b. level_conflicts (t b) mode ≡ true) required within s
largest-conflicts t mode required within s = IsLargest-iff _ _ required within s (conflicts-barred t mode) (barred-conflicts t mode)

-- a raised token has its old level at each byte outside the span, and the raised one inside
pub raised-at : (P : Option Level → Type 0) (t : Token) (s : Range) (mode : Mode) (b : ℕ) → (is_in s b ≡ true → P (raised_level (t b) mode)) → P (t b) → P (raised t s mode b)
raised-at P t s mode b here there =
    elim (is_in s b) as (λ i. is_in s b ≡ i → P (if i then raised_level (t b) mode else t b)) [ true ↦ λ h. here h | false ↦ λ h. there ] refl

-- a byte that gets exclusive by a grant for a mode has no level at a token that doesn't conflict with that mode
pub raised_level-excludes : (x y : Option Level) (mode : Mode) → (x ≡ Some Exclusive → y ≡ None) → level_conflicts y mode ≡ false → raised_level x mode ≡ Some Exclusive → y ≡ None
raised_level-excludes None y Read apart free h = absurd (cc)
raised_level-excludes (Some level) y Read apart free h = apart h
raised_level-excludes x None Write apart free h = refl
raised_level-excludes x (Some Shared) Write apart free h = absurd (cc)
raised_level-excludes x (Some Exclusive) Write apart free h = absurd (cc)

-- an exclusive byte conflicts with each mode
pub exclusive-conflicts : (y : Option Level) (mode : Mode) → y ≡ Some Exclusive → level_conflicts y mode ≡ true
exclusive-conflicts y mode h = ap (λ x. level_conflicts x mode) h

-- the exclusive bytes below `from` have got the level, and the bytes from there on are as in f
pub record IsDoneTo (t : Token) (s : Range) (level : Level) (f g : Token) (from : ℕ) : Type 0 where
  pub starts : s.lo ≤ from
  pub ends : from ≤ s.hi + 1
  pub done : (b : ℕ) → b < from → g b ≡ at_exclusive t s level f b
  pub left : (b : ℕ) → from ≤ b → g b ≡ f b

inside : (s : Range) (b : ℕ) → s.lo ≤ b → b ≤ s.hi → is_in s b ≡ true
inside s b above below = and_from _ _ (le-leb _ _ above) (le-leb _ _ below)

below_it : (s : Range) (b : ℕ) → b < s.lo → is_in s b ≡ false
below_it s b lt = grind (arith, nat_tests)

above_it : (s : Range) (b : ℕ) → s.hi < b → is_in s b ≡ false
above_it s b lt = grind (arith, nat_tests)

not_exclusive : (x : Option Level) → x ≢ Some Exclusive → level_conflicts x Read ≡ false
not_exclusive None h = refl
not_exclusive (Some Shared) h = refl
not_exclusive (Some Exclusive) h = absurd (h refl)

module _ (t : Token) (s : Range) (level : Level) (f : Token) where
  -- a byte outside the span, or one that isn't exclusive, is as in f
  as_it_was : (b : ℕ) → (s.lo ≤ b → b ≤ s.hi → t b ≢ Some Exclusive) → at_exclusive t s level f b ≡ f b
  as_it_was b h = elim (cases_lt b s.lo) [
    | inl lt ↦ ap (λ i. if i && level_conflicts (t b) Read then Some level else f b) (below_it s b lt)
    | inr ge ↦ elim (cases_lt s.hi b) [
      | inl gt ↦ ap (λ i. if i && level_conflicts (t b) Read then Some level else f b) (above_it s b gt)
      | inr le ↦ ap (λ i. if i then Some level else f b) (and_right (is_in s b) _ (not_exclusive (t b) (h ge le)))
    ]
  ]

  exclusive_at : (b : ℕ) → s.lo ≤ b → b ≤ s.hi → t b ≡ Some Exclusive → at_exclusive t s level f b ≡ Some level
  exclusive_at b above below is = ap (λ i. if i then Some level else f b) (and_from _ _ (inside s b above below) (ap (λ x. level_conflicts x Read) is))

  pub done-start : s.lo ≤ s.hi → IsDoneTo t s level f f s.lo
  done-start order = record {
    starts = omega arith;
    ends = omega arith;
    done = λ b lt. sym (as_it_was b (λ above below. absurd (omega arith)));
    left = λ b above. refl;
  }

  -- the next run of exclusive bytes gets the level
  pub done-more : (g : Token) (from : ℕ) (e : Range) → IsDoneTo t s level f g from → IsFirstExclusive t (record { lo = from; hi = s.hi }) e → IsDoneTo t s level f (put g e (Some level)) (e.hi + 1)
  done-more g from e d x = record {
    starts = omega (arith, d.starts, x.starts_within, x.ordered);
    ends = omega (arith, x.ends_within);
    done = λ b lt. elim (cases_lt b e.lo) [
      | inl under ↦ ap (λ i. if i then Some level else g b) (below_it e b under) ∙ elim (cases_lt b from) [
        | inl before ↦ d.done b before
        | inr after ↦ d.left b after ∙ sym (as_it_was b (λ above below. x.none_before b after under))
      ]
      | inr here ↦ ap (λ i. if i then Some level else g b) (inside e b here (omega arith)) ∙ sym (exclusive_at b (omega (arith, d.starts, x.starts_within)) (omega (arith, x.ends_within)) (x.here b here (omega arith)))
    ];
    left = λ b above. ap (λ i. if i then Some level else g b) (above_it e b (omega arith)) ∙ d.left b (omega (arith, x.starts_within, x.ordered));
  }

  -- if no exclusive byte is left all of them have got the level
  pub done-end : (g : Token) (from : ℕ) → IsDoneTo t s level f g from → s.hi < from → g ≡ at_exclusive t s level f
  done-end g from d end = λ i b. at b i
    where
      at : (b : ℕ) → g b ≡ at_exclusive t s level f b
      at b = elim (cases_lt b from) [
        | inl before ↦ d.done b before
        | inr after ↦ d.left b after ∙ sym (as_it_was b (λ above below. absurd (omega arith)))
      ]

  pub done-none : (g : Token) (from : ℕ) → IsDoneTo t s level f g from → NoneIn (λ b. t b ≡ Some Exclusive) (record { lo = from; hi = s.hi }) → g ≡ at_exclusive t s level f
  done-none g from d none = λ i b. at b i
    where
      at : (b : ℕ) → g b ≡ at_exclusive t s level f b
      at b = elim (cases_lt b from) [
        | inl before ↦ d.done b before
        | inr after ↦ d.left b after ∙ sym (as_it_was b (λ above below is. none b after below is))
      ]

-- a grant for read is made as shared on the whole span, and then exclusive again where it was
raised_level-is : (x : Option Level) → (if level_conflicts x Read then Some Exclusive else Some Shared) ≡ raised_level x Read
raised_level-is None = refl
raised_level-is (Some Shared) = refl
raised_level-is (Some Exclusive) = refl

pub raised-is : (t : Token) (s : Range) → at_exclusive t s Exclusive (put t s (Some Shared)) ≡ raised t s Read
raised-is t s = λ i b. at b (is_in s b) i
  where
    at : (b : ℕ) (i : Bool) → (if i && level_conflicts (t b) Read then Some Exclusive else (if i then Some Shared else t b)) ≡ (if i then raised_level (t b) Read else t b)
    at b true = raised_level-is (t b)
    at b false = refl

-- a revoke for read is made as shared where it was exclusive
lowered_level-is : (x : Option Level) → (if level_conflicts x Read then Some Shared else x) ≡ lowered_level x Read
lowered_level-is None = refl
lowered_level-is (Some Shared) = refl
lowered_level-is (Some Exclusive) = refl

pub lowered-is : (t : Token) (s : Range) → at_exclusive t s Shared t ≡ lowered t s Read
lowered-is t s = λ i b. at b (is_in s b) i
  where
    at : (b : ℕ) (i : Bool) → (if i && level_conflicts (t b) Read then Some Shared else t b) ≡ (if i then lowered_level (t b) Read else t b)
    at b true = lowered_level-is (t b)
    at b false = refl

-- two functions that agree inside the span agree if they are put there
inside_alone : (i : Bool) (x y z : Option Level) → (i ≡ true → x ≡ y) → (if i then x else z) ≡ (if i then y else z)
inside_alone true x y z h = h refl
inside_alone false x y z h = refl

raised_shared : (x : Option Level) → (level_conflicts x Read ≡ true → ⊥) → Some Shared ≡ raised_level x Read
raised_shared None free = refl
raised_shared (Some Shared) free = refl
raised_shared (Some Exclusive) free = absurd (free refl)

lowered_free : (x : Option Level) → (level_conflicts x Read ≡ true → ⊥) → x ≡ lowered_level x Read
lowered_free None free = refl
lowered_free (Some Shared) free = refl
lowered_free (Some Exclusive) free = absurd (free refl)

kept_inside : (i : Bool) (x z : Option Level) → (i ≡ true → z ≡ x) → z ≡ (if i then x else z)
kept_inside true x z h = h refl
kept_inside false x z h = refl

above_start : (s : Range) (b : ℕ) → is_in s b ≡ true → s.lo ≤ b
above_start s b is = grind (arith, nat_tests)

below_end : (s : Range) (b : ℕ) → is_in s b ≡ true → b ≤ s.hi
below_end s b is = grind (arith, nat_tests)

-- a grant for read on a span without exclusive bytes gives each byte shared
pub raised-free : (t : Token) (s : Range) → conflicts t s Read ≡ false → put t s (Some Shared) ≡ raised t s Read
raised-free t s free = λ i b. inside_alone (is_in s b) _ _ (t b) (λ is. raised_shared (t b) (none-conflicts t s Read free b (above_start s b is) (below_end s b is))) i

-- a written token covers a span within the write exactly if the level serves the mode
pub covers-put : (t : Token) (s span : Range) (level : Option Level) (mode : Mode) → s.lo ≤ span.lo → span.hi ≤ s.hi → serves level mode ≡ true → covers (put t s level) span mode ≡ true
covers-put t s span level mode starts ends served =
    covers-from (put t s level) span mode (λ b above below. ap (λ i. serves (if i then level else t b) mode) (inside s b (omega arith) (omega arith)) ∙ served)

-- a revoke for read on a span of exclusive bytes gives each byte shared
pub lowered-all : (t : Token) (s : Range) → AllAre t s (Some Exclusive) → put t s (Some Shared) ≡ lowered t s Read
lowered-all t s all = λ i b. inside_alone (is_in s b) _ _ (t b) (λ is. sym (ap (λ x. lowered_level x Read) (all b (above_start s b is) (below_end s b is)))) i

-- a revoke for read on a span without exclusive bytes changes nothing
pub lowered-free : (t : Token) (s : Range) → conflicts t s Read ≡ false → t ≡ lowered t s Read
lowered-free t s free = λ i b. kept_inside (is_in s b) _ (t b) (λ is. lowered_free (t b) (none-conflicts t s Read free b (above_start s b is) (below_end s b is))) i

-- the runs that begin below byte `from` are listed, and no run goes on across it
pub record Listed (t : Token) (from : ℕ) (runs : List (Range × Level)) : Type 0 where
  pub edge : (b : ℕ) (v : Level) → b + 1 ≡ from → t b ≡ Some v → t from ≢ Some v
  pub each : All (λ (r : Range × Level). IsRun t r.0 r.1 × (r.0.lo < from)) runs
  pub complete : (s : Range) (v : Level) → IsRun t s v → s.lo < from → Contains runs (s, v)
  pub rises : AllPairs (λ (r q : Range × Level). r.0.lo < q.0.lo) runs

module _ (t : Token) (from : ℕ) (runs : List (Range × Level)) (l : Listed t from runs) (s : Range) (v : Level) (next : IsNextRun t from s v) where
  starts_late : from ≤ s.lo
  starts_late =
      let above = next.above in
      let ends = next.ends in
      elim (cases_lt s.lo from) [
        | inl lt ↦
            let here : t from ≡ Some v = next.run.all from (omega arith) (omega arith) in
            let before : t (from - 1) ≡ Some v = next.run.all (from - 1) (omega arith) (omega arith) in
            absurd (l.edge (from - 1) v (omega arith) before here)
        | inr le ↦ le
      ]

  -- a run that begins at `from` or above, and no later than this one, is this one
  only_one : (q : Range) (w : Level) → IsRun t q w → from ≤ q.lo → q.lo < s.hi + 1 → ◌≡◌ {A = Range × Level} (q, w) (s, v)
  only_one q w run late within =
      let starts = next.starts in
      let here : t q.lo ≡ Some w = run.all q.lo (omega arith) run.ordered in
      let no_earlier : next.byte ≤ q.lo = elim (cases_lt q.lo next.byte) [
        | inl lt ↦ let none = next.none_before q.lo late lt in absurd cc
        | inr le ↦ le
      ] in
      let same = runs_are_one t q s w v q.lo run next.run (omega arith, run.ordered) (omega arith, omega arith) in
      λ i. (same.0 i, same.1 i)

  pub listed_more : Listed t (s.hi + 1) (runs ++ (s, v) ∷ [])
  listed_more = record {
    edge = λ b w e is.
        let hi : b ≡ s.hi = omega arith in
        let last : t s.hi ≡ Some v = next.run.all s.hi next.run.ordered (omega arith) in
        let same : w ≡ v = let here : t s.hi ≡ Some w = rw (← hi) is in cc in
        rw same next.run.ends;
    each = All-push (λ (r : Range × Level). IsRun t r.0 r.1 × (r.0.lo < s.hi + 1)) runs (s, v)
        (All-weaker (λ (r : Range × Level). IsRun t r.0 r.1 × (r.0.lo < from)) (λ (r : Range × Level). IsRun t r.0 r.1 × (r.0.lo < s.hi + 1)) (λ r h. (h.0, let late = starts_late in let ordered = next.run.ordered in omega (arith, h.1))) runs l.each)
        (next.run, let ordered = next.run.ordered in omega arith);
    complete = λ q w run lt. elim (cases_lt q.lo from) [
      | inl before ↦ Contains-append_left runs ((s, v) ∷ []) (q, w) (l.complete q w run before)
      | inr late ↦ subst (λ (r : Range × Level). Contains (runs ++ (s, v) ∷ []) r) (sym (only_one q w run late lt)) (Contains-push runs (s, v))
    ];
    rises = all_pairs_push (λ (r q : Range × Level). r.0.lo < q.0.lo) runs (s, v) l.rises (λ k d lt. let late = starts_late in omega (arith, (l.each k d lt).1));
  }
