-- The words of the texts of runs, and the runs that words name.
use Rattle.std.specs.Prelude.{◌==◌, ◌↔◌, IsTrue, nat_lt}
use Rattle.std.specs.Str.Parse.{digits_value}
use Rattle.std.specs.List.{flat_map}
use Rattle.std.proofs.Common.{◌≡◌, ◌≢◌, ℕ, zero, suc, ◌+◌, ◌<◌, ◌≤◌, ◌^◌, Bool, true, false, if◌then◌else◌, refl, sym, ◌∙◌, ap, subst, arith, List, [], ◌∷◌, ◌++◌, All, append-nil, append_assoc, codes, decimal, drop, length, MatchOption, Option, Some, None}
use Rattle.std.proofs.lemmas.Bool.{and_parts, and_from, eqb-true, false≢true, ne_eqb}
use Rattle.std.proofs.lemmas.Bool.Decides.{nat_tests}
use Rattle.std.proofs.lemmas.Fmt.{decimal_is_IsNumeral, decimal_injective}
use Rattle.std.proofs.lemmas.List.Elements.{All-cons, All-head, All-nil, All-tail}
use Rattle.intervals.specs.rule.Bytes.{greatest}
use Rattle.model.specs.declared.level.Level.{Level}
use Rattle.model.specs.declared.level.Level.TheVariants.{Shared, Exclusive}
use Rattle.messages.specs.rule.TokenRuns.{are_longest, may_follow}
use Rattle.messages.specs.declared.token_run.TokenRun.{TokenRun}
use Rattle.texts.specs.rule.Layout.{space}
use Rattle.texts.proofs.OneField.{decimal_is_one_field}
use Rattle.texts.specs.rule.Reads.{IsOneField, Lacks, has_no_space}
use Rattle.texts.specs.rule.Words.{level_text}
use Rattle.texts.proofs.FirstWords.{has_no_space-one}
use Rattle.texts.proofs.Pairs.{AreApart}
use Rattle.texts.proofs.SingleWords.{Lacks-decimal, one-word}
use Rattle.message_text.specs.code.Reports.{IsRunsText, level_of, may_stand, run_words, runs_in, runs_of_words, with_byte, words_of}
use Rattle.message_text.specs.rule.Texts.{AreServedRuns, IsServedSpan, run_text, runs_text}

-- a word without a space is the only word of its text
words_of-one : (word : List ℕ) → has_no_space word ≡ true → words_of word ≡ word ∷ []
unfolding words_of
words_of-one [] one = refl
words_of-one (b ∷ word) one =
    let more : has_no_space word ≡ true = grind (arith, one) in
    let other : (b == space) ≡ false = grind (arith, one) in
    ap (λ (c : Bool). if c then [] ∷ words_of word else with_byte b (words_of word)) other ∙ ap (with_byte b) (words_of-one word more)

pub words_of-alone : (word : List ℕ) → IsOneField word → words_of word ≡ word ∷ []
words_of-alone word one = words_of-one word (has_no_space-one word one)

-- the first of several words
pub words_of-first : (word rest : List ℕ) → Lacks space word → words_of (word ++ space ∷ rest) ≡ word ∷ words_of rest
unfolding words_of
words_of-first [] rest lacks = refl
words_of-first (b ∷ word) rest lacks =
    let first : b ≢ space = lacks 0 (omega arith) in
    ap (λ (c : Bool). if c then [] ∷ words_of (word ++ space ∷ rest) else with_byte b (words_of (word ++ space ∷ rest))) (ne_eqb b space first)
    ∙ ap (with_byte b) (words_of-first word rest (λ i lt. lacks (suc i) (omega (arith, lt))))

-- the text of a list of words, with spaces between them
abbrev joined : List (List ℕ) → List ℕ
joined [] = []
joined (word ∷ []) = word
joined (word ∷ (next ∷ words)) = word ++ space ∷ joined (next ∷ words)

joined-byte : (b : ℕ) (words : List (List ℕ)) → joined (with_byte b words) ≡ b ∷ joined words
joined-byte b [] = refl
joined-byte b (word ∷ []) = refl
joined-byte b (word ∷ (next ∷ words)) = refl

-- a text has a first word
some_word : (text : List ℕ) → (word : List ℕ) × (words : List (List ℕ)) × (words_of text ≡ word ∷ words)
unfolding words_of
some_word [] = ([], [], refl)
some_word (b ∷ bytes) = elim (b == space) as (λ c. (word : List ℕ) × (words : List (List ℕ)) × ((if c then [] ∷ words_of bytes else with_byte b (words_of bytes)) ≡ word ∷ words)) [
  | true ↦ ([], words_of bytes, refl)
  | false ↦ let rest = some_word bytes in (b ∷ rest.0, rest.1, ap (with_byte b) rest.2)
]

joined-space : (words : List (List ℕ)) (word : List ℕ) (more : List (List ℕ)) → words ≡ word ∷ more → joined ([] ∷ words) ≡ space ∷ joined words
joined-space [] word more is = absurd cc
joined-space (w ∷ ws) word more is = refl

words_of-joined : (text : List ℕ) → joined (words_of text) ≡ text
unfolding words_of
words_of-joined [] = refl
words_of-joined (b ∷ bytes) =
    let rest = words_of-joined bytes in
    elim (b == space) as (λ c. (b == space) ≡ c → joined (if c then [] ∷ words_of bytes else with_byte b (words_of bytes)) ≡ b ∷ bytes) [
      | true ↦ λ is.
          let some = some_word bytes in
          let same : space ≡ b = sym (eqb-true b space is) in
          joined-space (words_of bytes) some.0 some.1 some.2 ∙ (λ i. same i ∷ rest i)
      | false ↦ λ other. joined-byte b (words_of bytes) ∙ ap (λ (r : List ℕ). b ∷ r) rest
    ] refl

-- two texts of the same words are equal
pub words-apart : (text other : List ℕ) → words_of text ≡ words_of other → text ≡ other
words-apart text other same = sym (words_of-joined text) ∙ ap joined same ∙ words_of-joined other

-- the words of a run lack spaces
level_word : (level : Level) → Lacks space (level_text level)
level_word Shared = one-word (codes "shared") refl
level_word Exclusive = one-word (codes "exclusive") refl

offset_word : (n : ℕ) → n ≤ greatest → Lacks space (decimal n)
offset_word n upto = Lacks-decimal n (omega (arith, upto))

abbrev behind : List TokenRun → List ℕ
behind runs = flat_map (λ r. space ∷ run_text r) runs

-- the words of a text that has a word and then runs
words_of-behind : (word : List ℕ) (runs : List TokenRun) → Lacks space word → has_no_space word ≡ true → All (λ (r : TokenRun). IsServedSpan r.span) runs → words_of (word ++ behind runs) ≡ word ∷ flat_map run_words runs
words_of-behind word [] lacks one served = rw append-nil (words_of-one word one)
words_of-behind word (r ∷ rest) lacks one served =
    let span = All-head (λ (q : TokenRun). IsServedSpan q.span) r rest served in
    let more = All-tail (λ (q : TokenRun). IsServedSpan q.span) r rest served in
    let low : r.span.lo ≤ greatest = omega (arith, span.0, span.1) in
    let level = level_text r.level in
    let lo = decimal r.span.lo in
    let hi = decimal r.span.hi in
    words_of-first word (run_text r ++ behind rest) lacks
    ∙ ap (λ (t : List ℕ). word ∷ words_of t) (append_assoc level (space ∷ (lo ++ space ∷ hi)) (behind rest))
    ∙ ap (λ (ws : List (List ℕ)). word ∷ ws) (words_of-first level ((lo ++ space ∷ hi) ++ behind rest) (level_word r.level))
    ∙ ap (λ (t : List ℕ). word ∷ (level ∷ words_of t)) (append_assoc lo (space ∷ hi) (behind rest))
    ∙ ap (λ (ws : List (List ℕ)). word ∷ (level ∷ ws)) (words_of-first lo (hi ++ behind rest) (offset_word r.span.lo low))
    ∙ ap (λ (ws : List (List ℕ)). word ∷ (level ∷ (lo ∷ ws))) (words_of-behind hi rest (offset_word r.span.hi span.1) (decimal_is_one_field r.span.hi (omega (arith, span.1))) more)

-- there are no more runs than bytes
runs_fit : (r : TokenRun) (rest : List TokenRun) → All (λ (q : TokenRun). IsServedSpan q.span) (r ∷ rest) → are_longest (r ∷ rest) ≡ true → length (r ∷ rest) + r.span.lo ≤ greatest + 1
runs_fit r [] served longest = let span = All-head (λ (q : TokenRun). IsServedSpan q.span) r [] served in omega (arith, span.0, span.1)
runs_fit r (q ∷ rest) served longest =
    let span = All-head (λ (x : TokenRun). IsServedSpan x.span) r (q ∷ rest) served in
    let parts = and_parts (may_follow r q) (are_longest (q ∷ rest)) longest in
    let past = (and_parts (nat_lt r.span.hi q.span.lo) _ parts.0).0 in
    let after : r.span.hi < q.span.lo = grind (arith, nat_tests, past) in
    let more = runs_fit q rest (All-tail (λ (x : TokenRun). IsServedSpan x.span) r (q ∷ rest) served) parts.1 in
    omega (arith, span.0, after, more)

pub few_runs : (runs : List TokenRun) → AreServedRuns runs → length runs ≤ greatest + 1
few_runs [] served = omega arith
few_runs (r ∷ rest) served = omega (arith, runs_fit r rest served.0 served.1)

-- the words of a text of runs
pub words_of-runs : (runs : List TokenRun) → AreServedRuns runs → words_of (runs_text runs) ≡ decimal (length runs) ∷ flat_map run_words runs
words_of-runs runs served =
    let small : length runs < 2 ^ 64 = omega (arith, few_runs runs served) in
    words_of-behind (decimal (length runs)) runs (Lacks-decimal (length runs) small) (decimal_is_one_field (length runs) small) served.0

-- a run is read back from its words
level-back : (level : Level) → level_of (level_text level) ≡ level
level-back Shared = refl
level-back Exclusive = refl

offset-back : (n : ℕ) → n ≤ greatest → digits_value 10 (decimal n) ≡ n
offset-back n upto = (decimal_is_IsNumeral n (omega (arith, upto))).1

pub run-back : (r : TokenRun) (words : List (List ℕ)) → IsServedSpan r.span → runs_of_words (run_words r ++ words) ≡ r ∷ runs_of_words words
run-back r words span =
    let low : r.span.lo ≤ greatest = omega (arith, span.0, span.1) in
    let los = offset-back r.span.lo low in
    let his = offset-back r.span.hi span.1 in
    let levels = level-back r.level in
    λ i. record { span = record { lo = los i; hi = his i }; level = levels i } ∷ runs_of_words words

pub runs-back : (runs : List TokenRun) → All (λ (r : TokenRun). IsServedSpan r.span) runs → runs_of_words (flat_map run_words runs) ≡ runs
runs-back [] served = refl
runs-back (r ∷ rest) served =
    run-back r (flat_map run_words rest) (All-head (λ (q : TokenRun). IsServedSpan q.span) r rest served)
    ∙ ap (λ (rs : List TokenRun). r ∷ rs) (runs-back rest (All-tail (λ (q : TokenRun). IsServedSpan q.span) r rest served))

-- the runs that their text names are the runs
pub told_runs : (runs : List TokenRun) → AreServedRuns runs → runs_in (runs_text runs) ≡ runs
told_runs runs served = ap (λ (ws : List (List ℕ)). runs_of_words (drop 1 ws)) (words_of-runs runs served) ∙ runs-back runs served.0

pub is_runs_text : (text : List ℕ) (runs : List TokenRun) → AreServedRuns runs → text ≡ runs_text runs → IsRunsText text × (runs_in text ≡ runs)
is_runs_text text runs served is =
    let same : runs_in text ≡ runs = ap runs_in is ∙ told_runs runs served in
    ((is ∙ ap runs_text (sym same), subst AreServedRuns (sym same) served), same)

-- equal words name equal first runs
pub same_first : (r q : TokenRun) (words others : List (List ℕ)) → IsServedSpan r.span → IsServedSpan q.span → run_words r ++ words ≡ run_words q ++ others → (r ≡ q) × (words ≡ others)
same_first r q words others r_in q_in same =
    let runs : r ∷ runs_of_words words ≡ q ∷ runs_of_words others = sym (run-back r words r_in) ∙ ap runs_of_words same ∙ run-back q others q_in in
    (cc (runs), ap (drop 3) same)

-- three words whose first byte is past their last name no run
pub no_span : (first second third : List ℕ) (all rest more words : List (List ℕ)) (lo hi : ℕ) → all ≡ first ∷ rest → rest ≡ second ∷ more → more ≡ third ∷ words → (lo ≤ greatest) × (second ≡ decimal lo) → (hi ≤ greatest) × (third ≡ decimal hi) → hi < lo
    → (run : TokenRun) (others : List (List ℕ)) → IsServedSpan run.span → all ≢ run_words run ++ others
no_span first second third all rest more words lo hi a b c lo_is hi_is lt run others span same =
    let whole : first ∷ (second ∷ (third ∷ words)) ≡ run_words run ++ others = sym (a ∙ ap (λ (ws : List (List ℕ)). first ∷ ws) (b ∙ ap (λ (ws : List (List ℕ)). second ∷ ws) c)) ∙ same in
    let seconds : second ≡ decimal run.span.lo = cc whole in
    let thirds : third ≡ decimal run.span.hi = cc whole in
    let los = decimal_injective lo run.span.lo (omega (arith, lo_is.0)) (omega (arith, span.0, span.1)) (sym lo_is.1 ∙ seconds) in
    let his = decimal_injective hi run.span.hi (omega (arith, hi_is.0)) (omega (arith, span.1)) (sym hi_is.1 ∙ thirds) in
    omega (arith, los, his, lt, span.0)

-- the words are the ones of n runs, each of which may come next behind the one before it
abbrev pub AreRunWords : Option TokenRun → ℕ → List (List ℕ) → Type 0
AreRunWords last zero words = words ≡ []
AreRunWords last (suc n) words = (run : TokenRun) × (more : List (List ℕ)) × (words ≡ run_words run ++ more) × IsServedSpan run.span × (may_stand last run ≡ true) × AreRunWords (Some run) n more

-- the words of one more run were read
pub one_run : (last : Option TokenRun) (n m : ℕ) (words more : List (List ℕ)) (run : TokenRun) → n ≡ suc m → words ≡ run_words run ++ more → IsServedSpan run.span → may_stand last run ≡ true → AreRunWords last n words ↔ AreRunWords (Some run) m more
one_run last n m words more run next is span stands = (onward, λ a. subst (λ (k : ℕ). AreRunWords last k words) (sym next) (run, more, is, span, stands, a))
  where
    onward : AreRunWords last n words → AreRunWords (Some run) m more
    onward a =
        let b = subst (λ (k : ℕ). AreRunWords last k words) next a in
        let same = same_first b.0 run b.1 more b.3 span (sym b.2 ∙ is) in
        subst (λ (r : TokenRun). AreRunWords (Some r) m more) same.0 (subst (AreRunWords (Some b.0) m) same.1 b.5)

-- the words of one more run were not found
pub no_run : (last : Option TokenRun) (n m : ℕ) (words : List (List ℕ)) → n ≡ suc m → ((run : TokenRun) (more : List (List ℕ)) → IsServedSpan run.span → may_stand last run ≡ true → words ≢ run_words run ++ more) → AreRunWords last n words → ⊥
no_run last n m words next none a =
    let b = subst (λ (k : ℕ). AreRunWords last k words) next a in
    none b.0 b.1 b.3 b.4 b.2

-- the runs may come next behind the run `last`
abbrev go_on : Option TokenRun → List TokenRun → Bool
go_on None runs = are_longest runs
go_on (Some last) runs = are_longest (last ∷ runs)

go_on-more : (last : Option TokenRun) (r : TokenRun) (runs : List TokenRun) → may_stand last r ≡ true → are_longest (r ∷ runs) ≡ true → go_on last (r ∷ runs) ≡ true
go_on-more None r runs stands longest = longest
go_on-more (Some last) r runs stands longest = and_from _ _ stands longest

go_on-first : (last : Option TokenRun) (r : TokenRun) (runs : List TokenRun) → go_on last (r ∷ runs) ≡ true → (may_stand last r ≡ true) × (are_longest (r ∷ runs) ≡ true)
go_on-first None r runs h = (refl, h)
go_on-first (Some last) r runs h = and_parts (may_follow last r) (are_longest (r ∷ runs)) h

-- the n runs whose words these are, each of which may come next
record Tell (last : Option TokenRun) (n : ℕ) (words : List (List ℕ)) : Type 0 where
  runs : List TokenRun
  is : words ≡ flat_map run_words runs
  counted : length runs ≡ n
  spans : All (λ (r : TokenRun). IsServedSpan r.span) runs
  longest : go_on last runs ≡ true

tell : (last : Option TokenRun) (n : ℕ) (words : List (List ℕ)) → AreRunWords last n words → Tell last n words
tell None zero words a = record { runs = []; is = a; counted = refl; spans = All-nil (λ (r : TokenRun). IsServedSpan r.span); longest = refl }
tell (Some last) zero words a = record { runs = []; is = a; counted = refl; spans = All-nil (λ (r : TokenRun). IsServedSpan r.span); longest = refl }
tell last (suc n) words (run, more, is, span, stands, a) =
    let rest = tell (Some run) n more a in
    record {
      runs = run ∷ rest.runs;
      is = is ∙ ap (λ (ws : List (List ℕ)). run_words run ++ ws) rest.is;
      counted = omega (arith, rest.counted);
      spans = All-cons (λ (r : TokenRun). IsServedSpan r.span) run rest.runs span rest.spans;
      longest = go_on-more last run rest.runs stands rest.longest;
    }

-- the words of the longest runs of a token are the words of that many runs
run_words-are : (last : Option TokenRun) (runs : List TokenRun) → All (λ (r : TokenRun). IsServedSpan r.span) runs → go_on last runs ≡ true → AreRunWords last (length runs) (flat_map run_words runs)
run_words-are last [] spans longest = refl
run_words-are last (r ∷ rest) spans longest =
    let parts = go_on-first last r rest longest in
    (r, flat_map run_words rest, refl, All-head (λ (q : TokenRun). IsServedSpan q.span) r rest spans, parts.0, run_words-are (Some r) rest (All-tail (λ (q : TokenRun). IsServedSpan q.span) r rest spans) parts.1)

-- the first word of a text of runs is their number
pub first_counts : (text word : List ℕ) (words : List (List ℕ)) → words_of text ≡ word ∷ words → IsRunsText text → (word ≡ decimal (length (runs_in text))) × (words ≡ flat_map run_words (runs_in text))
first_counts text word words is told =
    let same : word ∷ words ≡ decimal (length (runs_in text)) ∷ flat_map run_words (runs_in text) = sym is ∙ ap words_of told.0 ∙ words_of-runs (runs_in text) told.1 in
    (cc same, ap (drop 1) same)

-- a text of a number and of the words of that many runs is a text of runs
pub are_runs : (text : List ℕ) (all words : List (List ℕ)) (count : ℕ) → all ≡ words_of text → (count < 2 ^ 64) × (all ≡ decimal count ∷ words) → IsRunsText text ↔ AreRunWords None count words
are_runs text all words count whole first = (to, from)
  where
    is : words_of text ≡ decimal count ∷ words
    is = sym whole ∙ first.1

    to : IsRunsText text → AreRunWords None count words
    to told =
        let parts = first_counts text (decimal count) words is told in
        let same : length (runs_in text) ≡ count = decimal_injective (length (runs_in text)) count (omega (arith, few_runs (runs_in text) told.1)) first.0 (sym parts.0) in
        subst (λ (n : ℕ). AreRunWords None n words) same (subst (AreRunWords None (length (runs_in text))) (sym parts.1) (run_words-are None (runs_in text) told.1.0 told.1.1))

    from : AreRunWords None count words → IsRunsText text
    from a =
        let t = tell None count words a in
        let served : AreServedRuns t.runs = (t.spans, t.longest) in
        let texts : words_of text ≡ words_of (runs_text t.runs) =
        is
        ∙ ap (λ (ws : List (List ℕ)). decimal count ∷ ws) t.is
        ∙ ap (λ (n : ℕ). decimal n ∷ flat_map run_words t.runs) (sym t.counted)
        ∙ sym (words_of-runs t.runs served) in
        (is_runs_text text t.runs served (words-apart text (runs_text t.runs) texts)).0

-- a text that doesn't begin with a number is no text of runs
pub no_count : (text : List ℕ) (all : List (List ℕ)) → all ≡ words_of text → ((count : ℕ) (more : List (List ℕ)) → count < 2 ^ 64 → all ≢ decimal count ∷ more) → IsRunsText text → ⊥
no_count text all whole none told =
    let runs = runs_in text in
    none (length runs) (flat_map run_words runs) (omega (arith, few_runs runs told.1)) (whole ∙ ap words_of told.0 ∙ words_of-runs runs told.1)

-- whether words are left
pub ended_words : (ended : Bool) (rest : List ℕ) → IsTrue ended ↔ ((if ended then [] else words_of rest) ≡ [])
ended_words true rest = (λ h. refl, λ e. refl)
ended_words false rest = (λ h. absurd (false≢true h), λ e. let some = some_word rest in let is = some.2 in absurd cc)

-- the runs `done` were read, and the words of the other runs are left
pub record AreLeft (runs done : List TokenRun) (words : List (List ℕ)) : Type 0 where
  pub others : List TokenRun
  pub all : runs ≡ done ++ others
  pub left : words ≡ flat_map run_words others
  pub spans : All (λ (r : TokenRun). IsServedSpan r.span) others

pub none_read : (text : List ℕ) (all words : List (List ℕ)) (count : Option ℕ) → all ≡ words_of text → MatchOption count ((n : ℕ) (more : List (List ℕ)) → n < 2 ^ 64 → all ≢ decimal n ∷ more) (λ n. (n < 2 ^ 64) × (all ≡ decimal n ∷ words)) → IsRunsText text → AreLeft (runs_in text) [] words
none_read text all words None whole none told = absurd (no_count text all whole none told)
none_read text all words (Some n) whole first told = record { others = runs_in text; all = refl; left = (first_counts text (decimal n) words (sym whole ∙ first.1) told).1; spans = told.1.0 }

pub one_read : (runs done : List TokenRun) (words more : List (List ℕ)) (run : TokenRun) → AreLeft runs done words → IsServedSpan run.span → words ≡ run_words run ++ more → AreLeft runs (done ++ run ∷ []) more × (length more < length words)
one_read runs done words more run left span is = by left.others left.all left.left left.spans
  where
    by : (others : List TokenRun) → runs ≡ done ++ others → words ≡ flat_map run_words others → All (λ (r : TokenRun). IsServedSpan r.span) others → AreLeft runs (done ++ run ∷ []) more × (length more < length words)
    by [] all none spans = absurd (let e = sym none ∙ is in cc)
    by (r ∷ others) all next spans =
        let same = same_first r run (flat_map run_words others) more (All-head (λ (q : TokenRun). IsServedSpan q.span) r others spans) span (sym next ∙ is) in (
          record {
            others = others;
            all = all ∙ ap (λ (q : TokenRun). done ++ q ∷ others) same.0 ∙ sym (append_assoc done (run ∷ []) others);
            left = sym same.1;
            spans = All-tail (λ (q : TokenRun). IsServedSpan q.span) r others spans;
          },
          rw is (omega arith),
        )

pub all_read : (runs done : List TokenRun) (words : List (List ℕ)) → AreLeft runs done words → ((run : TokenRun) (more : List (List ℕ)) → IsServedSpan run.span → words ≢ run_words run ++ more) → done ≡ runs
all_read runs done words left none = by left.others left.all left.left left.spans
  where
    by : (others : List TokenRun) → runs ≡ done ++ others → words ≡ flat_map run_words others → All (λ (r : TokenRun). IsServedSpan r.span) others → done ≡ runs
    by [] all is spans = sym (all ∙ append-nil done)
    by (r ∷ others) all is spans = absurd (none r (flat_map run_words others) (All-head (λ (q : TokenRun). IsServedSpan q.span) r others spans) is)

-- two lists of runs with one text are equal
pub apart-runs : AreApart runs_text AreServedRuns
apart-runs runs others runs_in others_in e = sym (told_runs runs runs_in) ∙ ap (λ (t : List ℕ). runs_of_words (drop 1 (words_of t))) e ∙ told_runs others others_in
