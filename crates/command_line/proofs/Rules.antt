-- The words of rules.
use Rattle.std.specs.Prelude.{get_or, slice_get, unwrap_or, zero, suc}
use Rattle.std.proofs.Common.{arith, ap, sym, append-nil, append_assoc, drop, length, map, Bor, ℕ, List, [], ◌∷◌, ◌++◌, ◌+◌, ◌<◌, ◌≤◌, ◌≡◌, ◌∙◌, None}
use Rattle.std.proofs.lemmas.List.{drop_all, drop_more, map-append}
use Rattle.clap.specs.Words.{Text}
use Rattle.command_line.specs.rule.Tasks.{rule_text}
use Rattle.command_line.specs.rule.Words.{IsRuleOf}
use Rattle.command_line.specs.declared.judge_line.AllowedRule.{AllowedRule}

abbrev now_of : Bor Text → Text
now_of word = word.now

-- the words before this one are those of the rules
abbrev pub AreRead : List (Bor Text) → ℕ → List AllowedRule → Type 0
AreRead words i rules = map rule_text rules ++ map now_of (drop i words) ≡ map now_of words

pub one_more : (words : List (Bor Text)) (i : ℕ) (d : Bor Text) (rules more : List AllowedRule) (rule : AllowedRule) → i < length words → AreRead words i rules → now_of (get_or words i d) ≡ rule_text rule → more ≡ rules ++ rule ∷ []
    → AreRead words (i + 1) more
one_more words i d rules more rule lt read is grown =
    let rest = map now_of (drop (i + 1) words) in
    ap (λ (all : List AllowedRule). map rule_text all ++ rest) grown
    ∙ ap (λ (front : List Text). front ++ rest) (map-append rule_text rules (rule ∷ []))
    ∙ append_assoc (map rule_text rules) (rule_text rule ∷ []) rest
    ∙ ap (λ (word : Text). map rule_text rules ++ word ∷ rest) (sym is)
    ∙ ap (λ (behind : List (Bor Text)). map rule_text rules ++ map now_of behind) (sym (drop_more words i d lt))
    ∙ read

pub all_read : (words : List (Bor Text)) (i : ℕ) (rules : List AllowedRule) → length words ≤ i → AreRead words i rules → map now_of words ≡ map rule_text rules
all_read words i rules past read = sym (sym (append-nil (map rule_text rules)) ∙ ap (λ (behind : List (Bor Text)). map rule_text rules ++ map now_of behind) (sym (drop_all i words past)) ∙ read)

-- where one of them is no rule's
pub none_of : (words : List (Bor Text)) (i : ℕ) (d : Bor Text) → i < length words → IsRuleOf (now_of (get_or words i d)) None → (rules : List AllowedRule) → map now_of words ≡ map rule_text rules → ⊥
none_of [] i d lt none rules same = omega (arith, lt)
none_of (word ∷ words) i d lt none [] same = cc
none_of (word ∷ words) zero d lt none (rule ∷ rules) same = none rule (ap (λ (all : List Text). unwrap_or (slice_get all 0) []) same)
none_of (word ∷ words) (suc i) d lt none (rule ∷ rules) same = none_of words i d (omega (arith, lt)) none rules (ap (drop 1) same)
