-- The task that a command that is met asks for: no two are met.
use Rattle.std.specs.Prelude.{unwrap_or}
use Rattle.std.proofs.Common.{ℕ, Bool, map, refl, sym, ap, codes, List, Option, Some, None, [], ◌∷◌, ◌≡◌, ◌∙◌}
use Rattle.clap.specs.Words.{Row, Text}
use Rattle.command_line.specs.rule.Tasks.{JudgeTask, rule_text, Task, run, threads, audit, history, state, judge, greatest_seed}
use Rattle.command_line.specs.rule.Words.{flag_text, judge_values_in, IsMet, IsNumber, MayBeNumber}
use Rattle.command_line.proofs.MetValues.{Values, Judged, value_at, text_at, histories_at, rule_words, beside_histories, name_of, name_is, number_of, number_given, is_given, given_is, rule_named, rules_are, asked_of, task_named}

named : (p : Text × List Row) (task : Task) → IsMet (Some p) task → task_named p.0 p.1 ≡ task_named (name_of task) p.1
named p task met = ap (λ (name : Text). task_named name p.1) (name_is p task met)

-- the number at a place, and the flag there
pub number_there : (place : ℕ) (v w : Option Values) (least greatest : ℕ) (text : Text) (number : ℕ) → v ≡ w → text_at place w ≡ text → IsNumber least greatest text number → number_of (text_at place v) ≡ number
number_there place v w least greatest text number same there writes = ap (λ (u : Option Values). number_of (text_at place u)) same ∙ (ap number_of there ∙ sym writes.value)

pub flag_there : (place : ℕ) (v w : Option Values) (flag : Bool) → v ≡ w → text_at place w ≡ flag_text flag → is_given (text_at place v) ≡ flag
flag_there place v w flag same there = ap (λ (u : Option Values). is_given (text_at place u)) same ∙ (ap is_given there ∙ given_is flag)

-- the number that is given there, if one is
is_number_given : (least greatest : ℕ) (text : Option Text) (number : Option ℕ) → MayBeNumber least greatest text number → number_given text ≡ number
is_number_given least greatest None None writes = refl
is_number_given least greatest (Some text) (Some number) writes = ap (λ (n : ℕ). Some n) (sym writes.value)
is_number_given least greatest None (Some number) writes = absurd writes
is_number_given least greatest (Some text) None writes = absurd writes

given_there : (place : ℕ) (v w : Option Values) (least greatest : ℕ) (text : Option Text) (number : Option ℕ) → v ≡ w → value_at place w ≡ text → MayBeNumber least greatest text number
    → number_given (value_at place v) ≡ number
given_there place v w least greatest text number same there writes = ap (λ (u : Option Values). number_given (value_at place u)) same ∙ (ap number_given there ∙ is_number_given least greatest text number writes)

-- the values of a judgement tell what is asked of it
pub asked_is : (p : Text × List Row) (t : JudgeTask) (text : Text)
    → judge_values_in (Some p) ≡ Some (
      codes "judge",
      Some t.histories,
      map rule_text t.allowed,
      Some text ∷ t.explains ∷ Some (flag_text t.order) ∷ Some (flag_text t.go_on) ∷ Some (flag_text t.stats) ∷ Some (flag_text t.json) ∷ [],
    )
    → IsNumber 1 greatest_seed text t.steps → asked_of p.1 ≡ t
asked_is p t text values number =
    let histories = ap (λ (v : Option Judged). unwrap_or (histories_at v) []) values in
    let allowed = ap (λ (v : Option Judged). map rule_named (rule_words v)) values ∙ rules_are t.allowed in
    let others = ap beside_histories values in
    let steps = number_there 0 _ _ 1 greatest_seed text t.steps others refl number in
    let file = ap (value_at 1) others in
    let order = flag_there 2 _ _ t.order others refl in
    let go_on = flag_there 3 _ _ t.go_on others refl in
    let stats = flag_there 4 _ _ t.stats others refl in
    let json = flag_there 5 _ _ t.json others refl in
    λ i. record {
      histories = histories i;
      steps = steps i;
      explains = file i;
      allowed = allowed i;
      order = order i;
      go_on = go_on i;
      stats = stats i;
      json = json i;
    }

-- the command and its values tell the task
pub met_is : (p : Text × List Row) (task : Task) → IsMet (Some p) task → task_named p.0 p.1 ≡ task
met_is p (run s a j x q k) met =
    let script = ap (text_at 0) met.0 in
    let after = ap (value_at 1) met.0 in
    let file = ap (value_at 2) met.0 in
    let expect_flag = flag_there 3 _ _ x met.0 refl in
    let quiet_flag = flag_there 4 _ _ q met.0 refl in
    let calm_flag = flag_there 5 _ _ k met.0 refl in
    named p (run s a j x q k) met ∙ (λ i. run (script i) (after i) (file i) (expect_flag i) (quiet_flag i) (calm_flag i))
met_is p (threads s n h k j) met =
    let script = ap (text_at 0) met.1 in
    let number = number_there 1 _ _ 0 greatest_seed met.0 n met.1 refl met.2 in
    let flag = flag_there 2 _ _ h met.1 refl in
    let no_join = flag_there 3 _ _ k met.1 refl in
    let file = ap (value_at 4) met.1 in
    named p (threads s n h k j) met ∙ (λ i. threads (script i) (number i) (flag i) (no_join i) (file i))
met_is p (audit j) met =
    let journal = ap (text_at 0) met in
    named p (audit j) met ∙ (λ i. audit (journal i))
met_is p (history j c) met =
    let journal = ap (text_at 0) met in
    let flag = flag_there 1 _ _ c met refl in
    named p (history j c) met ∙ (λ i. history (journal i) (flag i))
met_is p (state j k) met =
    let journal = ap (text_at 0) met.1 in
    let at = given_there 1 _ _ 0 greatest_seed met.0 k met.1 refl met.2 in
    named p (state j k) met ∙ (λ i. state (journal i) (at i))
met_is p (judge t) met = named p (judge t) met ∙ ap judge (asked_is p t met.0 met.1 met.2)

pub unmet : {A : Type 0} (values : A) → ◌≡◌ {A = Option A} None (Some values) → ⊥
unmet values is = cc

-- where nothing is met, or a name that no task has, or a name without one of its values
nothing_met : (task : Task) → IsMet None task → ⊥
nothing_met (run s a j x q k) is = unmet _ is.0
nothing_met (threads s n h k j) is = unmet _ is.1
nothing_met (audit j) is = cc
nothing_met (history j c) is = cc
nothing_met (state j k) is = unmet _ is.1
nothing_met (judge t) is = unmet _ is.1

pub one_met : (met : Option (Text × List Row)) (one other : Task) → IsMet met one → IsMet met other → one ≡ other
one_met None one other first second = absurd (nothing_met one first)
one_met (Some p) one other first second = sym (met_is p one first) ∙ met_is p other second
