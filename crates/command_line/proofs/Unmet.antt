-- Where the values of a command come to no task.
use Rattle.std.specs.Prelude.{unwrap_or}
use Rattle.std.proofs.Common.{ℕ, Bool, map, sym, subst, ap, codes, List, Option, Some, None, [], ◌∷◌, ◌≡◌, ◌∙◌}
use Rattle.clap.specs.Words.{Row, Text, all_of, first_of, one_of}
use Rattle.command_line.specs.rule.Tasks.{JudgeTask, MayJudge, rule_text, Task, greatest_seed, MayBeQuiet}
use Rattle.command_line.specs.rule.Words.{flag_text, judge_values_in, IsMet, IsNumber, MayBeNumber}
use Rattle.command_line.specs.declared.judge_line.AllowedRule.{AllowedRule}
use Rattle.command_line.proofs.MetValues.{beside_histories, flag_in, given_is, histories_at, is_given, rule_words, task_named, value_at}
use Rattle.command_line.proofs.MetTasks.{asked_is, met_is, unmet}

-- it is met as the task that its name and its values tell
pub as_named : (name : Text) (rows : List Row) (task : Task) → IsMet (Some (name, rows)) task → IsMet (Some (name, rows)) (task_named name rows)
as_named name rows task met = subst (IsMet (Some (name, rows))) (sym (met_is (name, rows) task met)) met

pub nowhere : (text : Text) (value : Option Text) → value ≡ None → value ≡ Some text → ⊥
nowhere text value none some = cc

-- no task has the command of this name where a value of it is missing, or is no number or flag
abbrev pub Unmet : Text → List Row → Type 0
Unmet name rows = (task : Task) → IsMet (Some (name, rows)) task → ⊥

abbrev pub NoNumber : ℕ → ℕ → Text → List Row → Type 0
NoNumber least greatest id rows = (text : Text) (number : ℕ) → one_of id rows ≡ Some text → IsNumber least greatest text number → ⊥

abbrev NoGivenNumber : ℕ → ℕ → Text → List Row → Type 0
NoGivenNumber least greatest id rows = (number : Option ℕ) → MayBeNumber least greatest (one_of id rows) number → ⊥

abbrev pub NoFlag : Text → List Row → Type 0
NoFlag id rows = (flag : Bool) → one_of id rows ≡ Some (flag_text flag) → ⊥

pub no_script : (rows : List Row) → first_of (codes "SCRIPT") rows ≡ None → Unmet (codes "run") rows
no_script rows none task met = nowhere _ _ none (ap (value_at 0) (as_named (codes "run") rows task met).0)

pub no_expect_flag : (rows : List Row) → NoFlag (codes "expect") rows → Unmet (codes "run") rows
no_expect_flag rows none task met = none _ (ap (value_at 3) (as_named (codes "run") rows task met).0)

pub no_quiet_flag : (rows : List Row) → NoFlag (codes "quiet") rows → Unmet (codes "run") rows
no_quiet_flag rows none task met = none _ (ap (value_at 4) (as_named (codes "run") rows task met).0)

pub no_calm_flag : (rows : List Row) → NoFlag (codes "calm") rows → Unmet (codes "run") rows
no_calm_flag rows none task met = none _ (ap (value_at 5) (as_named (codes "run") rows task met).0)

-- nor where the listing may not be left away
pub no_quiet : (rows : List Row) (journal : Option Text) (expected quiet : Bool) → first_of (codes "FILE") rows ≡ journal → one_of (codes "expect") rows ≡ Some (flag_text expected)
    → one_of (codes "quiet") rows ≡ Some (flag_text quiet) → (MayBeQuiet journal expected quiet → ⊥) → Unmet (codes "run") rows
no_quiet rows journal expected quiet file first second may_not task met =
    let same = as_named (codes "run") rows task met in
    let expect_is : flag_in (codes "expect") rows ≡ expected = ap (λ (value : Option Text). is_given (unwrap_or value [])) first ∙ given_is expected in
    let quiet_is : flag_in (codes "quiet") rows ≡ quiet = ap (λ (value : Option Text). is_given (unwrap_or value [])) second ∙ given_is quiet in
    let P : Option Text × Bool × Bool → Type 0 = λ given. MayBeQuiet given.0 given.1 given.2 in
    may_not (subst P (λ i. (file i, expect_is i, quiet_is i)) same.1)

pub no_threads_script : (rows : List Row) → first_of (codes "SCRIPT") rows ≡ None → Unmet (codes "threads") rows
no_threads_script rows none task met = nowhere _ _ none (ap (value_at 0) (as_named (codes "threads") rows task met).1)

pub no_seed : (rows : List Row) → NoNumber 0 greatest_seed (codes "N") rows → Unmet (codes "threads") rows
no_seed rows none task met =
    let is = as_named (codes "threads") rows task met in
    none is.0 _ (ap (value_at 1) is.1) is.2

pub no_flag : (rows : List Row) → NoFlag (codes "stop-when-stuck") rows → Unmet (codes "threads") rows
no_flag rows none task met = none _ (ap (value_at 2) (as_named (codes "threads") rows task met).1)

pub no_join_flag : (rows : List Row) → NoFlag (codes "no-join") rows → Unmet (codes "threads") rows
no_join_flag rows none task met = none _ (ap (value_at 3) (as_named (codes "threads") rows task met).1)

pub no_audit : (rows : List Row) → first_of (codes "JOURNAL") rows ≡ None → Unmet (codes "audit") rows
no_audit rows none task met = nowhere _ _ none (ap (value_at 0) (as_named (codes "audit") rows task met))

pub no_history : (rows : List Row) → first_of (codes "JOURNAL") rows ≡ None → Unmet (codes "history") rows
no_history rows none task met = nowhere _ _ none (ap (value_at 0) (as_named (codes "history") rows task met))

pub no_clients_flag : (rows : List Row) → NoFlag (codes "as-clients") rows → Unmet (codes "history") rows
no_clients_flag rows none task met = none _ (ap (value_at 1) (as_named (codes "history") rows task met))

pub no_state : (rows : List Row) → first_of (codes "JOURNAL") rows ≡ None → Unmet (codes "state") rows
no_state rows none task met = nowhere _ _ none (ap (value_at 0) (as_named (codes "state") rows task met).1)

-- nor where a number that is given is none, or past its bounds
refuses : (least greatest : ℕ) (id : Text) (rows : List Row) (text : Option Text) (number : Option ℕ) → NoGivenNumber least greatest id rows → one_of id rows ≡ text → MayBeNumber least greatest text number → ⊥
refuses least greatest id rows text number none is writes = none number (subst (λ (t : Option Text). MayBeNumber least greatest t number) (sym is) writes)

pub no_at : (rows : List Row) → NoGivenNumber 0 greatest_seed (codes "K") rows → Unmet (codes "state") rows
no_at rows none task met =
    let is = as_named (codes "state") rows task met in
    refuses 0 greatest_seed (codes "K") rows is.0 _ none (ap (value_at 1) is.1) is.2

pub no_histories : (rows : List Row) → all_of (codes "HISTORY") rows ≡ None → Unmet (codes "judge") rows
no_histories rows none task met = unmet _ (sym none ∙ ap histories_at (as_named (codes "judge") rows task met).1)

pub no_rules : (rows : List Row) → ((rules : List AllowedRule) → unwrap_or (all_of (codes "RULE") rows) [] ≡ map rule_text rules → ⊥) → Unmet (codes "judge") rows
no_rules rows none task met = none _ (ap rule_words (as_named (codes "judge") rows task met).1)

pub no_steps : (rows : List Row) → NoNumber 1 greatest_seed (codes "N") rows → Unmet (codes "judge") rows
no_steps rows none task met =
    let is = as_named (codes "judge") rows task met in
    none is.0 _ (ap (value_at 0) (ap beside_histories is.1)) is.2

pub no_order_flag : (rows : List Row) → NoFlag (codes "order") rows → Unmet (codes "judge") rows
no_order_flag rows none task met = none _ (ap (value_at 2) (ap beside_histories (as_named (codes "judge") rows task met).1))

pub no_go_on_flag : (rows : List Row) → NoFlag (codes "go-on") rows → Unmet (codes "judge") rows
no_go_on_flag rows none task met = none _ (ap (value_at 3) (ap beside_histories (as_named (codes "judge") rows task met).1))

pub no_stats_flag : (rows : List Row) → NoFlag (codes "stats") rows → Unmet (codes "judge") rows
no_stats_flag rows none task met = none _ (ap (value_at 4) (ap beside_histories (as_named (codes "judge") rows task met).1))

pub no_json_flag : (rows : List Row) → NoFlag (codes "json") rows → Unmet (codes "judge") rows
no_json_flag rows none task met = none _ (ap (value_at 5) (ap beside_histories (as_named (codes "judge") rows task met).1))

-- nor where what is asked for doesn't go together
pub no_judge : (rows : List Row) (t : JudgeTask) (text : Text)
    → judge_values_in (Some (codes "judge", rows)) ≡ Some (
      codes "judge",
      Some t.histories,
      map rule_text t.allowed,
      Some text ∷ t.explains ∷ Some (flag_text t.order) ∷ Some (flag_text t.go_on) ∷ Some (flag_text t.stats) ∷ Some (flag_text t.json) ∷ [],
    )
    → IsNumber 1 greatest_seed text t.steps → (MayJudge t → ⊥) → Unmet (codes "judge") rows
no_judge rows t text values number may_not task met = may_not (subst MayJudge (asked_is (codes "judge", rows) t text values number) (as_named (codes "judge") rows task met).3)
