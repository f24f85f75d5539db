-- What the values of a command that is met tell.
use Rattle.std.specs.Prelude.{option_and_then, slice_get, unwrap_or}
use Rattle.std.specs.Option.{option_map_or}
use Rattle.std.specs.Str.{bytes_eq}
use Rattle.std.specs.Str.Parse.{digits_value, without_leading_plus}
use Rattle.std.proofs.Common.{ℕ, Bool, true, false, cond, map, option_map, refl, ap, codes, List, Option, Some, None, [], ◌∷◌, ◌≡◌}
use Rattle.clap.specs.Words.{Row, Text, all_of, first_of, one_of}
use Rattle.command_line.specs.rule.Tasks.{JudgeTask, rule_text, Task, run, threads, audit, history, state, judge}
use Rattle.command_line.specs.rule.Words.{flag_text, IsMet}
use Rattle.command_line.specs.declared.judge_line.AllowedRule.{AllowedRule}
use Rattle.command_line.specs.declared.judge_line.AllowedRule.TheVariants.{WaitDrops, CloseOwnDescriptor, NoQuery, StaleReadDenial, LostAt}

abbrev pub Values : Type 0
Values = Text × List (Option Text)

-- the name, the histories, the words of rules and the other values of a judgement
abbrev pub Judged : Type 0
Judged = Text × Option (List Text) × List Text × List (Option Text)

abbrev pub value_at : ℕ → Option Values → Option Text
value_at place met = option_and_then (λ (values : Values). unwrap_or (slice_get values.1 place) None) met

abbrev pub text_at : ℕ → Option Values → Text
text_at place met = unwrap_or (value_at place met) []

abbrev name_in : Option Values → Text
name_in met = option_map_or (λ (values : Values). values.0) met []

abbrev pub histories_at : Option Judged → Option (List Text)
histories_at met = option_and_then (λ (values : Judged). values.1) met

abbrev pub rule_words : Option Judged → List Text
rule_words met = option_map_or (λ (values : Judged). values.2) met []

abbrev pub beside_histories : Option Judged → Option Values
beside_histories met = option_map (λ (values : Judged). (values.0, values.3)) met

abbrev pub name_of : Task → Text
name_of (run s a j x q k) = codes "run"
name_of (threads s n h k j) = codes "threads"
name_of (audit j) = codes "audit"
name_of (history j c) = codes "history"
name_of (state j k) = codes "state"
name_of (judge t) = codes "judge"

pub name_is : (p : Text × List Row) (task : Task) → IsMet (Some p) task → p.0 ≡ name_of task
name_is p (run s a j x q k) met = ap name_in met.0
name_is p (threads s n h k j) met = ap name_in met.1
name_is p (audit j) met = ap name_in met
name_is p (history j c) met = ap name_in met
name_is p (state j k) met = ap name_in met.1
name_is p (judge t) met = ap name_in (ap beside_histories met.1)

-- the text of a number, and that of a flag
abbrev pub number_of : Text → ℕ
number_of text = digits_value 10 (without_leading_plus text)

-- that of a number that may be left out
abbrev pub number_given : Option Text → Option ℕ
number_given text = option_map number_of text

abbrev pub is_given : Text → Bool
is_given text = bytes_eq text (codes "true")

pub given_is : (flag : Bool) → is_given (flag_text flag) ≡ flag
given_is true = refl
given_is false = refl

abbrev pub rule_named : Text → AllowedRule
rule_named text =
    cond (bytes_eq text (codes "wait-drops")) WaitDrops (cond (bytes_eq text (codes "close-own-descriptor")) CloseOwnDescriptor (cond (bytes_eq text (codes "no-query")) NoQuery
    (cond (bytes_eq text (codes "stale-read-denial")) StaleReadDenial LostAt)))

rule_is : (rule : AllowedRule) → rule_named (rule_text rule) ≡ rule
rule_is WaitDrops = refl
rule_is CloseOwnDescriptor = refl
rule_is NoQuery = refl
rule_is StaleReadDenial = refl
rule_is LostAt = refl

pub rules_are : (rules : List AllowedRule) → map rule_named (map rule_text rules) ≡ rules
rules_are [] = refl
rules_are (rule ∷ rules) = λ i. rule_is rule i ∷ rules_are rules i

abbrev path_in : Text → List Row → Text
path_in id rows = unwrap_or (first_of id rows) []

abbrev paths_in : Text → List Row → List Text
paths_in id rows = unwrap_or (all_of id rows) []

abbrev pub number_in : Text → List Row → ℕ
number_in id rows = number_of (unwrap_or (one_of id rows) [])

abbrev pub flag_in : Text → List Row → Bool
flag_in id rows = is_given (unwrap_or (one_of id rows) [])

-- the state that is asked for
abbrev state_of : List Row → Task
state_of rows = state (path_in (codes "JOURNAL") rows) (number_given (one_of (codes "K") rows))

abbrev threads_of : List Row → Task
threads_of rows = threads (path_in (codes "SCRIPT") rows) (number_in (codes "N") rows) (flag_in (codes "stop-when-stuck") rows) (flag_in (codes "no-join") rows) (first_of (codes "FILE") rows)

abbrev run_of : List Row → Task
run_of rows = run (path_in (codes "SCRIPT") rows) (first_of (codes "JOURNAL") rows) (first_of (codes "FILE") rows) (flag_in (codes "expect") rows) (flag_in (codes "quiet") rows) (flag_in (codes "calm") rows)

-- what is asked of a judgement
abbrev pub asked_of : List Row → JudgeTask
asked_of rows = record {
  histories = paths_in (codes "HISTORY") rows;
  steps = number_in (codes "N") rows;
  explains = first_of (codes "FILE") rows;
  allowed = map rule_named (paths_in (codes "RULE") rows);
  order = flag_in (codes "order") rows;
  go_on = flag_in (codes "go-on") rows;
  stats = flag_in (codes "stats") rows;
  json = flag_in (codes "json") rows;
}

-- the task of the command of this name, with these values
abbrev pub task_named : Text → List Row → Task
task_named name rows =
    cond (bytes_eq name (codes "run")) (run_of rows)
    (cond (bytes_eq name (codes "threads")) (threads_of rows)
    (cond (bytes_eq name (codes "audit")) (audit (path_in (codes "JOURNAL") rows))
    (cond (bytes_eq name (codes "history")) (history (path_in (codes "JOURNAL") rows) (flag_in (codes "as-clients") rows))
    (cond (bytes_eq name (codes "state")) (state_of rows)
    (judge (asked_of rows))))))
