-- What the words of a command line ask for, as clap reads them.
use Rattle.std.specs.Prelude.{ℕ, pos, true, codes, [], ◌∷◌, Some, ◌≡◌, ◌≤◌, ⊤, Bool, false, List, map, option_map, unwrap_or, Option, None, ◌≢◌, ◌⊎◌, MatchOption, Vec}
use Rattle.clap.specs.Words.{App, Rule, Text, new_app, new_rule, with_rule, with_subcommand, Row, all_of, first_of, one_of, IsAmong, fault_of, subcommand_of}
use Rattle.clap.specs.Simple.{on_top}
use Rattle.clap.specs.declared.builder.action.ArgAction.TheVariants.{Append, SetTrue}
use Rattle.clap.specs.declared.builder.value_parser.ValueParser.TheVariants.{Signed}
use Rattle.command_line.specs.rule.Tasks.{greatest_seed, Task, run, threads, audit, history, state, judge, MayBeQuiet, task_of, MayJudge, rule_text}
use Rattle.std.specs.Str.Parse.{IsNumeral, digits_value, without_leading_plus}
use Rattle.std.specs.Global.{Global}
use Rattle.clap.specs.declared.error.kind.ErrorKind.{ErrorKind}
use Rattle.clap.specs.declared.error.kind.ErrorKind.TheVariants.{OutOfMemory, DisplayHelp, DisplayVersion}
use Rattle.command_line.specs.declared.command_line.CommandLine.{CommandLine}
use Rattle.command_line.specs.declared.judge_line.AllowedRule.{AllowedRule}
use Rattle.command_line.specs.declared.refusal.Refusal.{Refusal}
use Rattle.command_line.specs.declared.refusal.Refusal.TheVariants.{Help, Wrong, NotText, NoMemory}

-- a word that must be there, as a path
abbrev pub path_rule : Text → Rule
path_rule id = record (new_rule id) { required = true }

-- one such word or more
abbrev pub paths_rule : Text → Rule
paths_rule id = record (path_rule id) { action = Some Append }

-- an option with a value, which may be left out: its name, and the name behind `--`
abbrev pub option_rule : Text → Text → Rule
option_rule id long = record (new_rule id) { long = Some long }

-- one that may be given several times
abbrev pub values_rule : Text → Text → Rule
values_rule id long = record (option_rule id long) { action = Some Append }

-- one whose value is a number from the least to the greatest, with the text of the number that it is where it is left out
abbrev pub number_rule : Text → Text → Text → ℕ → ℕ → Rule
number_rule id long default least greatest = record (option_rule id long) { defaults = default ∷ []; parser = Some (Signed (pos least) (pos greatest)) }

-- one whose value is a number from the least to the greatest, which may be left out
abbrev pub bounded_rule : Text → Text → ℕ → ℕ → Rule
bounded_rule id long least greatest = record (option_rule id long) { parser = Some (Signed (pos least) (pos greatest)) }

-- a flag, which may be left out
abbrev pub flag_rule : Text → Rule
flag_rule name = record (option_rule name name) { action = Some SetTrue }

-- `--json`
abbrev pub json_rule : Rule
json_rule = flag_rule (codes "json")

-- `--journal FILE`
abbrev pub file_rule : Rule
file_rule = option_rule (codes "FILE") (codes "journal")

-- `--after JOURNAL`
abbrev pub after_rule : Rule
after_rule = option_rule (codes "JOURNAL") (codes "after")

-- `--seed N`, a number from 0 to the greatest seed, and 1 if it is left out
abbrev pub seed_rule : Rule
seed_rule = number_rule (codes "N") (codes "seed") (codes "1") 0 greatest_seed

-- `--at K`, from 0 on, which may be left out
abbrev pub at_rule : Rule
at_rule = bounded_rule (codes "K") (codes "at") 0 greatest_seed

-- `--steps N`, from 1 on, and 10000000 if it is left out
abbrev pub steps_rule : Rule
steps_rule = number_rule (codes "N") (codes "steps") (codes "10000000") 1 greatest_seed

-- `--explains FILE`
abbrev pub explains_rule : Rule
explains_rule = option_rule (codes "FILE") (codes "explains")

-- `--allow RULE`, as often as rules are allowed
abbrev pub allow_rule : Rule
allow_rule = values_rule (codes "RULE") (codes "allow")

abbrev pub run_app : App
run_app = with_rule (with_rule (with_rule (with_rule (with_rule (with_rule (new_app (codes "run")) (path_rule (codes "SCRIPT"))) after_rule) file_rule) (flag_rule (codes "expect"))) (flag_rule (codes "quiet"))) (flag_rule (codes "calm"))

abbrev pub threads_app : App
threads_app = with_rule (with_rule (with_rule (with_rule (with_rule (new_app (codes "threads")) (path_rule (codes "SCRIPT"))) seed_rule) (flag_rule (codes "stop-when-stuck"))) (flag_rule (codes "no-join"))) file_rule

abbrev pub audit_app : App
audit_app = with_rule (new_app (codes "audit")) (path_rule (codes "JOURNAL"))

abbrev pub history_app : App
history_app = with_rule (with_rule (new_app (codes "history")) (path_rule (codes "JOURNAL"))) (flag_rule (codes "as-clients"))

abbrev pub state_app : App
state_app = with_rule (with_rule (new_app (codes "state")) (path_rule (codes "JOURNAL"))) at_rule

abbrev pub judge_app : App
judge_app =
    with_rule (with_rule (with_rule (with_rule (with_rule (with_rule (with_rule (with_rule (new_app (codes "judge")) (paths_rule (codes "HISTORY"))) steps_rule) explains_rule) allow_rule) (flag_rule (codes "order"))) (flag_rule (codes "go-on"))) (flag_rule (codes "stats"))) json_rule

-- no command is no command line
abbrev pub bare_app : App
bare_app = on_top (λ s. record s { has_version = true; subcommand_required = true; arg_required_else_help = true }) (new_app (codes "lockreplay"))

abbrev pub program_app : App
program_app = with_subcommand (with_subcommand (with_subcommand (with_subcommand (with_subcommand (with_subcommand bare_app run_app.top) threads_app.top) audit_app.top) history_app.top) state_app.top) judge_app.top

-- the command that is met, with what is read of its arguments
abbrev pub read_in : List (List Row → Option Text) → Option (Text × List Row) → Option (Text × List (Option Text))
read_in readers = option_map (λ p. (p.0, map (λ read. read p.1) readers))

-- the text writes this number, which lies between the bounds
pub record IsNumber (least greatest : ℕ) (text : Text) (number : ℕ) : Type 0 where
  pub digits : IsNumeral 10 (without_leading_plus text)
  pub value : number ≡ digits_value 10 (without_leading_plus text)
  pub from_least : least ≤ number
  pub within : number ≤ greatest

-- the text writes the number that is given, and there is none where none is
abbrev pub MayBeNumber : ℕ → ℕ → Option Text → Option ℕ → Type 0
MayBeNumber least greatest None None = ⊤
MayBeNumber least greatest (Some text) (Some number) = IsNumber least greatest text number
MayBeNumber least greatest text number = ⊥

-- the text that stands for a flag that is given, and for one that is left out
abbrev pub flag_text : Bool → Text
flag_text true = codes "true"
flag_text false = codes "false"

-- the paths, numbers and flags of the commands
abbrev pub run_values_in : Option (Text × List Row) → Option (Text × List (Option Text))
run_values_in = read_in (first_of (codes "SCRIPT") ∷ first_of (codes "JOURNAL") ∷ first_of (codes "FILE") ∷ one_of (codes "expect") ∷ one_of (codes "quiet") ∷ one_of (codes "calm") ∷ [])

abbrev pub threads_values_in : Option (Text × List Row) → Option (Text × List (Option Text))
threads_values_in = read_in (first_of (codes "SCRIPT") ∷ one_of (codes "N") ∷ one_of (codes "stop-when-stuck") ∷ one_of (codes "no-join") ∷ first_of (codes "FILE") ∷ [])

abbrev pub audit_values_in : Option (Text × List Row) → Option (Text × List (Option Text))
audit_values_in = read_in (first_of (codes "JOURNAL") ∷ [])

abbrev pub state_values_in : Option (Text × List Row) → Option (Text × List (Option Text))
state_values_in = read_in (first_of (codes "JOURNAL") ∷ one_of (codes "K") ∷ [])

abbrev pub history_values_in : Option (Text × List Row) → Option (Text × List (Option Text))
history_values_in = read_in (first_of (codes "JOURNAL") ∷ one_of (codes "as-clients") ∷ [])

-- the histories of a judgement, the words of its rules, and what else it has
abbrev pub judge_values_in : Option (Text × List Row) → Option (Text × Option (List Text) × List Text × List (Option Text))
judge_values_in =
    option_map (λ p. (
      p.0,
      all_of (codes "HISTORY") p.1,
      unwrap_or (all_of (codes "RULE") p.1) [],
      map (λ read. read p.1) (one_of (codes "N") ∷ first_of (codes "FILE") ∷ one_of (codes "order") ∷ one_of (codes "go-on") ∷ one_of (codes "stats") ∷ one_of (codes "json") ∷ []),
    ))

-- it is the command of the task, with its paths, its numbers and its flags
abbrev pub IsMet : Option (Text × List Row) → Task → Type 0
IsMet met (run script after journal expected quiet calm) =
    (run_values_in met ≡ Some (codes "run", Some script ∷ after ∷ journal ∷ Some (flag_text expected) ∷ Some (flag_text quiet) ∷ Some (flag_text calm) ∷ [])) × MayBeQuiet journal expected quiet
IsMet met (threads script seed stop no_join journal) =
    (text : Text) × (threads_values_in met ≡ Some (codes "threads", Some script ∷ Some text ∷ Some (flag_text stop) ∷ Some (flag_text no_join) ∷ journal ∷ [])) × IsNumber 0 greatest_seed text seed
IsMet met (audit journal) = audit_values_in met ≡ Some (codes "audit", Some journal ∷ [])
IsMet met (history journal as_clients) = history_values_in met ≡ Some (codes "history", Some journal ∷ Some (flag_text as_clients) ∷ [])
IsMet met (state journal at) = (text : Option Text) × (state_values_in met ≡ Some (codes "state", Some journal ∷ text ∷ [])) × MayBeNumber 0 greatest_seed text at
IsMet met (judge t) =
    (text : Text) × (judge_values_in met ≡ Some (
      codes "judge",
      Some t.histories,
      map rule_text t.allowed,
      Some text ∷ t.explains ∷ Some (flag_text t.order) ∷ Some (flag_text t.go_on) ∷ Some (flag_text t.stats) ∷ Some (flag_text t.json) ∷ [],
    ))
    × IsNumber 1 greatest_seed text t.steps × MayJudge t

-- by the program's table of arguments nothing is wrong with the words, and they are the command of the task, with its paths, its numbers and its flags
pub record AsksFor (words : List Text) (task : Task) : Type 0 where
  pub taken : fault_of program_app words ≡ []
  pub met : IsMet (subcommand_of program_app words) task

-- the kind is no mistake: help or the version is shown
abbrev pub IsShown : ErrorKind → Type 0
IsShown kind = (kind ≡ DisplayHelp) ⊎ (kind ≡ DisplayVersion)

-- the words ask for help or for the version
abbrev pub AsksForHelp : List Text → Type 0
AsksForHelp words = (kind : ErrorKind) × IsAmong kind (fault_of program_app words) × IsShown kind

-- nothing is wrong with the words, but they ask for nothing that is served
abbrev pub AsksForNothing : List Text → Type 0
AsksForNothing words = (fault_of program_app words ≡ []) × ((task : Task) → AsksFor words task → ⊥)

-- something is wrong with the words by the table, or they ask for nothing that is served
abbrev pub AreWrong : List Text → Type 0
AreWrong words = ((kind : ErrorKind) × IsAmong kind (fault_of program_app words) × ¬ (IsShown kind)) ⊎ AsksForNothing words

-- why the words are no command line; memory may be short at any time
abbrev pub IsRefusal : List Text → Refusal → Type 0
IsRefusal words (Help text) = AsksForHelp words
IsRefusal words (Wrong text) = AreWrong words
IsRefusal words NotText = ⊥
IsRefusal words NoMemory = ⊤

-- the refusal that tells of an error of this kind; memory may be short at any time
abbrev pub IsOfKind : ErrorKind → Refusal → Type 0
IsOfKind kind (Help text) = IsShown kind
IsOfKind kind (Wrong text) = (kind ≢ OutOfMemory) × ¬ (IsShown kind)
IsOfKind kind NotText = ⊥
IsOfKind kind NoMemory = ⊤

-- an error of this kind may come of the words
abbrev pub IsKindOf : List Text → ErrorKind → Type 0
IsKindOf words kind = (kind ≡ OutOfMemory) ⊎ (IsAmong kind (fault_of program_app words) ⊎ (¬ (IsShown kind) × AsksForNothing words))

-- the line of what is met; none where nothing is that is served
abbrev pub IsLineOf : Option (Text × List Row) → Option CommandLine → Type 0
IsLineOf met result = MatchOption result ((task : Task) → IsMet met task → ⊥) (λ line. IsMet met (task_of line))

-- the number between the bounds that the text of the argument writes; none where it writes none
abbrev pub IsNumberOf : ℕ → ℕ → Option Text → Option ℕ → Type 0
IsNumberOf least greatest value result =
    MatchOption result ((text : Text) (number : ℕ) → value ≡ Some text → IsNumber least greatest text number → ⊥) (λ number. (text : Text) × (value ≡ Some text) × IsNumber least greatest text number)

-- the number that the argument has, if it has a value; none where its value writes none
abbrev pub MayBeNumberOf : ℕ → ℕ → Option Text → Option (Option ℕ) → Type 0
MayBeNumberOf least greatest value result = MatchOption result ((number : Option ℕ) → MayBeNumber least greatest value number → ⊥) (λ number. MayBeNumber least greatest value number)

-- the flag whose text the argument has
abbrev pub IsFlagOf : Option Text → Option Bool → Type 0
IsFlagOf value result = MatchOption result ((flag : Bool) → value ≡ Some (flag_text flag) → ⊥) (λ flag. value ≡ Some (flag_text flag))

-- the rule of the word
abbrev pub IsRuleOf : Text → Option AllowedRule → Type 0
IsRuleOf word result = MatchOption result ((rule : AllowedRule) → word ≡ rule_text rule → ⊥) (λ rule. word ≡ rule_text rule)

-- the rules of the words; none where one of them is no rule's
abbrev pub AreRulesOf : List Text → Option (Vec AllowedRule Global) → Type 0
AreRulesOf words result = MatchOption result ((rules : List AllowedRule) → words ≡ map rule_text rules → ⊥) (λ rules. words ≡ map rule_text rules.items)
