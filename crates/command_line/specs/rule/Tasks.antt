-- What a line may ask for.
use Rattle.std.specs.Prelude.{ℕ, ◌≡◌, ◌≢◌, Bool, false, List, Option, Some, None, [], codes, length, map, option_map, ⊤, true}
use Rattle.clap.specs.Words.{Text}
use Rattle.command_line.specs.declared.judge_line.JudgeLine.{JudgeLine}
use Rattle.command_line.specs.declared.judge_line.AllowedRule.{AllowedRule}
use Rattle.command_line.specs.declared.judge_line.AllowedRule.TheVariants.{WaitDrops, CloseOwnDescriptor, NoQuery, StaleReadDenial, LostAt}
use Rattle.command_line.specs.declared.command_line.CommandLine.{CommandLine}
use Rattle.command_line.specs.declared.command_line.RunLine.{RunLine}
use Rattle.command_line.specs.declared.command_line.ThreadsLine.{ThreadsLine}
use Rattle.command_line.specs.declared.command_line.CommandLine.TheVariants.{Run, Threads, Audit, History, State, Judge}

-- to judge the histories of these paths, looking at so many tables for each file at most, or by the order that the other path names, if there is one; to allow these rules; to print orders, to go on behind what fits nowhere, and to print counts, if that is asked for; as JSON, if that is
pub record JudgeTask : Type 0 where
  pub histories : List Text
  pub steps : ℕ
  pub explains : Option Text
  pub allowed : List AllowedRule
  pub order : Bool
  pub go_on : Bool
  pub stats : Bool
  pub json : Bool

abbrev pub judge_task_of : JudgeLine → JudgeTask
judge_task_of line = record {
  histories = map (λ history. history.now) line.histories.items;
  steps = line.steps;
  explains = option_map (λ file. file.now) line.explains;
  allowed = line.allowed.items;
  order = line.order;
  go_on = line.go_on;
  stats = line.stats;
  json = line.json;
}

-- the word that asks for a rule
abbrev pub rule_text : AllowedRule → Text
rule_text WaitDrops = codes "wait-drops"
rule_text CloseOwnDescriptor = codes "close-own-descriptor"
rule_text NoQuery = codes "no-query"
rule_text StaleReadDenial = codes "stale-read-denial"
rule_text LostAt = codes "lost-at"

-- how many tables of a file are looked at where that is left out
abbrev pub default_steps : ℕ
default_steps = 10000000

-- a history is judged by an order alone: nothing is searched
abbrev pub MayExplain : Option Text → JudgeTask → Type 0
MayExplain None t = t.histories ≢ []
MayExplain (Some file) t = (length t.histories ≡ 1) × (t.steps ≡ default_steps) × (t.order ≡ false) × (t.go_on ≡ false)

abbrev pub MayJudge : JudgeTask → Type 0
MayJudge t = MayExplain t.explains t

-- what is to be done, with the paths of the files that are named
pub data Task : Type 0 where
  -- to run the script of the first path, behind the journal of the second, if there is one, to write the journal to the third, if there is one, to compare the replies with what the script expects, to leave the listing away, and to go on behind the script until the run is calm, each if that is asked for
  run : Text → Option Text → Option Text → Bool → Bool → Bool → Task
  -- to run the script of the first path on threads, with this seed, to end the run where it is stuck and to make lines of failures and starts beside open calls, if that is asked for, and to write the journal to the second, if there is one
  threads : Text → ℕ → Bool → Bool → Option Text → Task
  -- to say whether the journal is one of a run
  audit : Text → Task
  -- to print the history of the journal, or what its clients saw, if that is asked for
  history : Text → Bool → Task
  -- to show what the cluster of the journal holds behind this entry, or behind the last
  state : Text → Option ℕ → Task
  -- to judge histories
  judge : JudgeTask → Task

-- of a run, also on threads
abbrev pub run_task_of : RunLine → Task
run_task_of line = run line.script.now (option_map (λ file. file.now) line.after) (option_map (λ file. file.now) line.journal) line.expect line.quiet line.calm

abbrev pub threads_task_of : ThreadsLine → Task
threads_task_of line = threads line.script.now line.seed line.stop_when_stuck line.no_join (option_map (λ file. file.now) line.journal)

abbrev pub task_of : CommandLine → Task
task_of (Run line) = run_task_of line
task_of (Threads line) = threads_task_of line
task_of (Audit journal) = audit journal.now
task_of (History journal as_clients) = history journal.now as_clients
task_of (State journal at) = state journal.now at
task_of (Judge line) = judge (judge_task_of line)

-- the path of the file to which the journal of a run is written
abbrev pub journal_path : Task → Option Text
journal_path (run script after to expected quiet calm) = to
journal_path (threads script seed stop no_join to) = to
journal_path (audit journal) = None
journal_path (history journal as_clients) = None
journal_path (state journal at) = None
journal_path (judge t) = None

-- the greatest seed, which has 32 bits; of entries and of tables that are counted there are no more
abbrev pub greatest_seed : ℕ
greatest_seed = 4294967295

-- the listing of a run may be left away where its journal is kept, or its replies are compared with what is expected
abbrev pub MayBeQuiet : Option Text → Bool → Bool → Type 0
MayBeQuiet journal expected false = ⊤
MayBeQuiet None false true = ⊥
MayBeQuiet None true true = ⊤
MayBeQuiet (Some path) expected true = ⊤
