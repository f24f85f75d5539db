-- What is said of histories of files.
use Rattle.std.specs.Prelude.{◌≡◌, ◌⊎◌, ℕ, true, false, fold, List, All, Any, Contains, Option, Some, None, String}
use Rattle.std.specs.Global.{Global}
use Rattle.command_line.specs.declared.judge_line.AllowedRule.{AllowedRule}
use Rattle.command_line.specs.declared.judge_line.AllowedRule.TheVariants.{WaitDrops, CloseOwnDescriptor, NoQuery, StaleReadDenial, LostAt}
use Rattle.history_text.specs.declared.written_history.WrittenHistory.{WrittenHistory}
use Rattle.history_text.specs.declared.rule.Allowed.{Allowed}
use Rattle.history_text.specs.rule.Histories.{IsHistoryOf}
use Rattle.history_text.specs.declared.judging.JudgementOutcome.{JudgementOutcome}
use Rattle.history_text.specs.declared.judging.JudgementOutcome.TheVariants as outcome
use Rattle.history_text.specs.rule.Judgements.{IsJudgement, IsOrdered}
use Rattle.replay.specs.declared.shown.Shown.{Shown}
use Rattle.replay.specs.declared.shown.Shown.TheVariants.{Text, Wanting, Undecided}
use Rattle.replay.specs.rule.Stores.{Files, HasText}

-- no rule is allowed
abbrev pub no_rule : Allowed
no_rule = record { wait_drops = false; close_own_descriptor = false; no_query = false; stale_read_denial = false; lost_at = false }

-- and one more
abbrev pub with_asked : Allowed → AllowedRule → Allowed
with_asked allowed WaitDrops = record allowed { wait_drops = true }
with_asked allowed CloseOwnDescriptor = record allowed { close_own_descriptor = true }
with_asked allowed NoQuery = record allowed { no_query = true }
with_asked allowed StaleReadDenial = record allowed { stale_read_denial = true }
with_asked allowed LostAt = record allowed { lost_at = true }

-- those that are asked for
abbrev pub allowed_of : List AllowedRule → Allowed
allowed_of rules = fold with_asked no_rule rules

-- the file has a history, where these rules are allowed
abbrev pub HasHistoryAt : Allowed → Files → List ℕ → Type 0
HasHistoryAt allowed old path = HasText (old path) (λ text. (history : WrittenHistory) × IsHistoryOf allowed text history)

-- this is said of the history that a text writes, and is so; where a file of orders is given, it is said by these
abbrev pub IsSaidIn : Allowed → Option (List ℕ) → List ℕ → JudgementOutcome → Type 0
IsSaidIn allowed None text said = IsJudgement allowed text said
IsSaidIn allowed (Some orders) text said = IsOrdered allowed text said

-- of the history of a file
abbrev pub IsSaidOf : Allowed → Option (List ℕ) → Files → JudgementOutcome → List ℕ → Type 0
IsSaidOf allowed orders old said path = HasText (old path) (λ text. IsSaidIn allowed orders text said)

-- what is shown where this is said of all histories
abbrev pub shown_of : JudgementOutcome → String Global → Shown
shown_of outcome.Yes text = Text text
shown_of outcome.Unknown text = Undecided text
shown_of outcome.No text = Wanting text

-- what is shown of histories, as they are read where these rules are allowed: each is explained; or one is not; or of neither it is known
abbrev pub AreJudged : Files → Allowed → List (List ℕ) → Option (List ℕ) → Shown → Type 0
AreJudged old allowed paths orders (Text text) = All (IsSaidOf allowed orders old outcome.Yes) paths
AreJudged old allowed paths orders (Wanting text) = All (HasHistoryAt allowed old) paths × Any (IsSaidOf allowed orders old outcome.No) paths
AreJudged old allowed paths orders (Undecided text) = All (HasHistoryAt allowed old) paths
AreJudged old allowed paths orders shown = ⊥

-- the path is that of a history, or of the orders
abbrev pub IsJudgedWith : List (List ℕ) → Option (List ℕ) → List ℕ → Type 0
IsJudgedWith paths orders path = Contains paths path ⊎ (orders ≡ Some path)
