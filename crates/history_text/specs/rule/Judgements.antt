-- What the judgement of a client history says.
use Rattle.std.specs.Prelude.{◌≡◌, ℕ, ⊤, List, All, Any}
use Rattle.client_history.specs.declared.client_call.ClientCall.{ClientCall}
use Rattle.client_history.specs.rule.Explained.{always, IsExplainedBy}
use Rattle.history_text.specs.declared.file_calls.FileCalls.{FileCalls}
use Rattle.history_text.specs.declared.written_history.WrittenHistory.{WrittenHistory}
use Rattle.history_text.specs.declared.rule.Allowed.{Allowed}
use Rattle.history_text.specs.rule.Histories.{IsHistoryOf}
use Rattle.history_text.specs.declared.judged.Judged.{Judged}
use Rattle.history_text.specs.declared.judged.Judged.TheVariants.{Explained, Contradicted, Unknown}
use Rattle.history_text.specs.declared.judging.JudgementOutcome.{JudgementOutcome}
use Rattle.history_text.specs.declared.judging.JudgementOutcome.TheVariants as outcome

-- an order of the calls of the file explains them
abbrev pub IsExplained : FileCalls → Type 0
IsExplained file = (order : List ℕ) × IsExplainedBy always file.calls.items order

-- no order of the calls explains them
abbrev pub IsContradicted : List ClientCall → Type 0
IsContradicted calls = (order : List ℕ) → IsExplainedBy always calls order → ⊥

-- what is found of the calls is true
abbrev pub IsJudged : List ClientCall → Judged → Type 0
IsJudged calls (Explained order) = IsExplainedBy always calls order.items
IsJudged calls (Contradicted misfits unknown) = IsContradicted calls
IsJudged calls (Unknown line) = ⊤

-- the finding on the calls of a file, in a word
abbrev pub outcome_of : Judged → JudgementOutcome
outcome_of (Explained order) = outcome.Yes
outcome_of (Contradicted misfits unknown) = outcome.No
outcome_of (Unknown line) = outcome.Unknown

-- no clock of a machine is off
abbrev pub HasOneClock : WrittenHistory → Type 0
HasOneClock history = All (λ machine. machine.skew ≡ 0) history.machines.items

-- the outcome is true of a history with one clock: orders explain all its files, or none does one of them
abbrev pub IsOutcome : WrittenHistory → JudgementOutcome → Type 0
IsOutcome history outcome.Yes = HasOneClock history → All IsExplained history.files.items
IsOutcome history outcome.Unknown = ⊤
IsOutcome history outcome.No = HasOneClock history → Any (λ file. IsContradicted file.calls.items) history.files.items

-- the outcome is true of a history that the text writes, where these rules are allowed
abbrev pub IsJudgement : Allowed → List ℕ → JudgementOutcome → Type 0
IsJudgement allowed text said = (history : WrittenHistory) × IsHistoryOf allowed text history × IsOutcome history said

-- the outcome by given orders is true of a history with one clock; where they don't explain it, others may
abbrev pub IsOrderedBy : WrittenHistory → JudgementOutcome → Type 0
IsOrderedBy history outcome.Yes = HasOneClock history → All IsExplained history.files.items
IsOrderedBy history outcome.Unknown = ⊥
IsOrderedBy history outcome.No = ⊤

abbrev pub IsOrdered : Allowed → List ℕ → JudgementOutcome → Type 0
IsOrdered allowed text said = (history : WrittenHistory) × IsHistoryOf allowed text history × IsOrderedBy history said
