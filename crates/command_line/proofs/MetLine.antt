-- The line of the command that a parse entered.
use Rattle.std.proofs.Common.{subst, List, Option, None, Some, ◌≡◌, option_map}
use Rattle.clap.specs.Words.{Row, Text}
use Rattle.command_line.specs.rule.Words.{IsLineOf}
use Rattle.command_line.specs.declared.command_line.CommandLine.{CommandLine}

-- a line of what is read under this word is one of the command whose name is the word
pub line_met : {A : Type 0} (name_at : A → Text) (rows_at : A → List Row) (entered : Option A) (name word : Text) (rows : List Row) (line : Option CommandLine) →
    Some name ≡ option_map name_at entered → Some rows ≡ option_map (λ (read : Text × List Row). read.1) (option_map (λ a. (name_at a, rows_at a)) entered) → name ≡ word →
    IsLineOf (Some (word, rows)) line → IsLineOf (option_map (λ a. (name_at a, rows_at a)) entered) line
line_met name_at rows_at None name word rows line named has is met = cc
line_met name_at rows_at (Some a) name word rows line named has is met =
    let same : (word, rows) ≡ (name_at a, rows_at a) = cc in
    subst (λ (read : Text × List Row). IsLineOf (Some read) line) same met
