-- What a line does, and what it is answered.
use Rattle.std.proofs.Common.{◌≡◌, ℕ, ◌+◌, ◌≤◌, Some, ap, ap₂, ◌∙◌, arith, List, ◌++◌, length, length-append, length-drop, drop}
use Rattle.std.proofs.lemmas.List.Prefix.{front_rest}
use Rattle.messages.specs.declared.entry.Entry.{Entry}
use Rattle.lockscript.specs.declared.refused_line.RefusedLine.{RefusedLine}
use Rattle.lockscript.specs.declared.script_line.ScriptCommand.{ScriptCommand}
use Rattle.lockscript.specs.rule.Scripts.{IsLine, command_text}
use Rattle.player.specs.rule.Progress.{Does, Progress}
use Rattle.line_play.specs.rule.Answers.{PlaysTo, answer_text}
use Rattle.line_play.proofs.Additions.{does_add}

-- a line that is played is answered with what was added to the run
pub plays_to : (number : ℕ) (line : List ℕ) (command : ScriptCommand) (from to : Progress) → IsLine (record { number = number; command = command }) → line ≡ command_text command
    → Does number command from (Some to)
    → PlaysTo number line from (answer_text command (length from.entries) (drop (length from.entries) to.entries) (drop (length from.refused) to.refused)) to
plays_to number line command from to is_line text does =
    let a = does_add number command from to does in
    let own : List Entry → List RefusedLine → List ℕ = λ es rs. answer_text command (length from.entries) es rs in
    record {
      command = command;
      is_line = is_line;
      text = text;
      does = does;
      adds = a;
      says = ap₂ own (front_rest to.entries from.entries a.entries a.entries_are) (front_rest to.refused from.refused a.refused a.refused_are);
    }

longer : {A : Type 0} (xs ys zs : List A) → zs ≡ xs ++ ys → length xs ≤ length zs
longer xs ys zs is = let n = ap length is ∙ length-append xs ys in omega (arith, n)

-- no entry goes
pub entries_stay : (number : ℕ) (command : ScriptCommand) (from to : Progress) → Does number command from (Some to) → length from.entries ≤ length to.entries
entries_stay number command from to does = let a = does_add number command from to does in longer from.entries a.entries to.entries a.entries_are

-- no refusal goes
pub refusals_stay : (number : ℕ) (command : ScriptCommand) (from to : Progress) → Does number command from (Some to) → length from.refused ≤ length to.refused
refusals_stay number command from to does = let a = does_add number command from to does in longer from.refused a.refused to.refused a.refused_are

-- so many entries, and those behind them, are all
pub count_all : {A : Type 0} (before : ℕ) (xs : List A) → before ≤ length xs → before + length (drop before xs) ≡ length xs
count_all before xs within = let n = length-drop before xs in omega (arith, within, n)
