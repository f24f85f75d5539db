-- Lines of scripts that threads take, and texts of scripts that have only such lines.
use Rattle.std.specs.Prelude.{◌≡◌, ℕ, List, Bool, true, false, not, Option, None, find}
use Rattle.std.specs.Option.{option_map}
use Rattle.texts.specs.rule.FirstBadLine.{IsFirstBadOf}
use Rattle.texts.specs.rule.LineFeeds.{kept_lines}
use Rattle.lockscript.specs.rule.Scripts.{IsScript, LineFields, ScriptFields, Writes}
use Rattle.lockscript.specs.declared.error.ParseError.{ParseError}
use Rattle.lockscript.specs.declared.error.ParseError.TheVariants.{NoMemory, BadLine}
use Rattle.lockscript.specs.declared.script_line.ScriptCommand.{ScriptCommand}
use Rattle.lockscript.specs.declared.script_line.ScriptCommand.TheVariants.{Call, Deliver, Lose, Settle, Interrupt, Retry, Resend, Declare, Restart, Learn, FailServer, StartServer}

-- whether threads take a line with this command
abbrev pub is_for_threads : ScriptCommand → Bool
is_for_threads (Call node pid op) = true
is_for_threads (Interrupt node pid) = false
is_for_threads (Retry node pid) = false
is_for_threads Settle = true
is_for_threads (Deliver message) = false
is_for_threads (Lose message) = false
is_for_threads (Resend file) = false
is_for_threads (Declare node) = true
is_for_threads (Restart node) = true
is_for_threads (FailServer file) = true
is_for_threads (StartServer file) = true
is_for_threads (Learn file node incarnation) = false

-- the number of the first line that threads don't take, if there is one
abbrev pub bad_line : List LineFields → Option ℕ
bad_line lines = option_map (λ l. l.number) (find (λ l. not (is_for_threads l.command)) lines)

-- the text is that of this script, and threads take each of its lines
abbrev pub IsForThreads : List ℕ → ScriptFields → Type 0
IsForThreads text s = IsScript text s × (bad_line s.lines ≡ None)

-- the lines are the lines of some script, each of which threads take
abbrev pub AreForThreads : List (List ℕ) → Type 0
AreForThreads lines = (s : ScriptFields) × Writes (kept_lines 1 lines) s × (bad_line s.lines ≡ None)

-- the line of this number is the first bad one in a text that has to be for threads
abbrev pub IsBadOnThreads : List ℕ → ℕ → Type 0
IsBadOnThreads = IsFirstBadOf AreForThreads

-- the text is no script for threads for this reason, or it is one for which there was no memory
abbrev pub IsRefusedOnThreads : List ℕ → ParseError → Type 0
IsRefusedOnThreads text NoMemory = (s : ScriptFields) × IsForThreads text s
IsRefusedOnThreads text (BadLine number) = IsBadOnThreads text number
