-- What the lines of a script are answered, each as it comes and all together, and why a line is not.
use Rattle.std.specs.Prelude.{◌≡◌, ◌⊎◌, ℕ, ◌+◌, true, false, List, [], ◌++◌, Option, Some, None, codes, decimal, flat_map, length, ⊤, ◌<◌, IsUtf8, ◌∷◌}
use Rattle.texts.specs.rule.LineFeeds.{is_skipped, kept_lines}
use Rattle.messages.specs.declared.entry.Entry.{Entry}
use Rattle.messages.specs.declared.version.Version.TheVariants.{Second}
use Rattle.messages.specs.rule.Shapes.{ShapeFields}
use Rattle.lockscript.specs.declared.refused_line.RefusedLine.{RefusedLine}
use Rattle.lockscript.specs.declared.script_line.ScriptCommand.{ScriptCommand}
use Rattle.lockscript.specs.declared.script_line.ScriptCommand.TheVariants.{Settle}
use Rattle.lockscript.specs.rule.Scripts.{IsLine, IsScriptShape, command_text, shape_text, IsNoLine, IsNoShape, LineFields, Writes, script_of}
use Rattle.journal_text.specs.rule.Journals.{end_text, entries_text, head_text}
use Rattle.player.specs.rule.Progress.{Does, Progress, first_progress, RunsTo}
use Rattle.lockscript.specs.declared.play_error.PlayError.{PlayError}
use Rattle.lockscript.specs.declared.play_error.PlayError.TheVariants as error
use Rattle.seat_text.specs.rule.Talks.{longest_line, Answers}
use Rattle.line_play.specs.declared.stop.Stop.{Stop}
use Rattle.line_play.specs.declared.stop.Stop.TheVariants.{BadLine, JournalFull, NoMemory}
use Rattle.cluster_core.specs.rule.Runs.{Leads}
use Rattle.cluster_core.specs.rule.World.{first_world}

-- how far a script was played: how many lines came, and where the run stands, once the cluster line came
pub record Stage : Type 0 where
  pub lines : ℕ
  pub run : Option Progress

abbrev pub first_stage : Stage
first_stage = record { lines = 0; run = None }

-- the line that tells how many entries the run has
abbrev pub end_line : ℕ → List ℕ
end_line count = end_text count ++ codes "\n"

-- the line of a refusal
abbrev pub refused_line : RefusedLine → List ℕ
refused_line r = codes "refused " ++ decimal r.code ++ codes "\n"

-- the last line, which is left out where the event of the line was refused; a `settle` may refuse messages, and is none
abbrev pub closing : ScriptCommand → List RefusedLine → ℕ → List ℕ
closing command [] count = end_line count
closing Settle refused count = end_line count
closing command refused count = []

-- what a line adds to a run: entries, and refusals
pub record Adds (from to : Progress) : Type 0 where
  pub entries : List Entry
  pub refused : List RefusedLine
  pub entries_are : to.entries ≡ from.entries ++ entries
  pub refused_are : to.refused ≡ from.refused ++ refused

-- the answer to the cluster line: the head of a journal that has no entry yet
abbrev pub first_answer : ShapeFields → List ℕ
first_answer shape = head_text shape ++ codes "\n" ++ end_line 0

-- the answer to a line with this command, which added these entries to so many, and these refusals
abbrev pub answer_text : ScriptCommand → ℕ → List Entry → List RefusedLine → List ℕ
answer_text command before entries refused =
    entries_text Second (before + 1) entries ++ flat_map refused_line refused ++ closing command refused (before + length entries)

-- the line is one of a script, with this number, and its command leads from one progress to the other; that is what it is answered
pub record PlaysTo (number : ℕ) (line : List ℕ) (from : Progress) (said : List ℕ) (to : Progress) : Type 0 where
  pub command : ScriptCommand
  pub is_line : IsLine (record { number = number; command = command })
  pub text : line ≡ command_text command
  pub does : Does number command from (Some to)
  pub adds : Adds from to
  pub says : said ≡ answer_text command (length from.entries) adds.entries adds.refused

-- the line is skipped, and has no answer
pub record Skips (a : Stage) (line said : List ℕ) (b : Stage) : Type 0 where
  pub skipped : is_skipped line ≡ true
  pub silent : said ≡ []
  pub goes_on : b ≡ record a { lines = a.lines + 1 }

-- the line is the cluster line: the run begins
pub record Begins (a : Stage) (line said : List ℕ) (b : Stage) : Type 0 where
  pub shape : ShapeFields
  pub kept : is_skipped line ≡ false
  pub first : a.run ≡ None
  pub within : IsScriptShape shape
  pub text : line ≡ shape_text shape
  pub says : said ≡ first_answer shape
  pub goes_on : b ≡ record { lines = a.lines + 1; run = Some (first_progress shape) }

-- the line gives a command, by which the run goes on
pub record Plays (a : Stage) (line said : List ℕ) (b : Stage) : Type 0 where
  pub from : Progress
  pub to : Progress
  pub kept : is_skipped line ≡ false
  pub there : a.run ≡ Some from
  pub plays : PlaysTo (a.lines + 1) line from said to
  pub goes_on : b ≡ record { lines = a.lines + 1; run = Some to }

-- what a line is answered, and how far the script was played then
abbrev pub Says : Stage → List ℕ → List ℕ → Stage → Type 0
Says a line said b = Skips a line said b ⊎ (Begins a line said b ⊎ Plays a line said b)

abbrev pub stop_of : PlayError → Stop
stop_of error.NoMemory = NoMemory
stop_of error.JournalFull = JournalFull

-- a line of this number, which isn't skipped, may not stand where the run stands so
abbrev pub IsMisplaced : Option Progress → ℕ → List ℕ → Type 0
IsMisplaced None number line = IsNoShape line
IsMisplaced (Some from) number line = IsNoLine number line

-- the line is too long, or no text, or it isn't skipped and may not stand there
abbrev pub IsBad : Stage → List ℕ → Type 0
IsBad a line = (longest_line < length line) ⊎ ((¬ IsUtf8 line) ⊎ ((is_skipped line ≡ false) × IsMisplaced a.run (a.lines + 1) line))

-- the line of this number has a command that needs an entry for which a journal has no room
pub record Fills (number : ℕ) (line : List ℕ) (from : Progress) : Type 0 where
  pub command : ScriptCommand
  pub is_line : IsLine (record { number = number; command = command })
  pub text : line ≡ command_text command
  pub does : Does number command from None

-- why a line of this number, which isn't skipped, stops a run that stands there
abbrev pub StopsRun : ℕ → List ℕ → Progress → Stop → Type 0
StopsRun number line from (BadLine bad) = (bad ≡ number) × IsNoLine number line
StopsRun number line from JournalFull = Fills number line from
StopsRun number line from NoMemory = ⊤

-- why a line of this number, which isn't skipped, is no cluster line
abbrev pub StopsBegin : ℕ → List ℕ → Stop → Type 0
StopsBegin number line (BadLine bad) = (bad ≡ number) × IsNoShape line
StopsBegin number line JournalFull = ⊥
StopsBegin number line NoMemory = ⊤

-- why the line is not answered; a lack of memory says nothing of the line
abbrev pub StopsAt : Stage → List ℕ → Stop → Type 0
StopsAt a line (BadLine bad) = (bad ≡ a.lines + 1) × IsBad a line
StopsAt a line JournalFull = (from : Progress) × (is_skipped line ≡ false) × (a.run ≡ Some from) × Fills (a.lines + 1) line from
StopsAt a line NoMemory = ⊤

-- what a line of a script made: its command, the entries, and the refusals
pub record Part : Type 0 where
  pub command : ScriptCommand
  pub entries : List Entry
  pub refused : List RefusedLine

-- the answers to lines with commands, the first behind so many entries
abbrev pub answers_text : ℕ → List Part → List ℕ
answers_text before [] = []
answers_text before (part ∷ parts) = answer_text part.command before part.entries part.refused ++ answers_text (before + length part.entries) parts

-- the lines that aren't skipped are a script, which comes to this progress; what was said to them has its entries, each once and in order, and they are a run
pub record IsTranscript (lines : List (List ℕ)) (said : List ℕ) (to : Progress) : Type 0 where
  pub shape : ShapeFields
  pub commands : List LineFields
  pub parts : List Part
  pub script : Writes (kept_lines 1 lines) (script_of shape commands)
  pub comes_to : RunsTo (first_progress shape) commands (Some to)
  pub said_is : said ≡ first_answer shape ++ answers_text 0 parts
  pub entries : flat_map (λ part. part.entries) parts ≡ to.entries
  pub refused : flat_map (λ part. part.refused) parts ≡ to.refused
  pub run : Leads (first_world shape) to.entries to.world

-- where no cluster line came, all lines were skipped, and nothing was said
pub record IsSilent (lines : List (List ℕ)) (said : List ℕ) : Type 0 where
  pub skipped : kept_lines 1 lines ≡ []
  pub silent : said ≡ []

abbrev pub IsPlayed : List (List ℕ) → List ℕ → Option Progress → Type 0
IsPlayed lines said None = IsSilent lines said
IsPlayed lines said (Some to) = IsTranscript lines said to

-- whatever lines were answered, they were played so
abbrev pub AnswersArePlayed : Type 0
AnswersArePlayed = (lines : List (List ℕ)) (said : List ℕ) (z : Stage) → Answers Says first_stage lines said z → (z.lines ≡ length lines) × IsPlayed lines said z.run
