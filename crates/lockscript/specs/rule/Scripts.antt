-- Scripts, their lines, and their first bad lines.
use Rattle.std.specs.Prelude.{◌≡◌, ◌≢◌, ℕ, false, List, [], ◌∷◌, ◌++◌, All, map, codes, decimal, ⊤}
use Rattle.model.specs.rule.Limits.{IsNumber, most_nodes, most_processes}
use Rattle.lockscript.specs.declared.script_line.ScriptCommand.{ScriptCommand}
use Rattle.lockscript.specs.declared.script_line.ScriptCommand.TheVariants.{Call, Deliver, Lose, Settle, Interrupt, Retry, Resend, Declare, Restart, Learn, FailServer, StartServer}
use Rattle.lockscript.specs.declared.error.ParseError.{ParseError}
use Rattle.lockscript.specs.declared.error.ParseError.TheVariants.{NoMemory, BadLine}
use Rattle.messages.specs.rule.Shapes.{ShapeFields, IsShape, most_files}
use Rattle.messages.specs.declared.version.Version.{Version}
use Rattle.messages.specs.declared.version.Version.TheVariants.{Second}
use Rattle.cluster_core.specs.rule.World.{most_incarnations}
use Rattle.texts.specs.rule.Reads.{pair_text}
use Rattle.lockscript.specs.rule.Texts.{op_text}
use Rattle.texts.specs.rule.Words.{policy_text}
use Rattle.lockscript.specs.rule.Served.{IsServedOp}
use Rattle.texts.specs.rule.FirstBadLine.{IsFirstBadOf}
use Rattle.texts.specs.rule.LineFeeds.{line_feeds, is_skipped, kept_lines, BeginsWithLine, PassesLines}

pub record LineFields : Type 0 where
  pub number : ℕ
  pub command : ScriptCommand

abbrev pub command_text : ScriptCommand → List ℕ
command_text (Call node pid op) = codes "call " ++ pair_text decimal (pair_text decimal op_text) (node, (pid, op))
command_text (Interrupt node pid) = codes "interrupt " ++ pair_text decimal decimal (node, pid)
command_text (Retry node pid) = codes "retry " ++ pair_text decimal decimal (node, pid)
command_text Settle = codes "settle"
command_text (Deliver message) = codes "deliver " ++ decimal message
command_text (Lose message) = codes "lose " ++ decimal message
command_text (Resend file) = codes "resend " ++ decimal file
command_text (Declare node) = codes "declare " ++ decimal node
command_text (Restart node) = codes "restart " ++ decimal node
command_text (FailServer file) = codes "fail-server " ++ decimal file
command_text (StartServer file) = codes "start-server " ++ decimal file
command_text (Learn file node incarnation) = codes "learn " ++ pair_text decimal (pair_text decimal decimal) (file, (node, incarnation))

-- the shape of a cluster that there may be, of this version
pub record IsShapeOf (version : Version) (s : ShapeFields) : Type 0 where
  pub is_shape : IsShape s
  pub is_version : s.version ≡ version

-- the shape of a script's cluster, which is of version 2
abbrev pub IsScriptShape : ShapeFields → Type 0
IsScriptShape = IsShapeOf Second

-- the operands of the cluster line: `N files F policy P`
abbrev pub counts_text : ShapeFields → List ℕ
counts_text s = decimal s.nodes ++ codes " files " ++ decimal s.files ++ codes " policy " ++ policy_text s.policy

-- the cluster line, the first line of a script that isn't skipped: `cluster nodes N files F policy P`
abbrev pub shape_text : ShapeFields → List ℕ
shape_text s = codes "cluster nodes " ++ counts_text s

-- the greatest number of a message that a line can name
abbrev pub greatest_message : ℕ
greatest_message = 4294967295

-- a command that a line may give: its numbers are within their limits
abbrev pub IsCommand : ScriptCommand → Type 0
IsCommand (Call node pid op) = IsNumber most_nodes node × IsNumber most_processes pid × IsServedOp op
IsCommand (Interrupt node pid) = IsNumber most_nodes node × IsNumber most_processes pid
IsCommand (Retry node pid) = IsNumber most_nodes node × IsNumber most_processes pid
IsCommand Settle = ⊤
IsCommand (Deliver message) = IsNumber greatest_message message
IsCommand (Lose message) = IsNumber greatest_message message
IsCommand (Resend file) = IsNumber most_files file
IsCommand (Declare node) = IsNumber most_nodes node
IsCommand (Restart node) = IsNumber most_nodes node
IsCommand (FailServer file) = IsNumber most_files file
IsCommand (StartServer file) = IsNumber most_files file
IsCommand (Learn file node incarnation) = IsNumber most_files file × IsNumber most_nodes node × IsNumber most_incarnations incarnation

-- the greatest number of a line that listings can name, which has 32 bits
abbrev pub greatest_line : ℕ
greatest_line = 4294967295

pub record IsLine (l : LineFields) : Type 0 where
  pub counted : IsNumber greatest_line l.number
  pub within : IsCommand l.command

-- a script: the shape of a cluster, and the lines to run on it
pub record ScriptFields : Type 0 where
  pub shape : ShapeFields
  pub lines : List LineFields

-- the number of a line of a script, and its text
abbrev pub line_text : LineFields → ℕ × List ℕ
line_text l = (l.number, command_text l.command)

-- the lines that aren't skipped, with their numbers, are the cluster line and the lines of the script
pub record Writes (kept : List (ℕ × List ℕ)) (s : ScriptFields) : Type 0 where
  pub cluster_line : ℕ
  pub texts : kept ≡ (cluster_line, shape_text s.shape) ∷ map line_text s.lines
  pub shape_in : IsScriptShape s.shape
  pub lines_in : All IsLine s.lines

-- the text begins with the whole lines of this script, and then has the rest
pub record Begun (text : List ℕ) (s : ScriptFields) (rest : List ℕ) (passed : ℕ) : Type 0 where
  pub kept : List (ℕ × List ℕ)
  pub passes : PassesLines text 0 kept rest passed
  pub writes : Writes kept s

-- the script of this shape and these lines
abbrev pub script_of : ShapeFields → List LineFields → ScriptFields
script_of shape lines = record { shape = shape; lines = lines }

-- the text is that of this script
pub record IsScript (text : List ℕ) (s : ScriptFields) : Type 0 where
  pub kept : List (ℕ × List ℕ)
  pub passed : ℕ
  pub whole : PassesLines text 0 kept [] passed
  pub writes : Writes kept s

-- the line names no shape that a cluster may have
abbrev pub IsNoShape : List ℕ → Type 0
IsNoShape line = (s : ShapeFields) → IsScriptShape s → line ≢ shape_text s

-- the line gives no command, or its number is too great to be listed
abbrev pub IsNoLine : ℕ → List ℕ → Type 0
IsNoLine number line = (l : LineFields) → IsLine l → (number, line) ≢ line_text l

-- the line may not stand behind the lines `kept`, which aren't skipped
abbrev pub IsMisplaced : List (ℕ × List ℕ) → ℕ → List ℕ → Type 0
IsMisplaced [] number line = IsNoShape line
IsMisplaced (first ∷ more) number line = IsNoLine number line

-- the line of this number, with which the rest begins, is bad behind the lines `kept`, which aren't skipped: the text ends without a cluster line,
-- the line has no line feed, or it isn't skipped and may not stand there
pub data IsBad (kept : List (ℕ × List ℕ)) (number : ℕ) (rest : List ℕ) : Type 0 where
  has_no_cluster : kept ≡ [] → rest ≡ [] → IsBad kept number rest
  has_no_end : rest ≢ [] → line_feeds rest ≡ 0 → IsBad kept number rest
  stands_wrong : (line after : List ℕ) → BeginsWithLine rest line after → is_skipped line ≡ false → IsMisplaced kept number line → IsBad kept number rest

-- the lines, skipped ones among them, are the lines of some script
abbrev pub AreScript : List (List ℕ) → Type 0
AreScript lines = (s : ScriptFields) × Writes (kept_lines 1 lines) s

-- the line of this number is the first bad one
abbrev pub IsFirstBad : List ℕ → ℕ → Type 0
IsFirstBad = IsFirstBadOf AreScript

-- the error has the number of the first bad line
abbrev pub IsBadLine : List ℕ → ParseError → Type 0
IsBadLine text NoMemory = ⊥
IsBadLine text (BadLine number) = IsFirstBad text number

-- the error has the number of the first bad line, and only skipped lines stand before it
abbrev pub IsBadFirst : List ℕ → ParseError → Type 0
IsBadFirst text NoMemory = ⊥
IsBadFirst text (BadLine number) = (bad : IsFirstBad text number) × (kept_lines 1 bad.lines ≡ [])

-- the text is that of some script
abbrev pub HasScript : List ℕ → Type 0
HasScript text = (s : ScriptFields) × IsScript text s

-- the text is no script for this reason, or it is one for which there was no memory
abbrev pub IsRefused : List ℕ → ParseError → Type 0
IsRefused text NoMemory = HasScript text
IsRefused text (BadLine number) = IsFirstBad text number
