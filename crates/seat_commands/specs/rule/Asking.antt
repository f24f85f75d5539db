-- What the words of a command line ask for.
use Rattle.std.specs.Prelude.{Bool, false, nat_eq, ◌&&◌, ◌||◌, List, [], ◌∷◌, Option, Some, None, codes, ℕ, ◌≡◌, ⊤, true, decimal, map, option_map, ◌⊎◌}
use Rattle.std.specs.Cmp.Lexicographic.{pointwise}
use Rattle.std.specs.List.{list_any}
use Rattle.clap.specs.declared.parser.matches.Found.{Found}
use Rattle.clap.specs.Words.{first_value, matched_of, one_text, raw_values, App, IsAmong, Row, Text, fault_of, rows_of, subcommand_of}
use Rattle.model.specs.declared.policy.Policy.{Policy}
use Rattle.model.specs.declared.policy.Policy.TheVariants.{Wide}
use Rattle.model.specs.rule.Limits.{IsNumber, most_nodes}
use Rattle.messages.specs.declared.actor.Actor.{Actor}
use Rattle.messages.specs.declared.actor.Actor.TheVariants.{Node, Server}
use Rattle.messages.specs.declared.version.Version.TheVariants.{Second}
use Rattle.messages.specs.rule.Shapes.{ShapeFields, most_files}
use Rattle.texts.specs.rule.Words.{policy_text}
use Rattle.seat_commands.specs.rule.SeatTalks.{IsIn}
use Rattle.seat_commands.specs.declared.lines.ActorLine.{ActorLine}
use Rattle.seat_commands.specs.declared.lines.MembersLine.{MembersLine}
use Rattle.seat_commands.specs.declared.lines.MergeLine.{MergeLine}
use Rattle.seat_commands.specs.declared.lines.Asked.{Asked}
use Rattle.seat_commands.specs.declared.lines.Asked.TheVariants.{Seat, Members, Merge, Play}
use Rattle.clap.specs.declared.error.kind.ErrorKind.{ErrorKind}
use Rattle.clap.specs.declared.error.kind.ErrorKind.TheVariants.{OutOfMemory}
use Rattle.command_line.specs.declared.refusal.Refusal.{Refusal}
use Rattle.command_line.specs.declared.refusal.Refusal.TheVariants.{Help, Wrong, NotText, NoMemory}
use Rattle.command_line.specs.rule.Words.{IsShown}
use Rattle.seat_commands.specs.rule.Table.{IsTable}

-- the names of the commands
abbrev pub names : List (List ℕ)
names = codes "seat" ∷ codes "members" ∷ codes "merge" ∷ codes "play" ∷ []

-- whether a command has the name
abbrev pub is_name : List ℕ → Bool
is_name word = list_any (pointwise nat_eq word) names

abbrev pub is_name_if : Option (List ℕ) → Bool
is_name_if None = false
is_name_if (Some word) = is_name word

-- whether the word asks for the help of a command
abbrev pub is_help : List ℕ → Bool
is_help word = list_any (pointwise nat_eq word) (codes "help" ∷ [])

abbrev pub is_help_if : Option (List ℕ) → Bool
is_help_if None = false
is_help_if (Some word) = is_help word

-- whether the first word behind the program's name, and the second one, are of a command, or ask for the help of one
abbrev pub is_of_command : Option (List ℕ) → Option (List ℕ) → Bool
is_of_command first second = is_name_if first || (is_help_if first && is_name_if second)

-- the flag is given, or it is not
pub record HasFlag (text : Option (List ℕ)) (flag : Bool) : Type 0 where
  pub left_out : text ≡ None → flag ≡ false
  pub given : text ≡ Some (codes "true") → flag ≡ true
  pub not_given : text ≡ Some (codes "false") → flag ≡ false

-- the size of the cluster, which is of version 2
pub record HasShape (f : Found) (policy : Policy) (shape : ShapeFields) : Type 0 where
  pub version : shape.version ≡ Second
  pub nodes : first_value f (codes "NODES") ≡ Some (decimal shape.nodes)
  pub nodes_in : IsNumber most_nodes shape.nodes
  pub files : first_value f (codes "FILES") ≡ Some (decimal shape.files)
  pub files_in : IsNumber most_files shape.files
  pub policy_is : shape.policy ≡ policy

-- the kind and the number of the actor
abbrev pub HasActor : Found → Actor → Type 0
HasActor f (Node n) = (first_value f (codes "KIND") ≡ Some (codes "node")) × (first_value f (codes "NUMBER") ≡ Some (decimal n))
HasActor f (Server file) = (first_value f (codes "KIND") ≡ Some (codes "server")) × (first_value f (codes "NUMBER") ≡ Some (decimal file))

-- the values are those of the line of a seat
pub record IsActorLine (f : Found) (line : ActorLine) : Type 0 where
  pub policy : first_value f (codes "POLICY") ≡ Some (policy_text line.shape.policy)
  pub shape : HasShape f line.shape.policy line.shape
  pub actor : HasActor f line.actor
  pub inside : IsIn line.shape line.actor
  pub again : HasFlag (one_text f (codes "again")) line.again
  pub left : first_value f (codes "TIMES") ≡ Some (decimal line.left)
  pub log : option_map (λ path. path.now) line.log ≡ first_value f (codes "LOG")
  pub clock : HasFlag (one_text f (codes "clock")) line.clock

-- the values are those of the line of a list
pub record IsMembersLine (f : Found) (line : MembersLine) : Type 0 where
  pub shape : HasShape f Wide line.shape
  pub state : first_value f (codes "STATE") ≡ Some line.state.now
  pub clock : HasFlag (one_text f (codes "clock")) line.clock

-- the values are those of the line of a merge, but for its logs
pub record IsMergeLine (f : Found) (line : MergeLine) : Type 0 where
  pub members : option_map (λ path. path.now) line.members ≡ first_value f (codes "MEMBERS")
  pub journal : option_map (λ path. path.now) line.journal ≡ first_value f (codes "JOURNAL")
  pub check : HasFlag (one_text f (codes "check")) line.check
  pub skew : first_value f (codes "N") ≡ Some (decimal line.skew)

-- the values have these logs
abbrev pub HasLogs : Found → List (List ℕ) → Type 0
HasLogs f logs = option_map raw_values (matched_of f (codes "LOG")) ≡ Some logs

-- what is asked can be done: the actor is one of the cluster
abbrev pub IsServedAsked : Asked → Type 0
IsServedAsked (Seat line) = IsIn line.shape line.actor
IsServedAsked _ = ⊤

-- the values are those of what is asked
abbrev pub IsAsked : Found → Asked → Type 0
IsAsked f (Seat line) = IsActorLine f line
IsAsked f (Members line) = IsMembersLine f line
IsAsked f (Merge line) = IsMergeLine f line × HasLogs f (map (λ path. path.now) line.logs.items)
IsAsked f Play = ⊤

abbrev pub name_of : Asked → Text
name_of (Seat line) = codes "seat"
name_of (Members line) = codes "members"
name_of (Merge line) = codes "merge"
name_of Play = codes "play"

-- it is asked under this name, with these values
abbrev pub IsNamed : Text → Found → Asked → Type 0
IsNamed name values asked = (name_of asked ≡ name) × IsAsked values asked

-- the command that is met is that of what is asked, with its values
abbrev pub IsMet : Option (Text × List Row) → Asked → Type 0
IsMet met asked = (values : Found) × (met ≡ Some (name_of asked, rows_of values)) × IsAsked values asked

-- by the table of the commands nothing is wrong with the words, and they are the command of what is asked, with its values
pub record AsksFor (words : List Text) (asked : Asked) : Type 0 where
  pub app : App
  pub table : IsTable app
  pub taken : fault_of app words ≡ []
  pub met : IsMet (subcommand_of app words) asked

-- by the table they ask for help
abbrev pub AskForHelp : List Text → Type 0
AskForHelp words = (app : App) × IsTable app × ((kind : ErrorKind) × IsAmong kind (fault_of app words) × IsShown kind)

-- by the table something is wrong with them; or nothing is, and they come to nothing that is served
abbrev pub AreWrong : List Text → Type 0
AreWrong words = (app : App) × IsTable app × (((kind : ErrorKind) × IsAmong kind (fault_of app words) × ¬ (IsShown kind)) ⊎ (fault_of app words ≡ []))

-- why nothing is done; memory may be short at any time
abbrev pub IsRefusal : List Text → Refusal → Type 0
IsRefusal words (Help text) = AskForHelp words
IsRefusal words (Wrong text) = AreWrong words
IsRefusal words NotText = ⊥
IsRefusal words NoMemory = ⊤

-- an error of this kind may come of the words
abbrev pub IsKindOf : List Text → ErrorKind → Type 0
IsKindOf words kind = (kind ≡ OutOfMemory) ⊎ ((app : App) × IsTable app × (IsAmong kind (fault_of app words) ⊎ (¬ (IsShown kind) × (fault_of app words ≡ []))))
