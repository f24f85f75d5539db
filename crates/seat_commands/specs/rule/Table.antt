-- The command line of the commands as clap reads it.
use Rattle.std.specs.Prelude.{◌≡◌, ℕ, pos, true, codes, List, [], ◌∷◌, map, Some}
use denote.Ref.{Bor}
use Rattle.clap.specs.Words.{App, Rule, Text, new_app, with_rule, with_subcommand}
use Rattle.clap.specs.Simple.{on_top}
use Rattle.clap.specs.declared.builder.value_parser.ValueParser.TheVariants.{Names, Signed}
use Rattle.command_line.specs.rule.Words.{flag_rule, number_rule, option_rule, path_rule, paths_rule}

-- the words of which an argument is one, as they lie in memory
abbrev pub Choice : Type 0
Choice = Bor (List (Bor Text))

abbrev pub words_of : Choice → List Text
words_of choice = map (λ word. word.now) choice.now

-- an argument that is one of these words
abbrev pub chosen : Rule → Choice → Rule
chosen rule choice = record rule { parser = Some (Names choice) }

abbrev pub IsChosen : Rule → List Text → Rule → Type 0
IsChosen rule words result = (choice : Choice) × (words_of choice ≡ words) × (result ≡ chosen rule choice)

-- an argument that is a number from the least to the greatest
abbrev pub between : Rule → ℕ → ℕ → Rule
between rule least greatest = record rule { parser = Some (Signed (pos least) (pos greatest)) }

-- an option that must be there
abbrev pub needed_rule : Text → Text → Rule
needed_rule id long = record (option_rule id long) { required = true }

abbrev pub nodes_rule : Rule
nodes_rule = between (needed_rule (codes "NODES") (codes "nodes")) 1 64

abbrev pub files_rule : Rule
files_rule = between (needed_rule (codes "FILES") (codes "files")) 1 256

abbrev pub clock_rule : Rule
clock_rule = flag_rule (codes "clock")

abbrev pub log_rule : Rule
log_rule = option_rule (codes "LOG") (codes "log")

abbrev pub kind_rule : Rule
kind_rule = path_rule (codes "KIND")

abbrev pub kinds : List Text
kinds = codes "node" ∷ codes "server" ∷ []

abbrev pub number_argument_rule : Rule
number_argument_rule = between (path_rule (codes "NUMBER")) 1 256

abbrev pub policy_rule : Rule
policy_rule = needed_rule (codes "POLICY") (codes "policy")

abbrev pub policies : List Text
policies = codes "wide" ∷ codes "exact" ∷ []

abbrev pub past_rule : Rule
past_rule = number_rule (codes "TIMES") (codes "past") (codes "0") 0 65534

abbrev pub skew_rule : Rule
skew_rule = number_rule (codes "N") (codes "skew") (codes "0") 0 9223372036854775807

abbrev pub seat_app : Rule → Rule → App
seat_app kind policy =
    with_rule (with_rule (with_rule (with_rule (with_rule (with_rule (with_rule (with_rule (with_rule (new_app (codes "seat")) kind) number_argument_rule) nodes_rule) files_rule) policy) (flag_rule (codes "again"))) past_rule) log_rule) clock_rule

-- an actor is a node or a server, a policy is wide or exact
abbrev pub IsSeatApp : App → Type 0
IsSeatApp app = (kind : Rule) × (policy : Rule) × IsChosen kind_rule kinds kind × IsChosen policy_rule policies policy × (app ≡ seat_app kind policy)

abbrev pub members_app : App
members_app = with_rule (with_rule (with_rule (with_rule (new_app (codes "members")) nodes_rule) files_rule) (needed_rule (codes "STATE") (codes "state"))) clock_rule

abbrev pub merge_app : App
merge_app =
    with_rule (with_rule (with_rule (with_rule (with_rule (new_app (codes "merge")) (paths_rule (codes "LOG"))) (option_rule (codes "JOURNAL") (codes "journal"))) (option_rule (codes "MEMBERS") (codes "members"))) (flag_rule (codes "check"))) skew_rule

abbrev pub play_app : App
play_app = new_app (codes "play")

abbrev pub bare_app : App
bare_app = on_top (λ s. record s { subcommand_required = true }) (new_app (codes "lockreplay"))

-- the table of the commands
abbrev pub IsTable : App → Type 0
IsTable app = (seat : App) × IsSeatApp seat × (app ≡ with_subcommand (with_subcommand (with_subcommand (with_subcommand bare_app seat.top) members_app.top) merge_app.top) play_app.top)
