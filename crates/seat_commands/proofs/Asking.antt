-- What the words of a command line come to.
use Rattle.std.proofs.Common.{◌≡◌, Bor, List, Option, Some, None, IfSome, map, option_map, codes, sym, ap, ◌∙◌, ℕ, refl, inl, inr, true}
use Rattle.clap.specs.declared.parser.matches.Found.{Found}
use Rattle.clap.specs.Words.{first_value, matched_of, raw_values, App, HasKind, Row, Text, fault_of, is_simple, is_simple_and_free, kind_of, rows_of, with_subcommand}
use Rattle.seat_commands.specs.declared.lines.Asked.{Asked}
use Rattle.seat_commands.specs.declared.lines.Asked.TheVariants.{Seat, Members, Merge, Play}
use Rattle.seat_commands.specs.rule.Asking.{IsNamed, IsKindOf, IsMet, IsRefusal, name_of, HasLogs, IsServedAsked}
use Rattle.clap.proofs.OnLiterals.{clap_on_literals}
use Rattle.clap.specs.declared.error.Error.{Error}
use Rattle.clap.specs.declared.error.kind.ErrorKind.{ErrorKind}
use Rattle.clap.specs.declared.error.kind.ErrorKind.TheVariants.{OutOfMemory}
use Rattle.command_line.specs.declared.refusal.Refusal.{Refusal}
use Rattle.command_line.specs.declared.refusal.Refusal.TheVariants.{Help, Wrong, NotText, NoMemory}
use Rattle.command_line.specs.rule.Words.{IsOfKind, IsShown}
use Rattle.seat_commands.specs.rule.Table.{Choice, IsTable, bare_app, chosen, kind_rule, members_app, merge_app, play_app, policy_rule, seat_app}

-- the text that a getter gives
pub has_text : (f : Found) (id : List ℕ) (r : Option (Bor (List ℕ))) → option_map (λ s. s.now) r ≡ first_value f id → IfSome r (λ text. first_value f id ≡ Some text.now)
has_text f id None e = tt
has_text f id (Some text) e = sym e

-- the logs that a getter gives
pub has_logs : (f : Found) (r : Option (Bor (List (Bor (List ℕ))))) (texts : Bor (List (Bor (List ℕ)))) → option_map (λ s. map (λ v. v.now) s.now) r ≡ option_map raw_values (matched_of f (codes "LOG")) → r ≡ Some texts
    → HasLogs f (map (λ v. v.now) texts.now)
has_logs f r texts e is = sym e ∙ ap (option_map (λ (s : Bor (List (Bor (List ℕ)))). map (λ (v : Bor (List ℕ)). v.now) s.now)) is

-- what is asked can be done
pub served : (name : List ℕ) (f : Found) (asked : Asked) → IsNamed name f asked → IsServedAsked asked
served name f (Seat line) is = is.1.inside
served name f (Members line) is = tt
served name f (Merge line) is = tt
served name f Play is = tt

-- the table, where the words of two of its arguments lie so in memory
abbrev table_of : Choice → Choice → App
table_of kinds policies =
    with_subcommand (with_subcommand (with_subcommand (with_subcommand bare_app (seat_app (chosen kind_rule kinds) (chosen policy_rule policies)).top) members_app.top) merge_app.top) play_app.top

free_table : (kinds policies : Choice) → is_simple_and_free (table_of kinds policies) ≡ true
unfolding clap_on_literals
free_table kinds policies = refl

simple_table : (kinds policies : Choice) → is_simple (table_of kinds policies) ≡ true
unfolding clap_on_literals
simple_table kinds policies = refl

table_is : (app : App) (table : IsTable app) → app ≡ table_of table.1.2.0 table.1.3.0
table_is app (seat, (kind, policy, is_kind, is_policy, seat_is), app_is) =
    app_is ∙ ap (λ (s : App). with_subcommand (with_subcommand (with_subcommand (with_subcommand bare_app s.top) members_app.top) merge_app.top) play_app.top)
    (seat_is ∙ (λ i. seat_app (is_kind.2 i) (is_policy.2 i)))

-- nothing in the table keeps clap from saying what comes of words
pub is_free : (app : App) → IsTable app → is_simple_and_free app ≡ true
is_free app table = ap is_simple_and_free (table_is app table) ∙ free_table table.1.2.0 table.1.3.0

pub is_plain : (app : App) → IsTable app → is_simple app ≡ true
is_plain app table = ap is_simple (table_is app table) ∙ simple_table table.1.2.0 table.1.3.0

-- what is read under this word is asked under the name of the command
met_is : {A : Type 0} (name_at : A → Text) (rows_at : A → List Row) (entered : Option A) (name word : Text) (values : Found) (asked : Asked)
    → Some name ≡ option_map name_at entered → Some (rows_of values) ≡ option_map (λ (read : Text × List Row). read.1) (option_map (λ a. (name_at a, rows_at a)) entered) → name ≡ word → IsNamed word values asked
    → IsMet (option_map (λ a. (name_at a, rows_at a)) entered) asked
met_is name_at rows_at None name word values asked named has is asks = cc
met_is name_at rows_at (Some a) name word values asked named has is asks =
    let same : (name_of asked, rows_of values) ≡ (name_at a, rows_at a) = cc in
    (values, ap (λ (read : Text × List Row). Some read) (sym same), asks.1)

pub met_if : {A : Type 0} (name_at : A → Text) (rows_at : A → List Row) (entered : Option A) (name word : Text) (values : Found) (asked : Option Asked)
    → Some name ≡ option_map name_at entered → Some (rows_of values) ≡ option_map (λ (read : Text × List Row). read.1) (option_map (λ a. (name_at a, rows_at a)) entered) → name ≡ word → IfSome asked (IsNamed word values)
    → IfSome asked (IsMet (option_map (λ a. (name_at a, rows_at a)) entered))
met_if name_at rows_at entered name word values None named has is asks = tt
met_if name_at rows_at entered name word values (Some asked) named has is asks = met_is name_at rows_at entered name word values asked named has is asks

no_memory_shown : (kind : ErrorKind) → kind ≡ OutOfMemory → IsShown kind → ⊥
no_memory_shown kind is (inl help) = cc
no_memory_shown kind is (inr version) = cc

-- an error of a parse by the table
pub has_kind : (words : List Text) (app : App) (error : Error) → IsTable app → HasKind (fault_of app words) error → IsKindOf words (kind_of error)
has_kind words app error table (inl is) = inl is
has_kind words app error table (inr among) = inr (app, table, inl among)

-- the refusal tells what came of the words
pub refusal_is : (words : List Text) (kind : ErrorKind) (refusal : Refusal) → IsKindOf words kind → IsOfKind kind refusal → IsRefusal words refusal
refusal_is words kind (Help text) (inl is) shown = absurd (no_memory_shown kind is shown)
refusal_is words kind (Help text) (inr (app, table, inl among)) shown = (app, table, (kind, among, shown))
refusal_is words kind (Help text) (inr (app, table, inr nothing)) shown = absurd (nothing.0 shown)
refusal_is words kind (Wrong text) (inl is) wrong = absurd (wrong.0 is)
refusal_is words kind (Wrong text) (inr (app, table, inl among)) wrong = (app, table, inl (kind, among, wrong.1))
refusal_is words kind (Wrong text) (inr (app, table, inr nothing)) wrong = (app, table, inr nothing.1)
refusal_is words kind NotText of never = absurd never
refusal_is words kind NoMemory of short = tt
