-- What clap makes of the words of a command line.
use Rattle.std.proofs.Common.{inl, inr, refl, true, List, [], ◌∷◌, ◌≡◌}
use Rattle.clap.specs.declared.error.Error.{Error}
use Rattle.clap.specs.Words.{HasKind, IsAmong, kind_of, Kinds, Text, fault_of, is_simple, is_simple_and_free, subcommand_of}
use Rattle.clap.specs.declared.error.kind.ErrorKind.{ErrorKind}
use Rattle.clap.specs.declared.error.kind.ErrorKind.TheVariants.{OutOfMemory, ValueValidation}
use Rattle.clap.proofs.OnLiterals.{clap_on_literals}
use Rattle.command_line.specs.rule.Words.{IsKindOf, IsOfKind, program_app, AsksFor, IsRefusal, IsShown}
use Rattle.command_line.specs.rule.Tasks.{Task}
use Rattle.command_line.specs.declared.refusal.Refusal.{Refusal}
use Rattle.command_line.specs.declared.refusal.Refusal.TheVariants.{Help, Wrong, NotText, NoMemory}
use Rattle.command_line.proofs.MetTasks.{one_met}

-- what clap asks of the table
pub is_simple_program : is_simple program_app ≡ true
unfolding clap_on_literals
is_simple_program = refl

pub is_free_program : is_simple_and_free program_app ≡ true
unfolding clap_on_literals
is_free_program = refl

-- an error of a parse by the table
pub fails_so : (words : List Text) (error : Error) → HasKind (fault_of program_app words) error → IsKindOf words (kind_of error)
fails_so words error (inl is) = inl is
fails_so words error (inr among) = inr (inl among)

pub not_shown : (kind : ErrorKind) → kind ≡ ValueValidation → IsShown kind → ⊥
not_shown kind is (inl help) = cc
not_shown kind is (inr version) = cc

no_memory_shown : (kind : ErrorKind) → kind ≡ OutOfMemory → IsShown kind → ⊥
no_memory_shown kind is (inl help) = cc
no_memory_shown kind is (inr version) = cc

-- the refusal tells what came of the words
pub refusal_is : (words : List Text) (kind : ErrorKind) (refusal : Refusal) → IsKindOf words kind → IsOfKind kind refusal → IsRefusal words refusal
refusal_is words kind (Help text) (inl is) shown = absurd (no_memory_shown kind is shown)
refusal_is words kind (Help text) (inr (inl among)) shown = (kind, among, shown)
refusal_is words kind (Help text) (inr (inr nothing)) shown = absurd (nothing.0 shown)
refusal_is words kind (Wrong text) (inl is) wrong = absurd (wrong.0 is)
refusal_is words kind (Wrong text) (inr (inl among)) wrong = inl (kind, among, wrong.1)
refusal_is words kind (Wrong text) (inr (inr nothing)) wrong = inr nothing.1
refusal_is words kind NotText of never = absurd never
refusal_is words kind NoMemory of short = tt

none_among : (kind : ErrorKind) (kinds : Kinds) → kinds ≡ [] → IsAmong kind kinds → ⊥
none_among kind [] is among = among
none_among kind (k ∷ ks) is among = cc

-- words that ask for a task are refused for memory alone
pub asks_refused : (words : List Text) (task : Task) (refusal : Refusal) → AsksFor words task → IsRefusal words refusal → refusal ≡ NoMemory
asks_refused words task (Help text) asks is = absurd (none_among is.0 _ asks.taken is.1)
asks_refused words task (Wrong text) asks (inl is) = absurd (none_among is.0 _ asks.taken is.1)
asks_refused words task (Wrong text) asks (inr nothing) = absurd (nothing.1 task asks)
asks_refused words task NotText asks is = absurd is
asks_refused words task NoMemory asks is = refl

-- they ask for one task
pub asks_one : (words : List Text) (one other : Task) → AsksFor words one → AsksFor words other → one ≡ other
asks_one words one other first second = one_met (subcommand_of program_app words) one other first.met second.met
