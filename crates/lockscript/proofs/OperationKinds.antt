-- The kinds of operations.
use Rattle.std.proofs.Common.{◌≡◌, ℕ, ℤ, false, true, eqb, List, [], ◌∷◌, FitsSigned, w64, inl, inr, refl, codes}
use Rattle.std.specs.Prelude.{◌⊎◌, ⊤}
use Rattle.std.specs.List.{starts_with}
use Rattle.model.specs.declared.access.Access.{Access}
use Rattle.model.specs.declared.mode.Mode.{Mode}
use Rattle.model.specs.declared.owner.Kind.{Kind}
use Rattle.model.specs.declared.op.Op.{Op}
use Rattle.model.specs.declared.op.Op.TheVariants.{Process, Close, Exit, Lock, Unlock}
use Rattle.model.specs.declared.op.ProcessCall.TheVariants.{Spawn, Fork, Open, Dup}
use Rattle.model.specs.declared.op.LockCall.{LockCall}
use Rattle.model.specs.declared.op.LockCommand.{LockCommand}
use Rattle.model.specs.declared.op.LockCommand.TheVariants.{Set, Wait, Query}
use Rattle.model.specs.rule.Limits.{IsNumber, most_processes}
use Rattle.messages.specs.rule.Shapes.{most_files}
use Rattle.texts.specs.rule.Reads.{has_no_space}
use Rattle.texts.proofs.FirstWords.{BeginsWithWord, first_word, is_among}
use Rattle.lockscript.specs.rule.Served.{IsDescriptor, IsServedOp}
use Rattle.lockscript.specs.rule.Texts.{command_front, lock_of, op_text}
use Rattle.message_text.proofs.NameTexts.{AreTexts, both, has_no_feed, mode, Variant, is_of, of_variants, variant}
use Rattle.message_text.proofs.MessageKinds.{file, pid}
use Rattle.lockscript.proofs.FieldTexts.{access, fd, kind, nothing, segment}

abbrev OpKind : Type 1
OpKind = Variant op_text IsServedOp

-- the same call with another command
abbrev with_command : LockCall → LockCommand → Op
with_command call command = Lock (record call { command = command })

-- what holds of a lock call whatever it asks for
each_command : (P : Op → Type 0) (call : LockCall) → P (with_command call Set) → P (with_command call Wait) → P (with_command call Query) → P (Lock call)
each_command P call set wait query = elim call.command as (λ k. P (with_command call k)) [ Set ↦ set | Wait ↦ wait | Query ↦ query ]

-- the operation is made of fields of the kind, or its text has another front
abbrev IsToldBy : {F : Type 0} → List ℕ → (F → Type 0) → (F → Op) → Op → Type 0
IsToldBy {F = F} front Fit make o = IsServedOp o → ((f : F) × Fit f × (o ≡ make f)) ⊎ (starts_with eqb (op_text o) front ≡ false)

abbrev Forked : Op → Type 0
Forked = IsToldBy (codes "fork ") (IsNumber most_processes) (λ child. Process (Fork child))

pub forked : (o : Op) → Forked o
forked (Process (Fork child)) fits = inl (child, fits, refl)
forked (Lock call) fits = each_command Forked call (λ _. inr refl) (λ _. inr refl) (λ _. inr refl) fits
forked _ fits = inr refl

abbrev pub forks : OpKind
forks = variant (codes "fork ") refl pid.texts (λ child. Process (Fork child)) (λ f fit. fit) (λ f. refl) forked

abbrev Opened : Op → Type 0
Opened = IsToldBy (codes "open ") (λ (f : ℕ × Access). IsNumber most_files f.0 × ⊤) (λ f. Process (Open f.0 f.1))

pub opened : (o : Op) → Opened o
opened (Process (Open file access)) fits = inl ((file, access), (fits, tt), refl)
opened (Lock call) fits = each_command Opened call (λ _. inr refl) (λ _. inr refl) (λ _. inr refl) fits
opened _ fits = inr refl

abbrev pub opens : OpKind
opens = variant (codes "open ") refl (both file access) (λ f. Process (Open f.0 f.1)) (λ f fit. fit.0) (λ f. refl) opened

abbrev Doubled : Op → Type 0
Doubled = IsToldBy (codes "dup ") IsDescriptor (λ fd. Process (Dup fd))

pub doubled : (o : Op) → Doubled o
doubled (Process (Dup fd)) fits = inl (fd, fits, refl)
doubled (Lock call) fits = each_command Doubled call (λ _. inr refl) (λ _. inr refl) (λ _. inr refl) fits
doubled _ fits = inr refl

abbrev pub dups : OpKind
dups = variant (codes "dup ") refl fd.texts (λ fd. Process (Dup fd)) (λ f fit. fit) (λ f. refl) doubled

abbrev Closed : Op → Type 0
Closed = IsToldBy (codes "close ") IsDescriptor (λ fd. Close fd)

pub closed : (o : Op) → Closed o
closed (Close fd) fits = inl (fd, fits, refl)
closed (Lock call) fits = each_command Closed call (λ _. inr refl) (λ _. inr refl) (λ _. inr refl) fits
closed (Process Spawn) fits = inr refl
closed _ fits = inr refl

abbrev pub closes : OpKind
closes = variant (codes "close ") refl fd.texts (λ fd. Close fd) (λ f fit. fit) (λ f. refl) closed

-- the descriptor, kind, mode and segment of a lock call
abbrev IsAsked : ℕ × (Kind × (Mode × (ℤ × ℤ))) → Type 0
IsAsked f = IsDescriptor f.0 × (⊤ × (⊤ × (FitsSigned w64 f.1.1.1.0 × FitsSigned w64 f.1.1.1.1)))

abbrev Asked : LockCommand → Op → Type 0
Asked command = IsToldBy (command_front command) IsAsked (lock_of command)

asked : (command : LockCommand) (call : LockCall) → Asked command (with_command call command)
asked command call fits = inl ((call.fd, (call.kind, (call.mode, (call.start, call.len)))), (fits.0, (tt, (tt, (fits.1, fits.2)))), refl)

pub set : (o : Op) → Asked Set o
set (Lock call) fits = each_command (Asked Set) call (asked Set call) (λ _. inr refl) (λ _. inr refl) fits
set (Process Spawn) fits = inr refl
set _ fits = inr refl

pub waited : (o : Op) → Asked Wait o
waited (Lock call) fits = each_command (Asked Wait) call (λ _. inr refl) (asked Wait call) (λ _. inr refl) fits
waited (Process Spawn) fits = inr refl
waited _ fits = inr refl

pub queried : (o : Op) → Asked Query o
queried (Lock call) fits = each_command (Asked Query) call (λ _. inr refl) (λ _. inr refl) (asked Query call) fits
queried (Process Spawn) fits = inr refl
queried _ fits = inr refl

abbrev asking : (command : LockCommand) → has_no_feed (command_front command) ≡ true → ((o : Op) → Asked command o) → OpKind
asking command feedless told = variant (command_front command) feedless (both fd (both kind (both mode segment))) (lock_of command) (λ f fit. (fit.0, fit.1.1.1.0, fit.1.1.1.1)) (λ f. refl) told

abbrev pub sets : OpKind
sets = asking Set refl set

abbrev pub waits : OpKind
waits = asking Wait refl waited

abbrev pub queries : OpKind
queries = asking Query refl queried

abbrev Unlocked : Op → Type 0
Unlocked = IsToldBy (codes "unlock ") (λ (f : ℕ × (Kind × (ℤ × ℤ))). IsDescriptor f.0 × (⊤ × (FitsSigned w64 f.1.1.0 × FitsSigned w64 f.1.1.1))) (λ f. Unlock f.0 f.1.0 f.1.1.0 f.1.1.1)

pub unlocked : (o : Op) → Unlocked o
unlocked (Unlock fd kind start len) fits = inl ((fd, (kind, (start, len))), (fits.0, (tt, (fits.1, fits.2))), refl)
unlocked (Lock call) fits = each_command Unlocked call (λ _. inr refl) (λ _. inr refl) (λ _. inr refl) fits
unlocked (Process Spawn) fits = inr refl
unlocked _ fits = inr refl

abbrev pub unlocks : OpKind
unlocks = variant (codes "unlock ") refl (both fd (both kind segment)) (λ f. Unlock f.0 f.1.0 f.1.1.0 f.1.1.1) (λ f fit. (fit.0, fit.1.1.0, fit.1.1.1)) (λ f. refl) unlocked

abbrev Alone : List ℕ → Op → Op → Type 0
Alone word one = IsToldBy word (λ (_ : ⊤). ⊤) (λ _. one)

pub spawned : (o : Op) → Alone (codes "spawn") (Process Spawn) o
spawned (Process Spawn) fits = inl (tt, tt, refl)
spawned (Lock call) fits = each_command (Alone (codes "spawn") (Process Spawn)) call (λ _. inr refl) (λ _. inr refl) (λ _. inr refl) fits
spawned _ fits = inr refl

abbrev spawns : OpKind
spawns = variant (codes "spawn") refl nothing (λ _. Process Spawn) (λ f fit. tt) (λ f. refl) spawned

pub exited : (o : Op) → Alone (codes "exit") Exit o
exited Exit fits = inl (tt, tt, refl)
exited (Lock call) fits = each_command (Alone (codes "exit") Exit) call (λ _. inr refl) (λ _. inr refl) (λ _. inr refl) fits
exited (Process Spawn) fits = inr refl
exited _ fits = inr refl

abbrev exits : OpKind
exits = variant (codes "exit") refl nothing (λ _. Exit) (λ f fit. tt) (λ f. refl) exited

-- the words of operations with operands, and the ones without
abbrev pub words : List (List ℕ)
words = codes "fork" ∷ codes "open" ∷ codes "dup" ∷ codes "close" ∷ codes "set" ∷ codes "wait" ∷ codes "unlock" ∷ codes "query" ∷ []

abbrev pub lone_words : List (List ℕ)
lone_words = codes "spawn" ∷ codes "exit" ∷ []

abbrev Begins : Op → Type 0
Begins o = IsServedOp o → (is_among words (first_word (op_text o)) ≡ true) × (has_no_space (op_text o) ≡ false) ⊎ (is_among lone_words (op_text o) ≡ true) × (has_no_space (op_text o) ≡ true)

begins : (o : Op) → Begins o
begins (Process Spawn) fits = inr (refl, refl)
begins Exit fits = inr (refl, refl)
begins (Lock call) fits = each_command Begins call (λ _. inl (refl, refl)) (λ _. inl (refl, refl)) (λ _. inl (refl, refl)) fits
begins _ fits = inl (refl, refl)

pub begins-op : BeginsWithWord op_text IsServedOp words lone_words
begins-op = record { told = begins }

abbrev ops : List OpKind
ops = forks ∷ opens ∷ dups ∷ closes ∷ sets ∷ waits ∷ unlocks ∷ queries ∷ spawns ∷ exits ∷ []

of_ops : (o : Op) → is_of ops (op_text o) ≡ true
of_ops (Lock call) = each_command (λ o. is_of ops (op_text o) ≡ true) call refl refl refl
of_ops (Process Spawn) = refl
of_ops _ = refl

pub op : AreTexts op_text IsServedOp
op = of_variants ops of_ops
