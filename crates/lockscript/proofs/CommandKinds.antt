-- The kinds of commands, by the words with which their lines begin.
use Rattle.std.proofs.Common.{ℕ, List, [], ◌∷◌, inl, inr, refl, arith, codes, decimal}
use Rattle.model.specs.rule.Limits.{IsNumber}
use Rattle.cluster_core.specs.rule.World.{most_incarnations}
use Rattle.texts.proofs.FirstWords.{BeginsWithWord}
use Rattle.lockscript.specs.declared.script_line.ScriptCommand.TheVariants.{Call, Deliver, Lose, Settle, Interrupt, Retry, Resend, Declare, Restart, Learn, FailServer, StartServer}
use Rattle.lockscript.specs.rule.Scripts.{IsCommand, command_text, greatest_message}
use Rattle.message_text.proofs.NameTexts.{AreTexts, both, up_to, Variant, of_variants, variant}
use Rattle.message_text.proofs.MessageKinds.{file, pid}
use Rattle.lockscript.proofs.FieldTexts.{node, nothing}
use Rattle.lockscript.proofs.OperationKinds.{op}

abbrev incarnation : AreTexts decimal (IsNumber most_incarnations)
incarnation = (up_to most_incarnations (omega arith)).texts

abbrev message : AreTexts decimal (IsNumber greatest_message)
message = (up_to greatest_message (omega arith)).texts

abbrev CommandKind : Type 1
CommandKind = Variant command_text IsCommand

abbrev pub calls : CommandKind
calls = variant (codes "call ") refl (both node (both pid op)) (λ f. Call f.0 f.1.0 f.1.1) (λ f fit. (fit.0, fit.1.0, fit.1.1)) (λ f. refl)
    (elim [ Call node pid op ↦ λ fits. inl ((node, (pid, op)), (fits.0, (fits.1, fits.2)), refl) | _ ↦ λ _. inr refl ])

abbrev delivers : CommandKind
delivers = variant (codes "deliver ") refl message (λ f. Deliver f) (λ f fit. fit) (λ f. refl) (elim [ Deliver message ↦ λ fits. inl (message, fits, refl) | _ ↦ λ _. inr refl ])

abbrev loses : CommandKind
loses = variant (codes "lose ") refl message (λ f. Lose f) (λ f fit. fit) (λ f. refl) (elim [ Lose message ↦ λ fits. inl (message, fits, refl) | _ ↦ λ _. inr refl ])

abbrev pub interrupts : CommandKind
interrupts = variant (codes "interrupt ") refl (both node pid.texts) (λ f. Interrupt f.0 f.1) (λ f fit. fit) (λ f. refl) (elim [ Interrupt node pid ↦ λ fits. inl ((node, pid), fits, refl) | _ ↦ λ _. inr refl ])

abbrev pub retries : CommandKind
retries = variant (codes "retry ") refl (both node pid.texts) (λ f. Retry f.0 f.1) (λ f fit. fit) (λ f. refl) (elim [ Retry node pid ↦ λ fits. inl ((node, pid), fits, refl) | _ ↦ λ _. inr refl ])

abbrev resends : CommandKind
resends = variant (codes "resend ") refl file.texts (λ f. Resend f) (λ f fit. fit) (λ f. refl) (elim [ Resend file ↦ λ fits. inl (file, fits, refl) | _ ↦ λ _. inr refl ])

abbrev declares : CommandKind
declares = variant (codes "declare ") refl node.texts (λ f. Declare f) (λ f fit. fit) (λ f. refl) (elim [ Declare node ↦ λ fits. inl (node, fits, refl) | _ ↦ λ _. inr refl ])

abbrev restarts : CommandKind
restarts = variant (codes "restart ") refl node.texts (λ f. Restart f) (λ f fit. fit) (λ f. refl) (elim [ Restart node ↦ λ fits. inl (node, fits, refl) | _ ↦ λ _. inr refl ])

abbrev pub learns : CommandKind
learns = variant (codes "learn ") refl (both file (both node incarnation)) (λ f. Learn f.0 f.1.0 f.1.1) (λ f fit. (fit.0, fit.1.0, fit.1.1)) (λ f. refl)
    (elim [ Learn file node incarnation ↦ λ fits. inl ((file, (node, incarnation)), (fits.0, (fits.1, fits.2)), refl) | _ ↦ λ _. inr refl ])

abbrev fails : CommandKind
fails = variant (codes "fail-server ") refl file.texts (λ f. FailServer f) (λ f fit. fit) (λ f. refl) (elim [ FailServer file ↦ λ fits. inl (file, fits, refl) | _ ↦ λ _. inr refl ])

abbrev starts : CommandKind
starts = variant (codes "start-server ") refl file.texts (λ f. StartServer f) (λ f fit. fit) (λ f. refl) (elim [ StartServer file ↦ λ fits. inl (file, fits, refl) | _ ↦ λ _. inr refl ])

abbrev settles : CommandKind
settles = variant (codes "settle") refl nothing (λ _. Settle) (λ f fit. tt) (λ f. refl) (elim [ Settle ↦ λ fits. inl (tt, tt, refl) | _ ↦ λ _. inr refl ])

-- the words of commands with operands, and the one without
abbrev pub words : List (List ℕ)
words = codes "call" ∷ codes "interrupt" ∷ codes "retry" ∷ codes "deliver" ∷ codes "lose" ∷ codes "resend" ∷ codes "declare" ∷ codes "restart" ∷ codes "fail-server" ∷ codes "start-server" ∷ codes "learn" ∷ []

abbrev pub lone_words : List (List ℕ)
lone_words = codes "settle" ∷ []

pub begins-command : BeginsWithWord command_text IsCommand words lone_words
begins-command = record { told = elim [ Settle ↦ λ _. inr (refl, refl) | _ ↦ λ _. inl (refl, refl) ] }

abbrev commands : List CommandKind
commands = calls ∷ delivers ∷ loses ∷ interrupts ∷ retries ∷ resends ∷ declares ∷ restarts ∷ learns ∷ fails ∷ starts ∷ settles ∷ []

pub command : AreTexts command_text IsCommand
command = of_variants commands (elim [ Settle ↦ refl | _ ↦ refl ])
