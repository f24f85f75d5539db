-- The kinds of events, by the words with which their texts begin.
use Rattle.std.proofs.Common.{◌≡◌, true, ℕ, List, [], ◌∷◌, inl, inr, refl, codes}
use Rattle.messages.specs.rule.Shapes.{may_rebuild}
use Rattle.messages.specs.declared.version.Version.{Version}
use Rattle.texts.proofs.FirstWords.{BeginsWithWord}
use Rattle.message_text.proofs.NameTexts.{AreTexts, both, where_so, call, holder, server, Variant, of_variants, variant}
use Rattle.message_text.proofs.MessageKinds.{file, pid, message}
use Rattle.lockscript.proofs.OperationKinds.{op}
use Rattle.journal_text.specs.declared.named_event.NamedEvent.TheVariants.{Call, Deliver, Interrupt, Retry, Resend, Declare, Restart, Learn, FailServer, StartServer}
use Rattle.journal_text.specs.rule.Events.{IsServedEvent, named_text}

-- the words with which the texts of events begin
abbrev pub words : List (List ℕ)
words = codes "call" ∷ codes "deliver" ∷ codes "interrupt" ∷ codes "retry" ∷ codes "resend" ∷ codes "declare" ∷ codes "restart" ∷ codes "learn" ∷ codes "fail-server" ∷ codes "start-server" ∷ []

module _ (version : Version) where
  abbrev EventKind : Type 1
  EventKind = Variant (named_text version) (IsServedEvent version)

  abbrev pub calls : EventKind
  calls = variant (codes "call ") refl (both call (both pid op)) (λ f. Call f.0 f.1.0 f.1.1) (λ f fit. (fit.0, fit.1.0, fit.1.1)) (λ f. refl)
      (elim [ Call call pid op ↦ λ fits. inl ((call, (pid, op)), (fits.0, (fits.1, fits.2)), refl) | _ ↦ λ _. inr refl ])

  abbrev delivers : EventKind
  delivers = variant (codes "deliver ") refl (message version) (λ f. Deliver f) (λ f fit. fit) (λ f. refl) (elim [ Deliver message ↦ λ fits. inl (message, fits, refl) | _ ↦ λ _. inr refl ])

  abbrev pub interrupts : EventKind
  interrupts = variant (codes "interrupt ") refl (both holder pid.texts) (λ f. Interrupt f.0 f.1) (λ f fit. fit) (λ f. refl) (elim [ Interrupt host pid ↦ λ fits. inl ((host, pid), fits, refl) | _ ↦ λ _. inr refl ])

  abbrev pub retries : EventKind
  retries = variant (codes "retry ") refl (both holder pid.texts) (λ f. Retry f.0 f.1) (λ f fit. fit) (λ f. refl) (elim [ Retry host pid ↦ λ fits. inl ((host, pid), fits, refl) | _ ↦ λ _. inr refl ])

  abbrev resends : EventKind
  resends = variant (codes "resend ") refl file.texts (λ f. Resend f) (λ f fit. fit) (λ f. refl) (elim [ Resend file ↦ λ fits. inl (file, fits, refl) | _ ↦ λ _. inr refl ])

  abbrev declares : EventKind
  declares = variant (codes "declare ") refl holder.texts (λ f. Declare f) (λ f fit. fit) (λ f. refl) (elim [ Declare host ↦ λ fits. inl (host, fits, refl) | _ ↦ λ _. inr refl ])

  abbrev restarts : EventKind
  restarts = variant (codes "restart ") refl holder.texts (λ f. Restart f) (λ f fit. fit) (λ f. refl) (elim [ Restart host ↦ λ fits. inl (host, fits, refl) | _ ↦ λ _. inr refl ])

  abbrev pub learns : EventKind
  learns = variant (codes "learn ") refl (both file holder.texts) (λ f. Learn f.0 f.1) (λ f fit. fit) (λ f. refl) (elim [ Learn file host ↦ λ fits. inl ((file, host), fits, refl) | _ ↦ λ _. inr refl ])

  abbrev pub fails : EventKind
  fails = variant (codes "fail-server ") refl (where_so (may_rebuild version ≡ true) server) (λ f. FailServer f.0 f.1) (λ f fit. (fit.0, fit.1.0, fit.1.1)) (λ f. refl)
      (elim [ FailServer file epoch ↦ λ fits. inl ((file, epoch), (fits.0, (fits.1, fits.2)), refl) | _ ↦ λ _. inr refl ])

  abbrev pub starts : EventKind
  starts = variant (codes "start-server ") refl (where_so (may_rebuild version ≡ true) server) (λ f. StartServer f.0 f.1) (λ f fit. (fit.0, fit.1.0, fit.1.1)) (λ f. refl)
      (elim [ StartServer file epoch ↦ λ fits. inl ((file, epoch), (fits.0, (fits.1, fits.2)), refl) | _ ↦ λ _. inr refl ])

  abbrev events : List EventKind
  events = calls ∷ delivers ∷ interrupts ∷ retries ∷ resends ∷ declares ∷ restarts ∷ learns ∷ fails ∷ starts ∷ []

  pub event : AreTexts (named_text version) (IsServedEvent version)
  event = of_variants events (elim [ Call _ _ _ ↦ refl | _ ↦ refl ])

  pub begins-event : BeginsWithWord (named_text version) (IsServedEvent version) words []
  begins-event = record { told = elim [ Call _ _ _ ↦ λ _. inl (refl, refl) | _ ↦ λ _. inl (refl, refl) ] }
