-- The kinds of replies, by the words with which their texts begin.
use Rattle.std.proofs.Common.{ℕ, List, [], ◌∷◌, inl, inr, refl, codes}
use Rattle.model.specs.declared.reply.Reply.TheVariants.{Done, Fd, Again, Free, Blocked, Interrupted, NoProcess, Exists, BadFd, TooManyFiles, NoLocks, Invalid, Overflow}
use Rattle.texts.proofs.FirstWords.{BeginsWithWord}
use Rattle.lockscript.specs.rule.Texts.{reply_text}
use Rattle.lockscript.proofs.FieldTexts.{fd, nothing}
use Rattle.message_text.proofs.NameTexts.{AreTexts, Variant, of_variants, variant}
use Rattle.message_text.proofs.MessageKinds.{lock}
use Rattle.journal_text.specs.rule.Served.{IsServedReply}

abbrev ReplyKind : Type 1
ReplyKind = Variant reply_text IsServedReply

abbrev fds : ReplyKind
fds = variant (codes "fd ") refl fd.texts (λ f. Fd f) (λ f fit. fit) (λ f. refl) (elim [ Fd fd ↦ λ fits. inl (fd, fits, refl) | _ ↦ λ _. inr refl ])

abbrev agains : ReplyKind
agains = variant (codes "again ") refl lock (λ f. Again f) (λ f fit. fit) (λ f. refl) (elim [ Again lock ↦ λ fits. inl (lock, fits, refl) | _ ↦ λ _. inr refl ])

abbrev blocks : ReplyKind
blocks = variant (codes "blocked ") refl lock (λ f. Blocked f) (λ f fit. fit) (λ f. refl) (elim [ Blocked lock ↦ λ fits. inl (lock, fits, refl) | _ ↦ λ _. inr refl ])

abbrev dones : ReplyKind
dones = variant (codes "done") refl nothing (λ _. Done) (λ f fit. tt) (λ f. refl) (elim [ Done ↦ λ _. inl (tt, tt, refl) | _ ↦ λ _. inr refl ])

abbrev frees : ReplyKind
frees = variant (codes "free") refl nothing (λ _. Free) (λ f fit. tt) (λ f. refl) (elim [ Free ↦ λ _. inl (tt, tt, refl) | _ ↦ λ _. inr refl ])

abbrev interrupts : ReplyKind
interrupts = variant (codes "interrupted") refl nothing (λ _. Interrupted) (λ f fit. tt) (λ f. refl) (elim [ Interrupted ↦ λ _. inl (tt, tt, refl) | _ ↦ λ _. inr refl ])

abbrev no_processes : ReplyKind
no_processes = variant (codes "no-process") refl nothing (λ _. NoProcess) (λ f fit. tt) (λ f. refl) (elim [ NoProcess ↦ λ _. inl (tt, tt, refl) | _ ↦ λ _. inr refl ])

abbrev existing : ReplyKind
existing = variant (codes "exists") refl nothing (λ _. Exists) (λ f fit. tt) (λ f. refl) (elim [ Exists ↦ λ _. inl (tt, tt, refl) | _ ↦ λ _. inr refl ])

abbrev bad_fds : ReplyKind
bad_fds = variant (codes "bad-fd") refl nothing (λ _. BadFd) (λ f fit. tt) (λ f. refl) (elim [ BadFd ↦ λ _. inl (tt, tt, refl) | _ ↦ λ _. inr refl ])

abbrev too_many : ReplyKind
too_many = variant (codes "too-many-files") refl nothing (λ _. TooManyFiles) (λ f fit. tt) (λ f. refl) (elim [ TooManyFiles ↦ λ _. inl (tt, tt, refl) | _ ↦ λ _. inr refl ])

abbrev without_locks : ReplyKind
without_locks = variant (codes "no-locks") refl nothing (λ _. NoLocks) (λ f fit. tt) (λ f. refl) (elim [ NoLocks ↦ λ _. inl (tt, tt, refl) | _ ↦ λ _. inr refl ])

abbrev invalids : ReplyKind
invalids = variant (codes "invalid") refl nothing (λ _. Invalid) (λ f fit. tt) (λ f. refl) (elim [ Invalid ↦ λ _. inl (tt, tt, refl) | _ ↦ λ _. inr refl ])

abbrev overflows : ReplyKind
overflows = variant (codes "overflow") refl nothing (λ _. Overflow) (λ f fit. tt) (λ f. refl) (elim [ Overflow ↦ λ _. inl (tt, tt, refl) | _ ↦ λ _. inr refl ])

abbrev replies : List ReplyKind
replies = fds ∷ agains ∷ blocks ∷ dones ∷ frees ∷ interrupts ∷ no_processes ∷ existing ∷ bad_fds ∷ too_many ∷ without_locks ∷ invalids ∷ overflows ∷ []

pub reply : AreTexts reply_text IsServedReply
reply = of_variants replies (elim [ Done ↦ refl | _ ↦ refl ])

-- the words of replies with a field, and the ones without
abbrev pub words : List (List ℕ)
words = codes "fd" ∷ codes "again" ∷ codes "blocked" ∷ []

abbrev pub lone_words : List (List ℕ)
lone_words = codes "done" ∷ codes "free" ∷ codes "interrupted" ∷ codes "no-process" ∷ codes "exists" ∷ codes "bad-fd" ∷ codes "too-many-files" ∷ codes "no-locks" ∷ codes "invalid" ∷ codes "overflow" ∷ []

pub begins-reply : BeginsWithWord reply_text IsServedReply words lone_words
begins-reply = record { told = elim [ Fd _ ↦ λ _. inl (refl, refl) | Again _ ↦ λ _. inl (refl, refl) | Blocked _ ↦ λ _. inl (refl, refl) | _ ↦ λ _. inr (refl, refl) ] }
