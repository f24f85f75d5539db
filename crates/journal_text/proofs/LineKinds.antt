-- The kinds of lines of journals, by the words with which they begin.
use Rattle.std.proofs.Common.{ℕ, List, [], ◌∷◌, inl, inr, refl, arith, codes, decimal}
use Rattle.std.proofs.lemmas.Fmt.{decimal_injective}
use Rattle.messages.specs.declared.version.Version.{Version}
use Rattle.texts.proofs.FirstWords.{BeginsWithWord}
use Rattle.message_text.proofs.NameTexts.{AreFields, AreTexts, both, number, up_to, call, Variant, of_variants, variant}
use Rattle.message_text.proofs.MessageKinds.{message}
use Rattle.journal_text.specs.declared.lines.JournalLine.TheVariants.{Entry, Answer, Send, End}
use Rattle.journal_text.specs.rule.Lines.{IsCount, IsPosition, IsServedLine, line_text}
use Rattle.journal_text.proofs.EventKinds.{event}
use Rattle.journal_text.proofs.ReplyKinds.{reply}

pub position : AreFields decimal IsPosition
position = up_to 4294967295 (omega arith)

pub count : AreTexts decimal IsCount
count = record { apart = λ m n m_in n_in e. decimal_injective m n (omega (arith, m_in)) (omega (arith, n_in)) e; feedless = λ n fits. number n (omega (arith, fits)) }

-- the words with which lines begin
abbrev pub words : List (List ℕ)
words = codes "entry" ∷ codes "reply" ∷ codes "send" ∷ codes "end" ∷ []

module _ (version : Version) where
  abbrev LineKind : Type 1
  LineKind = Variant (line_text version) (IsServedLine version)

  abbrev pub entries : LineKind
  entries = variant (codes "entry ") refl (both position (event version)) (λ f. Entry f.0 f.1) (λ f fit. fit) (λ f. refl) (elim [ Entry position event ↦ λ fits. inl ((position, event), fits, refl) | _ ↦ λ _. inr refl ])

  abbrev pub answers : LineKind
  answers = variant (codes "reply ") refl (both call reply) (λ f. Answer f.0 f.1) (λ f fit. fit) (λ f. refl) (elim [ Answer call reply ↦ λ fits. inl ((call, reply), fits, refl) | _ ↦ λ _. inr refl ])

  abbrev sends : LineKind
  sends = variant (codes "send ") refl (message version) (λ f. Send f) (λ f fit. fit) (λ f. refl) (elim [ Send message ↦ λ fits. inl (message, fits, refl) | _ ↦ λ _. inr refl ])

  abbrev ends : LineKind
  ends = variant (codes "end ") refl count (λ f. End f) (λ f fit. fit) (λ f. refl) (elim [ End count ↦ λ fits. inl (count, fits, refl) | _ ↦ λ _. inr refl ])

  abbrev lines : List LineKind
  lines = entries ∷ answers ∷ sends ∷ ends ∷ []

  pub line : AreTexts (line_text version) (IsServedLine version)
  line = of_variants lines (elim [ End _ ↦ refl | _ ↦ refl ])

  pub begins-line : BeginsWithWord (line_text version) (IsServedLine version) words []
  begins-line = record { told = elim [ End _ ↦ λ _. inl (refl, refl) | _ ↦ λ _. inl (refl, refl) ] }
