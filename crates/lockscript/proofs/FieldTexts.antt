-- The fields of operations: no two values share a text, and no text has a line feed.
use Rattle.std.proofs.Common.{◌≡◌, ℕ, suc, true, ℤ, pos, negsuc, List, [], ◌∷◌, refl, arith, codes, decimal, FitsSigned, w64}
use Rattle.std.specs.Prelude.{⊤}
use Rattle.std.specs.Fmt.{signed_decimal}
use Rattle.model.specs.rule.Limits.{IsNumber, most_nodes}
use Rattle.model.specs.declared.access.Access.TheVariants.{ReadOnly, WriteOnly, ReadWrite}
use Rattle.model.specs.declared.owner.Kind.TheVariants.{OfProcess, OfDescription}
use Rattle.model.specs.declared.policy.Policy.TheVariants.{Wide, Exact}
use Rattle.texts.specs.rule.LineFeeds.{line_feed}
use Rattle.texts.specs.rule.Reads.{after_text}
use Rattle.texts.specs.rule.Words.{access_text, kind_text, policy_text}
use Rattle.texts.proofs.FieldValues.{apart-access, apart-byte, apart-kind, apart-offset, apart-policy}
use Rattle.texts.proofs.Pairs.{AllLack, apart-after}
use Rattle.texts.proofs.SingleWords.{byte_words, kind_words, lacks-tested, offset_words}
use Rattle.message_text.proofs.NameTexts.{AreFields, AreTexts, both, has_no_feed, number, up_to, lacks-append}
use Rattle.lockscript.specs.rule.Served.{IsDescriptor}
use Rattle.lockscript.specs.rule.Texts.{segment_text}

pub node : AreFields decimal (IsNumber most_nodes)
node = up_to most_nodes (omega arith)

-- the texts of values behind a fixed text
pub behind : {A : Type 0} {f : A → List ℕ} {P : A → Type 0} (front : List ℕ) → has_no_feed front ≡ true → AreTexts f P → AreTexts (after_text front f) P
behind {f = f} {P = P} front no_feed texts =
    record { apart = apart-after front f P texts.apart; feedless = λ x fits. lacks-append line_feed front (f x) (lacks-tested line_feed front no_feed) (texts.feedless x fits) }

-- the text of no fields
pub nothing : AreTexts {A = ⊤} (λ _. []) (λ _. ⊤)
nothing = record { apart = λ x y _ _ _. refl; feedless = λ x fits. lacks-tested line_feed [] refl }

pub fd : AreFields decimal IsDescriptor
fd = record { words = byte_words; texts = record { apart = apart-byte; feedless = λ n fits. number n (omega (arith, fits.1)) } }

kinds : AllLack line_feed kind_text (λ _. ⊤)
kinds OfProcess fits = lacks-tested line_feed (codes "proc") refl
kinds OfDescription fits = lacks-tested line_feed (codes "desc") refl

pub kind : AreFields kind_text (λ _. ⊤)
kind = record { words = kind_words; texts = record { apart = apart-kind; feedless = kinds } }

accesses : AllLack line_feed access_text (λ _. ⊤)
accesses ReadOnly fits = lacks-tested line_feed (codes "r") refl
accesses WriteOnly fits = lacks-tested line_feed (codes "w") refl
accesses ReadWrite fits = lacks-tested line_feed (codes "rw") refl

pub access : AreTexts access_text (λ _. ⊤)
access = record { apart = apart-access; feedless = accesses }

policies : AllLack line_feed policy_text (λ _. ⊤)
policies Wide fits = lacks-tested line_feed (codes "wide") refl
policies Exact fits = lacks-tested line_feed (codes "exact") refl

pub policy : AreTexts policy_text (λ _. ⊤)
policy = record { apart = apart-policy; feedless = policies }

offsets : AllLack line_feed signed_decimal (FitsSigned w64)
offsets (pos n) fits = number n (omega (arith, fits))
offsets (negsuc n) fits = lacks-append line_feed (45 ∷ []) (decimal (suc n)) (lacks-tested line_feed (45 ∷ []) refl) (number (suc n) (omega (arith, fits)))

offset : AreFields signed_decimal (FitsSigned w64)
offset = record { words = offset_words; texts = record { apart = apart-offset; feedless = offsets } }

-- the start and the length of a segment
abbrev AreOffsets : ℤ × ℤ → Type 0
AreOffsets z = FitsSigned w64 z.0 × FitsSigned w64 z.1

pub segment : AreTexts segment_text AreOffsets
segment = both offset offset.texts
