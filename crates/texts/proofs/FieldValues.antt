-- Two numbers, or two words, that have one text are equal.
use Rattle.std.proofs.Common.{ℕ, ◌<◌, ◌^◌, refl, arith, rules, decimal, FitsSigned, w64}
use Rattle.std.specs.Prelude.{⊤}
use Rattle.std.specs.Fmt.{signed_decimal}
use Rattle.std.proofs.lemmas.Fmt.{decimal_injective, signed_decimal_injective}
use Rattle.model.specs.rule.Limits.{IsNumber}
use Rattle.model.specs.declared.mode.Mode.TheVariants.{Read, Write}
use Rattle.model.specs.declared.access.Access.TheVariants.{ReadOnly, WriteOnly, ReadWrite}
use Rattle.model.specs.declared.owner.Kind.TheVariants.{OfProcess, OfDescription}
use Rattle.model.specs.declared.policy.Policy.TheVariants.{Wide, Exact}
use Rattle.texts.specs.rule.Reads.{IsWithin}
use Rattle.texts.specs.rule.Words.{access_text, kind_text, mode_text, policy_text}
use Rattle.texts.proofs.Pairs.{AreApart, heads, tails}

pub apart-number : (most : ℕ) → most < 2 ^ 64 → AreApart decimal (IsNumber most)
apart-number most small m n m_in n_in e = decimal_injective m n (omega (arith, m_in.1, small)) (omega (arith, n_in.1, small)) e

pub apart-byte : AreApart decimal (IsWithin 0 255)
apart-byte m n m_in n_in e = decimal_injective m n (omega (arith, m_in.1)) (omega (arith, n_in.1)) e

pub apart-offset : AreApart signed_decimal (FitsSigned w64)
apart-offset y z y_fits z_fits e = signed_decimal_injective y z (search rules) (search rules) e

pub apart-policy : AreApart policy_text (λ _. ⊤)
apart-policy Wide Wide _ _ e = refl
apart-policy Wide Exact _ _ e = absurd (omega (arith, heads 119 101 _ _ e))
apart-policy Exact Wide _ _ e = absurd (omega (arith, heads 101 119 _ _ e))
apart-policy Exact Exact _ _ e = refl

pub apart-mode : AreApart mode_text (λ _. ⊤)
apart-mode Read Read _ _ e = refl
apart-mode Read Write _ _ e = absurd (omega (arith, heads 114 119 _ _ e))
apart-mode Write Read _ _ e = absurd (omega (arith, heads 119 114 _ _ e))
apart-mode Write Write _ _ e = refl

pub apart-kind : AreApart kind_text (λ _. ⊤)
apart-kind OfProcess OfProcess _ _ e = refl
apart-kind OfProcess OfDescription _ _ e = absurd (omega (arith, heads 112 100 _ _ e))
apart-kind OfDescription OfProcess _ _ e = absurd (omega (arith, heads 100 112 _ _ e))
apart-kind OfDescription OfDescription _ _ e = refl

pub apart-access : AreApart access_text (λ _. ⊤)
apart-access ReadOnly ReadOnly _ _ e = refl
apart-access ReadOnly WriteOnly _ _ e = absurd (omega (arith, heads 114 119 _ _ e))
apart-access ReadOnly ReadWrite _ _ e = absurd (let more = tails 114 114 _ _ e in cc)
apart-access WriteOnly ReadOnly _ _ e = absurd (omega (arith, heads 119 114 _ _ e))
apart-access WriteOnly WriteOnly _ _ e = refl
apart-access WriteOnly ReadWrite _ _ e = absurd (omega (arith, heads 119 114 _ _ e))
apart-access ReadWrite ReadOnly _ _ e = absurd (let more = tails 114 114 _ _ e in cc)
apart-access ReadWrite WriteOnly _ _ e = absurd (omega (arith, heads 114 119 _ _ e))
apart-access ReadWrite ReadWrite _ _ e = refl
