-- When two calls are one.
use Rattle.std.specs.Prelude.{◌≡◌, true, false, ◌&&◌}
use Rattle.std.specs.Cmp.{nat_eq_equiv}
use Rattle.std.proofs.Common.{subst, arith, rules}
use Rattle.std.proofs.lemmas.Grind.{common_steps}
use Rattle.std.proofs.lemmas.Bool.{both_ways}
use Rattle.model.specs.declared.call.CallId.{CallId}
use Rattle.model.specs.contracts.call.CallIdPartialEq.TheImpl as derived
use Rattle.messages.specs.rule.Messages.{same_call}

-- the derived `==` of calls is the test of the definitions
pub call_eq : (a b : CallId) → derived.ghosts.eq a b ≡ same_call a b
call_eq a b = search rules

pub eq-same_call : derived.ghosts.eq ≡ same_call
eq-same_call i a b = call_eq a b i

-- where the test passes, two calls are equal
pub same_call-true : (a b : CallId) → same_call a b ≡ true → a ≡ b
same_call-true a b h = grind (arith, common_steps)

pub same_call-refl : (a : CallId) → same_call a a ≡ true
same_call-refl a = grind (arith, common_steps)

-- where the test fails, two calls are not equal
pub same_call-apart : (a b : CallId) (P : Type 0) → same_call a b ≡ false → a ≡ b → P
same_call-apart a b P apart same = absurd (both_ways (same_call a b) apart (subst (λ (c : CallId). same_call a c ≡ true) same (same_call-refl a)))

-- the test of two calls is symmetric
pub same_call-symm : (a b : CallId) → same_call a b ≡ same_call b a
same_call-symm a b = λ i. nat_eq_equiv.symm a.node b.node i && (nat_eq_equiv.symm a.incarnation b.incarnation i && nat_eq_equiv.symm a.number b.number i)
