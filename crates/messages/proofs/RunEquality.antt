-- The derived `==` of token runs, and the one of lists of them, is equality.
use Rattle.std.specs.Cmp.Lexicographic.{pointwise, pointwise_decides}
use Rattle.std.proofs.Common.{◌≡◌, Bool, true, false, Decides, List, rules, refl, sym, subst}
use Rattle.messages.specs.contracts.token_run.TokenRunPartialEq.TheImpl as derived
use Rattle.messages.specs.declared.token_run.TokenRun.{TokenRun}
use Rattle.messages.specs.rule.TokenRuns.{same_run, same_runs}
use Rattle.messages.proofs.SameRuns.{run_exact, run_refl, runs_decide}

run_eq : (a b : TokenRun) → derived.ghosts.eq a b ≡ same_run a b
run_eq a b = search rules

pub run_eq-Decides : (a b : TokenRun) → Decides (derived.ghosts.eq a b) (a ≡ b)
run_eq-Decides a b = subst (λ (r : Bool). Decides r (a ≡ b)) (sym (run_eq a b)) (run_exact a b, λ e. subst (λ (x : TokenRun). same_run a x ≡ true) e (run_refl a))

-- two tests that decide one statement are equal
one_answer : {P : Type 0} (r s : Bool) → Decides r P → Decides s P → r ≡ s
one_answer true true d e = refl
one_answer false false d e = refl
one_answer true false d e = sym (e.1 (d.0 refl))
one_answer false true d e = d.1 (e.0 refl)

pub runs_eq : (a b : List TokenRun) → pointwise derived.ghosts.eq a b ≡ same_runs a b
runs_eq a b = one_answer (pointwise derived.ghosts.eq a b) (same_runs a b) (pointwise_decides run_eq-Decides a b) (runs_decide a b)
