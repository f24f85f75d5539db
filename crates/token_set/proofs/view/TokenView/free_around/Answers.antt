use Rattle.std.specs.Prelude.{◌≡◌, true}
use Rattle.std.proofs.Common.{sym, subst, arith}
use Rattle.intervals.specs.rule.Bytes.{Range, IsLargest, NoneIn, put}
use Rattle.intervals.specs.code.Runs.{IsLowestFree, IsHighestFree}
use Rattle.intervals.proofs.Around.{largest_from}
use Rattle.lock_table.proofs.BlockerLemmas.{IsLargest-iff}
use Rattle.token_set.specs.declared.view.TokenView.{TokenView}
use Rattle.token_set.specs.rule.Tokens.{level_conflicts, token_of}
use Rattle.token_set.specs.code.Views.{viewed, InWay}
use Rattle.token_set.proofs.TokenLaws.{largest_around-is}
use Rattle.token_set.proofs.view.TokenView.free_around.Goals as goal

pub free_around-requires-clause-free : goal.free_around-requires-clause-free
free_around-requires-clause-free c =
    subst (λ (v : TokenView). NoneIn (λ b. level_conflicts (viewed v b) c.args.mode ≡ true) c.args.required) c.in-Now.is c.requires.free

pub returns-in-Now-clause-largest : goal.returns-in-Now-clause-largest
returns-in-Now-clause-largest c =
    subst (λ (v : TokenView). IsLargest (λ b. level_conflicts (viewed v b) c.args.mode ≡ true) c.args.required c.args.within c.free_around.result) (sym c.in-Now.is) c.free_around.ensures.largest

pub returns-in-With-clause-largest : goal.returns-in-With-clause-largest
returns-in-With-clause-largest c =
    let way = InWay (put (token_of c.in-With.token.now) c.in-With.over c.in-With.level) c.args.mode in
    let lowest : IsLowestFree way c.args.within.lo c.args.required.lo c.lowest_free_with.result =
    subst (λ (w : Range). IsLowestFree way w.lo c.args.required.lo c.lowest_free_with.result) c.within.view_is
    (subst (λ (r : Range). IsLowestFree way c.within.inside.lo r.lo c.lowest_free_with.result) c.required.view_is c.lowest_free_with.ensures) in
    let highest : IsHighestFree way c.args.required.hi c.args.within.hi c.highest_free_with.result =
    subst (λ (w : Range). IsHighestFree way c.args.required.hi w.hi c.highest_free_with.result) c.within.view_is
    (subst (λ (r : Range). IsHighestFree way r.hi c.within.inside.hi c.highest_free_with.result) c.required.view_is c.highest_free_with.ensures) in
    let free = subst (λ (v : TokenView). NoneIn (λ b. level_conflicts (viewed v b) c.args.mode ≡ true) c.args.required) c.in-With.is c.requires.free in
    subst (λ (v : TokenView). IsLargest (λ b. level_conflicts (viewed v b) c.args.mode ≡ true) c.args.required c.args.within (record { lo = c.lowest_free_with.result; hi = c.highest_free_with.result })) (sym c.in-With.is)
    (IsLargest-iff way _ c.args.required c.args.within _ (λ b here. here) (λ b here. here)
    (largest_from way c.args.required c.args.within _ _ free lowest highest))

pub returns-in-With-clause-value : goal.returns-in-With-clause-value
returns-in-With-clause-value c = largest_around-is _ _ _ _ (omega (arith, c.required.invariant)) (returns-in-With-clause-largest c)
