use Rattle.std.proofs.Common.{◌≡◌, ℕ, List, Option, Some, None, MatchOption, subst}
use Rattle.player.proofs.Expectations.{behind-on}
use Rattle.player.proofs.compared.ScriptReader.rest_behind.Goals as goal

pub returns : goal.returns
returns c =
    let reader = c.args.self.now in
    let on = behind-on reader.passed c.args.count reader.text.now reader.rest.now reader.stands c.if-count-self.false in
    let P : Option (List ℕ) → Type 0 = λ o. MatchOption c.behind-2.result (o ≡ None) (λ rest. o ≡ Some rest.now) in
    subst P on c.behind-2.ensures
