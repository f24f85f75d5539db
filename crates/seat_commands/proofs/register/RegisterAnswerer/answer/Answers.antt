use Rattle.std.proofs.Common.{ℕ, List, None, inl, inr, refl, subst}
use Rattle.std.proofs.lemmas.Result.{on_ok_weaker}
use Rattle.seat_commands.specs.rule.Registers.{IsColumnOf, IsInquiryOf}
use Rattle.seat_commands.proofs.Registers.{passes_over}
use Rattle.seat_commands.proofs.register.RegisterAnswerer.answer.Goals as goal

pub returns-in_default : goal.returns-in_default
returns-in_default g c =
    on_ok_weaker _ (passes_over g.F.Write.contents c.args.self.now c.args.line.now 1 _ _ (inr (inl (record { short = c.requires; no_text = c.in_default.ensures.cases.0; column_is = refl })))) c.push_bad.ensures

pub returns-in-None : goal.returns-in-None
returns-in-None g c =
    let text = c.in-Ok.ensures.cases in
    on_ok_weaker _
    (passes_over g.F.Write.contents c.args.self.now c.args.line.now c.bad_column.result _ _
    (inr (inr (record {
      short = c.requires;
      is_text = text.1;
      nothing = subst (λ (t : List ℕ). IsInquiryOf t None) text.0 c.in-None.ensures;
      column_is = subst (λ (t : List ℕ). IsColumnOf t c.bad_column.result) text.0 c.bad_column.ensures;
    }))))
    c.push_bad-in-None.ensures
