use Rattle.std.specs.Prelude.{◌≡◌, ◌++◌, ℕ, List, Result, Ok, Err, OnOk, is_ok, if◌then◌else◌}
use Rattle.std.proofs.Common.{◌∙◌, sym, ap, arith, decimal, string_bytes}
use Rattle.std.proofs.lemmas.Fmt.{decimal_digit}
use Rattle.texts.proofs.number.push_number.Goals as goal

-- bytes that are added on success alone
added : {A E : Type 0} (r : Result A E) (new old text more : List ℕ) → new ≡ (if is_ok r then old ++ text else old) → text ≡ more → OnOk r (new ≡ old ++ more)
added (Ok _) new old text more bytes same = bytes ∙ ap (λ l. old ++ l) same
added (Err _) new old text more bytes same = tt

pub returns-then-number-lt10 : goal.returns-then-number-lt10
returns-then-number-lt10 c =
    let small = c.if-number-lt10.true in
    added c.push.result (string_bytes c.push.new.self) (string_bytes c.args.out.now) _ (decimal c.args.number) c.push.ensures.bytes
    (c.push.ensures.ascii (omega (arith, small)) ∙ sym (decimal_digit c.args.number small))
