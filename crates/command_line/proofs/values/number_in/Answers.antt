use Rattle.std.proofs.Common.{rules, arith, None, Some, ◌≡◌, ◌∙◌, sym, ◌≤◌}
use Rattle.std.specs.Str.Parse.{ExplainsUnsignedError, HasUnsignedDigitsIfOk, ParsesUnsigned}
use Rattle.clap.specs.Words.{found_of, one_text}
use Rattle.clap.proofs.WalkLemmas.{one_text-rows}
use Rattle.command_line.proofs.Numbers.{no_number_read, number_read, one_number}
use Rattle.command_line.proofs.values.number_in.Goals.{else-least-number-via-then-least-number+else-number-greatest, else-least-number-via-else-least-number}
use Rattle.command_line.proofs.values.number_in.Goals as goal

pub returns-in_err-number : goal.returns-in_err-number
returns-in_err-number c =
    let none : c.from_residual.result ≡ None = search rules in
    let unread : c.get_one.result ≡ None = search rules in
    let row = one_text-rows (found_of c.args.values.now) c.args.id.now in
    rw none (λ text number is writes. no_number_read (λ bs r. ParsesUnsigned 32 10 bs r × ExplainsUnsignedError 10 bs r × HasUnsignedDigitsIfOk bs r) (λ u x g. g.0) c.args.least c.args.greatest (omega (arith, c.ranges.greatest.fits)) text number c.get_one.result (c.get_one.ensures.value text (row ∙ is)) unread writes)

pub returns-then-number-greatest : goal.returns-then-number-greatest
returns-then-number-greatest c =
    let read : c.get_one.result ≡ Some c.in_ok-number.number = search rules in
    let above : c.args.least ≤ c.in_ok-number.number = search rules in
    let below : c.in_ok-number.number ≤ c.args.greatest = search rules in
    let found = found_of c.args.values.now in
    let row = one_text-rows found c.args.id.now in
    let text = number_read (λ bs r. ParsesUnsigned 32 10 bs r × ExplainsUnsignedError 10 bs r × HasUnsignedDigitsIfOk bs r) (λ u x g. g.0) c.args.least c.args.greatest (one_text found c.args.id.now) c.in_ok-number.number c.get_one.result c.get_one.ensures.none c.get_one.ensures.value read above below in
    (text.0, sym row ∙ text.1, text.2)

pub returns-else-least-number : goal.returns-else-least-number
returns-else-least-number c = λ text number is writes.
    let read : c.get_one.result ≡ Some c.in_ok-number.number = search rules in
    let row = one_text-rows (found_of c.args.values.now) c.args.id.now in
    let within = one_number (λ bs r. ParsesUnsigned 32 10 bs r × ExplainsUnsignedError 10 bs r × HasUnsignedDigitsIfOk bs r) (λ u x g. g.0) c.args.least c.args.greatest text c.in_ok-number.number number c.get_one.result (c.get_one.ensures.value text (row ∙ is)) read writes in
    elim c.else-least-number.branch [
      | else-least-number-via-then-least-number+else-number-greatest w ↦ omega (arith, within.1, w.if-number-greatest.false)
      | else-least-number-via-else-least-number w ↦ omega (arith, within.0, w.if-least-number.false)
    ]
