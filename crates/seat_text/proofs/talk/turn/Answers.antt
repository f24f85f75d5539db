use Rattle.std.proofs.Common.{◌∙◌, ℕ, List, sym, subst, rules}
use Rattle.std.specs.Io.KnownBytes.{Appends}
use Rattle.seat_text.specs.rule.Talks.{TellsPart}
use Rattle.seat_text.specs.contracts.talk.Heard.{the_type}
use Rattle.seat_text.proofs.Talks.{end_heard, none_said, one_said, part_said, whole}
use Rattle.seat_text.proofs.talk.turn.Goals as goal
use denote.Enum.Bare.{same_false, same_true}

pub returns-then-eq : goal.returns-then-eq
returns-then-eq g c =
    end_heard _ _ _ _ _ _ _ _ c.hear-heard.result c.hear-heard.ensures (same_true the_type (search rules) _ _ (sym c.eq.ensures ∙ c.if-eq.true))

pub returns-then-eq-2 : goal.returns-then-eq-2
returns-then-eq-2 g c = none_said _ _ _ _ _ _ _ _ _ c.hear-heard.ensures

pub reply-requires : goal.reply-requires
reply-requires g c =
    let more = same_false the_type _ _ (sym c.eq.ensures ∙ c.if-eq.false) in
    let on = same_false the_type _ _ (sym c.eq-2.ensures ∙ c.if-eq-2.false) in
    let w = whole _ _ _ c.hear-heard.result c.hear-heard.ensures more on in
    record { heard = (w.0, rw c.as_slice.ensures.value w.3) }

pub returns-in_default : goal.returns-in_default
returns-in_default g c = none_said _ _ _ _ _ _ _ _ _ c.hear-heard.ensures

pub returns-in_default-tell : goal.returns-in_default-tell
returns-in_default-tell g c =
    let more = same_false the_type _ _ (sym c.eq.ensures ∙ c.if-eq.false) in
    let on = same_false the_type _ _ (sym c.eq-2.ensures ∙ c.if-eq-2.false) in
    part_said _ _ _ c.reply.new.who _ _ _ _ _ _ _ _ c.hear-heard.result c.hear-heard.ensures more on
    (λ line is. c.in-Ok.ensures line (rw c.as_slice.ensures.value is))
    (let P : List ℕ → Type 0 = λ told. TellsPart (g.L.Write.contents c.args.log.now) (g.L.Write.contents c.tell.new.log) (g.W.Write.contents c.args.out.now) (g.W.Write.contents c.tell.new.out) told in
    subst P c.as_bytes.ensures.value c.in_default-tell.ensures.part)

pub returns : goal.returns
returns g c =
    let more = same_false the_type _ _ (sym c.eq.ensures ∙ c.if-eq.false) in
    let on = same_false the_type _ _ (sym c.eq-2.ensures ∙ c.if-eq-2.false) in
    one_said _ _ _ c.reply.new.who _ _ _ _ _ _ _ _ c.hear-heard.result c.hear-heard.ensures more on
    (λ line is. c.in-Ok.ensures line (rw c.as_slice.ensures.value is))
    (subst (Appends (g.L.Write.contents c.args.log.now) (g.L.Write.contents c.tell.new.log)) c.as_bytes.ensures.value c.in-Ok-tell.ensures.logged)
    (subst (Appends (g.W.Write.contents c.args.out.now) (g.W.Write.contents c.tell.new.out)) c.as_bytes.ensures.value c.in-Ok-tell.ensures.wrote)
