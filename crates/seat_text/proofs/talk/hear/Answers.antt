use Rattle.std.proofs.Common.{◌∷◌, [], ℕ, Bool, Some, None, if◌then◌else◌, subst}
use Rattle.std.proofs.KnownBytes.{Consumes-nil}
use Rattle.std.specs.Io.KnownBytes.{Consumes}
use Rattle.seat_text.specs.rule.Talks.{Hears}
use Rattle.seat_text.specs.declared.talk.Heard.TheVariants.{Line, Long}
use Rattle.seat_text.proofs.Talks.{given_ok, hears_broken, hears_byte, hears_end, hears_line, hears_more, hears_none, hears_same}
use Rattle.seat_text.proofs.talk.hear.Goals.{in-Ok-Some+in-Ok, in-Err}
use Rattle.seat_text.proofs.talk.hear.Goals as goal

pub loop-init : goal.loop-init
loop-init g c = hears_none _ _ c.clear.ensures.items

pub returns-then-is_long : goal.returns-then-is_long
returns-then-is_long g c =
    let s = g.R.Read.remaining c.loop.reader in
    let t = g.R.Read.remaining c.next_byte.new.reader in
    let Q : ℕ → Type 0 = λ b. Consumes s t (b ∷ []) in
    let P : Bool → Type 0 = λ long. Hears (g.R.Read.remaining c.args.reader.now) t c.loop.line.items (if long then Long else Line) in
    let feed = c.in-Ok-Some-eq10 in
    subst P c.if-is_long.true (hears_line _ _ _ _ _ c.loop.invariant (subst Q feed.field-0-0-test (given_ok s t _ _ (Some feed.field-0-0) feed.is feed.field-0-is c.next_byte.ensures)))

pub returns-else-is_long : goal.returns-else-is_long
returns-else-is_long g c =
    let s = g.R.Read.remaining c.loop.reader in
    let t = g.R.Read.remaining c.next_byte.new.reader in
    let Q : ℕ → Type 0 = λ b. Consumes s t (b ∷ []) in
    let P : Bool → Type 0 = λ long. Hears (g.R.Read.remaining c.args.reader.now) t c.loop.line.items (if long then Long else Line) in
    let feed = c.in-Ok-Some-eq10 in
    subst P c.if-is_long.false (hears_line _ _ _ _ _ c.loop.invariant (subst Q feed.field-0-0-test (given_ok s t _ _ (Some feed.field-0-0) feed.is feed.field-0-is c.next_byte.ensures)))

pub returns-in-Err-keep : goal.returns-in-Err-keep
returns-in-Err-keep g c =
    let some = c.in-Ok-Some in
    hears_byte _ _ _ _ c.loop.line.items _ some.byte c.loop.invariant (given_ok _ _ _ _ (Some some.byte) some.is some.field-0-is c.next_byte.ensures) some.byte-test.1

pub returns-in-Ok-None : goal.returns-in-Ok-None
returns-in-Ok-None g c =
    let end = given_ok _ _ _ _ None c.in-Ok-None.is c.in-Ok-None.field-0-is c.next_byte.ensures in
    hears_end _ _ _ _ _ c.loop.invariant end.0 end.1

pub returns-in-Err-2 : goal.returns-in-Err-2
returns-in-Err-2 g c = hears_broken _ _ _ _ c.loop.line.items _ c.loop.invariant c.in-Err-2.ensures

pub loop-preserved : goal.loop-preserved
loop-preserved g c = elim c.match-next_byte.branch [
  | in-Ok-Some+in-Ok w ↦
      rw w.line-is
      (rw w.is_long-is
      (hears_more _ _ _ _ _ _ _ w.in-Ok-Some.byte c.loop.invariant (given_ok _ _ _ _ (Some w.in-Ok-Some.byte) w.in-Ok-Some.is w.in-Ok-Some.field-0-is c.next_byte.ensures) w.in-Ok-Some.byte-test.1 w.in-Ok.ensures))
  | in-Err w ↦ rw w.line-is (rw w.is_long-is (hears_same _ _ _ _ _ c.loop.invariant w.in-Err.ensures))
]

pub returns : goal.returns
returns g c = hears_broken _ _ _ _ c.loop.line.items _ c.loop.invariant (Consumes-nil _)
