use Rattle.std.proofs.Common.{rules, arith, ◌≡◌, ◌++◌}
use Rattle.seat_commands.specs.rule.Clocks.{IsInterval, at_line}
use Rattle.seat_commands.specs.rule.SeatTalks.{begin_of, speaking, timing}
use Rattle.seat_commands.proofs.Talks.{talks_plainly, talks_timed}
use Rattle.seat_commands.proofs.seat.speak.Goals as goal

pub returns-then-which-clause-talks : goal.returns-then-which-clause-talks
returns-then-which-clause-talks g c =
    let read : IsInterval 0 c.look-began.result c.look-ended.result = record {
      rises = omega arith;
      in_order = omega (arith, c.look-ended.ensures.rises, c.look-began.ensures.last);
      within = c.look-ended.ensures.within;
    } in
    let begins : c.as_str-then-which.result.now ≡ at_line c.look-began.result c.look-ended.result ++ begin_of c.args.which.now = search rules in
    let who : c.new-timed.result ≡ timing c.args.seat c.look-ended.result = search rules in
    talks_timed g.S.Seated.does c.args.which.now.clock (begin_of c.args.which.now) c.as_str-then-which.result.now c.args.seat c.hold.result c.look-began.result c.look-ended.result c.new-timed.result c.hold.new.who _ _ _ _ _ _
    c.if-which.true read begins who c.hold.ensures

pub returns-clause-talks : goal.returns-clause-talks
returns-clause-talks g c =
    let begins : c.as_str-2.result.now ≡ begin_of c.args.which.now = search rules in
    let who : c.new-who.result ≡ speaking c.args.seat = search rules in
    talks_plainly g.S.Seated.does c.args.which.now.clock (begin_of c.args.which.now) c.as_str-2.result.now c.args.seat c.hold-2.result c.new-who.result c.hold-2.new.who _ _ _ _ _ _ c.if-which.false begins who c.hold-2.ensures
