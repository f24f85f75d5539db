use Rattle.std.proofs.Common.{◌≤◌, length, refl, arith}
use Rattle.std.proofs.lemmas.Option.{slice_get_read}
use Rattle.client_history.proofs.Begun.{goes_not, goes_more, later_behind, later_past}
use Rattle.client_history.proofs.search.begin_by.Goals as goal
use Rattle.client_history.proofs.search.begin_by.Goals.{in-Some+then-time-moment, in_default, in-Some-get+in_ok-ask_each+in_ok-push, in_default-get}

pub loop-moment-preserved : goal.loop-moment-preserved
loop-moment-preserved c =
    let moment = c.in-Some.moment.now in
    let running0 = c.args.«open».items in
    let running = c.loop-moment.«open».items in
    let fronts = c.loop-moment.fronts in
    let calls = c.args.begins.now.calls.now in
    let moments = c.args.begins.now.moments.now in
    let next = c.loop-moment.next in
    let found = c.in-Some.ensures.lookup in
    let at = slice_get_read moments (length moments) next moment refl found.3.0 found.1 in
    let goes = c.loop-moment.invariant in
    let low : moment.time ≤ c.args.time = omega (arith, c.if-time-moment.false) in
    elim c.match-get-2.branch [
      | in-Some-get+in_ok-ask_each+in_ok-push w ↦ rw (w.fronts-is, w.open-is, (w.in_ok-push.ensures {u = tt}).items) (goes_more c.args.time c.args.from running0 c.args.fronts.now next running fronts calls moments moment at goes low _ refl (slice_get_read calls (length calls) moment.call w.in-Some-get.call.now refl w.in-Some-get.ensures.lookup.3.0 w.in-Some-get.ensures.lookup.1) (w.exit_of.ensures calls c.requires) w.ask_each.new.fronts ((w.in_ok-ask_each.ensures {u = tt}).asked))
      | in_default-get w ↦ rw (w.fronts-is, w.open-is) (goes_not c.args.time c.args.from running0 c.args.fronts.now next running fronts calls moments moment at goes w.in_default-get.ensures.lookup.3)
    ]

pub returns-clause-later : goal.returns-clause-later
returns-clause-later c =
    let moments = c.args.begins.now.moments.now in
    let next = c.loop-moment.next in
    elim c.match-get.branch [
      | in-Some+then-time-moment w ↦ later_behind moments c.args.time next w.in-Some.moment.now (slice_get_read moments (length moments) next w.in-Some.moment.now refl w.in-Some.ensures.lookup.3.0 w.in-Some.ensures.lookup.1) w.if-time-moment.true
      | in_default w ↦ later_past moments c.args.time next w.in_default.ensures.lookup.3
    ]
