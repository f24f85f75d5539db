use Rattle.seat_text.proofs.Talks.{talks_break, talks_end, talks_none, talks_on}
use Rattle.seat_text.proofs.talk.talk.Goals as goal

pub loop-init : goal.loop-init
loop-init g c = talks_none _ _ _ _ _ _

pub returns-in-Some : goal.returns-in-Some
returns-in-Some g c = talks_end _ _ _ _ _ _ _ _ _ _ _ _ _ _ c.in-Some.end c.loop.invariant c.in-Some.ensures

pub loop-preserved : goal.loop-preserved
loop-preserved g c = talks_on _ _ _ _ _ _ _ _ _ _ _ _ _ _ c.loop.invariant c.in_default.ensures

pub returns : goal.returns
returns g c = talks_break _ _ _ _ _ _ _ _ _ _ c.loop.invariant
