-- The ticks that go by before an actor tries something again.
use Rattle.std.specs.Prelude.{ℕ, ◌-◌, ◌*◌, ◌&&◌, ◌||◌, not, min, nat_lt, if◌then◌else◌, Bool, true, false}
use Rattle.messages.specs.declared.event.Event.{Event}
use Rattle.messages.specs.declared.event.Event.TheVariants.{Deliver}
use Rattle.messages.specs.declared.message.Message.{Message}
use Rattle.messages.specs.declared.message.Message.TheVariants.{Taken, Released, Conflict, Report}
use Rattle.messages.specs.declared.pace.Pace.{Pace}
use Rattle.messages.specs.declared.patience.Patience.{Patience}

-- the number of ticks before the first try
abbrev pub first_distance : ℕ
first_distance = 16

-- the number of ticks before the next try, by that before the last one: 32, 64, 128, 256, and from there on 256
abbrev pub next_distance : ℕ → ℕ
next_distance distance = min (2 * distance) 256

-- no tick went by, and there was no try
abbrev pub at_first : Patience
at_first = record { between = first_distance; left = first_distance }

-- the next tick brings a try
abbrev pub is_due : Patience → Bool
is_due p = nat_lt p.left 2

-- the patience after a tick
abbrev pub after_tick : Patience → Patience
after_tick p =
    if is_due p then record { between = next_distance p.between; left = next_distance p.between }
    else record { between = p.between; left = p.left - 1 }

-- a token server that has nothing to send again
abbrev pub at_rest : Pace
at_rest = record { rests = true; patience = at_first }

-- a token server that begins to wait for answers
abbrev pub begun : Pace
begun = record { rests = false; patience = at_first }

abbrev pub answers : Message → Bool
answers (Taken file number call) = true
answers (Released file number holder call span) = true
answers (Conflict file number holder call lock) = true
answers (Report file number holder runs) = true
answers _ = false

-- the event delivers a node's answer to a command
abbrev pub is_answer : Event → Bool
is_answer (Deliver m) = answers m
is_answer _ = false

-- the pace after a step at the event: the server waits, and anew where it rested, and after an answer
abbrev pub noted : Pace → Event → Pace
noted p event = if p.rests || is_answer event then begun else p

-- the next tick brings a resend
abbrev pub is_due_at : Pace → Bool
is_due_at p = not p.rests && is_due p.patience

-- the pace after a tick
abbrev pub passed : Pace → Pace
passed p = record { rests = p.rests; patience = after_tick p.patience }
