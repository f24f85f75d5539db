-- A node that is declared and restarted, and a token server that fails and is rebuilt, step by step.
use Rattle.std.proofs.Common.{◌≡◌, true, refl, List, [], ◌∷◌, Option, Some, None, Result, Ok, Err}
use Rattle.intervals.specs.rule.Search.{first}
use Rattle.model.specs.declared.policy.Policy.TheVariants.{Wide}
use Rattle.model.specs.declared.call.CallId.{CallId}
use Rattle.model.specs.declared.op.Op.TheVariants.{Process}
use Rattle.model.specs.declared.op.ProcessCall.TheVariants.{Spawn}
use Rattle.model.specs.declared.reply.Reply.{Reply}
use Rattle.model.specs.declared.reply.Reply.TheVariants.{Done}
use Rattle.messages.specs.declared.version.Version.TheVariants.{First, Second}
use Rattle.messages.specs.rule.Shapes.{ShapeFields}
use Rattle.messages.specs.declared.refusal.Refused.{Refused}
use Rattle.messages.specs.declared.refusal.Refused.TheVariants.{Stranger, NotAlive, NotDead, Fenced}
use Rattle.messages.specs.declared.event.Event.TheVariants.{AtNode, AtServer, Deliver, Member}
use Rattle.messages.specs.declared.event.NodeInput.TheVariants.{Call}
use Rattle.messages.specs.declared.event.ServerInput.TheVariants.{Resend, Learn}
use Rattle.messages.specs.declared.event.MemberEvent.TheVariants.{Declare, Restart, FailServer, StartServer}
use Rattle.messages.specs.declared.entry.Entry.{Entry}
use Rattle.messages.specs.declared.message.Message.{Message}
use Rattle.messages.specs.declared.message.Message.TheVariants.{Hello, Report}
use Rattle.messages.specs.rule.Messages.{runs_of, sending}
use Rattle.token_set.specs.rule.Tokens.{no_token}
use Rattle.token_server.specs.rule.State.{awaits}
use Rattle.cluster_core.specs.rule.World.{WorldState, first_world}
use Rattle.cluster_core.specs.rule.Next.{declared, restarted, failed, started, next_server, recorded, silent, next}

abbrev one : ShapeFields
one = record { version = Second; nodes = 1; files = 1; policy = Wide }

abbrev reply_of : Result (WorldState × Entry) Refused → Option (CallId × Reply)
reply_of (Ok p) = p.1.reply
reply_of (Err e) = None

abbrev begun : WorldState
begun = first_world one

abbrev stopped : WorldState
stopped = (silent (declared begun 1) (Member (Declare 1)) 1).0

abbrev again : WorldState
again = (silent (restarted stopped 1) (Member (Restart 1)) 2).0

not_dead : next begun (Member (Restart 1)) ≡ Err NotDead
not_dead = refl

declares : next begun (Member (Declare 1)) ≡ Ok (silent (declared begun 1) (Member (Declare 1)) 1)
declares = refl

not_alive : next stopped (Member (Declare 1)) ≡ Err NotAlive
not_alive = refl

fenced : next stopped (AtNode 1 (Call 1 (Process Spawn))) ≡ Err Fenced
fenced = refl

not_declared : next stopped (AtServer 1 (Learn 1 2)) ≡ Err Stranger
not_declared = refl

restarts : next stopped (Member (Restart 1)) ≡ Ok (silent (restarted stopped 1) (Member (Restart 1)) 2)
restarts = refl

learns : (p : WorldState × Entry) × (next again (AtServer 1 (Learn 1 1)) ≡ Ok p)
unfolding first
learns = (_, refl)

spawns : reply_of (next again (AtNode 1 (Call 1 (Process Spawn)))) ≡ Some (record { node = 1; incarnation = 2; number = 1 }, Done)
spawns = refl

-- two nodes, of which the second was declared failed: the server that is rebuilt asks the first, and waits for it
abbrev two : ShapeFields
two = record { version = Second; nodes = 2; files = 1; policy = Wide }

abbrev declared_one : WorldState
declared_one = (silent (declared (first_world two) 2) (Member (Declare 2)) 1).0

abbrev failing : WorldState
failing = (silent (failed declared_one 1) (Member (FailServer 1)) 1).0

abbrev hello : Message
hello = Hello 1 4294967296 (record { node = 1; incarnation = 1 })

abbrev rebuilding : WorldState × Entry
rebuilding = recorded (started failing 1) (Member (StartServer 1)) 2 (sending (hello ∷ []))

old_version : next (first_world (record { version = First; nodes = 1; files = 1; policy = Wide })) (Member (FailServer 1)) ≡ Err Stranger
old_version = refl

works : next declared_one (Member (StartServer 1)) ≡ Err NotDead
works = refl

fails : next declared_one (Member (FailServer 1)) ≡ Ok (silent (failed declared_one 1) (Member (FailServer 1)) 1)
fails = refl

failed_before : next failing (Member (FailServer 1)) ≡ Err NotAlive
failed_before = refl

fenced_server : next failing (AtServer 1 Resend) ≡ Err Fenced
fenced_server = refl

fenced_learning : next failing (AtServer 1 (Learn 2 1)) ≡ Err Fenced
fenced_learning = refl

starts : next failing (Member (StartServer 1)) ≡ Ok rebuilding
starts = refl

knows_dead : ((next_server failing 1).dead 1 ≡ 0) × ((next_server failing 1).dead 2 ≡ 1)
knows_dead = (refl, refl)

waits_for_one : awaits (next_server failing 1) ≡ true
unfolding first
waits_for_one = refl

abbrev sends_of : Result (WorldState × Entry) Refused → List Message
sends_of (Ok p) = p.1.sends
sends_of (Err e) = []

asks_again : sends_of (next rebuilding.0 (AtServer 1 Resend)) ≡ hello ∷ []
unfolding first
asks_again = refl

tells : sends_of (next rebuilding.0 (Deliver hello)) ≡ Report 1 4294967296 (record { node = 1; incarnation = 1 }) (runs_of no_token) ∷ []
tells = refl
