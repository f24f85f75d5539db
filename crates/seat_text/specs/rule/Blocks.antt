-- What a seat writes.
use Rattle.std.specs.Prelude.{ℕ, Bool, if◌then◌else◌, ◌+◌, ◌==◌, not, min, List, [], ◌∷◌, ◌++◌, codes, decimal, filter, find, flat_map, fold, Option, Some, None, Result, Ok, Err}
use Rattle.model.specs.declared.call.CallId.{CallId}
use Rattle.model.specs.declared.reply.Reply.{Reply}
use Rattle.messages.specs.declared.actor.Actor.{Actor}
use Rattle.messages.specs.declared.actor.Actor.TheVariants.{Node, Server}
use Rattle.messages.specs.declared.event.Event.{Event}
use Rattle.messages.specs.declared.event.Event.TheVariants.{AtNode, Member}
use Rattle.messages.specs.declared.event.NodeInput.TheVariants.{Call}
use Rattle.messages.specs.declared.message.Message.{Message}
use Rattle.messages.specs.declared.refusal.Refused.{Refused}
use Rattle.messages.specs.declared.version.Version.TheVariants.{Second}
use Rattle.messages.specs.rule.Messages.{addressee, same_call}
use Rattle.messages.specs.rule.Entries.{number_of}
use Rattle.messages.specs.rule.Shapes.{ShapeFields}
use Rattle.message_text.specs.rule.Texts.{message_text}
use Rattle.lockscript.specs.rule.Scripts.{counts_text}
use Rattle.journal_text.specs.rule.Journals.{end_text, reply_line}
use Rattle.journal_text.specs.rule.Texts.{event_text}
use Rattle.seats.specs.declared.seat_step.SeatStep.{SeatStep}
use Rattle.seat_text.specs.declared.writing.TaggedCall.{TaggedCall}

-- the number of entries so far, and of each process the call that had a tag, if its last one had
pub record Ledger : Type 0 where
  pub count : ℕ
  pub tags : List TaggedCall

abbrev pub no_entries : Ledger
no_entries = record { count = 0; tags = [] }

abbrev pub greatest_count : ℕ
greatest_count = 18446744073709551615

abbrev pub actor_text : Actor → List ℕ
actor_text (Node n) = codes "node " ++ decimal n
actor_text (Server file) = codes "server " ++ decimal file

-- the line of a message that is sent, with whom it is for
abbrev pub to_line : Message → List ℕ
to_line m = codes "to " ++ actor_text (addressee m) ++ codes " " ++ message_text Second m ++ codes "\n"

abbrev pub to_lines : List Message → List ℕ
to_lines messages = flat_map to_line messages

abbrev pub tagged_line : Option TaggedCall → List ℕ
tagged_line None = []
tagged_line (Some t) = codes "tag " ++ decimal t.tag ++ codes "\n"

-- the line of the tag of the call that is answered, if it has one
abbrev pub tag_line : List TaggedCall → Option (CallId × Reply) → List ℕ
tag_line tags None = []
tag_line tags (Some answer) = tagged_line (find (λ t. same_call t.call answer.0) tags)

-- the tagged calls without that of the process
abbrev pub without : ℕ → List TaggedCall → List TaggedCall
without pid tags = filter (λ t. not (t.pid == pid)) tags

abbrev pub with_call : Option ℕ → ℕ → Option CallId → List TaggedCall → List TaggedCall
with_call (Some tag) pid (Some call) tags = without pid tags ++ record { pid = pid; call = call; tag = tag } ∷ []
with_call tag pid call tags = without pid tags

-- the tagged calls after a step at the event, which names this call, of a line with this tag
abbrev pub tags_after : Option ℕ → List TaggedCall → Event → Option CallId → List TaggedCall
tags_after tag tags (AtNode node (Call pid op)) call = with_call tag pid call tags
tags_after tag tags event call = tags

abbrev pub count_after : ℕ → Event → ℕ
count_after count (Member change) = count
count_after count event = min (count + 1) greatest_count

abbrev pub after_step : Option ℕ → Ledger → SeatStep → Ledger
after_step tag ledger x = record { count = count_after ledger.count x.event; tags = tags_after tag ledger.tags x.event x.outcome.call }

-- what stands before the event in the first line of a step: an entry by its number, or a change of a member
abbrev pub first_front : ℕ → Event → List ℕ
first_front count (Member change) = codes "member "
first_front count event = codes "entry " ++ decimal count ++ codes " "

-- the lines of a step, with the ledger after it
abbrev pub step_text : Ledger → SeatStep → List ℕ
step_text after x =
    first_front after.count x.event ++ (event_text Second x.event x.incarnation x.outcome.call ++ codes "\n")
    ++ reply_line x.outcome.reply ++ tag_line after.tags x.outcome.reply ++ to_lines x.outcome.sends

-- a step more is written down
abbrev pub written : Option ℕ → Ledger × List ℕ → SeatStep → Ledger × List ℕ
written tag t x = (after_step tag t.0 x, t.1 ++ step_text (after_step tag t.0 x) x)

abbrev pub refused_line : ℕ → List ℕ
refused_line code = codes "refused " ++ decimal code ++ codes "\n"

abbrev pub whole : Ledger × List ℕ → Ledger × List ℕ
whole t = (t.0, t.1 ++ (end_text t.0.count ++ codes "\n"))

-- the block of what a line with this tag comes to, and the ledger then
abbrev pub block : Option ℕ → Ledger → Result (List SeatStep) Refused → Ledger × List ℕ
block tag ledger (Ok steps) = whole (fold (written tag) (ledger, []) steps)
block tag ledger (Err e) = (ledger, refused_line (number_of e))

-- the block of a line that is none: the column is the byte, from 1, at which what may not stand there begins
abbrev pub bad_line : ℕ → List ℕ
bad_line column = codes "refused 9 " ++ decimal column ++ codes "\n"

abbrev pub again_text : Bool → List ℕ
again_text again = if again then codes " again" else []

-- the cluster of a seat
abbrev pub cluster_text : ShapeFields → List ℕ
cluster_text shape = codes "seat 2 nodes " ++ counts_text shape ++ codes " "

-- whose seat it is
abbrev pub whose_text : Actor → Bool → List ℕ
whose_text actor again = actor_text actor ++ again_text again ++ codes "\n"

-- the block with which the seat of an actor begins, which works only once its actor begins again, if it is said so
abbrev pub first_block : ShapeFields → Actor → Bool → List ℕ
first_block shape actor again = cluster_text shape ++ whose_text actor again ++ (end_text 0 ++ codes "\n")
